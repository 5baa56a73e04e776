-- The lines of a file.
use Rattle.std.proofs.Common.{◌≡◌, ◌≢◌, ℕ, ◌==◌, List, [], ◌∷◌, ◌++◌, length, Some, None, refl, ap, ◌∙◌, sym, arith, ne_eqb, eq-eqb, if◌then◌else◌, subst, Option, Bor, IsNone, IfSome}
use Rattle.std.specs.List.{All}
use Rattle.std.proofs.lemmas.List.Elements.{All-head, All-tail}
use Rattle.axp_trace.specs.declared.files.TheConstants.{LINE_FEED}
use Rattle.axp_trace.specs.Fields.{cut_at, with_front, parts_of}
use Rattle.axp_trace.specs.Files.{lines_of, longer}

-- a line and its line feed, put before a text
pub lines_of-begin : (line rest : List ℕ) → All (λ b. b ≢ LINE_FEED) line → lines_of (line ++ LINE_FEED ∷ rest) ≡ Some line ∷ lines_of rest
lines_of-begin [] rest free = refl
lines_of-begin (b ∷ bs) rest free =
    let head : b ≢ LINE_FEED = All-head (λ x. x ≢ LINE_FEED) b bs free in
    rw (ne_eqb b LINE_FEED head) (ap (longer b) (lines_of-begin bs rest (All-tail (λ x. x ≢ LINE_FEED) b bs free)))

-- a text without a line feed is at most a line without an end
pub lines_of-none : (b : ℕ) (bs : List ℕ) → All (λ x. x ≢ LINE_FEED) (b ∷ bs) → lines_of (b ∷ bs) ≡ None ∷ []
lines_of-none b [] free = rw (ne_eqb b LINE_FEED (All-head (λ x. x ≢ LINE_FEED) b [] free)) refl
lines_of-none b (c ∷ cs) free =
    rw (ne_eqb b LINE_FEED (All-head (λ x. x ≢ LINE_FEED) b (c ∷ cs) free)) (ap (longer b) (lines_of-none c cs (All-tail (λ x. x ≢ LINE_FEED) b (c ∷ cs) free)))

pub lines_of-last : (text : List ℕ) → All (λ x. x ≢ LINE_FEED) text → lines_of text ≡ (if length text == 0 then [] else None ∷ [])
lines_of-last [] free = refl
lines_of-last (b ∷ bs) free = let some : length (b ∷ bs) ≢ 0 = omega arith in rw (ne_eqb (length (b ∷ bs)) 0 some) (lines_of-none b bs free)

-- a text of which a line feed is a part
has_feed : (line rest : List ℕ) → All (λ b. b ≢ LINE_FEED) (line ++ LINE_FEED ∷ rest) → ⊥
has_feed [] rest free = All-head (λ b. b ≢ LINE_FEED) LINE_FEED rest free refl
has_feed (b ∷ bs) rest free = has_feed bs rest (All-tail (λ x. x ≢ LINE_FEED) b (bs ++ LINE_FEED ∷ rest) free)

-- what a cut at a line feed says of the text's lines
pub none_without_feed : (text : List ℕ) (r : Option (Bor (List ℕ) × Bor (List ℕ))) → IfSome r (λ p. text ≡ p.0.now ++ LINE_FEED ∷ p.1.now) → All (λ b. b ≢ LINE_FEED) text → IsNone r
none_without_feed text None parted free = refl
none_without_feed text (Some p) parted free = absurd (has_feed p.0.now p.1.now (subst (λ t. All (λ b. b ≢ LINE_FEED) t) parted free))

pub first_is_first : (text : List ℕ) (r : Option (Bor (List ℕ) × Bor (List ℕ))) → IfSome r (λ p. text ≡ p.0.now ++ LINE_FEED ∷ p.1.now) → IfSome r (λ p. All (λ b. b ≢ LINE_FEED) p.0.now) → IfSome r (λ p. lines_of text ≡ Some p.0.now ∷ lines_of p.1.now)
first_is_first text None parted free = tt
first_is_first text (Some p) parted free = ap lines_of parted ∙ lines_of-begin p.0.now p.1.now free

-- ---- a text that is cut

cut_at-free : (byte : ℕ) (text : List ℕ) → All (λ b. b ≢ byte) text → cut_at byte text ≡ None
cut_at-free byte [] free = refl
cut_at-free byte (b ∷ bs) free =
    rw (ne_eqb b byte (All-head (λ x. x ≢ byte) b bs free)) (ap (with_front b) (cut_at-free byte bs (All-tail (λ x. x ≢ byte) b bs free)))

-- the byte behind bytes of which none is the same
pub cut_at-begin : (byte : ℕ) (front back : List ℕ) → All (λ b. b ≢ byte) front → cut_at byte (front ++ byte ∷ back) ≡ Some (front, back)
cut_at-begin byte [] back free = rw (eq-eqb byte byte refl) refl
cut_at-begin byte (b ∷ bs) back free =
    rw (ne_eqb b byte (All-head (λ x. x ≢ byte) b bs free)) (ap (with_front b) (cut_at-begin byte bs back (All-tail (λ x. x ≢ byte) b bs free)))

-- a text is cut as its parts say
pub cut_by_parts : (byte : ℕ) (text : List ℕ) (r : Option (Bor (List ℕ) × Bor (List ℕ))) → (IsNone r → All (λ b. b ≢ byte) text) → IfSome r (λ p. text ≡ p.0.now ++ byte ∷ p.1.now) → IfSome r (λ p. All (λ b. b ≢ byte) p.0.now) → parts_of r ≡ cut_at byte text
cut_by_parts byte text None none parted free = sym (cut_at-free byte text (none refl))
cut_by_parts byte text (Some p) none parted free = sym (ap (cut_at byte) parted ∙ cut_at-begin byte p.0.now p.1.now free)
