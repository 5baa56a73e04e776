-- The statements of a listing: each has a line, and they have the bytes of the segments.
use Rattle.std.proofs.Common.{◌≡◌, ℕ, zero, suc, ◌%◌, ◌^◌, ◌<◌, ◌≤◌, Bool, true, false, ◌&&◌, cond, eqb, List, [], ◌∷◌, ◌++◌, length, map, get_or, Some, refl, ap, ◌∙◌, arith}
use Rattle.std.specs.Int.{w32, from_le_bytes, to_le_bytes}
use Rattle.std.specs.List.{flat_map}
use Rattle.std.proofs.lemmas.Bool.{eqb-true}
use Rattle.std.proofs.lemmas.Nat.{le_bytes_4}
use Rattle.axp_image.specs.Contents.{Contents, Segment, AreBytes, ArePlaced, IsValid, end_of}
use Rattle.axp_image.specs.declared.limits.TheConstants.{MAX_MEMORY}
use Rattle.axp_decode.specs.Format.{instr_of}
use Rattle.axp_decode.proofs.WordRoundTrip.{word_of-instr_of}
use Rattle.axp_source.specs.Items.{Item, Directs, Instruction, Fits, is_written}
use Rattle.axp_source.specs.declared.statements.Directive.TheVariants as directive
use Rattle.axp_asm.specs.Lines.{Lines}
use Rattle.axp_asm.specs.Drafts.{have_bytes}
use Rattle.axp_asm.specs.Listings.{byte_listed, content_listed, head_listed, items_of, segment_listed, word_listed, words_listed}
use Rattle.axp_asm.proofs.FieldLemmas.{fields_fit}
use Rattle.axp_asm.proofs.FillLemmas.{AllPut, Puts, bytes_of}

abbrev pub AllFit : List Item → Type 0
AllFit [] = Unit {0}
AllFit (item ∷ rest) = Fits item × AllFit rest

pub all_fit_append : (front back : List Item) → AllFit front → AllFit back → AllFit (front ++ back)
all_fit_append [] back fit other = other
all_fit_append (item ∷ front) back fit other = (fit.0, all_fit_append front back fit.1 other)

-- ---- a word

-- what is listed of a word stands for it
pub record IsListed (w : ℕ) (item : Item) : Type 0 where
  pub fits : Fits item
  pub puts : Puts item
  pub bytes : bytes_of item ≡ to_le_bytes w32 w
  pub some : (rest : Lines) → have_bytes (Some item ∷ rest) ≡ true

word_by : (w : ℕ) (written : Bool) → w < 2 ^ 32 → is_written (instr_of w) ≡ written → IsListed w (cond written (Instruction (instr_of w)) (Directs (directive.Word w)))
word_by w true small is = record {
  fits = (fields_fit w, is);
  puts = record { bytes = λ labels line rest d. refl };
  bytes = ap (to_le_bytes w32) (word_of-instr_of w small);
  some = λ rest. refl;
}
word_by w false small is = record {
  fits = small;
  puts = record { bytes = λ labels line rest d. refl };
  bytes = refl;
  some = λ rest. refl;
}

word_is_listed : (w : ℕ) → w < 2 ^ 32 → IsListed w (word_listed w)
word_is_listed w small = word_by w (is_written (instr_of w)) small refl

-- ---- what is listed of bytes

pub record AreListed (bytes : List ℕ) (items : List Item) : Type 0 where
  pub fit : AllFit items
  pub put : AllPut items
  pub whole : flat_map bytes_of items ≡ bytes

pub bytes_are_listed : (bytes : List ℕ) → AreBytes bytes → AreListed bytes (map byte_listed bytes)
bytes_are_listed [] small = record { fit = tt; put = tt; whole = refl }
bytes_are_listed (b ∷ rest) small =
    let others = bytes_are_listed rest (λ i. small (suc i)) in
    record {
      fit = (small 0, others.fit);
      put = (record { bytes = λ labels line lines d. refl }, others.put);
      whole = ap (λ (bs : List ℕ). b ∷ bs) others.whole;
    }

-- the number of four bytes
word_small : (a b c d : ℕ) → a < 256 → b < 256 → c < 256 → d < 256 → from_le_bytes w32 (a ∷ b ∷ c ∷ d ∷ []) < 2 ^ 32
word_small a b c d p q r s = omega arith

four_small : (a b c d i : ℕ) → a < 256 → b < 256 → c < 256 → d < 256 → get_or (a ∷ b ∷ c ∷ d ∷ []) i 0 < 256
four_small a b c d zero p q r s = p
four_small a b c d (suc zero) p q r s = q
four_small a b c d (suc (suc zero)) p q r s = r
four_small a b c d (suc (suc (suc zero))) p q r s = s
four_small a b c d (suc (suc (suc (suc i)))) p q r s = omega arith

words_listed_more : (a b c d : ℕ) (rest : List ℕ) → AreBytes (a ∷ b ∷ c ∷ d ∷ rest) → AreListed rest (words_listed rest)
    → AreListed (a ∷ b ∷ c ∷ d ∷ rest) (words_listed (a ∷ b ∷ c ∷ d ∷ rest))
words_listed_more a b c d rest small others =
    let four = a ∷ b ∷ c ∷ d ∷ [] in
    let word = from_le_bytes w32 four in
    let listed = word_is_listed word (word_small a b c d (small 0) (small 1) (small 2) (small 3)) in
    let back : to_le_bytes w32 word ≡ four = le_bytes_4 four word refl (λ i. four_small a b c d i (small 0) (small 1) (small 2) (small 3)) refl in
    record {
      fit = (listed.fits, others.fit);
      put = (listed.puts, others.put);
      whole = ap (λ (bs : List ℕ). bs ++ flat_map bytes_of (words_listed rest)) (listed.bytes ∙ back) ∙ ap (λ (bs : List ℕ). four ++ bs) others.whole;
    }

pub words_are_listed : (bytes : List ℕ) → AreBytes bytes → length bytes % 4 ≡ 0 → AreListed bytes (words_listed bytes)
words_are_listed [] small whole = record { fit = tt; put = tt; whole = refl }
words_are_listed (a ∷ []) small whole = absurd (omega (arith, whole))
words_are_listed (a ∷ b ∷ []) small whole = absurd (omega (arith, whole))
words_are_listed (a ∷ b ∷ c ∷ []) small whole = absurd (omega (arith, whole))
words_are_listed (a ∷ b ∷ c ∷ d ∷ rest) small whole =
    words_listed_more a b c d rest small (words_are_listed rest (λ i. small (suc (suc (suc (suc i))))) (omega (arith, whole)))

content_by : (s : Segment) (aligned words : Bool) → AreBytes s.bytes → eqb (length s.bytes % 4) 0 ≡ words
    → AreListed s.bytes (cond (aligned && words) (words_listed s.bytes) (map byte_listed s.bytes))
content_by s true true small is = words_are_listed s.bytes small (eqb-true _ _ is)
content_by s true false small is = bytes_are_listed s.bytes small
content_by s false words small is = bytes_are_listed s.bytes small

pub content_is_listed : (s : Segment) → AreBytes s.bytes → AreListed s.bytes (content_listed s)
content_is_listed s small = content_by s (eqb (s.address % 4) 0) (eqb (length s.bytes % 4) 0) small refl

-- ---- a segment has bytes

bytes_begin : (bytes : List ℕ) (rest : Lines) → 1 ≤ length bytes → have_bytes (map Some (map byte_listed bytes) ++ rest) ≡ true
bytes_begin [] rest some = absurd (omega (arith, some))
bytes_begin (b ∷ bytes) rest some = refl

words_begin : (bytes : List ℕ) (rest : Lines) → AreBytes bytes → length bytes % 4 ≡ 0 → 1 ≤ length bytes → have_bytes (map Some (words_listed bytes) ++ rest) ≡ true
words_begin [] rest small whole some = absurd (omega (arith, some))
words_begin (a ∷ []) rest small whole some = absurd (omega (arith, whole))
words_begin (a ∷ b ∷ []) rest small whole some = absurd (omega (arith, whole))
words_begin (a ∷ b ∷ c ∷ []) rest small whole some = absurd (omega (arith, whole))
words_begin (a ∷ b ∷ c ∷ d ∷ bytes) rest small whole some =
    (word_is_listed (from_le_bytes w32 (a ∷ b ∷ c ∷ d ∷ [])) (word_small a b c d (small 0) (small 1) (small 2) (small 3))).some (map Some (words_listed bytes) ++ rest)

content_begins_by : (s : Segment) (rest : Lines) (aligned words : Bool) → AreBytes s.bytes → 1 ≤ length s.bytes → eqb (length s.bytes % 4) 0 ≡ words
    → have_bytes (map Some (cond (aligned && words) (words_listed s.bytes) (map byte_listed s.bytes)) ++ rest) ≡ true
content_begins_by s rest true true small some is = words_begin s.bytes rest small (eqb-true _ _ is) some
content_begins_by s rest true false small some is = bytes_begin s.bytes rest some
content_begins_by s rest false words small some is = bytes_begin s.bytes rest some

pub content_begins : (s : Segment) (rest : Lines) → AreBytes s.bytes → 1 ≤ length s.bytes → have_bytes (map Some (content_listed s) ++ rest) ≡ true
content_begins s rest small some = content_begins_by s rest (eqb (s.address % 4) 0) (eqb (length s.bytes % 4) 0) small some refl

-- ---- all of them

segments_fit : (size from : ℕ) (segments : List Segment) → size ≤ MAX_MEMORY → ArePlaced size from segments → AllFit (flat_map segment_listed segments)
segments_fit size from [] small placed = tt
segments_fit size from (s ∷ rest) small placed =
    all_fit_append (segment_listed s) (flat_map segment_listed rest) (omega (arith, small, placed.0.within), (content_is_listed s placed.0.bytes).fit) (segments_fit size (end_of s) rest small placed.1)

pub items_fit : (c : Contents) → IsValid c → AllFit (items_of c)
items_fit c valid =
    all_fit_append (head_listed c) (flat_map segment_listed c.segments)
    (omega (arith, valid.most_size), (omega (arith, valid.most_size, valid.most_entry), (valid.stack_word, (omega (arith, valid.most_size, valid.table_page), tt))))
    (segments_fit c.size 0 c.segments valid.most_size valid.placed)
