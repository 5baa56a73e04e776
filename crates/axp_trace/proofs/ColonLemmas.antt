-- No event has a colon in its text, so that a record is cut at the colon behind it.
use Rattle.std.proofs.Common.{◌≡◌, ◌≢◌, ℕ, zero, suc, ◌-◌, ◌*◌, ◌/◌, ◌%◌, ◌^◌, ◌<◌, ◌==◌, not, Bool, true, false, ◌&&◌, if◌then◌else◌, List, [], ◌∷◌, ◌++◌, length, take, codes, decimal, Some, refl, sym, ap, ◌∙◌, arith, ⊎_elim, append_assoc, length-append}
use Rattle.std.specs.List.{All}
use Rattle.std.specs.Fmt.{digit_glyph, digits, digits_onto}
use Rattle.std.proofs.lemmas.Bool.{and_parts, cases_lt, lt-ltb, le-ltb, ne_eqb, eq-eqb}
use Rattle.std.proofs.lemmas.List.Elements.{All-weaker, All-nil, All-cons, All-head, All-tail}
use Rattle.std.proofs.lemmas.Nat.{mod_below}
use Rattle.std.proofs.Math.Seq.{take-append_seam}
use Rattle.axp_base.specs.declared.lines.Bank.{Bank}
use Rattle.axp_base.specs.declared.lines.Bank.TheVariants.{Even, Odd, Code}
use Rattle.axp_access.specs.declared.Act.{Act}
use Rattle.axp_access.specs.declared.Act.TheVariants as act
use Rattle.axp_access.specs.declared.Event.{Event}
use Rattle.axp_access.specs.declared.Outcome.{Outcome}
use Rattle.axp_trace.specs.Digits.{hex, hex_digit}
use Rattle.axp_trace.specs.Fields.{cut_at}
use Rattle.axp_trace.specs.Lines.{bank_text, bank_number_text, act_text, event_text, outcome_text, line_text}
use Rattle.axp_trace.proofs.FileLemmas.{cut_at-begin}

-- no byte is a colon: a test, so that it computes on what is written out
abbrev free : List ℕ → Bool
free [] = true
free (b ∷ bs) = not (b == 58) && free bs

free_all : (xs : List ℕ) → free xs ≡ true → All (λ b. b ≢ 58) xs
free_all [] h = All-nil (λ b. b ≢ 58)
free_all (x ∷ xs) h =
    let parts = and_parts (not (x == 58)) (free xs) h in
    All-cons (λ b. b ≢ 58) x xs (other (eq-eqb x 58) parts.0) (free_all xs parts.1)
  where
    other : (x ≡ 58 → (x == 58) ≡ true) → not (x == 58) ≡ true → x ≢ 58
    other f h e = let is = f e in let no : not true ≡ true = rw is at h in cc

all_free : (xs : List ℕ) → All (λ b. b ≢ 58) xs → free xs ≡ true
all_free [] h = refl
all_free (x ∷ xs) h = rw (ne_eqb x 58 (All-head (λ b. b ≢ 58) x xs h)) (all_free xs (All-tail (λ b. b ≢ 58) x xs h))

free-append : (xs ys : List ℕ) → free (xs ++ ys) ≡ (free xs && free ys)
free-append [] ys = refl
free-append (x ∷ xs) ys = ap (λ t. not (x == 58) && t) (free-append xs ys) ∙ sym (and_assoc (not (x == 58)) (free xs) (free ys))
  where
    and_assoc : (p q r : Bool) → ((p && q) && r) ≡ (p && (q && r))
    and_assoc true q r = refl
    and_assoc false q r = refl

low_glyph : (d : ℕ) → d < 10 → digit_glyph false d < 58
low_glyph d low = rw (lt-ltb d 10 low) (omega arith)

low_digits : (k n : ℕ) (acc : List ℕ) → All (λ d. d < 58) acc → All (λ d. d < 58) (digits_onto k 10 false n acc)
low_digits zero n acc h = h
low_digits (suc k) n acc h = either (n / 10 == 0) _ _ more (low_digits k (n / 10) _ more)
  where
    more : All (λ d. d < 58) (digit_glyph false (n % 10) ∷ acc)
    more = All-cons (λ d. d < 58) (digit_glyph false (n % 10)) acc (low_glyph (n % 10) (mod_below n 10 (omega arith))) h

    either : (b : Bool) (xs ys : List ℕ) → All (λ d. d < 58) xs → All (λ d. d < 58) ys → All (λ d. d < 58) (if b then xs else ys)
    either true xs ys p q = p
    either false xs ys p q = q

-- decimal digits stand below the colon
pub low_decimal : (n : ℕ) → All (λ d. d < 58) (decimal n)
unfolding digits
low_decimal n = low_digits 64 n [] (All-nil (λ d. d < 58))

free_decimal : (n : ℕ) → free (decimal n) ≡ true
free_decimal n = all_free (decimal n) (All-weaker (λ d. d < 58) (λ d. d ≢ 58) (λ d h e. omega arith) (decimal n) (low_decimal n))

free_digit : (d : ℕ) → hex_digit d ≢ 58
free_digit d = ⊎_elim (λ low. rw (lt-ltb d 10 low) (λ e. omega arith)) (λ high. rw (le-ltb d 10 high) (λ e. omega arith)) (cases_lt d 10)

free_hex : (k n : ℕ) → free (hex k n) ≡ true
unfolding hex
free_hex zero n = refl
free_hex (suc k) n = rw (ne_eqb _ 58 (free_digit (n / 2 ^ (4 * k) % 16))) (free_hex k n)

free_bank : (b : Bank) → free (bank_text b) ≡ true
free_bank Even = refl
free_bank Odd = refl
free_bank Code = refl

free_bank_number : (b : Bank) → free (bank_number_text b) ≡ true
free_bank_number Even = refl
free_bank_number Odd = refl
free_bank_number Code = refl

free_act : (a : Act) → free (act_text a) ≡ true
unfolding act_text
free_act act.Step = refl
free_act act.Fill = refl
free_act (act.Drain k) = free_decimal k
free_act (act.Take b) = free_bank_number b
free_act (act.Drop b l) = simp (free-append, free_bank, free_hex)
free_act act.Poll = refl
free_act act.Tick = refl

free_event : (e : Event) → free (event_text e) ≡ true
unfolding event_text
free_event e = simp (free-append, free_decimal, free_act)

-- a record is cut at its colon
pub record_cut : (e : Event) (o : Outcome) → cut_at 58 (line_text e o) ≡ Some (event_text e ++ 32 ∷ [], 32 ∷ outcome_text o)
unfolding line_text
record_cut e o =
    let shown : line_text e o ≡ (event_text e ++ 32 ∷ []) ++ 58 ∷ 32 ∷ outcome_text o = append_assoc (event_text e) (codes " : ") (outcome_text o) ∙ sym (append_assoc (event_text e) (32 ∷ []) (58 ∷ 32 ∷ outcome_text o)) in
    let none : free (event_text e ++ 32 ∷ []) ≡ true = simp (free-append, free_event) in
    ap (cut_at 58) shown ∙ cut_at-begin 58 (event_text e ++ 32 ∷ []) (32 ∷ outcome_text o) (free_all (event_text e ++ 32 ∷ []) none)

-- what stands before the blank in front of the colon
pub before_blank : (xs : List ℕ) → take (length (xs ++ 32 ∷ []) - 1) (xs ++ 32 ∷ []) ≡ xs
before_blank xs =
    let long : length (xs ++ 32 ∷ []) - 1 ≡ length xs = simp length-append (omega arith) in
    rw long (take-append_seam xs (32 ∷ []))
