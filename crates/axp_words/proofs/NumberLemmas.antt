-- A word writes a number exactly where it is the number's decimal text.
use Rattle.std.proofs.Common.{◌≡◌, ◌≢◌, ℕ, zero, suc, ◌-◌, ◌^◌, ◌<◌, ◌≤◌, Bool, true, false, ◌&&◌, not, eqb, leb, cond, List, [], ◌∷◌, length, get_or, Option, Some, None, Result, Ok, Err, refl, sym, ap, subst, ◌∙◌, ◌↔◌, inl, inr, arith, rules}
use Rattle.std.specs.Prelude.{decimal}
use Rattle.std.specs.Result.{result_ok}
use Rattle.std.specs.Str.{all_ascii_digits}
use Rattle.std.specs.Str.Parse.{ParsesUnsigned}
use Rattle.std.proofs.lemmas.Bool.{and_parts, le-leb, lt-leb, leb-true, leb-false, eqb-false, ne_eqb, not-true, cases_Bool}
use Rattle.std.proofs.lemmas.Fmt.{decimal-digits_value, digits_value-decimal, digits_decimal, decimal_nonempty, first_decimal, decimal_digit}
use Rattle.std.proofs.lemmas.Option.{none-some}
use Rattle.std.proofs.lemmas.Str.Parse.{IsNumeralModel, numerals_by_fold, parse_plain}
use Rattle.axp_words.specs.Numbers.{value_behind, value_of, begins_plainly, number_of, in_range, number_in}

own : IsNumeralModel (λ ds. all_ascii_digits ds ≡ true) value_of
own = numerals_by_fold _ (search rules) value_behind (search rules)

-- ---- ranges

range_has : (least most n : ℕ) → least ≤ n → n ≤ most → in_range least most (Some n) ≡ Some n
range_has least most n low high = rw (le-leb least n low, le-leb n most high) refl

range_past : (least most n : ℕ) → most < n → in_range least most (Some n) ≡ None
range_past least most n past = rw (lt-leb n most past) (by_case (leb least n))
  where
    by_case : (b : Bool) → cond (b && false) (Some n) None ≡ None
    by_case true = refl
    by_case false = refl

range_says : (least most n : ℕ) (o : Option ℕ) → in_range least most o ≡ Some n → (o ≡ Some n) × (least ≤ n) × (n ≤ most)
range_says least most n None h = absurd cc
range_says least most n (Some m) h = by_case (leb least m && leb m most) refl h
  where
    by_case : (b : Bool) → leb least m && leb m most ≡ b → cond b (Some m) None ≡ Some n → (Some m ≡ Some n) × (least ≤ n) × (n ≤ most)
    by_case true both g =
        let parts = and_parts (leb least m) (leb m most) both in
        let same : m ≡ n = cc in
        (g, subst (λ (x : ℕ). least ≤ x) same (leb-true least m parts.0), subst (λ (x : ℕ). x ≤ most) same (leb-true m most parts.1))
    by_case false both g = absurd cc

pub none_in : (least most : ℕ) (word : List ℕ) → most < 2 ^ 64 → None ≡ number_in 0 (2 ^ 64 - 1) word → None ≡ number_in least most word
none_in least most word fits none = by_case (number_of word) none
  where
    by_case : (o : Option ℕ) → None ≡ in_range 0 (2 ^ 64 - 1) o → None ≡ in_range least most o
    by_case None h = refl
    by_case (Some n) h =
        elim (cases_Bool (leb n (2 ^ 64 - 1))) [
          | inl low ↦ absurd (none-some n (h ∙ range_has 0 (2 ^ 64 - 1) n (omega arith) (leb-true n (2 ^ 64 - 1) low)))
          | inr high ↦ sym (range_past least most n (omega (arith, leb-false n (2 ^ 64 - 1) high)))
        ]

pub some_in : (least most n : ℕ) (word : List ℕ) → Some n ≡ number_in 0 (2 ^ 64 - 1) word → least ≤ n → n ≤ most → Some n ≡ number_in least most word
some_in least most n word some low high =
    let read = (range_says 0 (2 ^ 64 - 1) n (number_of word) (sym some)).0 in
    sym (ap (in_range least most) read ∙ range_has least most n low high)

pub none_past : (least most n : ℕ) (word : List ℕ) → Some n ≡ number_in 0 (2 ^ 64 - 1) word → leb least n && leb n most ≡ false → None ≡ number_in least most word
none_past least most n word some past =
    let read = (range_says 0 (2 ^ 64 - 1) n (number_of word) (sym some)).0 in
    let here : in_range least most (Some n) ≡ None = rw past refl in
    sym (ap (in_range least most) read ∙ here)

-- ---- how a word begins

plain_says : (word : List ℕ) → begins_plainly word ≡ true → (get_or word 0 0 ≢ 43) × (0 < length word) × (get_or word 0 0 ≡ 48 → length word ≡ 1)
plain_says [] plain = absurd cc
plain_says (c ∷ []) plain = (eqb-false c 43 (not-true (eqb c 43) plain), omega arith, λ _. refl)
plain_says (c ∷ d ∷ rest) plain =
    let parts = and_parts (not (eqb c 43)) (not (eqb c 48)) plain in
    (eqb-false c 43 (not-true (eqb c 43) parts.0), omega arith, λ zero. absurd (eqb-false c 48 (not-true (eqb c 48) parts.1) zero))

plain_has : (word : List ℕ) → get_or word 0 0 ≢ 43 → 0 < length word → (get_or word 0 0 ≡ 48 → length word ≡ 1) → begins_plainly word ≡ true
plain_has [] other some one = absurd (omega (arith, some))
plain_has (c ∷ []) other some one = rw (ne_eqb c 43 other) refl
plain_has (c ∷ d ∷ rest) other some one = rw (ne_eqb c 43 other, ne_eqb c 48 (λ zero. omega (arith, one zero))) refl

-- ---- what `parse` reads

pub parsed : {E : Type 0} (word : List ℕ) (r : Result ℕ E) → begins_plainly word ≡ true → ParsesUnsigned 64 10 word r → result_ok r ≡ number_in 0 (2 ^ 64 - 1) word
unfolding number_of
parsed {E = E} word (Ok n) plain reads =
    let says = parse_plain own {E = E} 64 word (Ok n) reads (plain_says word plain).0 in
    let here : number_of word ≡ Some n = rw (says.0.0, plain) (ap Some (sym says.1)) in
    sym (ap (in_range 0 (2 ^ 64 - 1)) here ∙ range_has 0 (2 ^ 64 - 1) n (omega arith) (omega (arith, says.0.2, says.1)))
parsed {E = E} word (Err e) plain reads =
    let begins = plain_says word plain in
    let says = parse_plain own {E = E} 64 word (Err e) reads begins.0 in
    elim (cases_Bool (all_ascii_digits word)) [
      | inl digits ↦ elim (cases_Bool (leb (2 ^ 64) (value_of word))) [
        | inl big ↦ sym (rw (digits, plain) (range_past 0 (2 ^ 64 - 1) (value_of word) (omega (arith, leb-true (2 ^ 64) (value_of word) big))))
        | inr small ↦ absurd (says (digits, begins.1, omega (arith, leb-false (2 ^ 64) (value_of word) small)))
      ]
      | inr other ↦ rw other refl
    ]

pub not_plain : (word : List ℕ) → begins_plainly word ≡ false → None ≡ number_in 0 (2 ^ 64 - 1) word
unfolding number_of
not_plain word odd = rw odd (by_case (all_ascii_digits word))
  where
    by_case : (b : Bool) → None ≡ in_range 0 (2 ^ 64 - 1) (cond (b && false) (Some (value_of word)) None)
    by_case true = refl
    by_case false = refl

-- ---- decimals

number_says : (word : List ℕ) (n : ℕ) → number_of word ≡ Some n → (all_ascii_digits word ≡ true) × (begins_plainly word ≡ true) × (value_of word ≡ n)
unfolding number_of
number_says word n h = by_case (all_ascii_digits word) (begins_plainly word) h
  where
    by_case : (a b : Bool) → cond (a && b) (Some (value_of word)) None ≡ Some n → (a ≡ true) × (b ≡ true) × (value_of word ≡ n)
    by_case true true g = (refl, refl, cc)
    by_case true false g = absurd cc
    by_case false b g = absurd cc

-- a decimal begins with a digit, and with 0 only where it is 0
decimal_begins : (n : ℕ) → n < 2 ^ 64 → begins_plainly (decimal n) ≡ true
decimal_begins zero fits = rw (decimal_digit 0 (omega arith)) refl
decimal_begins (suc n) fits =
    let first : 48 < get_or (decimal (suc n)) 0 0 = first_decimal (suc n) (omega arith) fits in
    plain_has (decimal (suc n)) (λ plus. omega (arith, first, plus)) (decimal_nonempty (suc n) fits) (λ none. absurd (omega (arith, first, none)))

number_back : (n : ℕ) → n < 2 ^ 64 → number_of (decimal n) ≡ Some n
unfolding number_of
number_back n fits = rw (digits_decimal own n fits, decimal_begins n fits) (ap Some (digits_value-decimal own n fits))

pub decimals : (least most n : ℕ) (word : List ℕ) → most < 2 ^ 64 → (number_in least most word ≡ Some n) ↔ ((word ≡ decimal n) × (least ≤ n) × (n ≤ most))
decimals least most n word fits = (
  λ read.
      let range = range_says least most n (number_of word) read in
      let says = number_says word n range.0 in
      let begins = plain_says word says.1 in
      let written : decimal (value_of word) ≡ word = decimal-digits_value own word says.0 begins.1 begins.2 (omega (arith, says.2, range.2)) in
      (sym written ∙ ap decimal says.2, range.1, range.2),
  λ is. ap (in_range least most) (ap number_of is.0 ∙ number_back n (omega (arith, is.2))) ∙ range_has least most n is.1 is.2,
)
