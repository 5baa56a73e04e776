-- The console's line.
use Rattle.std.proofs.Common.{◌≡◌, ◌≢◌, ℕ, suc, ◌/◌, ◌%◌, ◌^◌, ◌<◌, ◌==◌, nat_le, ◌&&◌, ◌||◌, not, Bool, true, false, List, [], ◌∷◌, ◌++◌, length, codes, Option, Some, None, refl, sym, ap, ◌∙◌, arith, subst, ⊎_elim, if◌then◌else◌, slice_index_or, Fits, w8}
use Rattle.std.specs.List.{All}
use Rattle.std.specs.Str.{bytes_eq}
use Rattle.std.specs.Cmp.{both_ways}
use Rattle.std.proofs.lemmas.Bool.{both_ways as both_answers, cases_lt, lt-leb, agree_below_at, and_parts, and_from, eqb-true, eq-eqb, ne_eqb}
use Rattle.std.proofs.lemmas.Slice.Eq.{bytes_eq-Decides}
use Rattle.std.proofs.lemmas.Nat.{mod_below}
use Rattle.std.proofs.Math.Nat.{mod-eq_of_lt}
use Rattle.hex.specs.Hex.{encode_upper, encode_with, upper_digits}
use Rattle.std.specs.Prelude.{slice_index}
use Rattle.axp_access.specs.declared.tail_items.TailItem.TheVariants.{Console}
use Rattle.axp_trace.specs.Digits.{hex, hex_digit, hex_digit_value, hex_value, hex_pairs, pairs_value}
use Rattle.axp_trace.specs.Lines.{console_text, console_line}
use Rattle.axp_trace.specs.Fields.{cut_at}
use Rattle.axp_trace.specs.Tails.{is_item, console_if, is_hex_digit, is_pairs, is_console_word}
use Rattle.axp_trace.proofs.DigitLemmas.{small_digit}
use Rattle.axp_trace.proofs.FileLemmas.{cut_at-begin}

-- a digit of a table below 16
upper_digit : (d : ℕ) → d < 16 → slice_index upper_digits d ≡ hex_digit d
upper_digit d h = eqb-true _ _ (agree_below_at (λ k. slice_index upper_digits k == hex_digit k) (λ k. true) 16 d refl h)

pub two_digits : (b : ℕ) → b < 2 ^ 8 → hex 2 b ≡ hex_digit (b / 16) ∷ hex_digit (b % 16) ∷ []
unfolding hex
two_digits b small =
    let high : b / 16 % 16 ≡ b / 16 = mod-eq_of_lt (omega arith) in
    let whole : b / 1 ≡ b = omega arith in
    rw (high, whole) refl

-- the kit's upper case digits are those of the console's line
pub upper_is_pairs : (bytes : List ℕ) → ((i : ℕ) → Fits w8 (slice_index_or bytes i 0)) → encode_upper bytes ≡ hex_pairs bytes
unfolding encode_with
upper_is_pairs [] h = refl
upper_is_pairs (b ∷ bs) h =
    let small : b < 2 ^ 8 = omega (arith, h 0) in
    let high = upper_digit (b / 16) (omega arith) in
    let low = upper_digit (b % 16) (mod_below b 16 (omega arith)) in
    rw (two_digits b small, high, low, upper_is_pairs bs (λ i. h (suc i))) refl

pub console_upper : (bytes : List ℕ) → ((i : ℕ) → Fits w8 (slice_index_or bytes i 0)) → (length bytes == 0) ≡ false → console_text bytes ≡ encode_upper bytes
console_upper [] h some = cc
console_upper (b ∷ bs) h some = sym (upper_is_pairs (b ∷ bs) h)

-- a byte is a digit exactly where it is that of its value
digit_spelled : (c : ℕ) → (hex_digit (hex_digit_value c) == c) ≡ is_hex_digit c
digit_spelled c = both_ways _ _ (λ e. it e) (λ h. from h)
  where
    shown : (d : ℕ) → d < 16 → is_hex_digit (hex_digit d) ≡ true
    shown d h = agree_below_at (λ k. is_hex_digit (hex_digit k)) (λ k. true) 16 d refl h

    it : (hex_digit (hex_digit_value c) == c) ≡ true → is_hex_digit c ≡ true
    it e = subst (λ x. is_hex_digit x ≡ true) (eqb-true (hex_digit (hex_digit_value c)) c e) (shown (hex_digit_value c) (small_digit c))

    table : (k : ℕ) → k < 71 → (not (is_hex_digit k) || (hex_digit (hex_digit_value k) == k)) ≡ true
    table k h = agree_below_at (λ k. not (is_hex_digit k) || (hex_digit (hex_digit_value k) == k)) (λ k. true) 71 k refl h

    from : is_hex_digit c ≡ true → (hex_digit (hex_digit_value c) == c) ≡ true
    from h = ⊎_elim
        (λ low. or_not (is_hex_digit c) _ h (table c low))
        (λ high. let a : 57 < c = omega arith in let b : 70 < c = omega arith in let no : is_hex_digit c ≡ false = rw (lt-leb c 57 a, lt-leb c 70 b) (neither (nat_le 48 c) (nat_le 65 c)) in absurd (both_answers (is_hex_digit c) no h))
        (cases_lt c 71)
      where
        or_not : (p q : Bool) → p ≡ true → (not p || q) ≡ true → q ≡ true
        or_not true q h e = e
        or_not false q h e = cc

        neither : (p q : Bool) → ((p && false) || (q && false)) ≡ false
        neither true true = refl
        neither true false = refl
        neither false true = refl
        neither false false = refl

-- some bytes as pairs are spelled so exactly where each pair is one of digits
pairs_spelled : (word : List ℕ) → bytes_eq (hex_pairs (pairs_value word)) word ≡ is_pairs word
pairs_spelled [] = refl
pairs_spelled (c ∷ []) = refl
pairs_spelled (c ∷ d ∷ cs) =
    let high = small_digit c in
    let low = small_digit d in
    let small : hex_value (c ∷ d ∷ []) < 2 ^ 8 = omega arith in
    let first : hex_value (c ∷ d ∷ []) / 16 ≡ hex_digit_value c = omega arith in
    let second : hex_value (c ∷ d ∷ []) % 16 ≡ hex_digit_value d = omega arith in
    rw (two_digits (hex_value (c ∷ d ∷ [])) small, first, second, digit_spelled c, digit_spelled d, pairs_spelled cs) (grouped (is_hex_digit c) (is_hex_digit d) (is_pairs cs))
  where
    grouped : (p q r : Bool) → (p && (q && r)) ≡ ((p && q) && r)
    grouped true q r = refl
    grouped false q r = refl

-- the digits of some bytes, or the sign for none
pub word_of_console : (word : List ℕ) → is_console_word word ≡ (bytes_eq word (codes "-") || (not (length word == 0) && is_pairs word))
word_of_console [] = refl
word_of_console (c ∷ []) = rw (same_sign c) (by (c == 45))
  where
    same_sign : (c : ℕ) → (45 == c) ≡ (c == 45)
    same_sign c = both_ways (45 == c) (c == 45) (λ e. eq-eqb c 45 (sym (eqb-true 45 c e))) (λ e. eq-eqb 45 c (sym (eqb-true c 45 e)))

    by : (t : Bool) → (t && true) ≡ ((t && true) || false)
    by true = refl
    by false = refl
word_of_console (c ∷ d ∷ cs) = let some : length (c ∷ d ∷ cs) ≢ 0 = omega arith in rw (ne_eqb (length (c ∷ d ∷ cs)) 0 some) (pairs_spelled (c ∷ d ∷ cs) ∙ sym (not_sign (c == 45)))
  where
    not_sign : (t : Bool) → ((t && false) || is_pairs (c ∷ d ∷ cs)) ≡ is_pairs (c ∷ d ∷ cs)
    not_sign true = refl
    not_sign false = refl

-- a line with a blank is the console's exactly where its first word and its second are
pub line_of_console : (line verb word : List ℕ) → All (λ b. b ≢ 32) verb → line ≡ verb ++ 32 ∷ word → is_item (console_if line (pairs_value word)) ≡ (bytes_eq verb (codes "console") && is_console_word word)
unfolding console_line
line_of_console line verb word free parted = there (bytes_eq (console_line (pairs_value word)) line) ∙ both_ways _ _ (λ e. it e) (λ h. from h)
  where
    there : (t : Bool) → is_item (if t then Some (Console (pairs_value word)) else None) ≡ t
    there true = refl
    there false = refl

    same : ◌≡◌ {A = Option (List ℕ × List ℕ)} (Some (codes "console", console_text (pairs_value word))) (Some (verb, word)) → (bytes_eq verb (codes "console") && is_console_word word) ≡ true
    same e =
        let both : ◌≡◌ {A = List ℕ × List ℕ} (codes "console", console_text (pairs_value word)) (verb, word) = cc in
        let first : codes "console" ≡ verb = ap (λ (p : List ℕ × List ℕ). p.0) both in
        let second : console_text (pairs_value word) ≡ word = ap (λ (p : List ℕ × List ℕ). p.1) both in
        and_from (bytes_eq verb (codes "console")) (is_console_word word) ((bytes_eq-Decides verb (codes "console")).1 (sym first)) ((bytes_eq-Decides (console_text (pairs_value word)) word).1 second)

    it : bytes_eq (console_line (pairs_value word)) line ≡ true → (bytes_eq verb (codes "console") && is_console_word word) ≡ true
    it e =
        let spelled : console_line (pairs_value word) ≡ verb ++ 32 ∷ word = (bytes_eq-Decides (console_line (pairs_value word)) line).0 e ∙ parted in
        same (ap (cut_at 32) spelled ∙ cut_at-begin 32 verb word free)

    from : (bytes_eq verb (codes "console") && is_console_word word) ≡ true → bytes_eq (console_line (pairs_value word)) line ≡ true
    from h =
        let parts = and_parts (bytes_eq verb (codes "console")) (is_console_word word) h in
        let first : verb ≡ codes "console" = (bytes_eq-Decides verb (codes "console")).0 parts.0 in
        let second : console_text (pairs_value word) ≡ word = (bytes_eq-Decides (console_text (pairs_value word)) word).0 parts.1 in
        (bytes_eq-Decides (console_line (pairs_value word)) line).1 (ap (λ t. codes "console" ++ 32 ∷ t) second ∙ sym (parted ∙ ap (λ v. v ++ 32 ∷ word) first))

-- the console's line as it is put together
pub console_written : (new line digits bytes : List ℕ) → ((i : ℕ) → Fits w8 (slice_index_or bytes i 0)) → (length bytes == 0) ≡ false → new ≡ line ++ digits → line ≡ codes "console " → digits ≡ encode_upper bytes → new ≡ console_line bytes
unfolding console_line
console_written new line digits bytes small some put first second = put ∙ ap (λ l. l ++ digits) first ∙ ap (λ d. codes "console " ++ d) (second ∙ sym (console_upper bytes small some))
