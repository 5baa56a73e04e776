-- Digits among the bytes of a word, and the numbers that they give back.
use Rattle.std.proofs.Common.{◌≡◌, ℕ, ◌+◌, ◌-◌, ◌*◌, ◌%◌, ◌^◌, ◌<◌, ◌≤◌, Bool, true, false, if◌then◌else◌, List, [], ◌∷◌, ◌++◌, length, decimal, drop, get_or, refl, sym, ap, ◌∙◌, arith, add-one, drop-cons, suc, zero}
use Rattle.std.specs.Char.{is_ascii_digit}
use Rattle.std.specs.Str.{all_ascii_digits}
use Rattle.std.proofs.lemmas.Bool.{le-leb}
use Rattle.std.proofs.lemmas.Fmt.{digits_value-decimal}
use Rattle.std.proofs.lemmas.Str.Parse.{IsNumeralModel, numerals_by_fold, tells_all_ascii_digits}
use Rattle.std.proofs.Math.Nat.{mod-add-mod, mod-eq_of_lt, mod-mod}
use Rattle.std.proofs.lemmas.List.{drop_all}
use Rattle.std.proofs.lemmas.Nat.{mul-mod_first, mod_below}
use Rattle.axp_trace.specs.Digits.{hex, hex_digit_value, hex_value_after}
use Rattle.axp_trace.proofs.DigitLemmas.{length-hex, hex_back}
use Rattle.axp_source.specs.Fields.{digit_behind, digits_behind, number_in, hex_in}

-- ---- what is above 64 bits does not matter to what is below

place_mod : (a b k d m : ℕ) → a % m ≡ b % m → (a * k + d) % m ≡ (b * k + d) % m
place_mod a b k d m h =
    sym (mod-add-mod (a * k) m d)
    ∙ ap (λ x. (x + d) % m) (sym (mul-mod_first a k m) ∙ ap (λ x. (x * k) % m) h ∙ mul-mod_first b k m)
    ∙ mod-add-mod (b * k) m d

same_digits : (a b m : ℕ) (cs : List ℕ) → a % m ≡ b % m → digits_behind a cs % m ≡ digits_behind b cs % m
same_digits a b m [] h = h
same_digits a b m (c ∷ cs) h = same_digits (digit_behind a c) (digit_behind b c) m cs (by (is_ascii_digit c))
  where
    by : (t : Bool) → (if t then a * 10 + (c - 48) else a) % m ≡ (if t then b * 10 + (c - 48) else b) % m
    by true = place_mod a b 10 (c - 48) m h
    by false = h

same_hex : (a b m : ℕ) (cs : List ℕ) → a % m ≡ b % m → hex_value_after a cs % m ≡ hex_value_after b cs % m
same_hex a b m [] h = h
same_hex a b m (c ∷ cs) h = same_hex (a * 16 + hex_digit_value c) (b * 16 + hex_digit_value c) m cs (place_mod a b 16 (hex_digit_value c) m h)

-- ---- the loops that read numbers: one turn, and the end

pub number_turn : (xs : List ℕ) (i v d all : ℕ) → i < length xs → d ≡ digit_behind v (get_or xs i 0) % 2 ^ 64 → digits_behind v (drop i xs) % 2 ^ 64 ≡ all → (digits_behind d (drop (i + 1) xs) % 2 ^ 64 ≡ all) × (d < 2 ^ 64)
number_turn xs i v d all below is h =
    let cell : drop i xs ≡ get_or xs i 0 ∷ drop (suc i) xs = drop-cons xs i 0 below in
    let same : d % 2 ^ 64 ≡ digit_behind v (get_or xs i 0) % 2 ^ 64 = ap (λ x. x % 2 ^ 64) is ∙ mod-mod (digit_behind v (get_or xs i 0)) (2 ^ 64) in
    let step : digits_behind d (drop (suc i) xs) % 2 ^ 64 ≡ all = same_digits d (digit_behind v (get_or xs i 0)) (2 ^ 64) (drop (suc i) xs) same ∙ sym (ap (λ cs. digits_behind v cs % 2 ^ 64) cell) ∙ h in
    (rw add-one step, omega (arith, is, mod_below (digit_behind v (get_or xs i 0)) (2 ^ 64) (omega arith)))

pub hex_turn : (xs : List ℕ) (i v d all : ℕ) → i < length xs → d ≡ (v * 16 + hex_digit_value (get_or xs i 0)) % 2 ^ 64 → hex_value_after v (drop i xs) % 2 ^ 64 ≡ all → (hex_value_after d (drop (i + 1) xs) % 2 ^ 64 ≡ all) × (d < 2 ^ 64)
hex_turn xs i v d all below is h =
    let cell : drop i xs ≡ get_or xs i 0 ∷ drop (suc i) xs = drop-cons xs i 0 below in
    let same : d % 2 ^ 64 ≡ (v * 16 + hex_digit_value (get_or xs i 0)) % 2 ^ 64 = ap (λ x. x % 2 ^ 64) is ∙ mod-mod (v * 16 + hex_digit_value (get_or xs i 0)) (2 ^ 64) in
    let step : hex_value_after d (drop (suc i) xs) % 2 ^ 64 ≡ all = same_hex d (v * 16 + hex_digit_value (get_or xs i 0)) (2 ^ 64) (drop (suc i) xs) same ∙ sym (ap (λ cs. hex_value_after v cs % 2 ^ 64) cell) ∙ h in
    (rw add-one step, omega (arith, is, mod_below (v * 16 + hex_digit_value (get_or xs i 0)) (2 ^ 64) (omega arith)))

pub number_end : (xs : List ℕ) (i v : ℕ) → digits_behind v (drop i xs) % 2 ^ 64 ≡ digits_behind 0 xs % 2 ^ 64 → length xs ≤ i → v < 2 ^ 64 → v ≡ digits_behind 0 xs % 2 ^ 64
number_end xs i v h past small = sym (mod-eq_of_lt small) ∙ sym (ap (λ cs. digits_behind v cs % 2 ^ 64) (drop_all i xs past)) ∙ h

pub hex_end : (xs : List ℕ) (i v : ℕ) → hex_value_after v (drop i xs) % 2 ^ 64 ≡ hex_value_after 0 xs % 2 ^ 64 → length xs ≤ i → v < 2 ^ 64 → v ≡ hex_value_after 0 xs % 2 ^ 64
hex_end xs i v h past small = sym (mod-eq_of_lt small) ∙ sym (ap (λ cs. hex_value_after v cs % 2 ^ 64) (drop_all i xs past)) ∙ h

-- ---- the last digits of 16

pub value_length : (xs : List ℕ) (n : ℕ) → xs ≡ hex 16 n → length xs ≡ 16
value_length xs n is = ap length is ∙ length-hex 16 n

drop-hex : (j k n : ℕ) → drop j (hex (j + k) n) ≡ hex k n
unfolding hex
drop-hex zero k n = let e : 0 + k ≡ k = omega arith in rw e refl
drop-hex (suc j) k n = let e : suc j + k ≡ suc (j + k) = omega arith in rw e (drop-hex j k n)

pub value_tail : (xs : List ℕ) (k n : ℕ) → k ≤ 16 → xs ≡ hex 16 n → drop (length xs - k) xs ≡ hex k n
value_tail xs k n few is =
    let all : 16 ≡ 16 - k + k = omega arith in
    let long : length xs - k ≡ 16 - k = omega (arith, value_length xs n is) in
    ap (λ j. drop j xs) long ∙ ap (drop (16 - k)) is ∙ ap (λ m. drop (16 - k) (hex m n)) all ∙ drop-hex (16 - k) k n

-- ---- what is written is read

digit_adds : (n c : ℕ) → 48 ≤ c → c ≤ 57 → digit_behind n c ≡ n * 10 + (c - 48)
digit_adds n c low high = rw (le-leb 48 c low, le-leb c 57 high) refl

numbers : IsNumeralModel (λ ds. all_ascii_digits ds ≡ true) (digits_behind 0)
numbers = numerals_by_fold _ tells_all_ascii_digits digits_behind (record { empty = λ n. refl; more = λ n c cs h. ap (λ m. digits_behind m cs) (digit_adds n c h.0 h.1) })

digits_behind-append : (n : ℕ) (xs ys : List ℕ) → digits_behind n (xs ++ ys) ≡ digits_behind (digits_behind n xs) ys
digits_behind-append n [] ys = refl
digits_behind-append n (x ∷ xs) ys = digits_behind-append (digit_behind n x) xs ys

-- a number, also behind a byte or two that are no digit
pub number_back : (n : ℕ) → n < 2 ^ 64 → number_in (decimal n) ≡ n
unfolding number_in
number_back n small = ap (λ x. x % 2 ^ 64) (digits_value-decimal numbers n small) ∙ mod-eq_of_lt small

other_adds_nothing : (n c : ℕ) → is_ascii_digit c ≡ false → digit_behind n c ≡ n
other_adds_nothing n c other = ap (λ t. if t then n * 10 + (c - 48) else n) other

-- also before a byte that is none
decimal_before : (d n : ℕ) → is_ascii_digit d ≡ false → n < 2 ^ 64 → digits_behind 0 (decimal n ++ d ∷ []) % 2 ^ 64 ≡ n
decimal_before d n behind small =
    ap (λ x. x % 2 ^ 64) (digits_behind-append 0 (decimal n) (d ∷ []) ∙ other_adds_nothing (digits_behind 0 (decimal n)) d behind ∙ digits_value-decimal numbers n small) ∙ mod-eq_of_lt small

pub marked_back : (c n : ℕ) → is_ascii_digit c ≡ false → n < 2 ^ 64 → number_in (c ∷ decimal n) ≡ n
unfolding number_in
marked_back c n other small =
    ap (λ m. digits_behind m (decimal n) % 2 ^ 64) (other_adds_nothing 0 c other) ∙ ap (λ x. x % 2 ^ 64) (digits_value-decimal numbers n small) ∙ mod-eq_of_lt small

pub closed_back : (c d n : ℕ) → is_ascii_digit c ≡ false → is_ascii_digit d ≡ false → n < 2 ^ 64 → number_in (c ∷ (decimal n ++ d ∷ [])) ≡ n
unfolding number_in
closed_back c d n before behind small =
    ap (λ m. digits_behind m (decimal n ++ d ∷ []) % 2 ^ 64) (other_adds_nothing 0 c before) ∙ decimal_before d n behind small

pub bracketed_back : (b c d n : ℕ) → is_ascii_digit b ≡ false → is_ascii_digit c ≡ false → is_ascii_digit d ≡ false → n < 2 ^ 64 → number_in (b ∷ c ∷ (decimal n ++ d ∷ [])) ≡ n
unfolding number_in
bracketed_back b c d n first before behind small =
    ap (λ m. digits_behind m (decimal n ++ d ∷ []) % 2 ^ 64) (ap (λ m. digit_behind m c) (other_adds_nothing 0 b first) ∙ other_adds_nothing 0 c before) ∙ decimal_before d n behind small

pub hex_in_back : (k n : ℕ) → n < 2 ^ (4 * k) → n < 2 ^ 64 → hex_in (hex k n) ≡ n
unfolding hex_in
hex_in_back k n fits small = ap (λ x. x % 2 ^ 64) (hex_back k n fits) ∙ mod-eq_of_lt small
