-- Digits, and the numbers that they give back.
use Rattle.std.proofs.Common.{◌-◌, append-nil, suc, zero, ◌≡◌, ℕ, ◌+◌, ◌*◌, ◌/◌, ◌%◌, ◌^◌, ◌<◌, ◌≤◌, List, [], ◌∷◌, ◌++◌, length, refl, ap, ◌∙◌, sym, arith, add-one, append_assoc, ⊎_elim, get_or, drop, drop-cons}
use Rattle.std.specs.Prelude.{decimal, Some, None, Option, IfSome, Bool, true, false, nat_lt, nat_le, if◌then◌else◌, ◌&&◌}
use Rattle.std.specs.Str.{all_ascii_digits}
use Rattle.std.proofs.lemmas.Str.Parse.{IsNumeralModel, numerals_by_fold, tells_all_ascii_digits}
use Rattle.std.proofs.lemmas.Fmt.{length-decimal-le, digits_value-decimal}
use Rattle.std.proofs.lemmas.Nat.{pow-add, mod-pow-add, mod_below, pow_pos}
use Rattle.std.proofs.Math.Nat.{mod-eq_of_lt}
use Rattle.std.proofs.Math.Pow.{pow_mono}
use Rattle.std.proofs.lemmas.Bool.{cases_lt, lt-ltb, le-ltb, le-leb, lt-leb, leb-true}
use Rattle.axp_trace.specs.Digits.{within, number_within, hex, hex_digit, hex_digit_value, hex_value_after, hex_value, hex_number_of, decimal_value_after, number_of}

pub short_decimal : (n : ℕ) → n < 2 ^ 32 → length (decimal n) ≤ 10
short_decimal n small = length-decimal-le 10 n (omega arith) (omega arith) (omega arith)

pub short_byte : (n : ℕ) → n < 2 ^ 8 → length (decimal n) ≤ 3
short_byte n small = length-decimal-le 3 n (omega arith) (omega arith) (omega arith)

hex_more : (k n : ℕ) → hex (k + 1) n ≡ hex_digit (n / 2 ^ (4 * k) % 16) ∷ hex k n
unfolding hex
hex_more k n = rw add-one refl

pub short_long : (n : ℕ) → n < 2 ^ 64 → length (decimal n) ≤ 20
short_long n small = length-decimal-le 20 n (omega arith) (omega arith) (omega arith)

hex_step : (out all : List ℕ) (k n d : ℕ) → d ≡ hex_digit (n / 2 ^ (4 * k) % 16) → out ++ hex (k + 1) n ≡ all → (out ++ d ∷ []) ++ hex k n ≡ all
hex_step out all k n d is h = append_assoc out (d ∷ []) (hex k n) ∙ rw (is, ← hex_more k n) h

-- one turn of the loop that writes digits
pub hex_turn : (out all : List ℕ) (k n d : ℕ) → 0 < k → d ≡ hex_digit (n / 2 ^ (4 * (k - 1)) % 16) → out ++ hex k n ≡ all → (out ++ d ∷ []) ++ hex (k - 1) n ≡ all
hex_turn out all k n d some is h =
    let e : k ≡ k - 1 + 1 = omega arith in
    hex_step out all (k - 1) n d is (ap (λ j. out ++ hex j n) (sym e) ∙ h)

-- its end
pub hex_none : (out all : List ℕ) (k n : ℕ) → k ≤ 0 → out ++ hex k n ≡ all → out ≡ all
unfolding hex
hex_none out all zero n none h = sym (append-nil out) ∙ h
hex_none out all (suc k) n none h = absurd (omega arith)

pub length-hex : (k n : ℕ) → length (hex k n) ≡ k
unfolding hex
length-hex zero n = refl
length-hex (suc k) n = ap suc (length-hex k n)

pub small_digit : (c : ℕ) → hex_digit_value c < 16
small_digit c = mod_below (if nat_lt c 65 then c - 48 else c - 55) 16 (omega arith)

digit_back : (d : ℕ) → d < 16 → hex_digit_value (hex_digit d) ≡ d
digit_back d small = ⊎_elim
    (λ low. rw (lt-ltb d 10 low) (let k : 48 + d < 65 = omega arith in rw (lt-ltb (48 + d) 65 k) (let e : 48 + d - 48 ≡ d = omega arith in rw e (mod-eq_of_lt small))))
    (λ high. rw (le-ltb d 10 high) (let k : 65 ≤ 55 + d = omega arith in rw (le-ltb (55 + d) 65 k) (let e : 55 + d - 55 ≡ d = omega arith in rw e (mod-eq_of_lt small))))
    (cases_lt d 10)

hex_value_after-hex : (k n acc : ℕ) → hex_value_after acc (hex k n) ≡ acc * 2 ^ (4 * k) + n % 2 ^ (4 * k)
unfolding hex
hex_value_after-hex zero n acc = omega (arith, mod_below n 1 (omega arith))
hex_value_after-hex (suc k) n acc =
    let e : 4 * suc k ≡ 4 + 4 * k = omega arith in
    let d : hex_digit_value (hex_digit (n / 2 ^ (4 * k) % 16)) ≡ n / 2 ^ (4 * k) % 16 = digit_back _ (mod_below (n / 2 ^ (4 * k)) 16 (omega arith)) in
    let shown : hex_value_after acc (hex (suc k) n) ≡ (acc * 16 + n / 2 ^ (4 * k) % 16) * 2 ^ (4 * k) + n % 2 ^ (4 * k) =
    hex_value_after-hex k n (acc * 16 + hex_digit_value (hex_digit (n / 2 ^ (4 * k) % 16))) ∙ ap (λ x. (acc * 16 + x) * 2 ^ (4 * k) + n % 2 ^ (4 * k)) d in
    let power : 2 ^ (4 * suc k) ≡ 16 * 2 ^ (4 * k) = ap (λ j. 2 ^ j) e ∙ pow-add 2 4 (4 * k) in
    let rest : n % 2 ^ (4 * suc k) ≡ (n / 2 ^ (4 * k) % 16) * 2 ^ (4 * k) + n % 2 ^ (4 * k) = ap (λ j. n % 2 ^ j) e ∙ mod-pow-add n 4 (4 * k) in
    shown ∙ rw (rest, power) (regroup acc (n / 2 ^ (4 * k) % 16) (2 ^ (4 * k)) (n % 2 ^ (4 * k)))
  where
    regroup : (a d p m : ℕ) → (a * 16 + d) * p + m ≡ a * (16 * p) + (d * p + m)
    regroup a d p m = omega arith

-- the digits of a number that they have room for give the number back
pub hex_back : (k n : ℕ) → n < 2 ^ (4 * k) → hex_value (hex k n) ≡ n
hex_back k n small = hex_value_after-hex k n 0 ∙ omega (arith, mod-eq_of_lt small)

-- digits of a width are read as their number
pub hex_number_back : (k n : ℕ) → n < 2 ^ (4 * k) → hex_number_of k (hex k n) ≡ Some n
hex_number_back k n small = rw (length-hex k n, le-leb k k (omega arith)) (ap Some (hex_back k n small))

-- one turn of the loop that reads hexadecimal digits
pub hex_number_turn : (xs : List ℕ) (i v d all : ℕ) → i < length xs → d ≡ hex_digit_value (get_or xs i 0) → hex_value_after v (drop i xs) ≡ all → hex_value_after (v * 16 + d) (drop (i + 1) xs) ≡ all
hex_number_turn xs i v d all below is h =
    let cell : drop i xs ≡ get_or xs i 0 ∷ drop (suc i) xs = drop-cons xs i 0 below in
    rw (add-one, is) (sym (ap (hex_value_after v) cell) ∙ h)

-- the number so far stays small
pub hex_number_fits : (v d i : ℕ) → v < 2 ^ (4 * i) → d < 16 → v * 16 + d < 2 ^ (4 * (i + 1))
hex_number_fits v d i h k =
    let e : 4 * (i + 1) ≡ 4 + 4 * i = omega arith in
    rw (e, pow-add 2 4 (4 * i)) (omega arith)

pub hex_number_room : (v i : ℕ) → v < 2 ^ (4 * i) → i < 16 → v < 2 ^ 60
hex_number_room v i h m = let up : 4 * i ≤ 60 = omega arith in omega (arith, pow_mono up)

-- as many digits as are read bound their number
hex_after_fits : (acc m : ℕ) (cs : List ℕ) → acc < 2 ^ m → hex_value_after acc cs < 2 ^ (m + 4 * length cs)
hex_after_fits acc m [] h = let e : m + 4 * 0 ≡ m = omega arith in rw e h
hex_after_fits acc m (c ∷ cs) h =
    let d = small_digit c in
    let more : 2 ^ (m + 4) ≡ 2 ^ m * 2 ^ 4 = pow-add 2 m 4 in
    let next : acc * 16 + hex_digit_value c < 2 ^ (m + 4) = rw more (omega arith) in
    let e : m + 4 * suc (length cs) ≡ m + 4 + 4 * length cs = omega arith in
    rw e (hex_after_fits (acc * 16 + hex_digit_value c) (m + 4) cs next)

pub hex_number_small : (most : ℕ) (word : List ℕ) → IfSome (hex_number_of most word) (λ n. n < 2 ^ (4 * most))
hex_number_small most word = ⊎_elim
    (λ more. rw (lt-leb (length word) most more) tt)
    (λ few. let up : 4 * length word ≤ 4 * most = omega arith in
    let none : 0 + 4 * length word ≡ 4 * length word = omega arith in
    let small : hex_value word < 2 ^ (4 * length word) = rw (← none) (hex_after_fits 0 0 word (omega arith)) in
    let power : 2 ^ (4 * length word) ≤ 2 ^ (4 * most) = pow_mono up in
    let fits : hex_value word < 2 ^ (4 * most) = omega arith in
    rw (le-leb (length word) most few) fits)
    (cases_lt most (length word))

-- a number in limits is one that is read
pub within_back : (least most n : ℕ) → least ≤ n → n ≤ most → within least most (Some n) ≡ Some n
within_back least most n low high = rw (le-leb least n low, le-leb n most high) refl

pub within_limits : (least most : ℕ) (n : Option ℕ) → IfSome (within least most n) (λ k. (least ≤ k) × (k ≤ most))
within_limits least most None = tt
within_limits least most (Some n) = by (nat_le least n) (nat_le n most) refl refl
  where
    by : (low high : Bool) → nat_le least n ≡ low → nat_le n most ≡ high → IfSome (if low && high then Some n else None) (λ k. (least ≤ k) × (k ≤ most))
    by true true l h = (leb-true least n l, leb-true n most h)
    by true false l h = tt
    by false high l h = tt

-- decimal digits are read from the left
numbers : IsNumeralModel (λ ds. all_ascii_digits ds ≡ true) (decimal_value_after 0)
numbers = numerals_by_fold _ tells_all_ascii_digits decimal_value_after (record { empty = λ n. refl; more = λ n c cs h. refl })

pub decimal_back : (n : ℕ) → n < 2 ^ 32 → number_of (decimal n) ≡ Some n
decimal_back n small =
    rw (le-leb (length (decimal n)) 10 (short_decimal n small)) (ap Some (digits_value-decimal numbers n (omega arith)))

pub number_back : (least most n : ℕ) → least ≤ n → n ≤ most → most < 2 ^ 32 → number_within least most (decimal n) ≡ Some n
number_back least most n low high small = ap (within least most) (decimal_back n (omega arith)) ∙ within_back least most n low high

-- one turn of the loop that reads digits
pub number_turn : (xs : List ℕ) (i v d all : ℕ) → i < length xs → d ≡ get_or xs i 0 - 48 → decimal_value_after v (drop i xs) ≡ all → decimal_value_after (v * 10 + d) (drop (i + 1) xs) ≡ all
number_turn xs i v d all below is h =
    let cell : drop i xs ≡ get_or xs i 0 ∷ drop (suc i) xs = drop-cons xs i 0 below in
    rw (add-one, is) (sym (ap (decimal_value_after v) cell) ∙ h)

-- the number so far stays small
pub number_fits : (v d i : ℕ) → v < 2 ^ (4 * i + 6) → d < 2 ^ 8 - 48 → v * 10 + d < 2 ^ (4 * (i + 1) + 6)
number_fits v d i h k =
    let e : 4 * (i + 1) + 6 ≡ 4 + (4 * i + 6) = omega arith in
    let f : 4 * i + 6 ≡ 6 + 4 * i = omega arith in
    let more : 2 ^ (6 + 4 * i) ≡ 2 ^ 6 * 2 ^ (4 * i) = pow-add 2 6 (4 * i) in
    let pos = pow_pos (4 * i) in
    let large : 64 * 2 ^ (4 * i) ≡ 2 ^ (4 * i + 6) = sym (ap (λ j. 2 ^ j) f ∙ more) in
    rw (e, pow-add 2 4 (4 * i + 6)) (omega arith)

pub number_room : (v i : ℕ) → v < 2 ^ (4 * i + 6) → i ≤ 10 → v < 2 ^ 46
number_room v i h m = let up : 4 * i + 6 ≤ 46 = omega arith in omega (arith, pow_mono up)
