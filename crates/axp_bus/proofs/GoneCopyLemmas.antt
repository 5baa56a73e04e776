-- One bit for each held copy.
use Rattle.std.proofs.Common.{◌≡◌, ℕ, zero, suc, ◌+◌, ◌-◌, ◌*◌, ◌/◌, ◌%◌, ◌^◌, ◌<◌, ◌≤◌, eqb, Bool, true, false, cond, Option, List, [], ◌∷◌, length, drop, slice_get, Some, arith, refl, sym, ap, ◌∙◌, drop-cons}
use mir.Val.{bool_byte}
use Rattle.std.proofs.Math.Nat.{div-div-eq-div-mul, pow-succ', zero-div}
use Rattle.std.proofs.Math.Pow.{pow_mono}
use Rattle.std.proofs.lemmas.List.{length-drop}
use Rattle.std.proofs.lemmas.Option.{get_or_from_slice_get}
use Rattle.std.specs.Option.{unwrap_or}
use Rattle.axp_base.specs.Masks.{has_bit}
use Rattle.axp_line.specs.declared.messages.TheConstants.{MAX_HELD}
use Rattle.axp_line.specs.BusReply.{PortState, gone, is_late}

-- bits of the copies from the n-th on
drop_all : (xs : List (ℕ × ℕ)) (n : ℕ) → n ≡ length xs → drop n xs ≡ []
drop_all [] n e = rw e refl
drop_all (x ∷ xs) zero e = absurd (omega (arith, e))
drop_all (x ∷ xs) (suc n) e = drop_all xs n (omega (arith, e))

pub gone_none : (f : PortState) (held : List (ℕ × ℕ)) → gone f (drop (length held) held) ≡ 0
gone_none f held = ap (gone f) (drop_all held (length held) refl)

drop_at : (xs : List (ℕ × ℕ)) (n : ℕ) (x : ℕ × ℕ) → 0 < n → n ≤ length xs → slice_get xs (n - 1) ≡ Some x → drop (n - 1) xs ≡ x ∷ drop n xs
drop_at xs n x some most at =
    let e : suc (n - 1) ≡ n = omega arith in
    drop-cons xs (n - 1) x (omega arith) ∙ ap (λ (y : ℕ × ℕ). y ∷ drop (suc (n - 1)) xs) (get_or_from_slice_get xs (n - 1) x x at) ∙ ap (λ j. x ∷ drop j xs) e

pub gone_more : (f : PortState) (held : List (ℕ × ℕ)) (n : ℕ) (x : ℕ × ℕ) → 0 < n → n ≤ length held → slice_get held (n - 1) ≡ Some x
    → gone f (drop (n - 1) held) ≡ cond (is_late f x.0 x.1) 1 0 + 2 * gone f (drop n held)
gone_more f held n x some most at = ap (gone f) (drop_at held n x some most at)

one_bit : (b : Bool) → cond b 1 0 ≤ 1
one_bit true = omega arith
one_bit false = omega arith

gone_below : (f : PortState) (held : List (ℕ × ℕ)) → gone f held < 2 ^ length held
gone_below f [] = omega arith
gone_below f (x ∷ held) = omega (arith, one_bit (is_late f x.0 x.1), gone_below f held, pow-succ' 2 (length held))

pub gone_small : (f : PortState) (held : List (ℕ × ℕ)) (n : ℕ) → length held ≤ MAX_HELD → gone f (drop n held) < 2 ^ 32
gone_small f held n few = omega (arith, gone_below f (drop n held), pow_mono {i = length (drop n held)} {j = 32} (omega (arith, length-drop n held)))

pub bit_is : (b c : Bool) → b ≡ c → bool_byte b ≡ cond c 1 0
bit_is b c e = one b ∙ ap (λ (x : Bool). cond x 1 0) e where
  one : (b : Bool) → bool_byte b ≡ cond b 1 0
  one true = refl
  one false = refl

-- bit n is 1 where something late reaches the n-th copy, and no other bit is
low_bit : (b : Bool) (g : ℕ) → has_bit (cond b 1 0 + 2 * g) 0 ≡ b
low_bit true g = let odd : (1 + 2 * g) / 2 ^ 0 % 2 ≡ 1 = omega arith in rw odd refl
low_bit false g = let even : (0 + 2 * g) / 2 ^ 0 % 2 ≡ 0 = omega arith in rw even refl

halved : (b : Bool) (g : ℕ) → (cond b 1 0 + 2 * g) / 2 ≡ g
halved true g = omega arith
halved false g = omega arith

high_bit : (b : Bool) (g n : ℕ) → has_bit (cond b 1 0 + 2 * g) (suc n) ≡ has_bit g n
high_bit b g n =
    let shifted : (cond b 1 0 + 2 * g) / 2 ^ suc n ≡ g / 2 ^ n =
    ap (λ k. (cond b 1 0 + 2 * g) / k) (pow-succ' 2 n) ∙ sym (div-div-eq-div-mul (cond b 1 0 + 2 * g) 2 (2 ^ n)) ∙ ap (λ k. k / 2 ^ n) (halved b g) in
    ap (λ k. eqb (k % 2) 1) shifted

no_bit : (n : ℕ) → has_bit 0 n ≡ false
no_bit n = ap (λ k. eqb (k % 2) 1) (zero-div (2 ^ n))

pub gone_has : (f : PortState) (held : List (ℕ × ℕ)) (n : ℕ) (x : ℕ × ℕ) → slice_get held n ≡ Some x → has_bit (gone f held) n ≡ is_late f x.0 x.1
gone_has f [] n x at = cc
gone_has f (y ∷ held) zero x at = let same : y ≡ x = ap (λ (o : Option (ℕ × ℕ)). unwrap_or o y) at in low_bit (is_late f y.0 y.1) (gone f held) ∙ ap (λ (z : ℕ × ℕ). is_late f z.0 z.1) same
gone_has f (y ∷ held) (suc n) x at = high_bit (is_late f y.0 y.1) (gone f held) n ∙ gone_has f held n x at

pub gone_has_no_more : (f : PortState) (held : List (ℕ × ℕ)) (n : ℕ) → length held ≤ n → has_bit (gone f held) n ≡ false
gone_has_no_more f [] n past = no_bit n
gone_has_no_more f (y ∷ held) zero past = absurd (omega (arith, past))
gone_has_no_more f (y ∷ held) (suc n) past = high_bit (is_late f y.0 y.1) (gone f held) n ∙ gone_has_no_more f held n (omega (arith, past))
