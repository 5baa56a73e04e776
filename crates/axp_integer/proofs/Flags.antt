-- The flag of `overflowing_add` and its kin as a test, and what the test says.
use Rattle.std.proofs.Common.{◌≡◌, ◌↔◌, ℕ, ◌+◌, ◌-◌, ◌*◌, ◌%◌, ◌^◌, ◌<◌, Bool, true, false, ℤ, pos, negsuc, ◌+ℤ◌, ◌-ℤ◌, ◌*ℤ◌, FitsSigned, arith, sym, ◌∙◌, ⊎_elim}
use Rattle.std.specs.Bool.{FalseIff}
use Rattle.std.specs.Int.{Width, cast_signed}
use Rattle.std.proofs.lemmas.Bool.{le-leb, lt-leb, leb-true, leb-false, cases_lt}
use Rattle.std.proofs.lemmas.Int.{wrapping_add-bits, wrapping_sub-bits, wrapping_mul-bits, int_wrap_fits}
use mir.Val.{hbits, bits}
use Rattle.axp_integer.specs.Results.{overflows}

pub flag : (w : Width) (b : Bool) (z : ℤ) → FalseIff b (FitsSigned w z) → b ≡ overflows (hbits w) z
unfolding overflows
flag w true (pos n) h = ⊎_elim (λ lt. absurd (h (record { sfits = lt }))) (λ le. sym (le-leb _ _ le)) (cases_lt n (2 ^ hbits w))
flag w true (negsuc n) h = ⊎_elim (λ lt. absurd (h (record { sfits = lt }))) (λ le. sym (le-leb _ _ le)) (cases_lt n (2 ^ hbits w))
flag w false (pos n) h = sym (lt-leb _ _ h.sfits)
flag w false (negsuc n) h = sym (lt-leb _ _ h.sfits)

told : (w : Width) (z : ℤ) → overflows (hbits w) z ≡ true → FitsSigned w z → ⊥
unfolding overflows
told w (pos n) e f = omega (arith, leb-true _ _ e, f.sfits)
told w (negsuc n) e f = omega (arith, leb-true _ _ e, f.sfits)

told_since : (w : Width) (z : ℤ) → (FitsSigned w z → ⊥) → overflows (hbits w) z ≡ true
unfolding overflows
told_since w (pos n) h = ⊎_elim (λ lt. absurd (h (record { sfits = lt }))) (λ le. le-leb _ _ le) (cases_lt n (2 ^ hbits w))
told_since w (negsuc n) h = ⊎_elim (λ lt. absurd (h (record { sfits = lt }))) (λ le. le-leb _ _ le) (cases_lt n (2 ^ hbits w))

-- the test is true exactly where the integer does not fit
pub overflows_no_fit : (w : Width) (z : ℤ) → (overflows (hbits w) z ≡ true) ↔ (FitsSigned w z → ⊥)
overflows_no_fit w z = (told w z, told_since w z)

fits_untold : (w : Width) (z : ℤ) → overflows (hbits w) z ≡ false → FitsSigned w z
unfolding overflows
fits_untold w (pos n) e = record { sfits = leb-false _ _ e }
fits_untold w (negsuc n) e = record { sfits = leb-false _ _ e }

-- where the test is false, the bits are those of the exact sum, difference or product
pub add_exact : (w : Width) (m n : ℕ) → m < 2 ^ bits w → n < 2 ^ bits w → overflows (hbits w) (cast_signed w m +ℤ cast_signed w n) ≡ false → cast_signed w ((m + n) % 2 ^ bits w) ≡ cast_signed w m +ℤ cast_signed w n
add_exact w m n p q e = wrapping_add-bits w m n p q ∙ int_wrap_fits w _ (fits_untold w _ e)

pub sub_exact : (w : Width) (m n : ℕ) → m < 2 ^ bits w → n < 2 ^ bits w → overflows (hbits w) (cast_signed w m -ℤ cast_signed w n) ≡ false → cast_signed w ((m + (2 ^ bits w - n)) % 2 ^ bits w) ≡ cast_signed w m -ℤ cast_signed w n
sub_exact w m n p q e = wrapping_sub-bits w m n p q ∙ int_wrap_fits w _ (fits_untold w _ e)

pub mul_exact : (w : Width) (m n : ℕ) → m < 2 ^ bits w → n < 2 ^ bits w → overflows (hbits w) (cast_signed w m *ℤ cast_signed w n) ≡ false → cast_signed w (m * n % 2 ^ bits w) ≡ cast_signed w m *ℤ cast_signed w n
mul_exact w m n p q e = wrapping_mul-bits w m n p q ∙ int_wrap_fits w _ (fits_untold w _ e)
