-- The registers and entries at the start.
use Rattle.std.proofs.Common.{◌≡◌, ℕ, zero, suc, Bool, true, false, cond, eqb, get_or, replicate, refl}
use Rattle.axp_regs.specs.declared.states.TheConstants.{REGISTERS, ZERO_REGISTER}
use Rattle.axp_regs.specs.States.{register, first_state}

pub get_or-replicate_same : (k n x : ℕ) → get_or (replicate k x) n x ≡ x
get_or-replicate_same zero n x = refl
get_or-replicate_same (suc k) zero x = refl
get_or-replicate_same (suc k) (suc n) x = get_or-replicate_same k n x

zero_either : (test : Bool) (x : ℕ) → x ≡ 0 → cond test 0 x ≡ 0
zero_either true x h = refl
zero_either false x h = h

pub first_register : (number n : ℕ) → register (first_state number) n ≡ 0
first_register number n = zero_either (eqb n ZERO_REGISTER) (get_or (replicate REGISTERS 0) n 0) (get_or-replicate_same REGISTERS n 0)
