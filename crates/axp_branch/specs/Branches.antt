-- When a branch is taken, and where it goes. a is the value of Ra, next the updated program counter.
use Rattle.std.specs.Prelude.{ℕ, ◌%◌, Bool, true, not, ◌==◌, ◌||◌}
use Rattle.axp_base.specs.Numbers.{add, mul, is_negative, sign_extended}
use Rattle.axp_decode.specs.declared.names.BranchOp.{BranchOp}
use Rattle.axp_decode.specs.declared.names.BranchOp.TheVariants.{BR, BSR, BLBC, BLBS, BEQ, BNE, BLT, BLE, BGE, BGT}

unfoldable pub is_taken : BranchOp → ℕ → Bool
is_taken BR a = true
is_taken BSR a = true
is_taken BLBC a = a % 2 == 0
is_taken BLBS a = a % 2 == 1
is_taken BEQ a = a == 0
is_taken BNE a = not (a == 0)
is_taken BLT a = is_negative a
is_taken BLE a = is_negative a || (a == 0)
is_taken BGE a = not (is_negative a)
is_taken BGT a = not (is_negative a || (a == 0))

-- the displacement of 21 bits counts instructions, of 4 bytes each
abbrev pub target_of : ℕ → ℕ → ℕ
target_of next disp = add next (mul (sign_extended 21 disp) 4)
