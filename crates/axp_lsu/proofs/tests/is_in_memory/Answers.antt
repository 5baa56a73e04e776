use Rattle.std.proofs.Common.{◌^◌, subst, sym}
use Rattle.axp_lsu.specs.Within.{IsWantedWithin}
use Rattle.axp_lsu.proofs.tests.is_in_memory.Goals as goal

pub returns-in-Some-clause-some : goal.returns-in-Some-clause-some
returns-in-Some-clause-some c =
    λ yes. record { size = 2 ^ 16; within = subst (IsWantedWithin (2 ^ 16)) (sym c.in-Some.is) (c.lies_in_memory.ensures yes) }
