use Rattle.std.proofs.Common.{◌≡◌, ◌-◌}
use Rattle.axp_base.specs.Cpus.{cpu_number}
use Rattle.axp_order.proofs.WriteBarriers.{parts_to}
use Rattle.axp_order.proofs.pairs.is_parted.Given as goal

abbrev pub invariant-loop-n : goal.invariant-loop-n
invariant-loop-n l = parts_to l.list (cpu_number l.cpu) (l.n - 1) ≡ parts_to l.list (cpu_number l.cpu) (l.i - 1)
