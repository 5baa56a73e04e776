use Rattle.axp_base.specs.Cpus.{cpu_number}
use Rattle.axp_check.specs.LastBarriers.{IsLastBarrier}
use Rattle.axp_check.proofs.barrier.last_write_barrier.Given as goal

abbrev pub invariant-loop-n : goal.invariant-loop-n
invariant-loop-n l = IsLastBarrier l.list (cpu_number l.cpu) l.n l.last
