use Rattle.std.proofs.Common.{◌≡◌, length}
use Rattle.axp_trace.specs.Tails.{is_pairs}
use Rattle.axp_trace.proofs.tails.is_byte_pairs.Given as goal

abbrev pub invariant-loop-rest : goal.invariant-loop-rest
invariant-loop-rest l = is_pairs l.word ≡ is_pairs l.rest

abbrev pub decreases-loop-rest : goal.decreases-loop-rest
decreases-loop-rest l = length l.rest
