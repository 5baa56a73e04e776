use Rattle.std.proofs.Common.{◌≡◌, ◌+◌, drop, length}
use Rattle.axp_wbuf.specs.Drains.{in_front}
use Rattle.axp_wbuf.specs.Views.{all_pending}
use Rattle.axp_wbuf.proofs.lists.front_count.Given as goal

abbrev pub invariant-loop-n : goal.invariant-loop-n
invariant-loop-n l = l.n + length (in_front l.group (all_pending (drop l.n l.entries))) ≡ length (in_front l.group (all_pending l.entries))
