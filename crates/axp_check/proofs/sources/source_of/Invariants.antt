use Rattle.std.proofs.Common.{◌≡◌, ◌≤◌, IfSome, length}
use Rattle.axp_access.specs.Lists.{access_at, accesses_to, times_of}
use Rattle.axp_model.specs.Sources.{can_give, latest}
use Rattle.axp_check.specs.Sources.{source_number}
use Rattle.axp_check.proofs.sources.source_of.Given as goal

abbrev pub invariant-loop-i : goal.invariant-loop-i
invariant-loop-i l = record {
  within : l.latest ≤ length l.list.items;
  so_far : IfSome (access_at l.list l.n) (λ v. l.latest ≡ source_number (latest (times_of l.list) (can_give (times_of l.list) l.at v) (accesses_to l.list l.i)));
}
