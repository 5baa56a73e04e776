use Rattle.std.proofs.Common.{◌≡◌, drop}
use Rattle.std.specs.List.{list_any}
use Rattle.axp_wbuf.specs.Pending.{is_numbered}
use Rattle.axp_wbuf.specs.Views.{all_pending}
use Rattle.axp_wbuf.proofs.lists.any_numbered.Given as goal

abbrev pub invariant-loop-entry : goal.invariant-loop-entry
invariant-loop-entry l = list_any (is_numbered l.number) (all_pending (drop l.entry-index l.entries)) ≡ list_any (is_numbered l.number) (all_pending l.entries)
