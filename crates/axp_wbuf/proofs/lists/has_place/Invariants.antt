use Rattle.std.proofs.Common.{◌≡◌, drop}
use Rattle.std.specs.List.{list_any}
use Rattle.axp_base.specs.Lines.{line_number}
use Rattle.axp_wbuf.specs.Pending.{is_at}
use Rattle.axp_wbuf.specs.Views.{all_pending}
use Rattle.axp_wbuf.proofs.lists.has_place.Given as goal

abbrev pub invariant-loop-entry : goal.invariant-loop-entry
invariant-loop-entry l = list_any (is_at l.group (line_number l.line)) (all_pending (drop l.entry-index l.entries)) ≡ list_any (is_at l.group (line_number l.line)) (all_pending l.entries)
