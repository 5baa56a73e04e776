use Rattle.std.proofs.Common.{◌≡◌, drop}
use Rattle.std.specs.List.{position_from}
use Rattle.axp_base.specs.Lines.{line_number}
use Rattle.axp_wbuf.specs.Pending.{is_at}
use Rattle.axp_wbuf.specs.Views.{all_pending}
use Rattle.axp_wbuf.proofs.lists.place_in.Given as goal

abbrev pub invariant-loop-n : goal.invariant-loop-n
invariant-loop-n l = position_from (is_at l.group (line_number l.line)) l.n (all_pending (drop l.n l.entries)) ≡ position_from (is_at l.group (line_number l.line)) 0 (all_pending l.entries)
