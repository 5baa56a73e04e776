use Rattle.std.proofs.Common.{◌≡◌, drop}
use Rattle.axp_base.specs.Lines.{line_number}
use Rattle.axp_line.specs.Lines.{bytes_of_line}
use Rattle.axp_wbuf.specs.Pending.{overlaid}
use Rattle.axp_wbuf.specs.Views.{all_pending}
use Rattle.axp_wbuf.proofs.lists.overlay_each.Given as goal

abbrev pub invariant-loop-n : goal.invariant-loop-n
invariant-loop-n l = overlaid (line_number l.line) (all_pending (drop l.n l.entries)) (bytes_of_line l.onto) ≡ overlaid (line_number l.line) (all_pending l.entries) (bytes_of_line l.fn.onto)
