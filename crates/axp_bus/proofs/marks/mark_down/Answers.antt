use Rattle.std.proofs.Common.{Some, subst}
use Rattle.axp_line.specs.Lines.{bytes_of_line}
use Rattle.axp_line.specs.BusCalls.{stored_bytes}
use Rattle.axp_bus.specs.Marks.{Marked}
use Rattle.axp_bus.proofs.marks.mark_down.Goals as goal

pub returns-in-Drain : goal.returns-in-Drain
returns-in-Drain c = rw (c.in-Stored.is, c.in-Drain.is) (c.mark_line.ensures (bytes_of_line c.in-Drain.bytes))

pub returns-in-Conditional : goal.returns-in-Conditional
returns-in-Conditional c =
    let bytes = stored_bytes c.in-Conditional.address c.in-Conditional.size c.in-Conditional.value in
    let marked = c.mark_line-in-Conditional.ensures bytes in
    rw (c.in-Stored.is, c.in-Conditional.is)
    (subst (λ l. Marked (Some (record { line = l; bits = Rattle.axp_base.specs.Masks.span_of c.in-Conditional.address c.in-Conditional.size; bytes = bytes })) c.args.marks.now c.mark_line-in-Conditional.new.marks) c.of.ensures.line
    (subst (λ bits. Marked (Some (record { line = c.of.result; bits = bits; bytes = bytes })) c.args.marks.now c.mark_line-in-Conditional.new.marks) c.span.ensures marked))
