use Rattle.std.proofs.Common.{◌≡◌, ◌+◌, ◌*◌, ◌/◌, ◌<◌, false, ◌||◌, length, get_or, ap, ◌∙◌, subst, arith}
use Rattle.axp_base.specs.Lines.{line_number}
use Rattle.axp_base.specs.Masks.{mask_bits}
use Rattle.axp_bus.specs.Marks.{LINE_QUADWORDS, MarkedBelow}
use Rattle.axp_bus.proofs.MarkLemmas.{other_way, marked_start, marked_step, marked_all}
use Rattle.axp_bus.proofs.marks.mark_line.Goals as goal

pub loop-n-init : goal.loop-n-init
loop-n-init c = marked_start _ _ _

pub loop-n-preserved : goal.loop-n-preserved
loop-n-preserved c =
    let line = line_number c.args.line in
    let at = c.address.result / 8 + c.from.result in
    let here : at ≡ line * LINE_QUADWORDS + c.loop-n.n = omega (arith, c.address.ensures, c.from.ensures) in
    let below : line * LINE_QUADWORDS + c.loop-n.n < length c.loop-n.marks = omega (arith, c.requires.whole, c.requires.inside, c.loop-n-test.true, c.loop-n.auto.marks) in
    marked_step c.loop-n.n line (mask_bits c.args.mask) at c.args.marks.now c.loop-n.marks (get_or c.loop-n.marks at false || c.has_part.result) c.loop-n.invariant here (omega (arith, here, below))
    (other_way (get_or c.loop-n.marks at false) c.has_part.result ∙ ap (λ b. b || get_or c.loop-n.marks at false) c.has_part.ensures)

pub returns : goal.returns
returns c = λ bytes.
    marked_all (record { line = c.args.line; bits = mask_bits c.args.mask; bytes = bytes }) c.args.marks.now c.loop-n.marks
    (subst (λ n. MarkedBelow n (line_number c.args.line) (mask_bits c.args.mask) c.args.marks.now c.loop-n.marks) (omega (arith, c.loop-n-test.false, c.loop-n.auto.n-end)) c.loop-n.invariant)
