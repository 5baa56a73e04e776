use Rattle.std.proofs.Common.{ap, refl, sym, ◌∙◌}
use Rattle.axp_explain.proofs.RefusalLemmas.{behind_legal, ends_here, no_event, refused_here, unchanged}
use Rattle.axp_explain.specs.Reasons.{event_in, reason_among}
use Rattle.axp_machine.specs.Runs.{Seen, processors_of}
use Rattle.axp_trace.specs.Files.{lines_of}
use Rattle.axp_world.specs.Reasons.{reason}
use Rattle.axp_explain.proofs.refusals.reason_among.Goals as goal

pub returns-in_default-event_in : goal.returns-in_default-event_in
returns-in_default-event_in c =
    no_event c.args.header.now c.loop-line.machine _ _ _ c.in-Some.ensures.lines (ap event_in (sym c.read_line.ensures.value) ∙ sym c.event_in.ensures ∙ c.in_default-event_in.is) ∙ sym c.loop-line.invariant

pub loop-line-preserved : goal.loop-line-preserved
loop-line-preserved c =
    c.loop-line.invariant
    ∙ behind_legal c.args.header.now c.loop-line.machine _ _ _ c.in-Some-event_in.event _ c.in-Some.ensures.lines (ap event_in (sym c.read_line.ensures.value) ∙ sym c.event_in.ensures ∙ c.in-Some-event_in.is) (sym c.in-Ok.ensures.answer)
    ∙ ap (λ (m : Seen). reason_among c.args.header.now m (lines_of c.in-Some.more.now)) (sym c.event.ensures.after)

pub returns-in-Err : goal.returns-in-Err
returns-in-Err c =
    c.reason.ensures.value
    ∙ ap (λ (m : Seen). reason (processors_of m) m.records c.in-Some-event_in.event) (c.event.ensures.after ∙ unchanged c.loop-line.machine c.in-Some-event_in.event _ (sym c.in-Err.ensures.answer))
    ∙ refused_here c.args.header.now c.loop-line.machine _ _ _ c.in-Some-event_in.event _ c.in-Some.ensures.lines (ap event_in (sym c.read_line.ensures.value) ∙ sym c.event_in.ensures ∙ c.in-Some-event_in.is) (sym c.in-Err.ensures.answer)
    ∙ sym c.loop-line.invariant

pub returns : goal.returns
returns c = ends_here c.args.header.now c.loop-line.machine _ _ (c.in_default.ensures.last refl) ∙ sym c.loop-line.invariant
