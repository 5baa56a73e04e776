use Rattle.std.proofs.Common.{◌≡◌, ◌∙◌, ◌-◌, ◌<◌, ◌^◌, suc, sym, arith, subst}
use Rattle.std.specs.Prelude.{IfSome}
use Rattle.axp_trap.specs.Frames.{frame_of}
use Rattle.axp_cpu.proofs.AskLemmas.{frame_small, save_next, word_found}
use Rattle.axp_cpu.proofs.frames.save.Goals as goal

pub reach_ask-requires : goal.reach_ask-requires
reach_ask-requires c =
    let found = word_found (frame_of c.args.cause c.args.table.now.state) c.as_slice-2.result.now c.as_slice.result.now c.args.left c.from.result c.saturating_sub-word.result c.ask_at.result c.in-Some.ask (c.as_slice-2.ensures.value ∙ c.frame-words.ensures) (c.as_slice.ensures.value ∙ c.frame-words.ensures) c.from.ensures c.saturating_sub-word.ensures c.ask_at.ensures.value c.in-Some.is in
    frame_small c.args.cause c.args.table.now.state _ c.in-Some.ask found (subst (λ o. IfSome o (λ ask. ask.value < 2 ^ 64)) c.in-Some.is c.ask_at.ensures.range)

pub returns-in-Some-clause-plan : goal.returns-in-Some-clause-plan
returns-in-Some-clause-plan c = λ cpus.
    let found = word_found (frame_of c.args.cause c.args.table.now.state) c.as_slice-2.result.now c.as_slice.result.now c.args.left c.from.result c.saturating_sub-word.result c.ask_at.result c.in-Some.ask (c.as_slice-2.ensures.value ∙ c.frame-words.ensures) (c.as_slice.ensures.value ∙ c.frame-words.ensures) c.from.ensures c.saturating_sub-word.ensures c.ask_at.ensures.value c.in-Some.is in
    let some : c.args.left ≡ suc (c.args.left - 1) = omega (arith, c.if-left-eq0.false) in
    c.reach_ask.ensures.plan cpus ∙ sym (save_next c.args.size c.args.cause c.args.left (c.args.left - 1) c.args.table.now c.in-Some.ask some found)

pub returns-in-Some-clause-fits : goal.returns-in-Some-clause-fits
returns-in-Some-clause-fits c = λ cpus. c.reach_ask.ensures.fits cpus tt
