use Rattle.std.proofs.Common.{◌≡◌, ◌∙◌, ◌-◌, ◌<◌, ◌^◌, suc, ap, length, sym, arith, subst}
use Rattle.std.specs.Prelude.{IfSome, slice_get}
use Rattle.axp_pal.specs.Calls.{asks_of}
use Rattle.axp_cpu.specs.CallValues.{values_of}
use Rattle.axp_cpu.proofs.AskLemmas.{ask_found, call_next, call_small, never_past}
use Rattle.axp_cpu.proofs.calls.call.Goals as goal

pub reach_ask-requires : goal.reach_ask-requires
reach_ask-requires c =
    let asks = asks_of c.args.op c.args.table.now.state c.args.cpus in
    let found = ask_found asks c.as_slice.result.now (values_of c.args.values) c.len.result c.ask_at.result c.in-Some.ask (c.as_slice.ensures.value ∙ c.plan-plan.ensures.asks) c.len.ensures.value c.ask_at.ensures.value c.in-Some.is in
    call_small c.args.op c.args.table.now.state c.args.cpus _ c.in-Some.ask found (subst (λ o. IfSome o (λ ask. ask.value < 2 ^ 64)) c.in-Some.is c.ask_at.ensures.range)

pub returns-in-Some-clause-plan : goal.returns-in-Some-clause-plan
returns-in-Some-clause-plan c =
    let asks = asks_of c.args.op c.args.table.now.state c.args.cpus in
    let found = ask_found asks c.as_slice.result.now (values_of c.args.values) c.len.result c.ask_at.result c.in-Some.ask (c.as_slice.ensures.value ∙ c.plan-plan.ensures.asks) c.len.ensures.value c.ask_at.ensures.value c.in-Some.is in
    let some : c.args.left ≡ suc (c.args.left - 1) = omega (arith, c.if-left-eq0.false) in
    c.reach_ask.ensures.plan c.args.cpus ∙ sym (call_next c.args.size c.args.cpus c.args.op c.args.left (c.args.left - 1) (values_of c.args.values) c.args.table.now c.in-Some.ask some found)

-- an access is left, so it is there
pub returns-in-None-clause-fits : goal.returns-in-None-clause-fits
returns-in-None-clause-fits c =
    let asks = asks_of c.args.op c.args.table.now.state c.args.cpus in
    let same : c.as_slice.result.now ≡ asks = c.as_slice.ensures.value ∙ c.plan-plan.ensures.asks in
    let below : c.len.result < length asks = omega (arith, c.requires.whole, c.len.ensures.len, c.if-left-eq0.false) in
    absurd (never_past asks c.len.result below (ap (λ xs. slice_get xs c.len.result) (sym same) ∙ sym c.ask_at.ensures.value ∙ c.in-None.is))
