use Rattle.std.proofs.Common.{◌<◌, ◌≤◌, ap, arith, subst, ◌∙◌}
use Rattle.axp_base.specs.Cpus.{cpu_number}
use Rattle.axp_image.specs.Contents.{IsValid}
use Rattle.axp_machine.proofs.OfferLemmas.{drops_shown, needs_shown, nothing_dropped, nothing_legal, nothing_needed, nothing_spent, offer_whole, offered_legal, spent_shown}
use Rattle.axp_machine.specs.Playing.{actor_of}
use Rattle.axp_machine.specs.Runs.{IsRun, Seen}
use Rattle.axp_machine.proofs.machine.Machine.offer.Goals as goal

past : (c : goal.After-nothing) → c.args.self.now.cpus ≤ cpu_number c.args.cpu
past c = let count = ap (λ (m : Seen). m.cpus) c.self.view_is in omega (arith, count, c.if-from-len.true, c.len.ensures, c.from.ensures, c.number.ensures.value)

pub returns-then-from-len-clause-legal : goal.returns-then-from-len-clause-legal
returns-then-from-len-clause-legal c = nothing_legal c.args.self.now c.args.cpu c.nothing.result c.nothing.ensures (past c)

below : (c : goal.After-may_take-2) → cpu_number c.args.cpu < c.args.self.now.cpus
below c = let count = ap (λ (m : Seen). m.cpus) c.self.view_is in omega (arith, count, c.if-from-len.false, c.len.ensures, c.from.ensures, c.number.ensures.value)

valid : (c : goal.After-may_take-2) → IsValid c.args.self.now.image
valid c = subst (λ (m : Seen). IsValid m.image) c.self.view_is c.self.invariant.valid

run : (c : goal.After-may_take-2) → IsRun c.args.self.now
run c = subst IsRun c.self.view_is c.self.invariant.run

pub returns-clause-legal : goal.returns-clause-legal
returns-clause-legal c =
    offered_legal c.args.self.now c.args.cpu c.offer-offer.result c.may_take.result c.may_take-2.result (valid c) (run c) (below c)
    (c.offer-offer.ensures.acts (actor_of c.args.self.now (cpu_number c.args.cpu)) c.processor.ensures.at) c.may_take.ensures c.may_take-2.ensures

pub returns-clause-needs : goal.returns-clause-needs
returns-clause-needs c =
    c.offer-offer.ensures.needs (actor_of c.args.self.now (cpu_number c.args.cpu)) c.processor.ensures.at ∙ needs_shown c.args.self.now c.args.cpu (valid c) (run c) (below c)

pub returns-then-from-len-clause-value : goal.returns-then-from-len-clause-value
returns-then-from-len-clause-value c =
    offer_whole c.args.self.now c.args.cpu c.nothing.result (nothing_legal c.args.self.now c.args.cpu c.nothing.result c.nothing.ensures (past c))
    (c.nothing.ensures.spent ∙ nothing_spent c.args.self.now c.args.cpu (past c))
    (nothing_dropped c.args.self.now c.args.cpu c.nothing.result c.nothing.ensures (past c))
    (c.nothing.ensures.needs ∙ nothing_needed c.args.self.now c.args.cpu (past c))

pub returns-clause-value : goal.returns-clause-value
returns-clause-value c =
    let stands = c.processor.ensures.at in
    offer_whole c.args.self.now c.args.cpu _
    (offered_legal c.args.self.now c.args.cpu c.offer-offer.result c.may_take.result c.may_take-2.result (valid c) (run c) (below c)
    (c.offer-offer.ensures.acts (actor_of c.args.self.now (cpu_number c.args.cpu)) stands) c.may_take.ensures c.may_take-2.ensures)
    (c.offer-offer.ensures.spent (actor_of c.args.self.now (cpu_number c.args.cpu)) stands ∙ spent_shown c.args.self.now c.args.cpu (valid c) (run c) (below c))
    (c.offer-offer.ensures.drops (actor_of c.args.self.now (cpu_number c.args.cpu)) stands ∙ drops_shown c.args.self.now c.args.cpu (valid c) (run c) (below c))
    (c.offer-offer.ensures.needs (actor_of c.args.self.now (cpu_number c.args.cpu)) stands ∙ needs_shown c.args.self.now c.args.cpu (valid c) (run c) (below c))

pub returns-then-from-len-clause-run : goal.returns-then-from-len-clause-run
returns-then-from-len-clause-run c = subst IsRun c.self.view_is c.self.invariant.run

pub returns-then-from-len-clause-valid : goal.returns-then-from-len-clause-valid
returns-then-from-len-clause-valid c = subst (λ (m : Seen). IsValid m.image) c.self.view_is c.self.invariant.valid

pub returns-clause-run : goal.returns-clause-run
returns-clause-run c = run c

pub returns-clause-valid : goal.returns-clause-valid
returns-clause-valid c = valid c
