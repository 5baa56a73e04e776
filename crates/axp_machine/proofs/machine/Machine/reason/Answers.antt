use Rattle.std.proofs.Common.{◌≡◌, ◌<◌, ◌≤◌, ap, arith, is_some, subst, ◌∙◌}
use Rattle.axp_base.specs.Cpus.{cpu_number}
use Rattle.axp_image.specs.Contents.{IsValid}
use Rattle.axp_lsu.specs.Reasons.{reason_of}
use Rattle.axp_machine.proofs.ReasonLemmas.{reason_past, reason_shown}
use Rattle.axp_machine.specs.Playing.{actor_of}
use Rattle.axp_machine.specs.Runs.{IsRun, Seen, processors_of}
use Rattle.axp_world.proofs.RunReasons.{reason_exactly}
use Rattle.axp_world.specs.Reasons.{reason}
use Rattle.axp_machine.proofs.machine.Machine.reason.Goals as goal

past : (c : goal.Then-from-len) → c.args.self.now.cpus ≤ cpu_number c.args.event.cpu
past c = let count = ap (λ (m : Seen). m.cpus) c.self.view_is in omega (arith, count, c.if-from-len.true, c.len.ensures, c.from.ensures, c.number.ensures.value)

pub returns-then-from-len-clause-value : goal.returns-then-from-len-clause-value
returns-then-from-len-clause-value c = reason_past c.args.self.now c.args.event (past c)

pub returns-then-from-len-clause-legal : goal.returns-then-from-len-clause-legal
returns-then-from-len-clause-legal c =
    ap is_some (reason_past c.args.self.now c.args.event (past c)) ∙ reason_exactly (processors_of c.args.self.now) c.args.self.now.records c.args.event

below : (c : goal.After-reason_of) → cpu_number c.args.event.cpu < c.args.self.now.cpus
below c = let count = ap (λ (m : Seen). m.cpus) c.self.view_is in omega (arith, count, c.if-from-len.false, c.len.ensures, c.from.ensures, c.number.ensures.value)

value : (c : goal.After-reason_of) → c.reason_of.result ≡ reason (processors_of c.args.self.now) c.args.self.now.records c.args.event
value c =
    c.reason_of.ensures
    ∙ ap (reason_of c.args.event.act) (c.facts-facts.ensures (actor_of c.args.self.now (cpu_number c.args.event.cpu)) c.processor.ensures.at)
    ∙ reason_shown c.args.self.now c.args.event c.is_late.result
    (subst (λ (m : Seen). IsValid m.image) c.self.view_is c.self.invariant.valid)
    (subst IsRun c.self.view_is c.self.invariant.run)
    (below c) c.is_late.ensures

pub returns-clause-value : goal.returns-clause-value
returns-clause-value c = value c

pub returns-clause-legal : goal.returns-clause-legal
returns-clause-legal c = ap is_some (value c) ∙ reason_exactly (processors_of c.args.self.now) c.args.self.now.records c.args.event
