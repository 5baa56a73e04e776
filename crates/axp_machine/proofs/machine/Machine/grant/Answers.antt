use Rattle.std.proofs.Common.{◌≡◌, ◌≤◌, false, true, arith, sym, ◌∙◌, ap, subst}
use Rattle.std.specs.Prelude.{Err}
use Rattle.axp_base.specs.Cpus.{cpu_number}
use Rattle.axp_bus.specs.BusStands.{Stands}
use Rattle.axp_lsu.specs.Within.{IsAskWithin}
use Rattle.axp_world.specs.Worlds.{image_bytes}
use Rattle.axp_machine.specs.Playing.{granted_in, actor_of}
use Rattle.axp_machine.specs.Runs.{Seen, world_of}
use Rattle.axp_machine.proofs.GrantLemmas.{answers, granted_asked, granted_past, granted_refused}
use Rattle.axp_machine.proofs.RoomLemmas.{seat_over}
use Rattle.axp_machine.proofs.machine.Machine.grant.Goals as goal

past : (c : goal.Then-from-len) → c.args.self.now.cpus ≤ cpu_number c.args.event.cpu
past c = let count = ap (λ (m : Seen). m.cpus) c.self.view_is in omega (arith, count, c.if-from-len.true, c.len.ensures, c.from.ensures, c.number.ensures.value)

pub returns-then-from-len-clause-granted : goal.returns-then-from-len-clause-granted
returns-then-from-len-clause-granted c = granted_past c.args.self.now c.args.event (past c)

pub returns-then-from-len-clause-answer : goal.returns-then-from-len-clause-answer
returns-then-from-len-clause-answer c = answers c.args.self.now c.args.event (Err (record {})) (granted_past c.args.self.now c.args.event (past c))

-- its processor refuses
refuses : (c : goal.In-Err) → Err (record {}) ≡ granted_in c.args.self.now c.args.event
refuses c =
    let count = ap (λ (m : Seen). m.cpus) c.self.view_is in
    granted_refused c.args.self.now c.args.event (record {}) (omega (arith, count, c.if-from-len.false, c.len.ensures, c.from.ensures, c.number.ensures.value))
    (sym (c.request.ensures.asked (actor_of c.args.self.now (cpu_number c.args.event.cpu)) c.processor.ensures.at) ∙ c.in-Err.is)

pub returns-in-Err-clause-granted : goal.returns-in-Err-clause-granted
returns-in-Err-clause-granted c = refuses c

pub returns-in-Err-clause-answer : goal.returns-in-Err-clause-answer
returns-in-Err-clause-answer c = answers c.args.self.now c.args.event (Err (record {})) (refuses c)

-- a take in vain
vain : (c : goal.Then-is_taken_in_vain) → Err (record {}) ≡ granted_in c.args.self.now c.args.event
vain c =
    let count = ap (λ (m : Seen). m.cpus) c.self.view_is in
    let stands = subst (λ (m : Seen). Stands c.self.inside.bus (image_bytes m.image) (world_of m).calls) c.self.view_is c.self.invariant.bus in
    granted_asked c.args.self.now c.args.event c.in-Ok.ask true (omega (arith, count, c.if-from-len.false, c.len.ensures, c.from.ensures, c.number.ensures.value))
    (sym (c.request.ensures.asked (actor_of c.args.self.now (cpu_number c.args.event.cpu)) c.processor.ensures.at) ∙ c.in-Ok.is)
    (sym c.if-is_taken_in_vain.true ∙ c.is_taken_in_vain.ensures (image_bytes c.args.self.now.image) (world_of c.args.self.now).calls stands)

pub returns-then-is_taken_in_vain-clause-granted : goal.returns-then-is_taken_in_vain-clause-granted
returns-then-is_taken_in_vain-clause-granted c = vain c

pub returns-then-is_taken_in_vain-clause-answer : goal.returns-then-is_taken_in_vain-clause-answer
returns-then-is_taken_in_vain-clause-answer c = answers c.args.self.now c.args.event (Err (record {})) (vain c)

pub returns-else-is_taken_in_vain-clause-granted : goal.returns-else-is_taken_in_vain-clause-granted
returns-else-is_taken_in_vain-clause-granted c =
    let count = ap (λ (m : Seen). m.cpus) c.self.view_is in
    let stands = subst (λ (m : Seen). Stands c.self.inside.bus (image_bytes m.image) (world_of m).calls) c.self.view_is c.self.invariant.bus in
    granted_asked c.args.self.now c.args.event c.in-Ok.ask false (omega (arith, count, c.if-from-len.false, c.len.ensures, c.from.ensures, c.number.ensures.value))
    (sym (c.request.ensures.asked (actor_of c.args.self.now (cpu_number c.args.event.cpu)) c.processor.ensures.at) ∙ c.in-Ok.is)
    (sym c.if-is_taken_in_vain.false ∙ c.is_taken_in_vain.ensures (image_bytes c.args.self.now.image) (world_of c.args.self.now).calls stands)

pub returns-else-is_taken_in_vain-clause-within : goal.returns-else-is_taken_in_vain-clause-within
returns-else-is_taken_in_vain-clause-within c =
    let m : Seen = c.args.self.now in
    subst (λ n. IsAskWithin n c.in-Ok.ask) (seat_over m.image m.cpus m.budget m.records (cpu_number c.args.event.cpu)).size (c.in-Ok.ensures.within (actor_of m (cpu_number c.args.event.cpu)) c.processor.ensures.at)
