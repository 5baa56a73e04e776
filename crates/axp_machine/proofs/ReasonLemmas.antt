-- Why an event is not legal is what the records say.
use Rattle.std.proofs.Common.{◌≡◌, ◌<◌, ◌≤◌, ℕ, Bool, not, List, length, Some, ap, sym, refl, ◌∙◌}
use Rattle.std.proofs.lemmas.Bool.{le-ltb, lt-ltb}
use Rattle.axp_access.specs.declared.Act.TheVariants as act
use Rattle.axp_access.specs.declared.Event.{Event}
use Rattle.axp_base.specs.Cpus.{cpu_number}
use Rattle.axp_base.specs.Lists.{is_empty}
use Rattle.axp_base.specs.declared.lines.Bank.{Bank}
use Rattle.axp_base.specs.declared.lines.Line.{Line}
use Rattle.axp_bus.specs.BusStands.{Stands}
use Rattle.axp_bus.specs.Buses.{State}
use Rattle.axp_bus.specs.Ports.{late_for}
use Rattle.axp_cpu.specs.Actors.{actor_intent}
use Rattle.axp_cpu.specs.Seats.{intent_of}
use Rattle.axp_image.specs.Contents.{IsValid}
use Rattle.axp_lsu.specs.Reasons.{facts_of, reason_of}
use Rattle.axp_lsu.specs.declared.reasons.Reason.TheVariants.{NoProcessor}
use Rattle.axp_machine.proofs.OfferLemmas.{late_told}
use Rattle.axp_machine.specs.Playing.{actor_of}
use Rattle.axp_machine.specs.Runs.{IsRun, Seen, processors_of, world_of}
use Rattle.axp_world.proofs.RunJoined.{agrees, joined}
use Rattle.axp_world.proofs.RunPlayed.{Agrees}
use Rattle.axp_world.proofs.RunReasons.{facts_agree}
use Rattle.axp_world.proofs.RunSeats.{cpu_small}
use Rattle.axp_world.specs.Reasons.{is_late, reason}
use Rattle.axp_world.specs.Worlds.{image_bytes}

-- of a processor that there is not
pub reason_past : (m : Seen) (e : Event) → m.cpus ≤ cpu_number e.cpu → Some NoProcessor ≡ reason (processors_of m) m.records e
unfolding reason
reason_past m e past = rw (le-ltb (cpu_number e.cpu) m.cpus past) refl

pub reason_shown : (m : Seen) (e : Event) (told : Bool) → IsValid m.image → IsRun m → cpu_number e.cpu < m.cpus → told ≡ is_late e.act (cpu_number e.cpu) m.records
    → reason_of e.act (facts_of e.act (actor_intent (actor_of m (cpu_number e.cpu))) told (actor_of m (cpu_number e.cpu)).kept) ≡ reason (processors_of m) m.records e
unfolding reason
reason_shown m e told valid run below is =
    let p : ℕ = cpu_number e.cpu in
    let has : Agrees m.image m.cpus m.budget m.records p = agrees m.image m.cpus m.budget m.records (joined m.image m.cpus m.budget m.records valid run) p (cpu_small e.cpu) in
    rw (lt-ltb p m.cpus below)
    (ap (λ s. reason_of e.act (facts_of e.act (intent_of s) told (actor_of m p).kept)) (sym has.seat)
    ∙ ap (reason_of e.act) (facts_agree e.act ((processors_of m).intent p m.records) told (image_bytes m.image) p m.records (actor_of m p).kept has.buffer has.banks has.since is))

-- what the bus tells of a take
pub take_told : (m : Seen) (b : State) (e : Event) (bank : Bank) (told : Bool) → IsValid m.image → IsRun m → e.act ≡ act.Take bank → cpu_number e.cpu < length b.ports → Stands b (image_bytes m.image) (world_of m).calls → told ≡ not (is_empty (late_for (cpu_number e.cpu) bank b.ports))
    → told ≡ is_late e.act (cpu_number e.cpu) m.records
take_told m b e bank told valid run takes below stands is =
    let bus = (joined m.image m.cpus m.budget m.records valid run).bus in
    rw takes (late_told m b e.cpu bank told below stands is ∙ ap (λ (pairs : List (Line × ℕ)). not (is_empty pairs)) (bus.pairs (cpu_number e.cpu) bank))
