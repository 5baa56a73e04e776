use Rattle.std.proofs.Common.{◌≡◌, ◌∙◌, set, arith, refl, sym, ap, subst}
use Rattle.std.specs.Prelude.{Ok}
use Rattle.std.specs.Vec.{with_item}
use Rattle.axp_base.specs.Cpus.{cpu_number}
use Rattle.axp_cpu.specs.ActorStands.{IsAt}
use Rattle.axp_lsu.specs.Within.{IsAskWithin}
use Rattle.axp_world.specs.Worlds.{image_bytes}
use Rattle.axp_machine.specs.declared.machine.Machine.TheInside.{Inside}
use Rattle.axp_machine.specs.Playing.{granted_in, actor_of}
use Rattle.axp_machine.specs.Runs.{Seen, world_of}
use Rattle.axp_machine.specs.Ties.{seen}
use Rattle.axp_machine.proofs.GrantLemmas.{IsGranted, granted_is, outcome_in}
use Rattle.axp_machine.proofs.MachinePartLemmas.{Makes, answer_is, can_answer, granted_of, has_room, is_answered, is_spelled, makes_of, shows_after, ties_made}
use Rattle.axp_machine.proofs.ReaderLemmas.{seated_at}
use Rattle.axp_machine.proofs.machine.Machine.make.Goals as goal

pub answer-reply-requires : goal.answer-reply-requires
answer-reply-requires c =
    let given = subst (λ (m : Seen). granted_in m c.args.event ≡ Ok c.args.ask) (sym c.self.view_is) c.requires.granted in
    can_answer c.self.inside c.args.event c.args.ask c.self.invariant (granted_is (seen c.self.inside) c.args.event c.args.ask given) (subst (λ (m : Seen). IsAskWithin m.image.size c.args.ask) (sym c.self.view_is) c.requires.within)

pub index_mut-requires : goal.index_mut-requires
index_mut-requires c =
    let given = subst (λ (m : Seen). granted_in m c.args.event ≡ Ok c.args.ask) (sym c.self.view_is) c.requires.granted in
    let below = (granted_is (seen c.self.inside) c.args.event c.args.ask given).below in
    omega (arith, below, c.self.inside.processors.ok.0, c.from.ensures, c.number.ensures.value)

granted : (c : goal.After-index_mut) → IsGranted (seen c.self.inside) c.args.event c.args.ask
granted c = granted_is (seen c.self.inside) c.args.event c.args.ask (subst (λ (m : Seen). granted_in m c.args.event ≡ Ok c.args.ask) (sym c.self.view_is) c.requires.granted)

seated : (c : goal.After-index_mut) → IsAt c.index_mut.result.now (actor_of (seen c.self.inside) (cpu_number c.args.event.cpu))
seated c = seated_at c.self.inside (cpu_number c.args.event.cpu) c.from.result c.index_mut.result.now c.self.invariant (c.from.ensures ∙ c.number.ensures.value) (granted c).below c.index_mut.ensures.value

pub advance-outcome-requires : goal.advance-outcome-requires
advance-outcome-requires c =
    is_answered c.self.inside c.args.event c.args.ask c.index_mut.result.now c.answer-reply.result c.self.invariant (granted c) (seated c)
    (c.answer-reply.ensures.reply (image_bytes c.self.inside.image) (world_of (seen c.self.inside)).calls c.self.invariant.bus)

pub push_reserved-requires : goal.push_reserved-requires
push_reserved-requires c =
    let room = (has_room c.self.inside c.args.event c.args.ask c.self.invariant (granted_of c.self.inside c.args.self.now c.args.event c.args.ask c.self.view_is c.requires.granted)).records in
    omega (arith, room, c.self.inside.records.ok.0)

-- the fields after
abbrev pub now_inside : goal.After-push_reserved → Inside
now_inside c = record { image = c.self.inside.image; processors = with_item c.self.inside.processors c.from.result c.advance-outcome.new.self; bus = c.answer-reply.new.bus; budget = c.self.inside.budget; records = c.push_reserved.new.self }

given : (c : goal.After-push_reserved) → IsGranted (seen c.self.inside) c.args.event c.args.ask
given c = granted_of c.self.inside c.args.self.now c.args.event c.args.ask c.self.view_is c.requires.granted

sits : (c : goal.After-push_reserved) → IsAt c.index_mut.result.now (actor_of (seen c.self.inside) (cpu_number c.args.event.cpu))
sits c = seated_at c.self.inside (cpu_number c.args.event.cpu) c.from.result c.index_mut.result.now c.self.invariant (c.from.ensures ∙ c.number.ensures.value) (given c).below c.index_mut.ensures.value

makes : (c : goal.After-push_reserved) → Makes c.self.inside (now_inside c) c.args.event c.args.ask c.advance-outcome.new.self × (c.advance-outcome.result ≡ outcome_in (seen c.self.inside) c.args.event)
makes c =
    makes_of c.self.inside (now_inside c) c.args.event c.args.ask c.advance-outcome.new.self c.answer-reply.result c.advance-outcome.result (given c) refl refl
    (ap (λ i. set c.self.inside.processors.items i c.advance-outcome.new.self) (c.from.ensures ∙ c.number.ensures.value))
    (c.answer-reply.ensures.reply (image_bytes c.self.inside.image) (world_of (seen c.self.inside)).calls c.self.invariant.bus)
    (c.advance-outcome.ensures.at (actor_of (seen c.self.inside) (cpu_number c.args.event.cpu)) (sits c))
    (c.advance-outcome.ensures.outcome (actor_of (seen c.self.inside) (cpu_number c.args.event.cpu)) (sits c))
    (c.answer-reply.ensures.stands (image_bytes c.self.inside.image) (world_of (seen c.self.inside)).calls c.self.invariant.bus)
    c.answer-reply.ensures.size c.answer-reply.ensures.cpus c.answer-reply.ensures.room c.push_reserved.ensures.items c.push_reserved.ensures.capacity

pub invariant_of-self : goal.invariant_of-self
invariant_of-self c =
    ties_made c.self.inside (now_inside c) c.args.event c.args.ask c.advance-outcome.new.self c.self.invariant (given c) (subst (λ (m : Seen). IsAskWithin m.image.size c.args.ask) (sym c.self.view_is) c.requires.within) (makes c).0

pub returns-clause-answer : goal.returns-clause-answer
returns-clause-answer c = answer_is c.self.inside c.args.self.now c.args.event c.args.ask c.advance-outcome.result c.self.view_is (given c) (makes c).1

pub returns-clause-after : goal.returns-clause-after
returns-clause-after c = shows_after c.self.inside (now_inside c) c.args.self.now c.args.event c.args.ask c.advance-outcome.new.self c.advance-outcome.result c.self.view_is (makes c)

pub returns-clause-spelled : goal.returns-clause-spelled
returns-clause-spelled c =
    is_spelled c.self.inside c.args.event c.args.ask c.index_mut.result.now c.answer-reply.result c.advance-outcome.result c.self.invariant (given c) (sits c)
    (c.answer-reply.ensures.reply (image_bytes c.self.inside.image) (world_of (seen c.self.inside)).calls c.self.invariant.bus)
    (c.advance-outcome.ensures.outcome (actor_of (seen c.self.inside) (cpu_number c.args.event.cpu)) (sits c)) c.advance-outcome.ensures.fits

pub returns-clause-run : goal.returns-clause-run
returns-clause-run c = (invariant_of-self c).run
