-- A record that was played is legal after those before it, and has its outcome by the memory model.
use Rattle.axp_cpu.specs.Following.{processors, seat_in}
use Rattle.axp_cpu.specs.Seats.{intent_of}
use Rattle.axp_access.specs.declared.Intent.{Intent}
use Rattle.axp_world.proofs.Agreement.{world_intent, BanksAgree, BufferAgrees, BusAgrees, SinceAgrees}
use Rattle.axp_world.proofs.RunSeats.{legal_by}
use Rattle.axp_world.proofs.RunWants.{in_line, intents_in_line, intents_name_targets}
use Rattle.axp_world.proofs.CountEvents.{numbered}
use Rattle.axp_laws.proofs.RunRecords.{run_fits}
use Rattle.axp_model.specs.Legal.{is_legal_act, legal, is_enabled, is_timely, since_step}
use Rattle.std.proofs.lemmas.Bool.{cases_Bool, and_parts}
use Rattle.std.proofs.Common.{true, false, ℕ, ◌≡◌, ⊎_elim, eqb, not, List, [], ◌∷◌, Option, Some, is_some, refl, sym, ap, ◌∙◌, subst}
use Rattle.std.specs.Prelude.{Ok}
use Rattle.axp_base.specs.Cpus.{cpu_number}
use Rattle.axp_base.specs.declared.lines.Bank.{Bank}
use Rattle.axp_base.specs.declared.lines.Bank.TheVariants.{Even, Odd, Code}
use Rattle.axp_base.specs.declared.lines.Line.{Line}
use Rattle.axp_base.specs.declared.processors.Cpu.{Cpu}
use Rattle.axp_base.proofs.CpuLemmas.{cpu_of_number}
use Rattle.axp_access.specs.declared.Act.{Act}
use Rattle.axp_access.specs.declared.Act.TheVariants as act
use Rattle.axp_access.specs.declared.Record.{Record}
use Rattle.axp_cpu.specs.Actors.{Actor, actor_intent, advanced, outcome_of, request_of}
use Rattle.axp_image.specs.Contents.{Contents, IsValid}
use Rattle.axp_line.specs.declared.messages.Reply.{Reply}
use Rattle.axp_line.specs.declared.messages.Reply.TheVariants as reply
use Rattle.axp_line.specs.declared.messages.Request.TheVariants as request
use Rattle.axp_lsu.specs.declared.asks.Ask2.{Ask2}
use Rattle.axp_lsu.specs.declared.asks.Ask2.TheVariants as ask
use Rattle.axp_lsu.specs.Asking.{act_ask, ask_of, take_ask}
use Rattle.axp_lsu.specs.Going as going
use Rattle.axp_lsu.specs.Keeping.{LocalMemory}
use Rattle.axp_line.specs.BusCalls as calls
use Rattle.axp_line.specs.BusCalls.{BusCall}
use Rattle.axp_line.specs.BusReply.{first_late, reply_by}
use Rattle.axp_base.specs.Lists.{is_empty}
use Rattle.axp_access.specs.Acts.{is_fill}
use Rattle.axp_model.specs.Processors.{AreInLine, WantsInLine}
use Rattle.axp_model.specs.Outcomes as model
use Rattle.axp_model.specs.Outcomes.{IsRun}
use Rattle.axp_laws.proofs.RunFacts.{Fitting}
use Rattle.axp_world.specs.Worlds.{World, answer_of, cpu_or_first, image_bytes, reply_at, world}
use Rattle.axp_world.proofs.BusRecords.{asked_act}
use Rattle.axp_cpu.proofs.ActorLemmas.{asked_ok}
use Rattle.axp_world.specs.Deeds.{has_late}
use Rattle.axp_world.proofs.RunLegality.{legal_agrees}
use Rattle.axp_world.proofs.PlayedRecords.{actor_other, actor_own, shown}
use Rattle.axp_world.proofs.RunOutcomes.{WantsTarget, answer, outcome_agrees}

-- a processor keeps its number
goes_on_as : (a : Actor) (e : Act) (r : Option Reply) → (advanced a e r).cpu ≡ a.cpu
unfolding advanced
goes_on_as a e r = refl

pub actor_cpu : (image : Contents) (cpus budget : ℕ) (h : List Record) (c : Cpu) → ((world image cpus budget h).actors (cpu_number c)).cpu ≡ c
actor_cpu image cpus budget [] c = ap cpu_or_first (cpu_of_number c)
actor_cpu image cpus budget (r ∷ h) c =
    let w : World = world image cpus budget h in
    ⊎_elim
    (λ (own : eqb (cpu_number r.event.cpu) (cpu_number c) ≡ true). ap (λ (a : Actor). a.cpu) (actor_own image w r.event (cpu_number c) own) ∙ goes_on_as (w.actors (cpu_number c)) r.event.act (reply_at image w r.event) ∙ actor_cpu image cpus budget h c)
    (λ (other : eqb (cpu_number r.event.cpu) (cpu_number c) ≡ false). ap (λ (a : Actor). a.cpu) (actor_other image w r.event (cpu_number c) other) ∙ actor_cpu image cpus budget h c)
    (cases_Bool (eqb (cpu_number r.event.cpu) (cpu_number c)))

-- a Take that is answered something has something late
first_some : (pairs : List (Line × ℕ)) → (Some (first_late pairs) ≡ Some reply.Nothing → ⊥) → not (is_empty pairs) ≡ true
first_some [] something = absurd (something refl)
first_some (x ∷ pairs) something = refl

take_some : (b : Bank) (image : ℕ → ℕ) (cs : List BusCall) (c : Cpu) (z : Ask2) → (answer image cs c z ≡ Some reply.Nothing → ⊥) → take_ask b ≡ Some z → not (is_empty (calls.late (cpu_number c) b cs)) ≡ true
unfolding reply_by
take_some Even image cs c z something is = let same : ask.Bus (request.Take Even) ≡ z = cc in first_some (calls.late (cpu_number c) Even cs) (subst (λ y. answer image cs c y ≡ Some reply.Nothing → ⊥) (sym same) something)
take_some Odd image cs c z something is = let same : ask.Bus (request.Take Odd) ≡ z = cc in first_some (calls.late (cpu_number c) Odd cs) (subst (λ y. answer image cs c y ≡ Some reply.Nothing → ⊥) (sym same) something)
take_some Code image cs c z something is = cc

act_some : (a : Act) (i : Intent) (u : LocalMemory) (image : ℕ → ℕ) (cs : List BusCall) (c : Cpu) (z : Ask2) → (answer image cs c z ≡ Some reply.Nothing → ⊥) → act_ask a i u ≡ Some z → has_late a cs (cpu_number c) ≡ true
act_some (act.Take b) i u image cs c z something is = take_some b image cs c z something is
act_some act.Step i u image cs c z something is = refl
act_some act.Fill i u image cs c z something is = refl
act_some (act.Drain k) i u image cs c z something is = refl
act_some (act.Drop b line) i u image cs c z something is = refl
act_some act.Poll i u image cs c z something is = refl
act_some act.Tick i u image cs c z something is = refl

-- what is asked
asked_is : (a : Actor) (e : Act) (z : Ask2) → request_of a e ≡ Ok z → ask_of e (actor_intent a) a.kept ≡ Some z
unfolding request_of
asked_is a e z is = asked_ok (ask_of e (actor_intent a) a.kept) z is

-- what each processor has of the world, after a history
pub record Agrees (image : Contents) (cpus budget : ℕ) (h : List Record) (p : ℕ) : Type 0 where
  pub seat : seat_in image cpus budget p h ≡ ((world image cpus budget h).actors p).seat
  pub buffer : BufferAgrees p h ((world image cpus budget h).actors p).kept.buffer
  pub banks : BanksAgree (image_bytes image) p h ((world image cpus budget h).actors p).kept
  pub since : SinceAgrees p h ((world image cpus budget h).actors p).kept

-- a played record is legal
pub played_legal : (image : Contents) (cpus budget : ℕ) (r : Record) (h : List Record) → answer_of image cpus (world image cpus budget h) r.event ≡ Ok r.outcome → Agrees image cpus budget h (cpu_number r.event.cpu) → BusAgrees (image_bytes image) h (world image cpus budget h).calls
    → legal (processors image cpus budget) h r.event ≡ true
played_legal image cpus budget r h played agrees bus =
    let w : World = world image cpus budget h in
    let a : Actor = w.actors (cpu_number r.event.cpu) in
    let s = shown image cpus w r.event r.outcome played in
    let something : answer (image_bytes image) w.calls r.event.cpu s.ask ≡ Some reply.Nothing → ⊥ = λ x. s.something (s.answered ∙ x) in
    let asks : is_some (ask_of r.event.act (actor_intent a) a.kept) ≡ true = ap is_some (asked_is a r.event.act s.ask s.asked) in
    let late : has_late r.event.act w.calls (cpu_number r.event.cpu) ≡ true = act_some r.event.act (actor_intent a) a.kept (image_bytes image) w.calls r.event.cpu s.ask something (asked_act a r.event.act s.ask s.asked).0 in
    legal_by (processors image cpus budget) h r.event (actor_intent a) (numbered image cpus w r.event r.outcome played) (ap intent_of agrees.seat)
    ∙ (sym (legal_agrees (image_bytes image) (cpu_number r.event.cpu) h (actor_intent a) a.kept w.calls r.event.act agrees.buffer agrees.banks agrees.since bus) ∙ rw (asks, late) refl)

-- and has its outcome
pub played_outcome : (image : Contents) (cpus budget : ℕ) (r : Record) (h : List Record) → answer_of image cpus (world image cpus budget h) r.event ≡ Ok r.outcome → Fitting h
    → WantsInLine (world_intent image cpus budget (cpu_number r.event.cpu) h).wanted → WantsTarget (world_intent image cpus budget (cpu_number r.event.cpu) h).wanted
    → Agrees image cpus budget h (cpu_number r.event.cpu) → BusAgrees (image_bytes image) h (world image cpus budget h).calls
    → r.outcome ≡ model.outcome_of (image_bytes image) (processors image cpus budget) h r.event
unfolding outcome_of going.outcome_of model.outcome_of
played_outcome image cpus budget r h played fit inside target agrees bus =
    let w : World = world image cpus budget h in
    let p : ℕ = cpu_number r.event.cpu in
    let a : Actor = w.actors p in
    let s = shown image cpus w r.event r.outcome played in
    let something : answer (image_bytes image) w.calls r.event.cpu s.ask ≡ Some reply.Nothing → ⊥ = λ x. s.something (s.answered ∙ x) in
    let own : is_legal_act r.event.act (actor_intent a) p h ≡ true =
    sym (legal_by (processors image cpus budget) h r.event (actor_intent a) (numbered image cpus w r.event r.outcome played) (ap intent_of agrees.seat)) ∙ played_legal image cpus budget r h played agrees bus in
    let able : is_enabled r.event.act (actor_intent a) p h ≡ true = (and_parts (is_enabled r.event.act (actor_intent a) p h) (is_timely r.event.act (actor_intent a).finished (since_step is_fill p h)) own).0 in
    s.outcome
    ∙ ap (going.outcome_by r.event.act a.cpu (actor_intent a) a.kept) s.answered
    ∙ ap (λ c. going.outcome_by r.event.act c (actor_intent a) a.kept (answer (image_bytes image) w.calls r.event.cpu s.ask)) (actor_cpu image cpus budget h r.event.cpu)
    ∙ outcome_agrees (image_bytes image) h r.event.act r.event.cpu (actor_intent a) a.kept w.calls s.ask fit agrees.buffer agrees.banks bus inside target something (asked_act a r.event.act s.ask s.asked).0 able
    ∙ ap (λ i. model.outcome_by r.event.act (image_bytes image) i r.event.cpu h) (sym (ap intent_of agrees.seat))

-- so a history goes on as a run
pub played_is_run : (image : Contents) (cpus budget : ℕ) (r : Record) (h : List Record) → answer_of image cpus (world image cpus budget h) r.event ≡ Ok r.outcome → Fitting h
    → WantsInLine (world_intent image cpus budget (cpu_number r.event.cpu) h).wanted → WantsTarget (world_intent image cpus budget (cpu_number r.event.cpu) h).wanted
    → Agrees image cpus budget h (cpu_number r.event.cpu) → BusAgrees (image_bytes image) h (world image cpus budget h).calls → IsRun (image_bytes image) (processors image cpus budget) h
    → IsRun (image_bytes image) (processors image cpus budget) (r ∷ h)
played_is_run image cpus budget r h played fit inside target agrees bus run =
    (played_legal image cpus budget r h played agrees bus, played_outcome image cpus budget r h played fit inside target agrees bus, run)

-- so does every played history over a valid image
pub run_goes_on : (image : Contents) (cpus budget : ℕ) (r : Record) (h : List Record) → IsValid image → answer_of image cpus (world image cpus budget h) r.event ≡ Ok r.outcome → Agrees image cpus budget h (cpu_number r.event.cpu) → BusAgrees (image_bytes image) h (world image cpus budget h).calls
    → IsRun (image_bytes image) (processors image cpus budget) h → IsRun (image_bytes image) (processors image cpus budget) (r ∷ h)
run_goes_on image cpus budget r h valid played agrees bus run =
    let inside : AreInLine (processors image cpus budget) = in_line image cpus budget valid in
    played_is_run image cpus budget r h played (run_fits (image_bytes image) (processors image cpus budget) h inside run) (intents_in_line image cpus budget valid (cpu_number r.event.cpu) h) (intents_name_targets image cpus budget valid (cpu_number r.event.cpu) h) agrees bus run
