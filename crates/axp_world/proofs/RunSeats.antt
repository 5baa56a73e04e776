-- After a played history each processor stands where its records say: the value that a record shows is the
-- value that its processor went on with.
use Rattle.std.proofs.Common.{◌≡◌, ℕ, ◌<◌, true, false, ⊎_elim, ltb, Bool, List, [], ◌∷◌, refl, sym, ap, ◌∙◌}
use Rattle.std.proofs.lemmas.Bool.{cases_Bool, eqb-true, ltb-true, lt-ltb}
use Rattle.axp_access.specs.declared.Event.{Event}
use Rattle.axp_access.specs.declared.Record.{Record}
use Rattle.axp_base.specs.Cpus.{cpu_by, cpu_number, cpu_of}
use Rattle.axp_base.specs.declared.processors.Cpu.{Cpu}
use Rattle.axp_base.specs.declared.processors.TheConstants.{MAX_CPUS}
use Rattle.axp_cpu.specs.Actors.{Actor, first_actor, outcome_of}
use Rattle.axp_cpu.specs.Following as following
use Rattle.axp_cpu.specs.Following.{processors, seat_in}
use Rattle.axp_cpu.specs.Seats.{first_seat, intent_of}
use Rattle.axp_image.specs.Contents.{Contents}
use Rattle.axp_access.specs.declared.Intent.{Intent}
use Rattle.axp_model.specs.Legal.{legal, is_legal_act}
use Rattle.axp_model.specs.Processors.{Processors}
use Rattle.axp_model.specs.Records.{is_of}
use Rattle.axp_world.specs.Worlds.{IsPlayed, World, cpu_or_first, reply_at, world}
use Rattle.axp_cpu.proofs.FollowingLemmas.{goes_as_shown}
use Rattle.axp_world.proofs.Agreement.{world_intent}
use Rattle.axp_world.proofs.PlayedRecords.{actor_other, actor_own, shown}

-- at the start
start_same : (image : Contents) (cpus budget p : ℕ) → p < MAX_CPUS → first_seat image cpus budget p ≡ (first_actor image cpus budget (cpu_or_first (cpu_of p))).seat
start_same image cpus budget p less = numbered (ltb p MAX_CPUS) refl (lt-ltb p MAX_CPUS less) where
  numbered : (b : Bool) (tested : ltb p MAX_CPUS ≡ b) → b ≡ true → first_seat image cpus budget p ≡ (first_actor image cpus budget (cpu_or_first (cpu_by p b tested))).seat
  numbered true tested is = refl
  numbered false tested is = cc

pub seats_agree : (image : Contents) (cpus budget : ℕ) (h : List Record) → IsPlayed image cpus budget h → (p : ℕ) → p < MAX_CPUS → seat_in image cpus budget p h ≡ ((world image cpus budget h).actors p).seat
seats_agree image cpus budget [] played p less = start_same image cpus budget p less
seats_agree image cpus budget (r ∷ h) played p less =
    let w : World = world image cpus budget h in
    let before : seat_in image cpus budget p h ≡ (w.actors p).seat = seats_agree image cpus budget h played.1 p less in
    ⊎_elim
    (λ (own : is_of p r ≡ true).
    let same : cpu_number r.event.cpu ≡ p = eqb-true (cpu_number r.event.cpu) p own in
    let s = shown image cpus w r.event r.outcome played.0 in
    let gave : r.outcome ≡ outcome_of (w.actors p) r.event.act (reply_at image w r.event) = s.outcome ∙ ap (λ n. outcome_of (w.actors n) r.event.act (reply_at image w r.event)) same in
    rw own (ap (λ x. following.seat_after r.event.act r.outcome x) before
    ∙ ap (λ o. following.seat_after r.event.act o (w.actors p).seat) gave
    ∙ sym (goes_as_shown (w.actors p) r.event.act (reply_at image w r.event))
    ∙ ap (λ (a : Actor). a.seat) (sym (actor_own image w r.event p own))))
    (λ (other : is_of p r ≡ false). rw other (before ∙ ap (λ (a : Actor). a.seat) (sym (actor_other image w r.event p other))))
    (cases_Bool (is_of p r))

pub intents_agree : (image : Contents) (cpus budget : ℕ) (h : List Record) → IsPlayed image cpus budget h → (p : ℕ) → p < MAX_CPUS → (processors image cpus budget).intent p h ≡ world_intent image cpus budget p h
intents_agree image cpus budget h played p less = ap intent_of (seats_agree image cpus budget h played p less)

-- the number of a processor is one
pub cpu_small : (c : Cpu) → cpu_number c < MAX_CPUS
cpu_small c = ltb-true (cpu_number c) MAX_CPUS c.below

-- an event of a processor that there is is legal exactly where its act may be made by its intent
pub legal_by : (ps : Processors) (h : List Record) (e : Event) (i : Intent) → cpu_number e.cpu < ps.count → ps.intent (cpu_number e.cpu) h ≡ i → legal ps h e ≡ is_legal_act e.act i (cpu_number e.cpu) h
unfolding legal
legal_by ps h e i below same = rw (lt-ltb (cpu_number e.cpu) ps.count below, same) refl
