-- A played history is counted: its events, Steps and turns, by processors.
use Rattle.std.proofs.Common.{◌≡◌, ℕ, zero, suc, ◌+◌, ◌*◌, ◌<◌, ◌≤◌, true, false, ltb, cond, List, [], ◌∷◌, length, Some, refl, sym, ap, ◌∙◌, subst, ⊎_elim, arith}
use Rattle.std.specs.Prelude.{Ok}
use Rattle.std.proofs.Math.Nat.{add-mul, mul-add, mul_assoc, mul_left_comm, suc-mul}
use Rattle.std.proofs.lemmas.Bool.{cases_Bool, eq-eqb, eqb-true, ltb-true}
use Rattle.std.proofs.lemmas.Nat.{mul-le}
use Rattle.axp_base.specs.Cpus.{cpu_number}
use Rattle.axp_base.specs.declared.lines.Bank.{Bank}
use Rattle.axp_base.specs.declared.lines.Bank.TheVariants.{Even, Odd, Code}
use Rattle.axp_base.specs.declared.processors.Cpu.{Cpu}
use Rattle.axp_base.specs.declared.processors.TheConstants.{MAX_CPUS}
use Rattle.axp_image.specs.Contents.{Contents}
use Rattle.axp_line.specs.declared.messages.Reply.TheVariants as reply
use Rattle.axp_access.specs.declared.Act.{Act}
use Rattle.axp_access.specs.declared.Act.TheVariants as act
use Rattle.axp_access.specs.declared.Event.{Event}
use Rattle.axp_access.specs.declared.Intent.{Intent}
use Rattle.axp_access.specs.declared.Outcome.{Outcome}
use Rattle.axp_access.specs.declared.Record.{Record}
use Rattle.axp_line.specs.BusCalls.{BusCall, turns}
use Rattle.axp_access.specs.Acts.{is_step}
use Rattle.axp_model.specs.Records.{is_of}
use Rattle.axp_lsu.specs.Asking.{act_ask}
use Rattle.axp_lsu.specs.Keeping.{LocalMemory}
use Rattle.axp_lsu.specs.declared.asks.Ask2.{Ask2}
use Rattle.axp_cpu.specs.Actors.{Actor, advanced, request_of}
use Rattle.axp_world.specs.Lengths.{events_per_step, steps_in, steps_of}
use Rattle.axp_world.specs.Worlds.{IsPlayed, World, after_event, answer_of, calls_for, image_bytes, reply_for, world}
use Rattle.axp_world.specs.declared.lengths.TheConstants.{EVENTS_PER_STEP}
use Rattle.axp_world.proofs.AskedActs.{is_asked}
use Rattle.axp_world.proofs.CountBounds.{IsBounded, acts_bounded, bounded_after, steps_bounded, turns_bounded}
use Rattle.axp_world.proofs.CountCalls.{other_after, own_after, own_turns, pairs, pairs_other, pairs_own, turned, turns_after, one_more}
use Rattle.axp_world.proofs.PlayedRecords.{Shown, actor_other, actor_own, calls_after, shown}
use Rattle.axp_world.proofs.AskedQuiet.{pairs_taken}
use Rattle.axp_world.proofs.CountSums.{sum_below, sum_both, sum_most, sum_none, sum_raised, sum_under}
use Rattle.axp_world.proofs.CountTallies.{Tally, counted, counts_once, counts_steps, steps_tallied, tally, tally_other, tally_own, total, with_dropped}

-- Takes of processor p took what other processors' turns made late for it
abbrev pub AreTaken : ℕ → ℕ → List BusCall → Type 0
AreTaken p takes cs = takes + pairs p cs + own_turns p cs ≤ turns cs

pub record IsCounted (cpus budget : ℕ) (actors : ℕ → Actor) (cs : List BusCall) (h : List Record) : Type 0 where
  pub bounded : (p : ℕ) → IsBounded budget (actors p) (tally p h) (own_turns p cs)
  pub taken : (p : ℕ) → AreTaken p (tally p h).takes cs
  pub events : sum_below (λ p. total (tally p h)) cpus ≡ length h
  pub steps : sum_below (λ p. (tally p h).steps) cpus ≡ steps_in h
  pub turned : sum_below (λ p. own_turns p cs) cpus ≡ turns cs

first_counted : (image : Contents) (cpus budget : ℕ) → IsCounted cpus budget (world image cpus budget []).actors (world image cpus budget []).calls []
first_counted image cpus budget =
    record {
      bounded = λ p. record {
        limit = refl;
        made = refl;
        marked = record {
          fills = record { within = omega arith; left = omega arith };
          even = record { within = omega arith; left = omega arith };
          odd = record { within = omega arith; left = omega arith };
          code = record { within = omega arith; left = omega arith };
          polls = record { within = omega arith; left = omega arith };
          ticks = record { within = omega arith; left = omega arith };
        };
        drained = omega arith;
        turned = omega arith;
      };
      taken = λ p. omega arith;
      events = sum_none (λ p. total (tally p [])) cpus (λ p. refl);
      steps = sum_none (λ p. (tally p []).steps) cpus (λ p. refl);
      turned = sum_none (λ p. own_turns p []) cpus (λ p. refl);
    }

-- the event's processor is one of those that are there
pub numbered : (image : Contents) (cpus : ℕ) (w : World) (e : Event) (o : Outcome) → answer_of image cpus w e ≡ Ok o → cpu_number e.cpu < cpus
unfolding answer_of
numbered image cpus w e o h =
    ⊎_elim
    (λ (below : ltb (cpu_number e.cpu) cpus ≡ true). ltb-true (cpu_number e.cpu) cpus below)
    (λ (above : ltb (cpu_number e.cpu) cpus ≡ false). let never = rw above at h in cc)
    (cases_Bool (ltb (cpu_number e.cpu) cpus))

bounded_as : (most : ℕ) (a b : Actor) (t u : Tally) (m n : ℕ) → b ≡ a → u ≡ t → n ≡ m → IsBounded most a t m → IsBounded most b u n
bounded_as most a b t u m n actor acts turned was =
    subst (λ x. IsBounded most x u n) (sym actor) (subst (λ x. IsBounded most a x n) (sym acts) (subst (λ x. IsBounded most a t x) (sym turned) was))

bounded_own : (image : Contents) (w : World) (r : Record) (h : List Record) (most p : ℕ) (s : Shown image w r.event r.outcome) → is_of p r ≡ true → IsBounded most (w.actors p) (tally p h) (own_turns p w.calls)
    → IsBounded most ((after_event image w r.event).actors p) (tally p (r ∷ h)) (own_turns p (calls_for (image_bytes image) w.calls r.event.cpu (Ok s.ask)))
bounded_own image w r h most p s own was =
    let at = eqb-true (cpu_number r.event.cpu) p own in
    let asked = subst (λ n. request_of (w.actors n) r.event.act ≡ Ok s.ask) at s.asked in
    bounded_as most _ _ _ _ _ _
    (actor_own image w r.event p own ∙ ap (λ x. advanced (w.actors p) r.event.act x) s.answered)
    (tally_own p r h own)
    (own_after (image_bytes image) w.calls r.event.cpu p s.ask own)
    (bounded_after (image_bytes image) w.calls (cpu_number r.event.cpu) most (w.actors p) r.event.act s.ask (tally p h) (own_turns p w.calls) asked was)

bounded_other : (image : Contents) (w : World) (r : Record) (h : List Record) (most p : ℕ) (s : Shown image w r.event r.outcome) → is_of p r ≡ false → IsBounded most (w.actors p) (tally p h) (own_turns p w.calls)
    → IsBounded most ((after_event image w r.event).actors p) (tally p (r ∷ h)) (own_turns p (calls_for (image_bytes image) w.calls r.event.cpu (Ok s.ask)))
bounded_other image w r h most p s other was =
    bounded_as most _ _ _ _ _ _ (actor_other image w r.event p other) (tally_other p r h other) (other_after (image_bytes image) w.calls r.event.cpu p s.ask other) was

-- a Take takes one, and no other own act adds one
drop_takes : (b : Bank) (t : Tally) → (with_dropped b t).takes ≡ t.takes
drop_takes Even t = refl
drop_takes Odd t = refl
drop_takes Code t = refl

own_takes : (image : ℕ → ℕ) (cs : List BusCall) (cpu : Cpu) (e : Act) (i : Intent) (u : LocalMemory) (q : Ask2) (t : Tally) → act_ask e i u ≡ Some q → (reply_for image cs (cpu_number cpu) (Ok q) ≡ Some reply.Nothing → ⊥)
    → (counted e t).takes + pairs (cpu_number cpu) (calls_for image cs cpu (Ok q)) ≤ t.takes + pairs (cpu_number cpu) cs
own_takes image cs cpu (act.Take b) i u q t asks some = omega (arith, pairs_taken image cs cpu b q asks some)
own_takes image cs cpu (act.Drop b line) i u q t asks some = omega (arith, drop_takes b t, pairs_own image cs cpu (cpu_number cpu) q (eq-eqb (cpu_number cpu) (cpu_number cpu) refl))
own_takes image cs cpu _ i u q t asks some = omega (arith, pairs_own image cs cpu (cpu_number cpu) q (eq-eqb (cpu_number cpu) (cpu_number cpu) refl))

taken_own : (image : Contents) (w : World) (r : Record) (h : List Record) (p : ℕ) (s : Shown image w r.event r.outcome) → is_of p r ≡ true → AreTaken p (tally p h).takes w.calls
    → AreTaken p (tally p (r ∷ h)).takes (calls_for (image_bytes image) w.calls r.event.cpu (Ok s.ask))
taken_own image w r h p s own was =
    let bytes = image_bytes image in
    let at = eqb-true (cpu_number r.event.cpu) p own in
    let asks = (is_asked (w.actors (cpu_number r.event.cpu)) r.event.act s.ask s.asked).asks in
    let some = subst (λ x. x ≡ Some reply.Nothing → ⊥) s.answered s.something in
    let takes = subst (λ n. (counted r.event.act (tally p h)).takes + pairs n (calls_for bytes w.calls r.event.cpu (Ok s.ask)) ≤ (tally p h).takes + pairs n w.calls) at
    (own_takes bytes w.calls r.event.cpu r.event.act _ _ s.ask (tally p h) asks some) in
    rw (tally_own p r h own) (omega (arith, was, takes, own_after bytes w.calls r.event.cpu p s.ask own, turns_after bytes w.calls r.event.cpu s.ask))

taken_other : (image : Contents) (w : World) (r : Record) (h : List Record) (p : ℕ) (s : Shown image w r.event r.outcome) → is_of p r ≡ false → AreTaken p (tally p h).takes w.calls
    → AreTaken p (tally p (r ∷ h)).takes (calls_for (image_bytes image) w.calls r.event.cpu (Ok s.ask))
taken_other image w r h p s other was =
    let bytes = image_bytes image in
    rw (tally_other p r h other)
    (omega (arith, was, other_after bytes w.calls r.event.cpu p s.ask other, pairs_other bytes w.calls r.event.cpu p s.ask other, turns_after bytes w.calls r.event.cpu s.ask))

counted_after : (image : Contents) (cpus budget : ℕ) (w : World) (r : Record) (h : List Record) → cpu_number r.event.cpu < cpus → Shown image w r.event r.outcome → IsCounted cpus budget w.actors w.calls h
    → IsCounted cpus budget (after_event image w r.event).actors (after_event image w r.event).calls (r ∷ h)
counted_after image cpus budget w r h below s was =
    let bytes = image_bytes image in
    let cpu = cpu_number r.event.cpu in
    let own = eq-eqb cpu cpu refl in
    let its = tally_own cpu r h own in
    subst (λ cs. IsCounted cpus budget (after_event image w r.event).actors cs (r ∷ h)) (sym (calls_after image w r.event r.outcome s))
    (record {
      bounded = λ p. ⊎_elim
          (λ (mine : is_of p r ≡ true). bounded_own image w r h budget p s mine (was.bounded p))
          (λ (other : is_of p r ≡ false). bounded_other image w r h budget p s other (was.bounded p))
          (cases_Bool (is_of p r));
      taken = λ p. ⊎_elim
          (λ (mine : is_of p r ≡ true). taken_own image w r h p s mine (was.taken p))
          (λ (other : is_of p r ≡ false). taken_other image w r h p s other (was.taken p))
          (cases_Bool (is_of p r));
      events = omega (arith, was.events, sum_raised (λ p. total (tally p h)) (λ p. total (tally p (r ∷ h))) cpu 1 cpus below (ap total its ∙ counts_once r.event.act (tally cpu h)) (λ p other. ap total (tally_other p r h other)));
      steps = omega (arith, was.steps, one_more (is_step r.event.act) (steps_in h), sum_raised (λ p. (tally p h).steps) (λ p. (tally p (r ∷ h)).steps) cpu (cond (is_step r.event.act) 1 0) cpus below (ap (λ t. t.steps) its ∙ counts_steps r.event.act (tally cpu h)) (λ p other. ap (λ t. t.steps) (tally_other p r h other)));
      turned = omega (arith, was.turned, turns_after bytes w.calls r.event.cpu s.ask, sum_raised (λ p. own_turns p w.calls) (λ p. own_turns p (calls_for bytes w.calls r.event.cpu (Ok s.ask))) cpu (turned (reply_for bytes w.calls cpu (Ok s.ask))) cpus below (own_after bytes w.calls r.event.cpu cpu s.ask own) (λ p other. other_after bytes w.calls r.event.cpu p s.ask other));
    })

pub played_is_counted : (image : Contents) (cpus budget : ℕ) (h : List Record) → IsPlayed image cpus budget h → IsCounted cpus budget (world image cpus budget h).actors (world image cpus budget h).calls h
played_is_counted image cpus budget [] played = first_counted image cpus budget
played_is_counted image cpus budget (r ∷ h) played =
    let w = world image cpus budget h in
    counted_after image cpus budget w r h (numbered image cpus w r.event r.outcome played.0) (shown image cpus w r.event r.outcome played.0) (played_is_counted image cpus budget h played.1)

-- so many events, where there are so many processors
few_events : (n events turned budget : ℕ) → events + turned ≤ suc n * (8 * budget + turned) → turned ≤ suc n * budget → events ≤ (8 + n) * (suc n * budget)
few_events n events turned budget within few =
    omega (
      arith,
      within,
      few,
      suc-mul n (8 * budget + turned),
      mul-add n (8 * budget) turned,
      mul_left_comm n 8 budget,
      suc-mul n budget,
      add-mul 8 n (suc n * budget),
      mul-le n turned n (suc n * budget) (omega arith) few,
    )

events_most : (cpus events turned budget : ℕ) → events + turned ≤ cpus * (8 * budget + turned) → turned ≤ cpus * budget → events ≤ events_per_step cpus * (cpus * budget)
events_most zero events turned budget within few = omega (arith, within)
events_most (suc n) events turned budget within few =
    let same : events_per_step (suc n) ≡ 8 + n = omega arith in
    rw same (few_events n events turned budget within few)

-- the seat of a processor counts its Steps, which are within its budget
pub steps_are_counted : (image : Contents) (cpus budget : ℕ) (h : List Record) → IsPlayed image cpus budget h → (p : ℕ) → ((world image cpus budget h).actors p).seat.steps ≡ steps_of p h
steps_are_counted image cpus budget h played p = ((played_is_counted image cpus budget h played).bounded p).made ∙ sym (steps_tallied p h)

pub steps_are_few : (image : Contents) (cpus budget : ℕ) (h : List Record) → IsPlayed image cpus budget h → (p : ℕ) → steps_of p h ≤ budget
steps_are_few image cpus budget h played p = omega (arith, steps_tallied p h, steps_bounded budget _ _ _ ((played_is_counted image cpus budget h played).bounded p))

-- turns are no more than Steps
pub turns_are_few : (image : Contents) (cpus budget : ℕ) (h : List Record) → IsPlayed image cpus budget h → turns (world image cpus budget h).calls ≤ steps_in h
turns_are_few image cpus budget h played =
    let all = played_is_counted image cpus budget h played in
    omega (arith, all.steps, all.turned, sum_under (λ p. own_turns p (world image cpus budget h).calls) (λ p. (tally p h).steps) cpus (λ p. turns_bounded budget _ _ _ (all.bounded p)))

pub all_steps_are_few : (image : Contents) (cpus budget : ℕ) (h : List Record) → IsPlayed image cpus budget h → steps_in h ≤ cpus * budget
all_steps_are_few image cpus budget h played =
    let all = played_is_counted image cpus budget h played in
    omega (arith, all.steps, sum_most (λ p. (tally p h).steps) budget cpus (λ p. steps_bounded budget _ _ _ (all.bounded p)))

pub events_are_few : (image : Contents) (cpus budget : ℕ) (h : List Record) → IsPlayed image cpus budget h → length h ≤ events_per_step cpus * (cpus * budget)
events_are_few image cpus budget h played =
    let all = played_is_counted image cpus budget h played in
    let made = turns (world image cpus budget h).calls in
    let own = λ (p : ℕ). own_turns p (world image cpus budget h).calls in
    events_most cpus (length h) made budget
    (omega (
      arith,
      all.events,
      all.turned,
      sum_both (λ p. total (tally p h)) own cpus,
      sum_most (λ p. total (tally p h) + own p) (8 * budget + made) cpus (λ p. omega (arith, acts_bounded budget _ _ _ (all.bounded p), all.taken p)),
    ))
    (omega (arith, turns_are_few image cpus budget h played, all_steps_are_few image cpus budget h played))

pub played_is_short : (image : Contents) (cpus budget : ℕ) (h : List Record) → cpus ≤ MAX_CPUS → IsPlayed image cpus budget h → length h ≤ EVENTS_PER_STEP * cpus * budget
played_is_short image cpus budget h few played =
    omega (arith, events_are_few image cpus budget h played, mul_assoc EVENTS_PER_STEP cpus budget, mul-le (events_per_step cpus) (cpus * budget) EVENTS_PER_STEP (cpus * budget) (omega (arith, few)) (omega arith))
