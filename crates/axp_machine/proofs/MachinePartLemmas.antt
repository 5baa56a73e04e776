-- A machine's parts after a granted event.
use Rattle.std.proofs.Common.{◌≡◌, ◌≢◌, ℕ, zero, suc, ◌+◌, ◌*◌, ◌^◌, ◌<◌, ◌≤◌, true, false, eqb, List, [], ◌∷◌, ◌++◌, length, reverse, set, slice_get, Option, Some, None, arith, refl, sym, ap, ◌∙◌, subst, ⊎_elim, get_or-set_other}
use Rattle.std.proofs.Math.ListN.{length-set}
use Rattle.std.proofs.lemmas.Grind.{get_or-set_at}
use Rattle.std.proofs.lemmas.List.{length-reverse, reverse-append}
use Rattle.std.proofs.lemmas.Option.{get_or_from_slice_get, slice_get-get_or, slice_get_within}
use Rattle.std.proofs.lemmas.Bool.{cases_Bool, eqb-true, eq-eqb}
use Rattle.std.proofs.lemmas.Nat.{mul-le}
use Rattle.std.specs.Prelude.{Ok}
use Rattle.std.specs.Vec.{vec_capacity}
use Rattle.axp_access.specs.Spelling.{Spells}
use Rattle.axp_access.specs.declared.Event.{Event}
use Rattle.axp_access.specs.declared.Outcome.{Outcome}
use Rattle.axp_access.specs.declared.Record.{Record}
use Rattle.axp_base.specs.Cpus.{cpu_number}
use Rattle.axp_base.specs.declared.lines.Bank.{Bank}
use Rattle.axp_base.specs.declared.lines.Bank.TheVariants.{Even, Odd, Code}
use Rattle.axp_base.specs.declared.processors.Cpu.{Cpu}
use Rattle.axp_base.specs.declared.processors.TheConstants.{MAX_BUDGET, MAX_CPUS}
use Rattle.axp_bus.specs.BusStands as bus
use Rattle.axp_bus.proofs.ReplyLemmas.{late_tidy}
use Rattle.axp_cpu.specs.Actors.{Actor, actor_intent, advanced, outcome_of}
use Rattle.axp_cpu.specs.ActorStands.{IsAnswered, IsAt}
use Rattle.axp_cpu.specs.declared.processors.Processor.{Processor}
use Rattle.axp_cpu.proofs.ActorLemmas.{was_asked}
use Rattle.axp_image.specs.Contents.{Contents}
use Rattle.axp_line.specs.declared.messages.Reply.{Reply}
use Rattle.axp_line.specs.declared.messages.Reply.TheVariants as reply
use Rattle.axp_lsu.specs.Asking.{ask_of}
use Rattle.axp_lsu.specs.Fitting.{ReplyFits, ShowsFitting}
use Rattle.axp_lsu.specs.Within.{IsAskWithin}
use Rattle.axp_lsu.specs.declared.asks.Ask2.{Ask2}
use Rattle.axp_lsu.specs.declared.asks.Ask2.TheVariants as ask
use Rattle.axp_line.specs.BusCalls.{BusCall}
use Rattle.axp_line.specs.BusReply.{port_state}
use Rattle.axp_wbuf.specs.Pending.{IsTidy}
use Rattle.axp_world.specs.declared.lengths.TheConstants.{EVENTS_PER_STEP}
use Rattle.axp_world.specs.Worlds as worlds
use Rattle.axp_world.specs.Worlds.{IsPlayed, World, asked, calls_for, image_bytes, reply_at, reply_for, world}
use Rattle.axp_world.proofs.CountEvents.{played_is_short, turns_are_few}
use Rattle.axp_world.proofs.RunJoined.{joined}
use Rattle.axp_world.proofs.PlayedRecords.{actor_other, actor_own}
use Rattle.axp_world.proofs.RunPlayed.{actor_cpu}
use Rattle.axp_machine.specs.declared.machine.Machine.TheInside.{Inside}
use Rattle.axp_machine.specs.Playing.{MayAnswer, granted_in, actor_of}
use Rattle.axp_machine.specs.Runs.{Seen, answer_of, with_record, world_of}
use Rattle.axp_machine.specs.Ties.{AreAskedWithin, AreSeated, Ties, history, seen}
use Rattle.axp_machine.proofs.AskLemmas.{IsLateMade, asked_may, may_ask_for, reply_fits}
use Rattle.axp_machine.proofs.GrantLemmas.{IsGranted, granted_is, outcome_in}
use Rattle.axp_machine.proofs.LateLineLemmas.{IsToldWithin, told_within}
use Rattle.axp_machine.proofs.RoomLemmas.{console_few, seat_over, steps_few}
use Rattle.axp_machine.proofs.SpellingLemmas.{spells}

-- the record that a granted event makes
abbrev pub made : Seen → Event → Record
made m e = record { event = e; outcome = outcome_in m e }

-- it was played
pub played : (a : Inside) (e : Event) (q : Ask2) → Ties a → IsGranted (seen a) e q → IsPlayed a.image (length a.processors.items) a.budget (made (seen a) e ∷ history a)
unfolding answer_of
played a e q ties is = (is.answer, ties.run)

-- so there was room for it
pub record HasRoom (a : Inside) : Type 0 where
  pub records : length a.records.items < vec_capacity a.records
  pub turns : a.bus.turns < a.bus.room
  pub printed : length a.bus.printed < a.bus.room
  pub few : a.bus.turns + 1 < 2 ^ 32

room_most : (cpus budget : ℕ) → cpus ≤ MAX_CPUS → budget ≤ MAX_BUDGET → EVENTS_PER_STEP * cpus * budget < 2 ^ 31
room_most cpus budget most few =
    let each : EVENTS_PER_STEP * cpus ≤ EVENTS_PER_STEP * MAX_CPUS = omega (arith, most) in
    let all = mul-le (EVENTS_PER_STEP * cpus) budget (EVENTS_PER_STEP * MAX_CPUS) MAX_BUDGET each few in omega (arith, all)

pub has_room : (a : Inside) (e : Event) (q : Ask2) → Ties a → IsGranted (seen a) e q → HasRoom a
has_room a e q ties is =
    let cpus : ℕ = length a.processors.items in
    let long = played_is_short a.image cpus a.budget (made (seen a) e ∷ history a) ties.most_cpus (played a e q ties is) in
    let short : length (history a) + 1 ≤ EVENTS_PER_STEP * cpus * a.budget = omega (arith, long) in
    let most = room_most cpus a.budget ties.most_cpus ties.most_budget in
    let turned : a.bus.turns ≤ length (history a) = omega (arith, ties.bus.turns, turns_are_few a.image cpus a.budget (history a) ties.run, steps_few (history a)) in
    let printed : length a.bus.printed ≤ length (history a) = omega (arith, ap (λ (xs : List ℕ). length xs) ties.bus.printed, console_few a.image (length a.processors.items) a.budget (history a)) in
    record {
      records = omega (arith, short, length-reverse a.records.items, ties.room);
      turns = omega (arith, short, turned, ties.bus_room);
      printed = omega (arith, short, printed, ties.bus_room);
      few = omega (arith, short, turned, most);
    }

-- the bus may be asked
may_answer : (a : Inside) (e : Event) (q : Ask2) (p : Processor) → Ties a → IsGranted (seen a) e q → IsAskWithin a.image.size q → IsAt p (actor_of (seen a) (cpu_number e.cpu)) → MayAnswer a.bus e.cpu q
may_answer a e q p ties is inside at =
    let over = seat_over a.image (length a.processors.items) a.budget (history a) (cpu_number e.cpu) in
    let size = over.size in
    let room = has_room a e q ties is in
    record {
      below = subst (λ n. cpu_number e.cpu < n) (sym ties.ports) is.below;
      asks = may_ask_for q a.bus (actor_of (seen a) (cpu_number e.cpu)).seat.size (size ∙ sym ties.size)
          (asked_may p (actor_of (seen a) (cpu_number e.cpu)) e.act q (length a.bus.ports) at (subst (λ n. (actor_of (seen a) (cpu_number e.cpu)).seat.cpus ≤ n) (sym ties.ports) over.few) is.asked (subst (λ n. IsAskWithin n q) (sym size) inside));
      turns = room.turns;
      printed = room.printed;
    }

past_of_none : (ps : List Processor) (c : ℕ) → slice_get ps c ≡ None → length ps ≤ c
past_of_none [] c none = omega arith
past_of_none (p ∷ ps) zero none = cc
past_of_none (p ∷ ps) (suc c) none = omega (arith, past_of_none ps c none)

by_found : (a : Inside) (e : Event) (q : Ask2) (o : Option Processor) → slice_get a.processors.items (cpu_number e.cpu) ≡ o → Ties a → IsGranted (seen a) e q → IsAskWithin a.image.size q → MayAnswer a.bus e.cpu q
by_found a e q None found ties is inside = let below = is.below in let past = past_of_none a.processors.items (cpu_number e.cpu) found in absurd (omega (arith, below, past))
by_found a e q (Some p) found ties is inside = may_answer a e q p ties is inside (ties.seats (cpu_number e.cpu) p found)

pub can_answer : (a : Inside) (e : Event) (q : Ask2) → Ties a → IsGranted (seen a) e q → IsAskWithin a.image.size q → MayAnswer a.bus e.cpu q
can_answer a e q ties is inside = by_found a e q (slice_get a.processors.items (cpu_number e.cpu)) refl ties is inside

-- its answer fits
late_made : (a : Inside) (p : ℕ) (bank : Bank) → IsLateMade (port_state (image_bytes a.image) (world_of (seen a)).calls p) bank
late_made a p Even = (late_tidy p Even (world_of (seen a)).calls).made
late_made a p Odd = (late_tidy p Odd (world_of (seen a)).calls).made
late_made a p Code = tt

by_ask : (a : Inside) (p : ℕ) (q : Ask2) → Ties a → a.bus.turns + 1 < 2 ^ 32 → (reply_for (image_bytes a.image) (world_of (seen a)).calls p (Ok q) ≡ Some reply.Nothing → ⊥) → ReplyFits (Some q) (reply_for (image_bytes a.image) (world_of (seen a)).calls p (Ok q))
by_ask a p ask.Private ties few something = tt
by_ask a p (ask.Bus q) ties few something =
    reply_fits q (port_state (image_bytes a.image) (world_of (seen a)).calls p) (subst (λ n. n + 1 < 2 ^ 32) ties.bus.turns few) (late_made a p) (λ none. something (ap (λ (r : Reply). Some r) none))

answer_fits : (a : Inside) (e : Event) (q : Ask2) (r : Option Reply) → Ties a → IsGranted (seen a) e q → r ≡ reply_for (image_bytes a.image) (world_of (seen a)).calls (cpu_number e.cpu) (Ok q) → ReplyFits (Some q) r
answer_fits a e q r ties is answer = subst (λ (x : Option Reply). ReplyFits (Some q) x) (sym answer) (by_ask a (cpu_number e.cpu) q ties (has_room a e q ties is).few is.something)

pub is_answered : (a : Inside) (e : Event) (q : Ask2) (p : Processor) (r : Option Reply) → Ties a → IsGranted (seen a) e q → IsAt p (actor_of (seen a) (cpu_number e.cpu)) → r ≡ reply_for (image_bytes a.image) (world_of (seen a)).calls (cpu_number e.cpu) (Ok q) → IsAnswered p e.act r
is_answered a e q p r ties is at answer = record {
  actor = actor_of (seen a) (cpu_number e.cpu);
  at = at;
  ask = q;
  asked = is.asked;
  fits = answer_fits a e q r ties is answer;
}

-- what its processor gives is spelled
pub is_spelled : (a : Inside) (e : Event) (q : Ask2) (p : Processor) (r : Option Reply) (o : Outcome) → Ties a → IsGranted (seen a) e q → IsAt p (actor_of (seen a) (cpu_number e.cpu)) → r ≡ reply_for (image_bytes a.image) (world_of (seen a)).calls (cpu_number e.cpu) (Ok q)
    → o ≡ outcome_of (actor_of (seen a) (cpu_number e.cpu)) e.act r → ShowsFitting o → Spells e o
is_spelled a e q p r o ties is at answer gives fits =
    let x : Actor = actor_of (seen a) (cpu_number e.cpu) in
    let over = seat_over a.image (length a.processors.items) a.budget (history a) (cpu_number e.cpu) in
    let size = over.size in
    let calls : List BusCall = (world_of (seen a)).calls in
    let told : IsToldWithin x.seat.size r = rw (size, answer) (told_within a.image.size (image_bytes a.image) calls (cpu_number e.cpu) q ties.asked) in
    let tidy : IsTidy x.kept.buffer = ((joined a.image (length a.processors.items) a.budget (history a) ties.valid ties.run).buffers (cpu_number e.cpu)).alike.tidy in
    let asked : ask_of e.act (actor_intent x) x.kept ≡ Some q = was_asked x e.act q is.asked in
    subst (λ (z : Outcome). Spells e z) (sym gives)
    (spells p x e r at (actor_cpu a.image (length a.processors.items) a.budget (history a) e.cpu) tidy (subst (λ (z : Option Ask2). ReplyFits z r) (sym asked) (answer_fits a e q r ties is answer)) told (subst (λ (z : Outcome). ShowsFitting z) gives fits))

-- what a list has after one of its elements was set
slice_get-set_here : {A : Type 0} (xs : List A) (c : ℕ) (new y : A) → slice_get (set xs c new) c ≡ Some y → new ≡ y
slice_get-set_here xs c new y at =
    let within : c < length xs = subst (λ n. c < n) (length-set xs c new) (slice_get_within (set xs c new) c y at) in
    sym (get_or-set_at xs c c new new refl within) ∙ get_or_from_slice_get (set xs c new) c y new at

slice_get-set_other : {A : Type 0} (xs : List A) (c p : ℕ) (new y : A) → p ≢ c → slice_get (set xs c new) p ≡ Some y → slice_get xs p ≡ Some y
slice_get-set_other xs c p new y apart at =
    let within : p < length xs = subst (λ n. p < n) (length-set xs c new) (slice_get_within (set xs c new) p y at) in
    slice_get-get_or xs p y within ∙ ap Some (sym (get_or-set_other xs c p new y apart) ∙ get_or_from_slice_get (set xs c new) p y y at)

-- all processors are the world's after one of them went on
seats_step : (image : Contents) (cpus budget : ℕ) (ps : List Processor) (h : List Record) (r : Record) (new : Processor)
    → IsAt new (advanced ((world image cpus budget h).actors (cpu_number r.event.cpu)) r.event.act (reply_at image (world image cpus budget h) r.event)) → AreSeated (world image cpus budget h) ps
    → AreSeated (world image cpus budget (r ∷ h)) (set ps (cpu_number r.event.cpu) new)
seats_step image cpus budget ps h r new goes seated p x at =
    let w : World = world image cpus budget h in
    ⊎_elim
    (λ (own : eqb (cpu_number r.event.cpu) p ≡ true).
    let same : cpu_number r.event.cpu ≡ p = eqb-true (cpu_number r.event.cpu) p own in
    let is : new ≡ x = slice_get-set_here ps p new x (subst (λ c. slice_get (set ps c new) p ≡ Some x) same at) in
    subst (λ (y : Actor). IsAt x y) (sym (actor_own image w r.event p own))
    (subst (λ (y : Processor). IsAt y (advanced (w.actors p) r.event.act (reply_at image w r.event))) is
    (subst (λ c. IsAt new (advanced (w.actors c) r.event.act (reply_at image w r.event))) same goes)))
    (λ (other : eqb (cpu_number r.event.cpu) p ≡ false).
    subst (λ (y : Actor). IsAt x y) (sym (actor_other image w r.event p other))
    (seated p x (slice_get-set_other ps (cpu_number r.event.cpu) p new x (λ back. let never : eqb (cpu_number r.event.cpu) p ≡ true = eq-eqb (cpu_number r.event.cpu) p (sym back) in let no_way : true ≡ false = sym never ∙ other in cc) at)))
    (cases_Bool (eqb (cpu_number r.event.cpu) p))

-- the calls of the world after
calls_made : (image : Contents) (w : World) (e : Event) (q : Ask2) → asked w e ≡ Ok q → (worlds.after_event image w e).calls ≡ calls_for (image_bytes image) w.calls e.cpu (Ok q)
unfolding worlds.after_event
calls_made image w e q is = ap (calls_for (image_bytes image) w.calls e.cpu) is

-- the parts after
pub record Makes (a b : Inside) (e : Event) (q : Ask2) (new : Processor) : Type 0 where
  pub image : b.image ≡ a.image
  pub budget : b.budget ≡ a.budget
  pub processors : b.processors.items ≡ set a.processors.items (cpu_number e.cpu) new
  pub at : IsAt new (advanced (actor_of (seen a) (cpu_number e.cpu)) e.act (reply_at a.image (world_of (seen a)) e))
  pub bus : bus.Stands b.bus (image_bytes a.image) (calls_for (image_bytes a.image) (world_of (seen a)).calls e.cpu (Ok q))
  pub size : length b.bus.memory ≡ length a.bus.memory
  pub ports : length b.bus.ports ≡ length a.bus.ports
  pub room : b.bus.room ≡ a.bus.room
  pub records : b.records.items ≡ a.records.items ++ made (seen a) e ∷ []
  pub capacity : vec_capacity b.records ≡ vec_capacity a.records

history_made : (a b : Inside) (e : Event) (q : Ask2) (new : Processor) → Makes a b e q new → history b ≡ made (seen a) e ∷ history a
history_made a b e q new makes = ap reverse makes.records ∙ reverse-append a.records.items (made (seen a) e ∷ [])

count_made : (a b : Inside) (e : Event) (q : Ask2) (new : Processor) → Makes a b e q new → length b.processors.items ≡ length a.processors.items
count_made a b e q new makes = ap (λ (ps : List Processor). length ps) makes.processors ∙ length-set a.processors.items (cpu_number e.cpu) new

asked_made : (size : ℕ) (image : ℕ → ℕ) (cs : List BusCall) (cpu : Cpu) (q : Ask2) → IsAskWithin size q → AreAskedWithin size cs → AreAskedWithin size (calls_for image cs cpu (Ok q))
asked_made size image cs cpu ask.Private inside before = before
asked_made size image cs cpu (ask.Bus q) inside before = (inside, before)

pub ties_made : (a b : Inside) (e : Event) (q : Ask2) (new : Processor) → Ties a → IsGranted (seen a) e q → IsAskWithin a.image.size q → Makes a b e q new → Ties b
ties_made a b e q new ties is inside makes =
    let past = history_made a b e q new makes in
    let count = count_made a b e q new makes in
    record {
      valid = rw makes.image ties.valid;
      seats = rw (count, makes.image, makes.budget, past, makes.processors) (seats_step a.image (length a.processors.items) a.budget a.processors.items (history a) (made (seen a) e) new makes.at ties.seats);
      bus = rw (count, makes.image, makes.budget, past) (subst (λ cs. bus.Stands b.bus (image_bytes a.image) cs) (sym (calls_made a.image (world_of (seen a)) e q is.asked)) makes.bus);
      asked = rw (count, makes.image, makes.budget, past) (subst (AreAskedWithin a.image.size) (sym (calls_made a.image (world_of (seen a)) e q is.asked)) (asked_made a.image.size (image_bytes a.image) (world_of (seen a)).calls e.cpu q inside ties.asked));
      size = makes.size ∙ ties.size ∙ ap (λ (i : Contents). i.size) (sym makes.image);
      ports = makes.ports ∙ ties.ports ∙ sym count;
      run = rw (makes.image, makes.budget, past) (subst (λ n. IsPlayed a.image n a.budget (made (seen a) e ∷ history a)) (sym count) (played a e q ties is));
      least_cpus = rw count ties.least_cpus;
      most_cpus = rw count ties.most_cpus;
      least_budget = rw makes.budget ties.least_budget;
      most_budget = rw makes.budget ties.most_budget;
      room = makes.capacity ∙ rw (count, makes.budget) ties.room;
      bus_room = makes.room ∙ rw (count, makes.budget) ties.bus_room;
    }

pub shows_made : (a b : Inside) (e : Event) (q : Ask2) (new : Processor) → Makes a b e q new → seen b ≡ with_record (seen a) (made (seen a) e)
shows_made a b e q new makes = rw (makes.image, makes.budget, history_made a b e q new makes, count_made a b e q new makes) refl

-- what a machine's call was granted, by its parts
pub granted_of : (a : Inside) (m : Seen) (e : Event) (q : Ask2) → seen a ≡ m → granted_in m e ≡ Ok q → IsGranted (seen a) e q
granted_of a m e q shown is = granted_is (seen a) e q (subst (λ (n : Seen). granted_in n e ≡ Ok q) (sym shown) is)

-- the parts after, by what the bus answered and the processor gave
pub makes_of : (a b : Inside) (e : Event) (q : Ask2) (new : Processor) (r : Option Reply) (o : Outcome) → IsGranted (seen a) e q → b.image ≡ a.image → b.budget ≡ a.budget → b.processors.items ≡ set a.processors.items (cpu_number e.cpu) new
    → r ≡ reply_for (image_bytes a.image) (world_of (seen a)).calls (cpu_number e.cpu) (Ok q) → IsAt new (advanced (actor_of (seen a) (cpu_number e.cpu)) e.act r) → o ≡ outcome_of (actor_of (seen a) (cpu_number e.cpu)) e.act r
    → bus.Stands b.bus (image_bytes a.image) (calls_for (image_bytes a.image) (world_of (seen a)).calls e.cpu (Ok q)) → length b.bus.memory ≡ length a.bus.memory → length b.bus.ports ≡ length a.bus.ports → b.bus.room ≡ a.bus.room
    → b.records.items ≡ a.records.items ++ record { event = e; outcome = o } ∷ [] → vec_capacity b.records ≡ vec_capacity a.records → Makes a b e q new × (o ≡ outcome_in (seen a) e)
makes_of a b e q new r o is image budget processors answered at gives stands size ports room records capacity =
    let told : r ≡ reply_at a.image (world_of (seen a)) e = answered ∙ ap (reply_for (image_bytes a.image) (world_of (seen a)).calls (cpu_number e.cpu)) (sym is.asked) in
    let same : o ≡ outcome_in (seen a) e = gives ∙ ap (outcome_of (actor_of (seen a) (cpu_number e.cpu)) e.act) told in (
      record {
        image = image;
        budget = budget;
        processors = processors;
        at = subst (λ (x : Option Reply). IsAt new (advanced (actor_of (seen a) (cpu_number e.cpu)) e.act x)) told at;
        bus = stands;
        size = size;
        ports = ports;
        room = room;
        records = records ∙ ap (λ (x : Outcome). a.records.items ++ record { event = e; outcome = x } ∷ []) same;
        capacity = capacity;
      },
      same,
    )

-- the machine after shows one record more
pub shows_after : (a b : Inside) (m : Seen) (e : Event) (q : Ask2) (new : Processor) (o : Outcome) → seen a ≡ m → Makes a b e q new × (o ≡ outcome_in (seen a) e) → seen b ≡ with_record m (record { event = e; outcome = o })
shows_after a b m e q new o shown makes =
    shows_made a b e q new makes.0 ∙ ap (λ (x : Outcome). with_record (seen a) (record { event = e; outcome = x })) (sym makes.1) ∙ ap (λ (n : Seen). with_record n (record { event = e; outcome = o })) shown

pub answer_is : (a : Inside) (m : Seen) (e : Event) (q : Ask2) (o : Outcome) → seen a ≡ m → IsGranted (seen a) e q → o ≡ outcome_in (seen a) e → answer_of m e ≡ Ok o
answer_is a m e q o shown is same = subst (λ (n : Seen). answer_of n e ≡ Ok o) shown (is.answer ∙ ap (λ (x : Outcome). Ok x) (sym same))
