-- What an offer names is what is legal.
use Rattle.std.proofs.Common.{◌≡◌, ℕ, ◌<◌, ◌≤◌, ◌&&◌, Bool, true, false, not, cond, ltb, List, [], ◌∷◌, length, map, None, refl, sym, ap, ◌∙◌, ⊎_elim, arith}
use Rattle.std.specs.Prelude.{is_ok}
use Rattle.std.proofs.lemmas.Bool.{cases_lt, false≢true, le-ltb, lt-ltb}
use Rattle.axp_access.specs.Acts.{is_drop_of, is_fill}
use Rattle.axp_access.specs.declared.Record.{Record}
use Rattle.axp_bank.specs.Copies as copies
use Rattle.axp_bank.specs.declared.copies.LineCopy.{LineCopy}
use Rattle.axp_access.specs.Offers.{is_offered}
use Rattle.axp_access.specs.declared.Act.{Act}
use Rattle.axp_access.specs.declared.Act.TheVariants as act
use Rattle.axp_access.specs.declared.offers.Offer.{Offer}
use Rattle.axp_base.specs.Cpus.{cpu_number}
use Rattle.axp_base.specs.Lists.{is_empty}
use Rattle.axp_base.specs.declared.lines.Bank.{Bank}
use Rattle.axp_base.specs.declared.lines.Bank.TheVariants.{Even, Odd, Code}
use Rattle.axp_base.specs.declared.processors.Cpu.{Cpu}
use Rattle.axp_bus.proofs.BusCallLemmas.{late_is}
use Rattle.axp_bus.specs.Buses.{State}
use Rattle.axp_bus.specs.BusStands.{Stands}
use Rattle.axp_bus.specs.Ports.{late_for}
use Rattle.axp_cpu.specs.Actors.{request_of}
use Rattle.axp_cpu.specs.Seats.{is_finished, next_wanted}
use Rattle.axp_image.specs.Contents.{IsValid}
use Rattle.axp_line.specs.BusCalls as calls
use Rattle.axp_line.specs.BusCalls.{BusCall}
use Rattle.axp_lsu.specs.Offering as offering
use Rattle.axp_model.specs.Entries.{buffer, oldest}
use Rattle.axp_model.specs.Legal.{is_timely, legal, since_step}
use Rattle.axp_world.proofs.RunJoined.{agrees, allowed, joined}
use Rattle.axp_world.proofs.RunOutcomes.{numbered_line}
use Rattle.axp_world.proofs.RunLegality.{full_agrees}
use Rattle.axp_world.proofs.RunPlayed.{Agrees}
use Rattle.axp_world.proofs.RunSeats.{cpu_small}
use Rattle.axp_world.specs.Deeds.{has_late}
use Rattle.axp_world.specs.Worlds.{image_bytes}
use Rattle.axp_machine.specs.Offers.{OffersNothing, bank_drops, drains_of, drops_of, is_late, lines_in, may_make, numbered_in, offer_of}
use Rattle.axp_machine.specs.Playing.{actor_of}
use Rattle.axp_machine.specs.Runs.{IsRun, Seen, is_spent, needs_of, processors_of, seat_of, world_of}
use Rattle.axp_machine.proofs.RunLemmas.{seat_shown}

-- this offer, but with what the bus has late
abbrev with_late : Offer → Bool → Bool → Offer
with_late o even odd = record o { late = (even, odd) }

and_true : (b : Bool) → b ≡ (b && true)
and_true true = refl
and_true false = refl

late_offered : (o : Offer) (even odd : Bool) (cs : List BusCall) (p : ℕ) → even ≡ (o.late.0 && not (is_empty (calls.late p Even cs))) → odd ≡ (o.late.1 && not (is_empty (calls.late p Odd cs))) → (a : Act) → is_offered (with_late o even odd) a ≡ (is_offered o a && has_late a cs p)
late_offered o even odd cs p is_even is_odd act.Step = and_true o.step
late_offered o even odd cs p is_even is_odd act.Fill = and_true o.fill
late_offered o even odd cs p is_even is_odd (act.Drain k) = and_true (ltb k o.drains)
late_offered o even odd cs p is_even is_odd (act.Take Even) = is_even
late_offered o even odd cs p is_even is_odd (act.Take Odd) = is_odd
late_offered o even odd cs p is_even is_odd (act.Take Code) = refl
late_offered o even odd cs p is_even is_odd (act.Drop bank line) = and_true (is_offered o (act.Drop bank line))
late_offered o even odd cs p is_even is_odd act.Poll = and_true o.poll
late_offered o even odd cs p is_even is_odd act.Tick = and_true o.tick

pub offered_legal : (m : Seen) (c : Cpu) (o : Offer) (even odd : Bool) → IsValid m.image → IsRun m → cpu_number c < m.cpus
    → ((a : Act) → is_offered o a ≡ is_ok (request_of (actor_of m (cpu_number c)) a))
    → even ≡ (o.late.0 && is_late m c Even) → odd ≡ (o.late.1 && is_late m c Odd)
    → (a : Act) → is_offered (with_late o even odd) a ≡ legal (processors_of m) m.records (record { cpu = c; act = a })
offered_legal m c o even odd valid run below asks is_even is_odd a =
    late_offered o even odd (world_of m).calls (cpu_number c) is_even is_odd a
    ∙ ap (λ b. b && has_late a (world_of m).calls (cpu_number c)) (asks a)
    ∙ allowed m.image m.cpus m.budget m.records (record { cpu = c; act = a }) valid run below

-- what the bus tells
pub late_told : (m : Seen) (b : State) (c : Cpu) (bank : Bank) (told : Bool) → cpu_number c < length b.ports → Stands b (image_bytes m.image) (world_of m).calls → told ≡ not (is_empty (late_for (cpu_number c) bank b.ports)) → told ≡ is_late m c bank
late_told m b c bank told below stands is = is ∙ ap (λ pairs. not (is_empty pairs)) (late_is b (image_bytes m.image) (world_of m).calls (cpu_number c) bank stands below)

-- of a processor that there is not nothing is legal
nothing_offered : (o : Offer) → OffersNothing o → (a : Act) → is_offered o a ≡ false
nothing_offered o none act.Step = none.step
nothing_offered o none act.Fill = none.fill
nothing_offered o none (act.Drain k) = ap (ltb k) none.drains ∙ le-ltb k 0 (omega arith)
nothing_offered o none (act.Take Even) = ap (λ (l : Bool × Bool). l.0) none.late
nothing_offered o none (act.Take Odd) = ap (λ (l : Bool × Bool). l.1) none.late
nothing_offered o none (act.Take Code) = refl
nothing_offered o none (act.Drop bank line) = rw none.drops refl
nothing_offered o none act.Poll = none.poll
nothing_offered o none act.Tick = none.tick

pub nothing_legal : (m : Seen) (c : Cpu) (o : Offer) → OffersNothing o → m.cpus ≤ cpu_number c → (a : Act) → is_offered o a ≡ legal (processors_of m) m.records (record { cpu = c; act = a })
unfolding legal
nothing_legal m c o none past a = nothing_offered o none a ∙ rw (le-ltb (cpu_number c) m.cpus past) refl

pub nothing_spent : (m : Seen) (c : Cpu) → m.cpus ≤ cpu_number c → false ≡ is_spent m c
nothing_spent m c past = rw (le-ltb (cpu_number c) m.cpus past) refl

pub nothing_needed : (m : Seen) (c : Cpu) → m.cpus ≤ cpu_number c → None ≡ needs_of m c
nothing_needed m c past = rw (le-ltb (cpu_number c) m.cpus past) refl

-- what is told of a processor is so by the records
pub spent_shown : (m : Seen) (c : Cpu) → IsValid m.image → IsRun m → cpu_number c < m.cpus → is_finished (actor_of m (cpu_number c)).seat ≡ is_spent m c
spent_shown m c valid run below = rw (lt-ltb (cpu_number c) m.cpus below) (ap is_finished (sym (seat_shown m (cpu_number c) valid run (cpu_small c))))

pub needs_shown : (m : Seen) (c : Cpu) → IsValid m.image → IsRun m → cpu_number c < m.cpus
    → offering.full_bank (next_wanted (actor_of m (cpu_number c)).seat) (actor_of m (cpu_number c)).kept ≡ needs_of m c
needs_shown m c valid run below =
    let p : ℕ = cpu_number c in
    let has : Agrees m.image m.cpus m.budget m.records p = agrees m.image m.cpus m.budget m.records (joined m.image m.cpus m.budget m.records valid run) p (cpu_small c) in
    rw (lt-ltb p m.cpus below)
    (ap (λ s. offering.full_bank (next_wanted s) (actor_of m p).kept) (sym has.seat) ∙ full_agrees (next_wanted (seat_of m p)) (image_bytes m.image) p m.records (actor_of m p).kept has.banks)

-- ---- the whole offer, by the records

-- two counts that the same numbers are below
counts_same : (a b : ℕ) → ((k : ℕ) → ltb k a ≡ ltb k b) → a ≡ b
counts_same a b same =
    ⊎_elim
    (λ (less : a < b). absurd (false≢true (sym (le-ltb a a (omega arith)) ∙ same a ∙ lt-ltb a b less)))
    (λ (not_less : b ≤ a).
    ⊎_elim
    (λ (more : b < a). absurd (false≢true (sym (le-ltb b b (omega arith)) ∙ sym (same b) ∙ lt-ltb b a more)))
    (λ (not_more : a ≤ b). omega (arith, not_less, not_more))
    (cases_lt b a))
    (cases_lt a b)

none_below : (k : ℕ) → ltb k 0 ≡ false
none_below k = le-ltb k 0 (omega arith)

-- what is below a count that a test lets through
below_if : (k len : ℕ) (there timely : Bool) → (there && (ltb k len && timely)) ≡ ltb k (cond (there && timely) len 0)
below_if k len true true = sym (and_true (ltb k len))
below_if k len true false = no_and (ltb k len) ∙ sym (none_below k) where
  no_and : (b : Bool) → (b && false) ≡ false
  no_and true = refl
  no_and false = refl
below_if k len false timely = sym (none_below k)

drains_counted : (m : Seen) (c : Cpu) (k : ℕ) → may_make m c (act.Drain k) ≡ ltb k (drains_of m c)
unfolding legal
drains_counted m c k =
    below_if k (length (oldest (buffer (cpu_number c) m.records).waiting)) (ltb (cpu_number c) m.cpus)
    (is_timely (act.Drain 0) (is_finished (seat_of m (cpu_number c))) (since_step is_fill (cpu_number c) m.records))

pub offer_whole : (m : Seen) (c : Cpu) (o : Offer) → ((a : Act) → is_offered o a ≡ may_make m c a) → o.spent ≡ is_spent m c → o.drops.items ≡ drops_of m c → o.needs ≡ needs_of m c → o ≡ offer_of m c
unfolding offer_of
offer_whole m c o legal_acts spent drops needs =
    let drains : o.drains ≡ drains_of m c = counts_same o.drains (drains_of m c) (λ k. legal_acts (act.Drain k) ∙ drains_counted m c k) in
    rw (← spent, ← legal_acts act.Step, ← legal_acts act.Fill, ← drains, ← legal_acts (act.Take Even), ← legal_acts (act.Take Odd), ← drops, ← needs, ← legal_acts act.Poll, ← legal_acts act.Tick) refl

-- the copies of a bank, by their lines' numbers
copies_numbered : (b : Bank) (cs : List LineCopy) → offering.named b cs ≡ map (numbered_in b) (map copies.line_of cs)
copies_numbered b [] = refl
copies_numbered b (c ∷ cs) = rw (numbered_line c.line, ← copies_numbered b cs) refl

bank_shown : (b : Bank) (p : ℕ) (h : List Record) (cs : List LineCopy) (since : Bool) → map copies.line_of cs ≡ lines_in b p h → since ≡ since_step (is_drop_of b) p h → cond since [] (offering.named b cs) ≡ bank_drops b p h
bank_shown b p h cs since lines same = rw (same, copies_numbered b cs, lines) refl

pub drops_shown : (m : Seen) (c : Cpu) → IsValid m.image → IsRun m → cpu_number c < m.cpus
    → cond (offering.is_open (is_finished (actor_of m (cpu_number c)).seat) (actor_of m (cpu_number c)).kept) (offering.drops_of (actor_of m (cpu_number c)).kept) [] ≡ drops_of m c
drops_shown m c valid run below =
    let p : ℕ = cpu_number c in
    let has : Agrees m.image m.cpus m.budget m.records p = agrees m.image m.cpus m.budget m.records (joined m.image m.cpus m.budget m.records valid run) p (cpu_small c) in
    let kept = (actor_of m p).kept in
    rw (lt-ltb p m.cpus below, ap is_finished has.seat, bank_shown Even p m.records kept.even kept.since.dropped_even has.banks.even_lines has.since.even, bank_shown Odd p m.records kept.odd kept.since.dropped_odd has.banks.odd_lines has.since.odd, bank_shown Code p m.records kept.code kept.since.dropped_code has.banks.code_lines has.since.code, has.since.filled) refl

pub nothing_dropped : (m : Seen) (c : Cpu) (o : Offer) → OffersNothing o → m.cpus ≤ cpu_number c → o.drops.items ≡ drops_of m c
nothing_dropped m c o none past = none.drops ∙ rw (le-ltb (cpu_number c) m.cpus past) refl
