-- A seeded run ends: while it is not complete it has a next record, and no history is longer than its budgets allow.
use Rattle.std.proofs.Common.{◌≡◌, ◌⊎◌, inl, inr, ℕ, zero, suc, ◌+◌, ◌*◌, ◌%◌, ◌<◌, ◌≤◌, Bool, true, false, not, cond, nat_lt, ◌&&◌, List, [], ◌∷◌, length, slice_get, Option, Some, None, is_some, refl, ap, sym, subst, ◌∙◌, ⊎_elim, arith}
use Rattle.std.proofs.lemmas.Bool.{false≢true, lt-ltb}
use Rattle.std.specs.Prelude.{Result, Ok, Err, is_ok}
use Rattle.axp_access.specs.Offers.{is_offered}
use Rattle.axp_access.specs.declared.Act.{Act}
use Rattle.axp_access.specs.declared.Act.TheVariants as act
use Rattle.axp_access.specs.declared.Event.{Event}
use Rattle.axp_access.specs.declared.Intent.{Intent}
use Rattle.axp_access.specs.declared.Outcome.{Outcome}
use Rattle.axp_access.specs.declared.Record.{Record}
use Rattle.axp_access.specs.declared.offers.Offer.{Offer}
use Rattle.axp_base.specs.Cpus.{cpu_by, cpu_number, cpu_of}
use Rattle.axp_base.specs.declared.lines.Bank.{Bank}
use Rattle.axp_base.specs.declared.lines.Bank.TheVariants.{Even, Odd}
use Rattle.axp_base.specs.declared.processors.Cpu.{Cpu}
use Rattle.axp_base.specs.declared.processors.TheConstants.{MAX_CPUS}
use Rattle.axp_cpu.specs.Actors.{Actor, actor_intent, asked_or_refused, request_of}
use Rattle.axp_cpu.specs.Seats.{next_wanted}
use Rattle.axp_cpu.specs.declared.refusals.NotLegal.{NotLegal}
use Rattle.axp_image.specs.Contents.{Contents, IsValid}
use Rattle.axp_lsu.proofs.OfferLemmas.{offers_asked}
use Rattle.axp_lsu.specs.Asking.{ask_of}
use Rattle.axp_lsu.specs.Keeping.{LocalMemory}
use Rattle.axp_lsu.specs.Offering as offering
use Rattle.axp_lsu.specs.declared.asks.Ask2.{Ask2}
use Rattle.axp_machine.proofs.OfferLemmas.{drops_shown, needs_shown, offer_whole, offered_legal, spent_shown}
use Rattle.axp_machine.proofs.RunLemmas.{refused_exactly}
use Rattle.axp_machine.specs.Offers.{is_late, may_make, offer_of}
use Rattle.axp_machine.specs.Playing.{actor_of}
use Rattle.axp_machine.specs.Runs.{IsRun, Seen, answer_of, is_complete, is_spent, needs_of, processors_of, started, with_record}
use Rattle.axp_model.specs.Legal.{is_done, is_timely, legal}
use Rattle.axp_pick.proofs.ChoiceLemmas.{able_chooses, chosen_is_offered}
use Rattle.axp_pick.specs.Choices.{choice, is_able, turn_field}
use Rattle.axp_pick.specs.Words.{next_word, words_behind}
use Rattle.axp_seed.proofs.AbleLemmas.{able}
use Rattle.axp_seed.proofs.NextLemmas.{chosen_is, next_is, stays}
use Rattle.axp_seed.proofs.TurnLemmas.{IsWorking, complete_where_none, turn_works}
use Rattle.axp_seed.specs.Seeds.{Seeded, behind, event_with, next_record, seeded_after, seeded_start, turn_among, working}
use Rattle.axp_wbuf.specs.Drains.{oldest_group}
use Rattle.axp_world.proofs.CountEvents.{played_is_short}
use Rattle.axp_world.specs.RunLaws.{is_not_legal}
use Rattle.axp_world.specs.declared.lengths.TheConstants.{EVENTS_PER_STEP}

-- ---- what an offer by the records names is what is legal

-- the offer of a processor, by what it keeps; the bus alone knows what is late
abbrev offer_by : Intent → LocalMemory → Option Bank → Offer
offer_by i u needs = record {
  spent = i.finished;
  step = is_some (ask_of act.Step i u);
  fill = is_some (ask_of act.Fill i u);
  drains = cond (is_timely (act.Drain 0) i.finished u.since.filled) (length (oldest_group u.buffer.kept)) 0;
  late = (offering.is_open i.finished u, offering.is_open i.finished u);
  drops = record { items = cond (offering.is_open i.finished u) (offering.drops_of u) [] };
  needs = needs;
  poll = is_some (ask_of act.Poll i u);
  tick = is_some (ask_of act.Tick i u);
}

ok_where_some : (q : Option Ask2) → is_some q ≡ is_ok (asked_or_refused q)
ok_where_some None = refl
ok_where_some (Some q) = refl

offers_requests : (a : Actor) (needs : Option Bank) (e : Act) → is_offered (offer_by (actor_intent a) a.kept needs) e ≡ is_ok (request_of a e)
unfolding request_of
offers_requests a needs e =
    offers_asked (offer_by (actor_intent a) a.kept needs) (actor_intent a) a.kept (record { step = refl; fill = refl; drains = refl; late = refl; drops = refl; poll = refl; tick = refl }) e
    ∙ ok_where_some (ask_of e (actor_intent a) a.kept)

pub offer_legal : (m : Seen) (c : Cpu) → IsValid m.image → IsRun m → cpu_number c < m.cpus → (a : Act) → is_offered (offer_of m c) a ≡ may_make m c a
offer_legal m c valid run below a =
    let x : Actor = actor_of m (cpu_number c) in
    let o : Offer = offer_by (actor_intent x) x.kept (offering.full_bank (next_wanted x.seat) x.kept) in
    let acts = offered_legal m c o (o.late.0 && is_late m c Even) (o.late.1 && is_late m c Odd) valid run below (offers_requests x o.needs) refl refl in
    let whole = offer_whole m c (record o { late = (o.late.0 && is_late m c Even, o.late.1 && is_late m c Odd) }) acts (spent_shown m c valid run below) (drops_shown m c valid run below) (needs_shown m c valid run below) in
    ap (λ (p : Offer). is_offered p a) (sym whole) ∙ acts a

offer_spent : (m : Seen) (c : Cpu) → (offer_of m c).spent ≡ is_spent m c
unfolding offer_of
offer_spent m c = refl

offer_needs : (m : Seen) (c : Cpu) → (offer_of m c).needs ≡ needs_of m c
unfolding offer_of
offer_needs m c = refl

-- ---- a run that is not complete goes on

-- the word chooses an act, and it is offered
pub record Chooses (o : Offer) (word : ℕ) : Type 0 where
  pub act : Act
  pub chosen : Some act ≡ choice o word
  pub offered : is_offered o act ≡ true

chooses : (o : Offer) (word : ℕ) → is_able o ≡ true → Chooses o word
chooses o word is = by (choice o word) refl (able_chooses o is word) where
  by : (p : Option Act) → p ≡ choice o word → is_some p ≡ true → Chooses o word
  by None same some = cc
  by (Some a) same some = record { act = a; chosen = same; offered = chosen_is_offered o word a (sym same) }

-- a legal event has an outcome
answered : (m : Seen) (e : Event) → IsValid m.image → IsRun m → legal (processors_of m) m.records e ≡ true → (o : Outcome) × (answer_of m e ≡ Ok o)
answered m e valid run may = by (answer_of m e) refl (refused_exactly m e (answer_of m e) refl valid run ∙ ap not may) where
  by : (a : Result Outcome NotLegal) → answer_of m e ≡ a → is_not_legal a ≡ false → (o : Outcome) × (answer_of m e ≡ Ok o)
  by (Ok o) same able = (o, same)
  by (Err refusal) same able = cc

-- the processor of a small number
cpu_known : (p : ℕ) → p < MAX_CPUS → (c : Cpu) × (cpu_of p ≡ Some c) × (cpu_number c ≡ p)
cpu_known p less = by (nat_lt p MAX_CPUS) refl (lt-ltb p MAX_CPUS less) where
  by : (small : Bool) (h : nat_lt p MAX_CPUS ≡ small) → small ≡ true → (c : Cpu) × (cpu_by p small h ≡ Some c) × (cpu_number c ≡ p)
  by true h is = (record { number = p; below = h }, refl, refl)
  by false h is = cc

-- one of the numbers, where there are some
got : (xs : List ℕ) (i : ℕ) → i < length xs → (p : ℕ) × (Some p ≡ slice_get xs i)
got [] i less = absurd (omega (arith, less))
got (x ∷ xs) zero less = (x, refl)
got (x ∷ xs) (suc i) less = got xs i (omega (arith, less))

turn_there : (xs : List ℕ) (word : ℕ) → (xs ≡ [] → ⊥) → (p : ℕ) × (Some p ≡ turn_among xs word)
turn_there [] word some = absurd (some refl)
turn_there (x ∷ xs) word some = got (x ∷ xs) (turn_field word % length (x ∷ xs)) (omega arith)

-- the next record
pub record GoesOn (s : Seeded) : Type 0 where
  pub event : Event
  pub outcome : Outcome
  pub next : next_record s ≡ Some (record { event = event; outcome = outcome })
  pub gave : answer_of s.machine event ≡ Ok outcome

goes_by : (s : Seeded) (p : ℕ) (c : Cpu) → IsValid s.machine.image → IsRun s.machine → cpu_number c < s.machine.cpus → Some p ≡ turn_among (working s.machine) (next_word s.words) → cpu_of p ≡ Some c → Chooses (offer_of s.machine c) (next_word s.words) → GoesOn s
goes_by s p c valid run below turn is choice =
    let e : Event = event_with c choice.act in
    let answer = answered s.machine e valid run (sym (offer_legal s.machine c valid run below choice.act) ∙ choice.offered) in
    record {
      event = e;
      outcome = answer.0;
      next = next_is s e answer.0 (chosen_is s.machine (next_word s.words) p c (offer_of s.machine c) choice.act turn is refl choice.chosen) answer.1;
      gave = answer.1;
    }

able_by : (m : Seen) (p : ℕ) (c : Cpu) → IsValid m.image → IsRun m → cpu_number c ≡ p → IsWorking m m.cpus p → is_able (offer_of m c) ≡ true
able_by m p c valid run is works =
    let below : cpu_number c < m.cpus = omega (arith, is, works.below) in
    able m c (offer_of m c) valid run below (ap (is_done (processors_of m) m.records) is ∙ works.works) (offer_legal m c valid run below) (offer_spent m c) (offer_needs m c)

goes_with : (s : Seeded) (p : ℕ) → IsValid s.machine.image → IsRun s.machine → s.machine.cpus ≤ MAX_CPUS → Some p ≡ turn_among (working s.machine) (next_word s.words) → IsWorking s.machine s.machine.cpus p → GoesOn s
goes_with s p valid run few turn works =
    let cpu = cpu_known p (omega (arith, works.below, few)) in
    goes_by s p cpu.0 valid run (omega (arith, cpu.2, works.below)) turn cpu.1 (chooses (offer_of s.machine cpu.0) (next_word s.words) (able_by s.machine p cpu.0 valid run cpu.2 works))

goes_on : (s : Seeded) → IsValid s.machine.image → IsRun s.machine → s.machine.cpus ≤ MAX_CPUS → (is_complete s.machine ≡ true → ⊥) → GoesOn s
goes_on s valid run few on =
    let turn = turn_there (working s.machine) (next_word s.words) (λ none. on (complete_where_none s.machine [] true (sym none) refl refl)) in
    goes_with s turn.0 valid run few turn.1 (turn_works s.machine (next_word s.words) turn.0 turn.1)

-- ---- and comes to its end

-- a complete machine stays as it is
stays_so : (n : ℕ) (s : Seeded) → is_complete s.machine ≡ true → s ≡ seeded_after n s
unfolding seeded_after
stays_so zero s done = refl
stays_so (suc n) s done = stays_so n s done ∙ ap (seeded_after n) (stays s done)

behind_so : (s : Seeded) (r : Record) → next_record s ≡ Some r → record { machine = with_record s.machine r; words = words_behind s.words } ≡ behind s
unfolding behind
behind_so s r next = rw next refl

runs_on : (m : Seen) (r : Record) → answer_of m r.event ≡ Ok r.outcome → IsRun m → IsRun (with_record m r)
unfolding answer_of
runs_on m r gave run = (gave, run)

-- k is a run over what m is over, and is complete or has so many records
pub record Comes (m : Seen) (least : ℕ) (k : Seen) : Type 0 where
  pub image : k.image ≡ m.image
  pub cpus : k.cpus ≡ m.cpus
  pub budget : k.budget ≡ m.budget
  pub run : IsRun k
  pub far : (is_complete k ≡ true) ⊎ (least ≤ length k.records)

-- after so many events
comes : (n : ℕ) (s : Seeded) → IsValid s.machine.image → IsRun s.machine → s.machine.cpus ≤ MAX_CPUS → Comes s.machine (length s.machine.records + n) (seeded_after n s).machine
unfolding seeded_after
comes zero s valid run few = record { image = refl; cpus = refl; budget = refl; run = run; far = inr (omega arith) }
comes (suc n) s valid run few = by (comes n) (is_complete s.machine) refl where
  by : ((t : Seeded) → IsValid t.machine.image → IsRun t.machine → t.machine.cpus ≤ MAX_CPUS → Comes t.machine (length t.machine.records + n) (seeded_after n t).machine)
      → (done : Bool) → is_complete s.machine ≡ done → Comes s.machine (length s.machine.records + suc n) (seeded_after n (behind s)).machine
  by later true done =
      subst (λ (t : Seeded). Comes s.machine (length s.machine.records + suc n) t.machine) (stays_so (suc n) s done)
      (record { image = refl; cpus = refl; budget = refl; run = run; far = inl done })
  by later false on =
      let goes : GoesOn s = goes_on s valid run few (λ done. false≢true (sym on ∙ done)) in
      let r : Record = record { event = goes.event; outcome = goes.outcome } in
      let t : Seeded = record { machine = with_record s.machine r; words = words_behind s.words } in
      let end : Comes t.machine (length t.machine.records + n) (seeded_after n t).machine = later t valid (runs_on s.machine r goes.gave run) few in
      subst (λ (u : Seeded). Comes s.machine (length s.machine.records + suc n) (seeded_after n u).machine) (behind_so s r goes.next)
      (record {
        image = end.image;
        cpus = end.cpus;
        budget = end.budget;
        run = end.run;
        far = ⊎_elim (λ (done : is_complete (seeded_after n t).machine ≡ true). inl done) (λ (more : length t.machine.records + n ≤ length (seeded_after n t).machine.records). inr (omega (arith, more))) end.far;
      })

too_long : (n most len : ℕ) → n ≤ len → suc len ≤ most → most ≡ n → ⊥
too_long n most len reached within same = omega (arith, reached, within, same)

-- as many records as a history may have leave room for no next one
all_made : (n : ℕ) (image : Contents) (cpus budget : ℕ) (t : Seeded) → n ≡ EVENTS_PER_STEP * cpus * budget → IsValid image → cpus ≤ MAX_CPUS → Comes (started image cpus budget) n t.machine → is_complete t.machine ≡ true
all_made n image cpus budget t is valid few end = ⊎_elim (λ (done : is_complete t.machine ≡ true). done) (λ (reached : n ≤ length t.machine.records). by reached (is_complete t.machine) refl) end.far where
  by : n ≤ length t.machine.records → (done : Bool) → is_complete t.machine ≡ done → is_complete t.machine ≡ true
  by reached true done = done
  by reached false on =
      let fits : t.machine.cpus ≤ MAX_CPUS = omega (arith, few, end.cpus) in
      let goes : GoesOn t = goes_on t (subst IsValid (sym end.image) valid) end.run fits (λ done. false≢true (sym on ∙ done)) in
      let r : Record = record { event = goes.event; outcome = goes.outcome } in
      let short = played_is_short t.machine.image t.machine.cpus t.machine.budget (r ∷ t.machine.records) fits (runs_on t.machine r goes.gave end.run) in
      let same : EVENTS_PER_STEP * t.machine.cpus * t.machine.budget ≡ n = ap (λ k. EVENTS_PER_STEP * k * t.machine.budget) end.cpus ∙ ap (λ k. EVENTS_PER_STEP * cpus * k) end.budget ∙ sym is in
      absurd (too_long n (EVENTS_PER_STEP * t.machine.cpus * t.machine.budget) (length t.machine.records) reached short same)

-- what the law says of the machine at the end
pub record Ends (image : Contents) (cpus budget : ℕ) (m : Seen) : Type 0 where
  pub complete : is_complete m ≡ true
  pub run : IsRun m
  pub over : (m.image ≡ image) × (m.cpus ≡ cpus) × (m.budget ≡ budget)

-- the number of events is a variable here, so that no check computes it
ends_after : (n : ℕ) (image : Contents) (cpus budget seed : ℕ) → n ≡ EVENTS_PER_STEP * cpus * budget → IsValid image → cpus ≤ MAX_CPUS → Ends image cpus budget (seeded_after n (seeded_start image cpus budget seed)).machine
ends_after n image cpus budget seed is valid few =
    let t : Seeded = seeded_after n (seeded_start image cpus budget seed) in
    let none : 0 + n ≡ n = omega arith in
    let end : Comes (started image cpus budget) n t.machine = subst (λ k. Comes (started image cpus budget) k t.machine) none (comes n (seeded_start image cpus budget seed) valid tt few) in
    record { complete = all_made n image cpus budget t is valid few end; run = end.run; over = (end.image, end.cpus, end.budget) }

pub ends : (image : Contents) (cpus budget seed : ℕ) → IsValid image → cpus ≤ MAX_CPUS → Ends image cpus budget (seeded_after (EVENTS_PER_STEP * cpus * budget) (seeded_start image cpus budget seed)).machine
ends image cpus budget seed valid few = ends_after (EVENTS_PER_STEP * cpus * budget) image cpus budget seed refl valid few
