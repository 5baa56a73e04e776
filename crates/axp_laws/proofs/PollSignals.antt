-- What a Poll shows, in the order's words.
use Rattle.std.proofs.Common.{true, false, ℕ, ◌+◌, ◌<◌, ◌≤◌, ◌≡◌, ◌↔◌, inl, inr, ⊎_elim, eqb, Bool, ◌&&◌, ◌||◌, List, [], ◌∷◌, ◌++◌, length, slice_get, Option, Some, None, refl, sym, ap, ◌∙◌, subst, arith}
use Rattle.std.specs.List.{AllByRecursion, Contains}
use Rattle.std.proofs.lemmas.Bool.{cases_Bool, cond_both, and_parts, and_right, eqb-true, lt-ltb, cases_lt, false≢true}
use Rattle.std.proofs.lemmas.List.Elements.{All-contains_itself, recursion_from_All}
use Rattle.std.specs.declared.cmp.Ordering.TheVariants.{Equal}
use Rattle.std.specs.Ordering.{nat_cmp}
use Rattle.axp_base.specs.declared.processors.Cpu.{Cpu}
use Rattle.axp_base.specs.declared.lines.Line.{Line}
use Rattle.axp_regs.specs.declared.asks.Kind.{Kind}
use Rattle.axp_regs.specs.declared.asks.Kind.TheVariants as kind
use Rattle.axp_access.specs.declared.Act.{Act}
use Rattle.axp_access.specs.declared.Act.TheVariants as act
use Rattle.axp_access.specs.declared.Access.{Access}
use Rattle.axp_access.specs.declared.Event.{Event}
use Rattle.axp_access.specs.declared.Outcome.{Outcome}
use Rattle.axp_access.specs.declared.Outcome.TheVariants as outcome
use Rattle.axp_access.specs.declared.Place.{Place}
use Rattle.axp_access.specs.declared.Place.TheVariants.{At}
use Rattle.axp_access.specs.declared.Record.{Record}
use Rattle.axp_access.specs.declared.Wanted.{Wanted}
use Rattle.axp_model.specs.Records.{is_of, signals, enters, access_in}
use Rattle.axp_access.specs.Kinds.{is_signal, is_poll}
use Rattle.axp_base.specs.Lines.{line_of}
use Rattle.axp_model.specs.Turns.{turns}
use Rattle.axp_model.specs.Entries.{Waiting, buffer, oldest}
use Rattle.axp_model.specs.Accesses.{with_access, accesses, times}
use Rattle.axp_access.specs.Numbering.{NumberedAccess, cpu_of, next_access}
use Rattle.axp_access.specs.Order.{Times, key, key_before, before}
use Rattle.axp_model.specs.Locks.{is_signalled}
use Rattle.axp_model.specs.Late.{late}
use Rattle.axp_access.specs.declared.Intent.{Intent}
use Rattle.axp_model.specs.Outcomes.{IsRun, step_outcome_by, step_outcome, fill_outcome, drain_outcome, take_outcome, outcome_by, outcome_of}
use Rattle.axp_model.specs.Processors.{Processors, AreInLine}
use Rattle.axp_model.specs.Issue.{AllPairs}
use Rattle.axp_laws.specs.PollLaws.{is_signal_or_poll}
use Rattle.axp_model.specs.Polls.{polled, poll_item, with_shown, entered_polls, signals_to, IsAwaited}
use Rattle.axp_laws.proofs.RunFacts.{Fits, FitsOutcome, Fitting, Known, KnownItem, PairOk, RunFacts}
use Rattle.axp_laws.proofs.RunRecords.{run_fits}
use Rattle.axp_laws.proofs.OrderKeys.{at_key, at_less, at_upto, before_asymmetric}
use Rattle.axp_laws.proofs.OrderCases.{mark}
use Rattle.axp_laws.proofs.RunSteps.{kept, poll_access}
use Rattle.axp_laws.proofs.CauseMoments.{Among, among_of, among_all, among_pair, pairs_both}
use Rattle.axp_laws.proofs.SourceValues.{at_of}

-- the kinds that the tests name
signal_kind : (k : Kind) → is_signal k ≡ true → k ≡ kind.Signal
signal_kind kind.Signal e = refl
signal_kind _ e = absurd (false≢true e)

poll_kind : (k : Kind) → is_poll k ≡ true → k ≡ kind.Poll
poll_kind kind.Poll e = refl
poll_kind _ e = absurd (false≢true e)

never_both : (k : Kind) → is_signal k ≡ true → is_poll k ≡ true → ⊥
never_both kind.Signal s p = absurd (false≢true p)
never_both _ s p = absurd (false≢true s)

nat_cmp_refl : (n : ℕ) → nat_cmp n n ≡ Equal
nat_cmp_refl n = grind arith

-- a write at a place is before what is no write there, whoever made it
write_first : (t s c d n m : ℕ) → t ≤ s → key_before (at_key t false c n) (at_key s true d m) ≡ true
unfolding key_before
write_first t s c d n m less = ⊎_elim (λ lt. rw (lt-ltb t s lt) refl) (λ ge. let same : s ≡ t = omega arith in rw same (rw (nat_cmp_refl t) refl)) (cases_lt t s)

-- how an earlier access and a later one stand, where each is a signal or a Poll, whatever is drained
pub record Told (u v : NumberedAccess) : Type 0 where
  pub heard : is_signal u.access.kind ≡ true → is_poll v.access.kind ≡ true → (t : Times) → before t u v ≡ true
  pub missed : is_poll u.access.kind ≡ true → is_signal v.access.kind ≡ true → (t : Times) → before t v u ≡ false
  pub next : is_poll u.access.kind ≡ true → is_poll v.access.kind ≡ true → cpu_of u ≡ cpu_of v → (t : Times) → before t u v ≡ true

signal_first : (t : Times) (u v : NumberedAccess) (m n : ℕ) → u.access.kind ≡ kind.Signal → v.access.kind ≡ kind.Poll → u.access.place ≡ At m → v.access.place ≡ At n → m ≤ n → before t u v ≡ true
signal_first t u v m n ku kv pu pv less = rw (pu, pv, ku, kv) (write_first m n u.access.cpu.number v.access.cpu.number u.number v.number less)

place_first : (t : Times) (u v : NumberedAccess) (m n : ℕ) → u.access.place ≡ At m → v.access.place ≡ At n → m < n → before t u v ≡ true
place_first t u v m n pu pv less = rw (pu, pv) (at_less m n u.access.cpu.number v.access.cpu.number u.number v.number (mark u.access) (mark v.access) less)

poll_first : (t : Times) (u v : NumberedAccess) (m n : ℕ) → u.access.kind ≡ kind.Poll → v.access.kind ≡ kind.Poll → cpu_of u ≡ cpu_of v → u.access.place ≡ At m → v.access.place ≡ At n → m ≤ n → u.number < v.number → before t u v ≡ true
poll_first t u v m n ku kv same pu pv less later = rw (pu, pv, ku, kv, same) (at_upto m n v.access.cpu.number u.number v.number true less later)

told_new : (h : List Record) (p : ℕ) (u v : NumberedAccess) → KnownItem h u → u.number < v.number → Fits v.access.kind p (line_of v.access.address) v.access.yes v.access.place h → Told u v
told_new h p u v ku later fit = record {
  heard = λ su pv t.
      let xu = signal_kind u.access.kind su in
      let xv = poll_kind v.access.kind pv in
      let ut = at_of (turns h) u.access.place (rw xu at ku.known) in
      signal_first t u v ut.0 (turns h) xu xv ut.1 (rw xv at fit) ut.2;
  missed = λ pu sv t.
      let ut = at_of (turns h) u.access.place (rw (poll_kind u.access.kind pu) at ku.known) in
      before_asymmetric (key t u) (key t v) (place_first t u v ut.0 (turns h + 1) ut.1 (rw (signal_kind v.access.kind sv) at fit).0 (omega (arith, ut.2)));
  next = λ pu pv same t.
      let xu = poll_kind u.access.kind pu in
      let xv = poll_kind v.access.kind pv in
      let ut = at_of (turns h) u.access.place (rw xu at ku.known) in
      poll_first t u v ut.0 (turns h) xu xv same ut.1 (rw xv at fit) ut.2 later;
}

-- with each earlier one
told_each : (h : List Record) (p : ℕ) (a : Access) (us : List NumberedAccess) → AllByRecursion (KnownItem h) us → Fits a.kind p (line_of a.address) a.yes a.place h → AllByRecursion (λ u. Told u (next_access (accesses h) a)) us
told_each h p a [] items fit = tt
told_each h p a (u ∷ us) items fit = (told_new h p u (next_access (accesses h) a) items.0 (omega (arith, items.0.number)) fit, told_each h p a us items.1 fit)

told_by : (e : Event) (o : Outcome) (h : List Record) → FitsOutcome e.cpu.number o h → RunFacts h → AllPairs Told (accesses h) → AllPairs Told (accesses (record { event = e; outcome = o } ∷ h))
told_by e (outcome.Access a) h fit kept was = (told_each h e.cpu.number a (accesses h) kept.items fit.2, was)
told_by e outcome.NoAccess h fit kept was = was
told_by e (outcome.Filled b l t) h fit kept was = was
told_by e (outcome.Drained n l t) h fit kept was = was
told_by e (outcome.Taken l t g) h fit kept was = was
told_by e outcome.Done h fit kept was = was
told_by e (outcome.Polled v x t) h fit kept was = (told_each h e.cpu.number (poll_access e v t) (accesses h) kept.items (ap (λ z. At z) fit.0), was)

told : (h : List Record) → Fitting h → AllPairs Told (accesses h)
told [] fit = tt
told (r ∷ h) fit = told_by r.event r.outcome h fit.0 (kept h fit.1) (told h fit.1)

-- a later record adds at most an access, with a number of its own
one_more : (o : Option Access) (us : List NumberedAccess) (x : NumberedAccess) → Among x us → Among x (with_access o us)
one_more None us x a = a
one_more (Some b) us x a = inr a

one_back : (o : Option Access) (us : List NumberedAccess) (x : NumberedAccess) → Among x (with_access o us) → x.number ≤ length us → Among x us
one_back None us x a less = a
one_back (Some b) us x a less = ⊎_elim (λ (same : next_access us b ≡ x). let number : length us + 1 ≡ x.number = ap (λ (z : NumberedAccess). z.number) same in absurd (omega (arith, number, less))) (λ back. back) a

longer : (o : Option Access) (us : List NumberedAccess) → length us ≤ length (with_access o us)
longer None us = omega arith
longer (Some b) us = omega arith

accesses_grow : (later : List Record) (h : List Record) → length (accesses h) ≤ length (accesses (later ++ h))
accesses_grow [] h = omega arith
accesses_grow (s ∷ later) h = omega (arith, accesses_grow later h, longer (access_in s.event.cpu s.outcome) (accesses (later ++ h)))

among_later : (later : List Record) (h : List Record) (x : NumberedAccess) → Among x (accesses h) → Among x (accesses (later ++ h))
among_later [] h x a = a
among_later (s ∷ later) h x a = one_more (access_in s.event.cpu s.outcome) (accesses (later ++ h)) x (among_later later h x a)

among_back : (later : List Record) (h : List Record) (x : NumberedAccess) → Among x (accesses (later ++ h)) → x.number ≤ length (accesses h) → Among x (accesses h)
among_back [] h x a less = a
among_back (s ∷ later) h x a less = among_back later h x (one_back (access_in s.event.cpu s.outcome) (accesses (later ++ h)) x a (omega (arith, less, accesses_grow later h))) less

-- so with the Polls that entered
shown_back : (o : Option Access) (us polls : List NumberedAccess) (x : NumberedAccess) → Among x (with_shown o us polls) → x.number ≤ length us → Among x polls
shown_back None us polls x a less = a
shown_back (Some b) us polls x a less = ⊎_elim (λ (same : next_access us b ≡ x). let number : length us + 1 ≡ x.number = ap (λ (z : NumberedAccess). z.number) same in absurd (omega (arith, number, less))) (λ back. back) a

shown_more : (o : Option Access) (us polls : List NumberedAccess) (x : NumberedAccess) → Among x polls → Among x (with_shown o us polls)
shown_more None us polls x a = a
shown_more (Some b) us polls x a = inr a

entered_more : (p : ℕ) (r : Record) (h : List Record) (x : NumberedAccess) → Among x (entered_polls p h) → Among x (entered_polls p (r ∷ h))
entered_more p r h x a = cond_both (is_of p r && enters r.outcome) (with_shown (access_in r.event.cpu r.outcome) (accesses h) (entered_polls p h)) (entered_polls p h) (λ us. Among x us) (λ _. shown_more (access_in r.event.cpu r.outcome) (accesses h) (entered_polls p h) x a) (λ _. a)

entered_one : (p : ℕ) (r : Record) (h : List Record) (x : NumberedAccess) → Among x (entered_polls p (r ∷ h)) → x.number ≤ length (accesses h) → Among x (entered_polls p h)
entered_one p r h x a less =
    ⊎_elim
    (λ (here : (is_of p r && enters r.outcome) ≡ true). shown_back (access_in r.event.cpu r.outcome) (accesses h) (entered_polls p h) x (rw here at a) less)
    (λ (other : (is_of p r && enters r.outcome) ≡ false). rw other at a)
    (cases_Bool (is_of p r && enters r.outcome))

entered_later : (p : ℕ) (later : List Record) (h : List Record) (x : NumberedAccess) → Among x (entered_polls p h) → Among x (entered_polls p (later ++ h))
entered_later p [] h x a = a
entered_later p (s ∷ later) h x a = entered_more p s (later ++ h) x (entered_later p later h x a)

entered_back : (p : ℕ) (later : List Record) (h : List Record) (x : NumberedAccess) → Among x (entered_polls p (later ++ h)) → x.number ≤ length (accesses h) → Among x (entered_polls p h)
entered_back p [] h x a less = a
entered_back p (s ∷ later) h x a less = entered_back p later h x (entered_one p s (later ++ h) x a (omega (arith, less, accesses_grow later h))) less

-- a Poll that entered is a Poll of the processor
record Entered (p : ℕ) (h : List Record) (w : NumberedAccess) : Type 0 where
  among : Among w (accesses h)
  polls : is_poll w.access.kind ≡ true
  own : cpu_of w ≡ p

entered_new : (e : Event) (o : Outcome) (p : ℕ) (h : List Record) (w : NumberedAccess) → (eqb e.cpu.number p && enters o) ≡ true → Among w (with_shown (access_in e.cpu o) (accesses h) (entered_polls p h)) → (Among w (entered_polls p h) → Entered p h w) → Entered p (record { event = e; outcome = o } ∷ h) w
entered_new e (outcome.Polled v x t) p h w here a old =
    ⊎_elim
    (λ (same : next_access (accesses h) (poll_access e v t) ≡ w).
    subst (λ z. Entered p (record { event = e; outcome = outcome.Polled v x t } ∷ h) z) same
    (record { among = inl refl; polls = refl; own = eqb-true e.cpu.number p (and_parts (eqb e.cpu.number p) x here).0 }))
    (λ back. let was = old back in record { among = inr was.among; polls = was.polls; own = was.own })
    a
entered_new e (outcome.Access b) p h w here a old = absurd (false≢true (sym (and_right (eqb e.cpu.number p) false refl) ∙ here))
entered_new e outcome.NoAccess p h w here a old = absurd (false≢true (sym (and_right (eqb e.cpu.number p) false refl) ∙ here))
entered_new e (outcome.Filled b l t) p h w here a old = absurd (false≢true (sym (and_right (eqb e.cpu.number p) false refl) ∙ here))
entered_new e (outcome.Drained n l t) p h w here a old = absurd (false≢true (sym (and_right (eqb e.cpu.number p) false refl) ∙ here))
entered_new e (outcome.Taken l t g) p h w here a old = absurd (false≢true (sym (and_right (eqb e.cpu.number p) false refl) ∙ here))
entered_new e outcome.Done p h w here a old = absurd (false≢true (sym (and_right (eqb e.cpu.number p) false refl) ∙ here))

entered_known : (p : ℕ) (h : List Record) (w : NumberedAccess) → Among w (entered_polls p h) → Entered p h w
entered_known p [] w a = absurd a
entered_known p (r ∷ h) w a =
    ⊎_elim
    (λ (here : (is_of p r && enters r.outcome) ≡ true). entered_new r.event r.outcome p h w here (rw here at a) (λ back. entered_known p h w back))
    (λ (other : (is_of p r && enters r.outcome) ≡ false).
    let was = entered_known p h w (rw other at a) in
    record { among = one_more (access_in r.event.cpu r.outcome) (accesses h) w was.among; polls = was.polls; own = was.own })
    (cases_Bool (is_of p r && enters r.outcome))

-- each number is one of the list's
numbers_most : (h : List Record) (x : NumberedAccess) → Among x (accesses h) → x.number ≤ length (accesses h)
numbers_most [] x a = absurd a
numbers_most (r ∷ h) x a = most_with (access_in r.event.cpu r.outcome) (accesses h) x a (λ back. numbers_most h x back) where
  most_with : (o : Option Access) (us : List NumberedAccess) (x : NumberedAccess) → Among x (with_access o us) → (Among x us → x.number ≤ length us) → x.number ≤ length (with_access o us)
  most_with None us x a most = most a
  most_with (Some b) us x a most = ⊎_elim (λ (same : next_access us b ≡ x). let number : length us + 1 ≡ x.number = ap (λ (z : NumberedAccess). z.number) same in omega (arith, number)) (λ back. omega (arith, most back)) a

-- a signal to the processor that no Poll which entered follows
record Unheard (p : ℕ) (h : List Record) (u : NumberedAccess) : Type 0 where
  among : Among u (accesses h)
  sent : signals_to p u ≡ true
  after : (w : NumberedAccess) → Among w (entered_polls p h) → w.number < u.number

-- a record that is neither a signal to the processor nor a Poll of it that entered changes nothing
unheard_same : (p : ℕ) (r : Record) (h : List Record) (u : NumberedAccess) → (is_of p r && enters r.outcome) ≡ false → Unheard p h u → Unheard p (r ∷ h) u
unheard_same p r h u other was = record {
  among = one_more (access_in r.event.cpu r.outcome) (accesses h) u was.among;
  sent = was.sent;
  after = λ w a. was.after w (rw other at a);
}

entered_numbers : (p : ℕ) (h : List Record) (w : NumberedAccess) → Among w (entered_polls p h) → w.number ≤ length (accesses h)
entered_numbers p h w a = numbers_most h w (entered_known p h w a).among

-- a record that signals to the processor
signal_heard : (p : ℕ) (e : Event) (o : Outcome) (h : List Record) → signals p o ≡ true → (u : NumberedAccess) × Unheard p (record { event = e; outcome = o } ∷ h) u
signal_heard p e (outcome.Access a) h sent =
    let other : (eqb e.cpu.number p && false) ≡ false = and_right (eqb e.cpu.number p) false refl in
    (next_access (accesses h) a, record { among = inl refl; sent = sent; after = λ w inside. let most = entered_numbers p h w (rw other at inside) in omega (arith, most) })
signal_heard p e _ h sent = absurd (false≢true sent)

heard : (p : ℕ) (h : List Record) → is_signalled p h ≡ true → (u : NumberedAccess) × Unheard p h u
heard p [] e = absurd (false≢true e)
heard p (r ∷ h) e =
    ⊎_elim
    (λ (sent : signals p r.outcome ≡ true). signal_heard p r.event r.outcome h sent)
    (λ (silent : signals p r.outcome ≡ false). ⊎_elim
    (λ (here : (is_of p r && enters r.outcome) ≡ true). absurd (false≢true (rw silent at (rw here at e))))
    (λ (other : (is_of p r && enters r.outcome) ≡ false).
    let was = heard p h (rw silent at (rw other at e)) in
    (was.0, unheard_same p r h was.0 other was.1))
    (cases_Bool (is_of p r && enters r.outcome)))
    (cases_Bool (signals p r.outcome))

-- a Poll that enters has heard each signal
none_unheard : (p : ℕ) (e : Event) (o : Outcome) (h : List Record) (u : NumberedAccess) → (eqb e.cpu.number p && enters o) ≡ true → Unheard p (record { event = e; outcome = o } ∷ h) u → ⊥
none_unheard p e (outcome.Polled v x t) h u here is =
    let shown : entered_polls p (record { event = e; outcome = outcome.Polled v x t } ∷ h) ≡ next_access (accesses h) (poll_access e v t) ∷ entered_polls p h = rw here refl in
    let most = numbers_most (record { event = e; outcome = outcome.Polled v x t } ∷ h) u is.among in
    let less = is.after (next_access (accesses h) (poll_access e v t)) (rw shown (inl refl)) in
    omega (arith, most, less)
none_unheard p e (outcome.Access b) h u here is = absurd (false≢true (sym (and_right (eqb e.cpu.number p) false refl) ∙ here))
none_unheard p e outcome.NoAccess h u here is = absurd (false≢true (sym (and_right (eqb e.cpu.number p) false refl) ∙ here))
none_unheard p e (outcome.Filled b l t) h u here is = absurd (false≢true (sym (and_right (eqb e.cpu.number p) false refl) ∙ here))
none_unheard p e (outcome.Drained n l t) h u here is = absurd (false≢true (sym (and_right (eqb e.cpu.number p) false refl) ∙ here))
none_unheard p e (outcome.Taken l t g) h u here is = absurd (false≢true (sym (and_right (eqb e.cpu.number p) false refl) ∙ here))
none_unheard p e outcome.Done h u here is = absurd (false≢true (sym (and_right (eqb e.cpu.number p) false refl) ∙ here))

-- a signal that is not the new record's is an earlier one
signal_back : (p : ℕ) (e : Event) (o : Outcome) (h : List Record) (u : NumberedAccess) → signals p o ≡ false → signals_to p u ≡ true → Among u (accesses (record { event = e; outcome = o } ∷ h)) → Among u (accesses h)
signal_back p e (outcome.Access b) h u silent sent a = ⊎_elim (λ (same : next_access (accesses h) b ≡ u). absurd (false≢true (sym silent ∙ subst (λ (z : NumberedAccess). signals_to p z ≡ true) (sym same) sent))) (λ back. back) a
signal_back p e (outcome.Polled v x t) h u silent sent a = ⊎_elim (λ (same : next_access (accesses h) (poll_access e v t) ≡ u). absurd (false≢true (subst (λ (z : NumberedAccess). signals_to p z ≡ true) (sym same) sent))) (λ back. back) a
signal_back p e outcome.NoAccess h u silent sent a = a
signal_back p e (outcome.Filled b l t) h u silent sent a = a
signal_back p e (outcome.Drained n l t) h u silent sent a = a
signal_back p e (outcome.Taken l t g) h u silent sent a = a
signal_back p e outcome.Done h u silent sent a = a

unheard_signalled : (p : ℕ) (h : List Record) (u : NumberedAccess) → Unheard p h u → is_signalled p h ≡ true
unheard_signalled p [] u is = absurd is.among
unheard_signalled p (r ∷ h) u is =
    ⊎_elim
    (λ (sent : signals p r.outcome ≡ true). rw sent refl)
    (λ (silent : signals p r.outcome ≡ false). ⊎_elim
    (λ (here : (is_of p r && enters r.outcome) ≡ true). absurd (none_unheard p r.event r.outcome h u here is))
    (λ (other : (is_of p r && enters r.outcome) ≡ false).
    rw silent (rw other (unheard_signalled p h u (record { among = signal_back p r.event r.outcome h u silent is.sent is.among; sent = is.sent; after = λ w a. is.after w (rw other a) }))))
    (cases_Bool (is_of p r && enters r.outcome)))
    (cases_Bool (signals p r.outcome))

pub contains_of : {X : Type 0} (xs : List X) (y : X) → Among y xs → Contains xs y
contains_of xs y a = among_all (λ z. Contains xs z) xs y (recursion_from_All (λ z. Contains xs z) xs (All-contains_itself xs)) a

-- two accesses of which one is a signal and the other a Poll are not the same
signal_is_no_poll : (u v : NumberedAccess) → is_signal u.access.kind ≡ true → is_poll v.access.kind ≡ true → u ≡ v → ⊥
signal_is_no_poll u v su pv same = never_both v.access.kind (subst (λ z. is_signal z.access.kind ≡ true) same su) pv

abbrev Stands : List Record → NumberedAccess → NumberedAccess → Type 0
Stands h u v = PairOk (times h) u v × Told u v

stands : (h : List Record) → Fitting h → AllPairs (Stands h) (accesses h)
stands h fit = pairs_both (PairOk (times h)) Told (accesses h) (kept h fit).pairs (told h fit)

-- a signal and a Poll stand as in the history
signal_before : (h : List Record) (u v : NumberedAccess) → AllPairs (Stands h) (accesses h) → Among u (accesses h) → Among v (accesses h) → is_signal u.access.kind ≡ true → is_poll v.access.kind ≡ true → u.number < v.number → before (times h) u v ≡ true
signal_before h u v pairs a b su pv less =
    ⊎_elim
    (λ (same : u ≡ v). absurd (signal_is_no_poll u v su pv same))
    (λ either. ⊎_elim
    (λ (first : Stands h u v). first.1.heard su pv (times h))
    (λ (later : Stands h v u). absurd (omega (arith, less, later.0.first)))
    either)
    (among_pair (Stands h) (accesses h) u v pairs a b)

signal_number : (h : List Record) (u v : NumberedAccess) → AllPairs (Stands h) (accesses h) → Among u (accesses h) → Among v (accesses h) → is_signal u.access.kind ≡ true → is_poll v.access.kind ≡ true → before (times h) u v ≡ true → u.number < v.number
signal_number h u v pairs a b su pv seen =
    ⊎_elim
    (λ (same : u ≡ v). absurd (signal_is_no_poll u v su pv same))
    (λ either. ⊎_elim
    (λ (first : Stands h u v). first.0.first)
    (λ (later : Stands h v u). absurd (false≢true (sym (later.1.missed pv su (times h)) ∙ seen)))
    either)
    (among_pair (Stands h) (accesses h) u v pairs a b)

-- so do two Polls of one processor
poll_before : (h : List Record) (u v : NumberedAccess) → AllPairs (Stands h) (accesses h) → Among u (accesses h) → Among v (accesses h) → is_poll u.access.kind ≡ true → is_poll v.access.kind ≡ true → cpu_of u ≡ cpu_of v → u.number < v.number → before (times h) u v ≡ true
poll_before h u v pairs a b pu pv own less =
    ⊎_elim
    (λ (same : u ≡ v). let number : u.number ≡ v.number = ap (λ (z : NumberedAccess). z.number) same in absurd (omega (arith, number, less)))
    (λ either. ⊎_elim
    (λ (first : Stands h u v). first.1.next pu pv own (times h))
    (λ (later : Stands h v u). absurd (omega (arith, less, later.0.first)))
    either)
    (among_pair (Stands h) (accesses h) u v pairs a b)

poll_number : (h : List Record) (u v : NumberedAccess) → AllPairs (Stands h) (accesses h) → Among u (accesses h) → Among v (accesses h) → is_poll u.access.kind ≡ true → is_poll v.access.kind ≡ true → cpu_of u ≡ cpu_of v → before (times h) u v ≡ true → u.number < v.number
poll_number h u v pairs a b pu pv own seen =
    ⊎_elim
    (λ (same : u ≡ v). absurd (false≢true (sym (before_asymmetric (key (times h) u) (key (times h) v) seen) ∙ subst (λ z. before (times h) z u ≡ true) same (subst (λ z. before (times h) u z ≡ true) (sym same) seen))))
    (λ either. ⊎_elim
    (λ (first : Stands h u v). first.0.first)
    (λ (later : Stands h v u). absurd (false≢true (sym (before_asymmetric (key (times h) v) (key (times h) u) (later.1.next pv pu (sym own) (times h))) ∙ seen)))
    either)
    (among_pair (Stands h) (accesses h) u v pairs a b)

sent_signal : (p : ℕ) (u : NumberedAccess) → signals_to p u ≡ true → is_signal u.access.kind ≡ true
sent_signal p u sent = (and_parts (is_signal u.access.kind) (eqb u.access.value p) sent).0

fitting_later : (later h : List Record) → Fitting (later ++ h) → Fitting h
fitting_later [] h fit = fit
fitting_later (r ∷ later) h fit = fitting_later later h fit.1

awaited : (later : List Record) (e : Event) (pending entered : Bool) (turn : ℕ) (h : List Record) → Fitting (later ++ polled e pending entered turn ∷ h) → pending ≡ true → IsAwaited (later ++ polled e pending entered turn ∷ h) (poll_item e pending turn h)
awaited later e pending entered turn h fit yes_ =
    let all : List Record = later ++ polled e pending entered turn ∷ h in
    let p : ℕ = e.cpu.number in
    let v : NumberedAccess = poll_item e pending turn h in
    let pairs = stands all fit in
    let now = fitting_later later (polled e pending entered turn ∷ h) fit in
    let found = heard p h (sym now.0.1 ∙ yes_) in
    let u : NumberedAccess = found.0 in
    let is : Unheard p h u = found.1 in
    let su = sent_signal p u is.sent in
    let av : Among v (accesses all) = among_later later (polled e pending entered turn ∷ h) v (inl refl) in
    let au : Among u (accesses all) = among_later later (polled e pending entered turn ∷ h) u (inr is.among) in
    let most = numbers_most h u is.among in
    record {
      signal = u;
      made = contains_of (accesses all) u au;
      sent = is.sent;
      first = signal_before all u v pairs au av su refl (omega (arith, most));
      alone = λ w inside uw wv.
          let aw = among_of (entered_polls p all) w inside in
          let w_is = entered_known p all w aw in
          let early = poll_number all w v pairs w_is.among av w_is.polls refl w_is.own wv in
          let back = entered_back p later (polled e pending entered turn ∷ h) w aw (omega (arith, early)) in
          let old = entered_one p (polled e pending entered turn) h w back (omega (arith, early)) in
          let after = is.after w old in
          let later_ = signal_number all u w pairs au w_is.among su w_is.polls uw in
          omega (arith, after, later_);
    }

pending_of : (later : List Record) (e : Event) (pending entered : Bool) (turn : ℕ) (h : List Record) → Fitting (later ++ polled e pending entered turn ∷ h) → IsAwaited (later ++ polled e pending entered turn ∷ h) (poll_item e pending turn h) → pending ≡ true
pending_of later e pending entered turn h fit is =
    let all : List Record = later ++ polled e pending entered turn ∷ h in
    let p : ℕ = e.cpu.number in
    let v : NumberedAccess = poll_item e pending turn h in
    let u : NumberedAccess = is.signal in
    let pairs = stands all fit in
    let now = fitting_later later (polled e pending entered turn ∷ h) fit in
    let su = sent_signal p u is.sent in
    let av : Among v (accesses all) = among_later later (polled e pending entered turn ∷ h) v (inl refl) in
    let au : Among u (accesses all) = among_of (accesses all) u is.made in
    let less = signal_number all u v pairs au av su refl is.first in
    let back = among_back later (polled e pending entered turn ∷ h) u au (omega (arith, less)) in
    let old : Among u (accesses h) = one_back (access_in e.cpu (polled e pending entered turn).outcome) (accesses h) u back (omega (arith, less)) in
    now.0.1 ∙ unheard_signalled p h u (record {
      among = old;
      sent = is.sent;
      after = λ w a.
          let w_is = entered_known p h w a in
          let most = numbers_most h w w_is.among in
          let aw = among_later later (polled e pending entered turn ∷ h) w (inr w_is.among) in
          let inside = entered_later p later (polled e pending entered turn ∷ h) w (entered_more p (polled e pending entered turn) h w a) in
          let wv = poll_before all w v pairs aw av w_is.polls refl w_is.own (omega (arith, most)) in
          ⊎_elim
          (λ (same : u ≡ w). absurd (signal_is_no_poll u w su w_is.polls same))
          (λ either. ⊎_elim
          (λ (first : Stands all u w). absurd (is.alone w (contains_of (entered_polls p all) w inside) (first.1.heard su w_is.polls (times all)) wv))
          (λ (later_ : Stands all w u). later_.0.first)
          either)
          (among_pair (Stands all) (accesses all) u w pairs au aw);
    })

pub pending_exactly : (image : ℕ → ℕ) (ps : Processors) (later : List Record) (e : Event) (pending entered : Bool) (turn : ℕ) (h : List Record) → AreInLine ps → IsRun image ps (later ++ polled e pending entered turn ∷ h) → (pending ≡ true) ↔ IsAwaited (later ++ polled e pending entered turn ∷ h) (poll_item e pending turn h)
pending_exactly image ps later e pending entered turn h inside run =
    let fit = run_fits image ps (later ++ polled e pending entered turn ∷ h) inside run in
    (λ yes_. awaited later e pending entered turn h fit yes_, λ is. pending_of later e pending entered turn h fit is)

-- where a signal or a Poll stands
settled : (k : Kind) (p l g : ℕ) (at : Place) (h : List Record) → (is_signal k || is_poll k) ≡ true → Known k p l g at h → (s : ℕ) × (at ≡ At s)
settled kind.Signal p l g at h e known = let place = at_of (turns h) at known in (place.0, place.1)
settled kind.Poll p l g at h e known = let place = at_of (turns h) at known in (place.0, place.1)
settled _ p l g at h e known = absurd (false≢true e)

settled_same : (t now : Times) (u v : NumberedAccess) (m n : ℕ) → u.access.place ≡ At m → v.access.place ≡ At n → before now u v ≡ before t u v
settled_same t now u v m n pu pv = rw (pu, pv) refl

settled_item : (h : List Record) (u : NumberedAccess) → AllByRecursion (KnownItem h) (accesses h) → Contains (accesses h) u → is_signal_or_poll u ≡ true → (s : ℕ) × (u.access.place ≡ At s)
settled_item h u items inside e = settled u.access.kind u.access.cpu.number (line_of u.access.address) u.parts u.access.place h e (among_all (KnownItem h) (accesses h) u items (among_of (accesses h) u inside)).known

pub order_stays : (image : ℕ → ℕ) (ps : Processors) (later h : List Record) → AreInLine ps → IsRun image ps h → (u v : NumberedAccess) → Contains (accesses h) u → is_signal_or_poll u ≡ true → Contains (accesses h) v → is_signal_or_poll v ≡ true → before (times (later ++ h)) u v ≡ before (times h) u v
order_stays image ps later h inside run u v au eu av ev =
    let items = (kept h (run_fits image ps h inside run)).items in
    let pu = settled_item h u items au eu in
    let pv = settled_item h v items av ev in
    settled_same (times h) (times (later ++ h)) u v pu.0 pv.0 pu.1 pv.1

-- only a Poll shows one
abbrev EntersIf : Bool → Outcome → Type 0
EntersIf low (outcome.Polled pending entered turn) = entered ≡ (pending && low)
EntersIf low _ = Unit {0}

step_shows : (k : Kind) (image : ℕ → ℕ) (armed low : Bool) (c : Cpu) (a s v : ℕ) (h : List Record) → EntersIf low (step_outcome_by k image armed c (record { kind = k; address = a; size = s; value = v }) h)
step_shows kind.Fetch image armed low c a s v h = tt
step_shows _ image armed low c a s v h = tt

want_shows : (image : ℕ → ℕ) (armed low : Bool) (o : Option Wanted) (c : Cpu) (h : List Record) → EntersIf low (step_outcome image armed c o h)
want_shows image armed low None c h = tt
want_shows image armed low (Some a) c h = step_shows a.kind image armed low c a.address a.size a.value h

drain_shows : (low : Bool) (h : List Record) (o : Option Waiting) → EntersIf low (drain_outcome o h)
drain_shows low h None = tt
drain_shows low h (Some w) = tt

take_shows : (low : Bool) (p : ℕ) (h : List Record) (q : List (Line × ℕ)) → EntersIf low (take_outcome p q h)
take_shows low p h [] = tt
take_shows low p h ((line, turn) ∷ q) = tt

fill_shows : (low : Bool) (o : Option Wanted) (h : List Record) → EntersIf low (fill_outcome o h)
fill_shows low None h = tt
fill_shows low (Some a) h = tt

by_shows : (a : Act) (image : ℕ → ℕ) (i : Intent) (c : Cpu) (h : List Record) → EntersIf i.takes_interrupts (outcome_by a image i c h)
by_shows act.Step image i c h = want_shows image i.lock_flag i.takes_interrupts i.wanted c h
by_shows act.Fill image i c h = fill_shows i.takes_interrupts i.wanted h
by_shows (act.Drain k) image i c h = drain_shows i.takes_interrupts h (slice_get (oldest (buffer c.number h).waiting) k)
by_shows (act.Take b) image i c h = take_shows i.takes_interrupts c.number h (late c.number b h)
by_shows (act.Drop b l) image i c h = tt
by_shows act.Poll image i c h = refl
by_shows act.Tick image i c h = tt

pub entered_exactly : (image : ℕ → ℕ) (ps : Processors) (e : Event) (pending entered : Bool) (turn : ℕ) (h : List Record) → IsRun image ps (polled e pending entered turn ∷ h) → entered ≡ (pending && (ps.intent e.cpu.number h).takes_interrupts)
unfolding outcome_of
entered_exactly image ps e pending entered turn h run = subst (λ o. EntersIf (ps.intent e.cpu.number h).takes_interrupts o) (sym run.1) (by_shows e.act image (ps.intent e.cpu.number h) e.cpu h)
