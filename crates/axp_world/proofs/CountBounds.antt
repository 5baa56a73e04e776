-- A processor's acts, but for its Takes, are bounded by its budget of steps.
use Rattle.std.proofs.Common.{◌≡◌, ℕ, ◌+◌, ◌*◌, ◌<◌, ◌≤◌, Bool, true, false, cond, List, length, slice_get, Option, Some, None, refl, sym, ap, ◌∙◌, subst, arith}
use Rattle.std.specs.Prelude.{Ok}
use Rattle.axp_base.specs.declared.lines.Bank.{Bank}
use Rattle.axp_base.specs.declared.lines.Bank.TheVariants.{Even, Odd, Code}
use Rattle.axp_line.specs.declared.messages.Reply.{Reply}
use Rattle.axp_access.specs.declared.Act.{Act}
use Rattle.axp_access.specs.declared.Act.TheVariants as act
use Rattle.axp_access.specs.declared.Intent.{Intent}
use Rattle.axp_access.specs.declared.Wanted.{Wanted}
use Rattle.axp_wbuf.specs.Drains.{oldest_group}
use Rattle.axp_line.specs.BusCalls.{BusCall}
use Rattle.axp_access.specs.Acts.{is_step}
use Rattle.axp_lsu.specs.Asking.{act_ask}
use Rattle.axp_lsu.specs.Going as going
use Rattle.axp_lsu.specs.Going.{after_act}
use Rattle.axp_lsu.specs.Keeping.{LocalMemory, has_dropped, with_drop}
use Rattle.axp_lsu.specs.declared.asks.Ask2.{Ask2}
use Rattle.axp_lsu.specs.declared.since.Since.{Since}
use Rattle.axp_cpu.specs.Actors.{Actor, actor_intent, advanced, moved_by, request_of, seat_after}
use Rattle.axp_cpu.specs.Following.{seat_entered}
use Rattle.axp_cpu.specs.Plans.{Plan, End, Want}
use Rattle.axp_cpu.specs.Seats.{Seat, plan_now, seat_at_plan}
use Rattle.axp_world.specs.Worlds.{reply_for}
use Rattle.axp_world.proofs.AskedActs.{IsAllowed, allowed, is_asked}
use Rattle.axp_world.proofs.CountCalls.{turned, turned_most}
use Rattle.axp_lsu.proofs.EntryCountLemmas.{filled-buffer}
use Rattle.axp_world.proofs.CountKept.{copies_same, delivered_same, drained_one, since_after, since_is, stepped_one}
use Rattle.axp_world.proofs.AskedQuiet.{IsQuiet, aside_quiet, is_aside}
use Rattle.axp_world.proofs.CountTallies.{Tally, counted, counts_steps, total, with_dropped}

-- n acts of a sort that is done once at most for each count of steps: `done` says that it was done at this
-- one, and then a step is left
pub record IsFew (most n steps : ℕ) (done : Bool) : Type 0 where
  pub within : n ≤ steps + cond done 1 0
  pub left : steps + cond done 1 0 ≤ most

few_step : (most n steps : ℕ) (done : Bool) → steps < most → IsFew most n steps done → IsFew most n (steps + 1) false
few_step most n steps true less was = record { within = omega (arith, was.within); left = omega (arith, less) }
few_step most n steps false less was = record { within = omega (arith, was.within); left = omega (arith, less) }

few_more : (most n steps : ℕ) (done : Bool) → (steps < most) × (done ≡ false) → IsFew most n steps done → IsFew most (n + 1) steps true
few_more most n steps true (less, fresh) was = cc
few_more most n steps false (less, fresh) was = record { within = omega (arith, was.within); left = omega (arith, less) }

few_most : (most n steps : ℕ) (done : Bool) → IsFew most n steps done → n ≤ most
few_most most n steps done was = omega (arith, was.within, was.left)

-- each sort of acts that are marked until the next Step
pub record AreFew (most : ℕ) (t : Tally) (s : Since) : Type 0 where
  pub fills : IsFew most t.fills t.steps s.filled
  pub even : IsFew most t.even_drops t.steps s.dropped_even
  pub odd : IsFew most t.odd_drops t.steps s.dropped_odd
  pub code : IsFew most t.code_drops t.steps s.dropped_code
  pub polls : IsFew most t.polls t.steps s.polled
  pub ticks : IsFew most t.ticks t.steps s.ticked

drops_few : (b : Bank) (most : ℕ) (t : Tally) (s : Since) → (t.steps < most) × (has_dropped b s ≡ false) → AreFew most t s → AreFew most (with_dropped b t) (with_drop b s)
drops_few Even most t s fresh was = record { fills = was.fills; even = few_more most _ _ _ fresh was.even; odd = was.odd; code = was.code; polls = was.polls; ticks = was.ticks }
drops_few Odd most t s fresh was = record { fills = was.fills; even = was.even; odd = few_more most _ _ _ fresh was.odd; code = was.code; polls = was.polls; ticks = was.ticks }
drops_few Code most t s fresh was = record { fills = was.fills; even = was.even; odd = was.odd; code = few_more most _ _ _ fresh was.code; polls = was.polls; ticks = was.ticks }

acts_few : (e : Act) (most : ℕ) (t : Tally) (s : Since) → IsAllowed e most t.steps s → AreFew most t s → AreFew most (counted e t) (since_after e s)
acts_few act.Step most t s less was =
    record {
      fills = few_step most _ _ _ less was.fills;
      even = few_step most _ _ _ less was.even;
      odd = few_step most _ _ _ less was.odd;
      code = few_step most _ _ _ less was.code;
      polls = few_step most _ _ _ less was.polls;
      ticks = few_step most _ _ _ less was.ticks;
    }
acts_few act.Fill most t s fresh was = record { fills = few_more most _ _ _ fresh was.fills; even = was.even; odd = was.odd; code = was.code; polls = was.polls; ticks = was.ticks }
acts_few (act.Drain k) most t s fresh was = record { fills = was.fills; even = was.even; odd = was.odd; code = was.code; polls = was.polls; ticks = was.ticks }
acts_few (act.Take b) most t s fresh was = record { fills = was.fills; even = was.even; odd = was.odd; code = was.code; polls = was.polls; ticks = was.ticks }
acts_few (act.Drop b line) most t s fresh was = drops_few b most t s fresh was
acts_few act.Poll most t s fresh was = record { fills = was.fills; even = was.even; odd = was.odd; code = was.code; polls = few_more most _ _ _ fresh was.polls; ticks = was.ticks }
acts_few act.Tick most t s fresh was = record { fills = was.fills; even = was.even; odd = was.odd; code = was.code; polls = was.polls; ticks = few_more most _ _ _ fresh was.ticks }

-- what a processor with this budget keeps, after these acts of which so many were turns: each entry that
-- waits was made by a Step that was no turn, and each that was drained by one
pub record IsBounded (most : ℕ) (a : Actor) (t : Tally) (own : ℕ) : Type 0 where
  pub limit : a.seat.budget ≡ most
  pub made : a.seat.steps ≡ t.steps
  pub marked : AreFew most t a.kept.since
  pub drained : t.drains + length a.kept.buffer.kept ≤ t.steps
  pub turned : own + length a.kept.buffer.kept ≤ t.steps

-- a Step is counted, and no other act
moved_steps : (s : Seat) (values : List ℕ) (plan : Plan) → ((seat_at_plan s values plan).budget ≡ s.budget) × ((seat_at_plan s values plan).steps ≡ s.steps + 1)
moved_steps s values (End t) = (refl, refl)
moved_steps s values (Want t w k) = (refl, refl)

step_moves : (o : Option Wanted) (r : Option Reply) (a : Actor) → ((moved_by o r a).budget ≡ a.seat.budget) × ((moved_by o r a).steps ≡ a.seat.steps + 1)
step_moves None r a = moved_steps a.seat a.seat.values (plan_now a.seat)
step_moves (Some w) r a = moved_steps a.seat _ _

entered_moves : (entered : Bool) (s : Seat) → ((seat_entered entered s).budget ≡ s.budget) × ((seat_entered entered s).steps ≡ s.steps + 0)
entered_moves true s = (refl, omega arith)
entered_moves false s = (refl, omega arith)

seat_moves : (e : Act) (r : Option Reply) (a : Actor) → ((seat_after e r a).budget ≡ a.seat.budget) × ((seat_after e r a).steps ≡ a.seat.steps + cond (is_step e) 1 0)
seat_moves act.Step r a = step_moves (actor_intent a).wanted r a
seat_moves act.Fill r a = (refl, omega arith)
seat_moves (act.Drain k) r a = (refl, omega arith)
seat_moves (act.Take b) r a = (refl, omega arith)
seat_moves (act.Drop b line) r a = (refl, omega arith)
seat_moves act.Poll r a = entered_moves (going.is_entered (actor_intent a).takes_interrupts r) a.seat
seat_moves act.Tick r a = (refl, omega arith)

-- the entries
pub record AreDrained (t : Tally) (own entries : ℕ) : Type 0 where
  pub drained : t.drains + entries ≤ t.steps
  pub turned : own + entries ≤ t.steps

aside_buffer : (e : Act) (i : Intent) (r : Option Reply) (u : LocalMemory) → is_aside e ≡ true → length (after_act e i r u).buffer.kept ≡ length u.buffer.kept
aside_buffer act.Step i r u aside = cc
aside_buffer act.Fill i r u aside = ap (λ b. length b.kept) (filled-buffer i.wanted r u)
aside_buffer (act.Drain k) i r u aside = cc
aside_buffer (act.Take b) i r u aside = ap (λ b. length b.kept) (delivered_same r u).buffer
aside_buffer (act.Drop b line) i r u aside = ap (λ b. length b.kept) (copies_same b _ u).buffer
aside_buffer act.Poll i r u aside = refl
aside_buffer act.Tick i r u aside = refl

drop_counts : (b : Bank) (t : Tally) → ((with_dropped b t).steps ≡ t.steps) × ((with_dropped b t).drains ≡ t.drains)
drop_counts Even t = (refl, refl)
drop_counts Odd t = (refl, refl)
drop_counts Code t = (refl, refl)

aside_counts : (e : Act) (t : Tally) → is_aside e ≡ true → ((counted e t).steps ≡ t.steps) × ((counted e t).drains ≡ t.drains)
aside_counts act.Step t aside = cc
aside_counts act.Fill t aside = (refl, refl)
aside_counts (act.Drain k) t aside = cc
aside_counts (act.Take b) t aside = (refl, refl)
aside_counts (act.Drop b line) t aside = drop_counts b t
aside_counts act.Poll t aside = (refl, refl)
aside_counts act.Tick t aside = (refl, refl)

aside_drained : (image : ℕ → ℕ) (cs : List BusCall) (p : ℕ) (e : Act) (i : Intent) (u : LocalMemory) (q : Ask2) (t : Tally) (own : ℕ) → is_aside e ≡ true → act_ask e i u ≡ Some q → AreDrained t own (length u.buffer.kept)
    → AreDrained (counted e t) (own + turned (reply_for image cs p (Ok q))) (length (after_act e i (reply_for image cs p (Ok q)) u).buffer.kept)
aside_drained image cs p e i u q t own aside asks was =
    let counts = aside_counts e t aside in
    let same = aside_buffer e i (reply_for image cs p (Ok q)) u aside in
    record { drained = omega (arith, was.drained, counts.0, counts.1, same); turned = omega (arith, was.turned, counts.0, same, aside_quiet image cs p e i u q aside asks) }

are_drained : (image : ℕ → ℕ) (cs : List BusCall) (p : ℕ) (e : Act) (i : Intent) (u : LocalMemory) (q : Ask2) (t : Tally) (own : ℕ) → act_ask e i u ≡ Some q → AreDrained t own (length u.buffer.kept)
    → AreDrained (counted e t) (own + turned (reply_for image cs p (Ok q))) (length (after_act e i (reply_for image cs p (Ok q)) u).buffer.kept)
are_drained image cs p act.Step i u q t own asks was =
    let one = stepped_one i.wanted i.boundary i.lock_flag (reply_for image cs p (Ok q)) u q asks (λ private. subst (λ x. IsQuiet image cs p x) (sym private) refl) in
    record { drained = omega (arith, was.drained, one.entries); turned = omega (arith, was.turned, one.turns) }
are_drained image cs p (act.Drain k) i u q t own asks was =
    let one = drained_one k (slice_get (oldest_group u.buffer.kept) k) (reply_for image cs p (Ok q)) u q refl asks in
    record { drained = omega (arith, was.drained, one); turned = omega (arith, was.turned, one, turned_most (reply_for image cs p (Ok q))) }
are_drained image cs p act.Fill i u q t own asks was = aside_drained image cs p act.Fill i u q t own refl asks was
are_drained image cs p (act.Take b) i u q t own asks was = aside_drained image cs p (act.Take b) i u q t own refl asks was
are_drained image cs p (act.Drop b line) i u q t own asks was = aside_drained image cs p (act.Drop b line) i u q t own refl asks was
are_drained image cs p act.Poll i u q t own asks was = aside_drained image cs p act.Poll i u q t own refl asks was
are_drained image cs p act.Tick i u q t own asks was = aside_drained image cs p act.Tick i u q t own refl asks was

pub bounded_after : (image : ℕ → ℕ) (cs : List BusCall) (p most : ℕ) (a : Actor) (e : Act) (q : Ask2) (t : Tally) (own : ℕ) → request_of a e ≡ Ok q → IsBounded most a t own
    → IsBounded most (advanced a e (reply_for image cs p (Ok q))) (counted e t) (own + turned (reply_for image cs p (Ok q)))
unfolding advanced going.advanced
bounded_after image cs p most a e q t own requested was =
    let r = reply_for image cs p (Ok q) in
    let asked = is_asked a e q requested in
    let seat = seat_moves e r a in
    let free = subst (λ n. IsAllowed e most n a.kept.since) was.made (subst (λ n. IsAllowed e n a.seat.steps a.kept.since) was.limit (allowed a e q asked)) in
    let entries = are_drained image cs p e (actor_intent a) a.kept q t own asked.asks (record { drained = was.drained; turned = was.turned }) in
    record {
      limit = seat.0 ∙ was.limit;
      made = omega (arith, seat.1, was.made, counts_steps e t);
      marked = subst (λ s. AreFew most (counted e t) s) (sym (since_is e (actor_intent a) r a.kept)) (acts_few e most t a.kept.since free was.marked);
      drained = entries.drained;
      turned = entries.turned;
    }

-- so all acts but Takes are within eight for each step
pub acts_bounded : (most : ℕ) (a : Actor) (t : Tally) (own : ℕ) → IsBounded most a t own → total t ≤ 8 * most + t.takes
acts_bounded most a t own was =
    omega (
      arith,
      was.drained,
      was.marked.fills.left,
      few_most most _ _ _ was.marked.fills,
      few_most most _ _ _ was.marked.even,
      few_most most _ _ _ was.marked.odd,
      few_most most _ _ _ was.marked.code,
      few_most most _ _ _ was.marked.polls,
      few_most most _ _ _ was.marked.ticks,
    )

pub steps_bounded : (most : ℕ) (a : Actor) (t : Tally) (own : ℕ) → IsBounded most a t own → t.steps ≤ most
steps_bounded most a t own was = omega (arith, was.marked.fills.left)

pub turns_bounded : (most : ℕ) (a : Actor) (t : Tally) (own : ℕ) → IsBounded most a t own → own ≤ t.steps
turns_bounded most a t own was = omega (arith, was.turned)
