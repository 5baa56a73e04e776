-- The write buffer of each processor keeps what waits, at the start and by each record that is played.
use Rattle.std.proofs.Common.{◌≡◌, ℕ, ⊎_elim, Bool, true, false, cond, eqb, List, [], ◌∷◌, Option, Some, None, refl, sym, subst, ◌∙◌}
use Rattle.std.specs.Prelude.{Ok, slice_get}
use Rattle.std.proofs.lemmas.Bool.{cases_Bool, eq-eqb, eqb-true}
use Rattle.axp_base.specs.Cpus.{cpu_number}
use Rattle.axp_base.specs.Lines.{data_bank, line_at, line_numbered, line_of}
use Rattle.axp_base.specs.declared.processors.Cpu.{Cpu}
use Rattle.axp_image.specs.Contents.{Contents}
use Rattle.axp_line.specs.declared.messages.Reply.{Reply}
use Rattle.axp_line.specs.declared.messages.Reply.TheVariants as reply
use Rattle.axp_regs.specs.declared.asks.Kind.{Kind}
use Rattle.axp_regs.specs.declared.asks.Kind.TheVariants as kind
use Rattle.axp_access.specs.declared.Act.{Act}
use Rattle.axp_access.specs.declared.Act.TheVariants as act
use Rattle.axp_access.specs.declared.Event.{Event}
use Rattle.axp_access.specs.declared.Intent.{Intent}
use Rattle.axp_access.specs.declared.Outcome.{Outcome}
use Rattle.axp_access.specs.declared.Record.{Record}
use Rattle.axp_access.specs.declared.Wanted.{Wanted}
use Rattle.axp_cpu.proofs.ActorLemmas.{asked_ok}
use Rattle.axp_cpu.specs.Actors as actors
use Rattle.axp_cpu.proofs.ActorLemmas.{asked_ok}
use Rattle.axp_cpu.specs.Actors.{Actor, actor_intent, request_of}
use Rattle.axp_lsu.specs.Asking.{act_ask, access_ask, ask_of, drain_ask, is_ready, step_ask}
use Rattle.axp_lsu.specs.Going as going
use Rattle.axp_lsu.specs.Going.{after_access, after_line, after_late, after_drain, after_barrier, after_fill, fill_outcome, drain_outcome, after_act, outcome_by, poll_outcome, after_stored, step_outcome, after_step, take_outcome}
use Rattle.axp_lsu.specs.Keeping.{LocalMemory}
use Rattle.axp_lsu.specs.declared.asks.Ask2.{Ask2}
use Rattle.axp_lsu.proofs.EntryCountLemmas.{brought-buffer, delivered-buffer, fenced-buffer, filled-buffer, rewritten-buffer, with_copies-buffer}
use Rattle.axp_model.specs.Legal.{is_timely}
use Rattle.axp_laws.proofs.RunFacts.{Fitting}
use Rattle.axp_wbuf.specs.Drains.{oldest_group, without}
use Rattle.axp_wbuf.specs.Pending as pending
use Rattle.axp_wbuf.specs.Pending.{Pending}
use Rattle.axp_world.specs.Worlds.{World, after_event, answer_of, reply_at, world}
use Rattle.axp_world.proofs.PlayedRecords.{actor_other, actor_own, shown}
use Rattle.axp_world.proofs.BufferEntries.{alike_none}
pub use Rattle.axp_world.proofs.BufferSteps.{IsBuffered, buffer_agrees}
use Rattle.axp_world.proofs.BufferSteps.{IsQuiet, barrier_step, drain_step, other_step, quiet_step, write_step}

-- what such acts show is quiet
quiet_fill : (o : Option Wanted) (t : Option Reply) → IsQuiet (fill_outcome o t)
quiet_fill None t = tt
quiet_fill (Some w) t = tt

quiet_take : (u : LocalMemory) (t : Option Reply) → IsQuiet (take_outcome u t)
quiet_take u None = tt
quiet_take u (Some (reply.Late line turn)) = tt
quiet_take u (Some _) = tt

quiet_poll : (low : Bool) (t : Option Reply) → IsQuiet (poll_outcome low t)
quiet_poll low None = tt
quiet_poll low (Some (reply.Polled x turn)) = tt
quiet_poll low (Some _) = tt

abbrev by_event : Event → Outcome → Record
by_event e o = record { event = e; outcome = o }

-- the buffer stays and the record is quiet
leaves_buffer : (e : Event) (o : Outcome) (h : List Record) (b c : pending.Buffer) → c ≡ b → IsQuiet o → Fitting (by_event e o ∷ h) → IsBuffered (cpu_number e.cpu) h b → IsBuffered (cpu_number e.cpu) (by_event e o ∷ h) c
leaves_buffer e o h b c same quiet fits was = subst (λ x. IsBuffered (cpu_number e.cpu) (by_event e o ∷ h) x) (sym same) (quiet_step (cpu_number e.cpu) (by_event e o) h b (eq-eqb (cpu_number e.cpu) (cpu_number e.cpu) refl) quiet fits was)

abbrev want : Kind → ℕ → ℕ → ℕ → Wanted
want k a s x = record { kind = k; address = a; size = s; value = x }

-- an access, by its kind
access_step : (k : Kind) (cpu : Cpu) (a s x : ℕ) (t : Option Reply) (u : LocalMemory) (e : Event) (h : List Record) → is_ready k (line_of a) u ≡ true → Fitting (by_event e (step_outcome cpu (Some (want k a s x)) u t) ∷ h) → IsBuffered (cpu_number e.cpu) h u.buffer
    → IsBuffered (cpu_number e.cpu) (by_event e (step_outcome cpu (Some (want k a s x)) u t) ∷ h) (after_access k (want k a s x) t u).buffer
access_step kind.Fetch cpu a s x t u e h ok fits was = leaves_buffer e _ h u.buffer u.buffer refl (refl, refl) fits was
access_step kind.Read cpu a s x t u e h ok fits was = leaves_buffer e _ h u.buffer u.buffer refl (refl, refl) fits was
access_step kind.Write cpu a s x t u e h ok fits was = write_step (cpu_number e.cpu) e cpu a s x false h u.buffer refl ok fits was
access_step kind.Locked cpu a s x t u e h ok fits was = leaves_buffer e _ h u.buffer _ (brought-buffer (data_bank (line_of a)) (line_at a) t u) (refl, refl) fits was
access_step kind.Conditional cpu a s x t u e h ok fits was = leaves_buffer e _ h u.buffer _ (rewritten-buffer (line_at a) t u) (refl, refl) fits was
access_step kind.Barrier cpu a s x t u e h ok fits was = leaves_buffer e _ h u.buffer _ (fenced-buffer t u) (refl, refl) fits was
access_step kind.WriteBarrier cpu a s x t u e h ok fits was = barrier_step (cpu_number e.cpu) e cpu a s x false _ h u.buffer refl fits was
access_step kind.CodeBarrier cpu a s x t u e h ok fits was = leaves_buffer e _ h u.buffer _ (fenced-buffer t u) (refl, refl) fits was
access_step kind.Signal cpu a s x t u e h ok fits was = leaves_buffer e _ h u.buffer u.buffer refl (refl, refl) fits was
access_step kind.Console cpu a s x t u e h ok fits was = leaves_buffer e _ h u.buffer u.buffer refl (refl, refl) fits was
access_step kind.Poll cpu a s x t u e h ok fits was = leaves_buffer e _ h u.buffer u.buffer refl (refl, refl) fits was

-- what was asked was legal, as far as the processor knew
asked_act : (a : Act) (i : Intent) (u : LocalMemory) (q : Ask2) → ask_of a i u ≡ Some q → act_ask a i u ≡ Some q
unfolding ask_of
asked_act a i u q is =
    ⊎_elim
    (λ (may : is_timely a i.finished u.since.filled ≡ true). rw may at is)
    (λ (never : is_timely a i.finished u.since.filled ≡ false). let none : None ≡ Some q = rw never at is in cc)
    (cases_Bool (is_timely a i.finished u.since.filled))

asked_of : (x : Actor) (a : Act) (q : Ask2) → request_of x a ≡ Ok q → (r : Ask2) × (act_ask a (actor_intent x) x.kept ≡ Some r)
unfolding request_of
asked_of x a q is = (q, asked_act a (actor_intent x) x.kept q (asked_ok (ask_of a (actor_intent x) x.kept) q is))

-- a Step
ready_of : (b : Bool) (q r : Ask2) → cond b (Some q) None ≡ Some r → b ≡ true
ready_of true q r is = refl
ready_of false q r is = cc

step_step : (o : Option Wanted) (boundary armed : Bool) (cpu : Cpu) (t : Option Reply) (u : LocalMemory) (q : Ask2) (e : Event) (h : List Record) → step_ask boundary o armed u ≡ Some q → Fitting (by_event e (step_outcome cpu o u t) ∷ h) → IsBuffered (cpu_number e.cpu) h u.buffer
    → IsBuffered (cpu_number e.cpu) (by_event e (step_outcome cpu o u t) ∷ h) (after_step o t u).buffer
step_step None boundary armed cpu t u q e h is fits was = leaves_buffer e _ h u.buffer u.buffer refl tt fits was
step_step (Some w) boundary armed cpu t u q e h is fits was = access_step w.kind cpu w.address w.size w.value t u e h (ready_of (is_ready w.kind (line_of w.address) u) (access_ask w.kind w armed u) q is) fits was

-- a Drain
drained_step : (k : ℕ) (o : Option Pending) (t : Option Reply) (u : LocalMemory) (q : Ask2) (e : Event) (h : List Record) → slice_get (oldest_group u.buffer.kept) k ≡ o → drain_ask o ≡ Some q → Fitting (by_event e (drain_outcome o t) ∷ h) → IsBuffered (cpu_number e.cpu) h u.buffer
    → IsBuffered (cpu_number e.cpu) (by_event e (drain_outcome o t) ∷ h) (after_drain k o t u).buffer
drained_step k None t u q e h at is fits was = cc
drained_step k (Some f) t u q e h at is fits was =
    subst (λ b. IsBuffered (cpu_number e.cpu) (by_event e (drain_outcome (Some f) t) ∷ h) b) (sym (rewritten-buffer (line_numbered f.line) t (record u { buffer = without k u.buffer })))
    (drain_step (cpu_number e.cpu) k e f (line_numbered f.line) (going.turn_in t) h u.buffer refl at fits was)

-- each act
act_step : (a : Act) (cpu : Cpu) (i : Intent) (t : Option Reply) (u : LocalMemory) (q : Ask2) (e : Event) (h : List Record) → act_ask a i u ≡ Some q → Fitting (by_event e (outcome_by a cpu i u t) ∷ h) → IsBuffered (cpu_number e.cpu) h u.buffer
    → IsBuffered (cpu_number e.cpu) (by_event e (outcome_by a cpu i u t) ∷ h) (after_act a i t u).buffer
act_step act.Step cpu i t u q e h is fits was = step_step i.wanted i.boundary i.lock_flag cpu t u q e h is fits was
act_step act.Fill cpu i t u q e h is fits was = leaves_buffer e _ h u.buffer _ (filled-buffer i.wanted t u) (quiet_fill i.wanted t) fits was
act_step (act.Drain k) cpu i t u q e h is fits was = drained_step k (slice_get (oldest_group u.buffer.kept) k) t u q e h refl is fits was
act_step (act.Take b) cpu i t u q e h is fits was = leaves_buffer e _ h u.buffer _ (delivered-buffer t u) (quiet_take u t) fits was
act_step (act.Drop b line) cpu i t u q e h is fits was = leaves_buffer e _ h u.buffer _ (with_copies-buffer b _ u) tt fits was
act_step act.Poll cpu i t u q e h is fits was = leaves_buffer e _ h u.buffer u.buffer refl (quiet_poll i.takes_interrupts t) fits was
act_step act.Tick cpu i t u q e h is fits was = leaves_buffer e _ h u.buffer u.buffer refl tt fits was

-- the same of one processor whole
actor_kept : (x : Actor) (a : Act) (t : Option Reply) → (actors.advanced x a t).kept ≡ after_act a (actor_intent x) t x.kept
unfolding actors.advanced going.advanced
actor_kept x a t = refl

actor_outcome : (x : Actor) (a : Act) (t : Option Reply) → actors.outcome_of x a t ≡ outcome_by a x.cpu (actor_intent x) x.kept t
unfolding actors.outcome_of going.outcome_of
actor_outcome x a t = refl

actor_step : (x : Actor) (t : Option Reply) (q : Ask2) (e : Event) (o : Outcome) (h : List Record) → request_of x e.act ≡ Ok q → o ≡ actors.outcome_of x e.act t → Fitting (by_event e o ∷ h) → IsBuffered (cpu_number e.cpu) h x.kept.buffer
    → IsBuffered (cpu_number e.cpu) (by_event e o ∷ h) (actors.advanced x e.act t).kept.buffer
actor_step x t q e o h asked is fits was =
    let same : o ≡ outcome_by e.act x.cpu (actor_intent x) x.kept t = is ∙ actor_outcome x e.act t in
    let legal = asked_of x e.act q asked in
    let now = act_step e.act x.cpu (actor_intent x) t x.kept legal.0 e h legal.1 (subst (λ z. Fitting (by_event e z ∷ h)) same fits) was in
    subst (λ u. IsBuffered (cpu_number e.cpu) (by_event e o ∷ h) u.buffer) (sym (actor_kept x e.act t))
    (subst (λ z. IsBuffered (cpu_number e.cpu) (by_event e z ∷ h) (after_act e.act (actor_intent x) t x.kept).buffer) (sym same) now)

-- at the start, and by a record that is played
pub buffer_start : (image : Contents) (cpus budget p : ℕ) → IsBuffered p [] ((world image cpus budget []).actors p).kept.buffer
buffer_start image cpus budget p = record { fits = tt; alike = alike_none; bytes = tt }

pub buffer_step : (image : Contents) (cpus budget : ℕ) (r : Record) (h : List Record) → answer_of image cpus (world image cpus budget h) r.event ≡ Ok r.outcome → Fitting (r ∷ h) → ((p : ℕ) → IsBuffered p h ((world image cpus budget h).actors p).kept.buffer)
    → (p : ℕ) → IsBuffered p (r ∷ h) ((world image cpus budget (r ∷ h)).actors p).kept.buffer
buffer_step image cpus budget r h played fits was p =
    let w : World = world image cpus budget h in
    let s = shown image cpus w r.event r.outcome played in
    ⊎_elim
    (λ (own : eqb (cpu_number r.event.cpu) p ≡ true).
    let n : ℕ = cpu_number r.event.cpu in
    let here : eqb n n ≡ true = eq-eqb n n refl in
    let now = actor_step (w.actors n) (reply_at image w r.event) s.ask r.event r.outcome h s.asked s.outcome fits (was n) in
    subst (λ k. IsBuffered k (r ∷ h) ((after_event image w r.event).actors k).kept.buffer) (eqb-true n p own)
    (subst (λ x. IsBuffered n (r ∷ h) x.kept.buffer) (sym (actor_own image w r.event n here)) now))
    (λ (other : eqb (cpu_number r.event.cpu) p ≡ false).
    subst (λ x. IsBuffered p (r ∷ h) x.kept.buffer) (sym (actor_other image w r.event p other)) (other_step p r h (w.actors p).kept.buffer other fits (was p)))
    (cases_Bool (eqb (cpu_number r.event.cpu) p))
