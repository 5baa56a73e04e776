-- A call leaves the bus as its record leaves the history.
use Rattle.std.proofs.Common.{true, false, ℕ, ◌+◌, ◌%◌, ◌^◌, ◌≡◌, ⊎_elim, eqb, ltb, cond, Bool, not, ◌&&◌, List, [], ◌∷◌, slice_get, Option, Some, None, refl, sym, ap, ◌∙◌, subst, arith}
use Rattle.std.specs.Prelude.{Ok}
use Rattle.std.specs.List.{AllByRecursion}
use Rattle.std.proofs.lemmas.Bool.{cases_Bool, eqb-true, not-true}
use Rattle.axp_bank.specs.Copies.{is_held}
use Rattle.axp_base.specs.Cpus.{cpu_by, cpu_number, cpu_of}
use Rattle.axp_base.specs.Lines.{line_number, same_bank, in_bank, line_at, line_of, line_numbered}
use Rattle.axp_base.specs.declared.lines.Bank.{Bank}
use Rattle.axp_base.specs.declared.lines.Bank.TheVariants.{Even, Odd, Code}
use Rattle.axp_base.specs.declared.lines.Line.{Line}
use Rattle.axp_base.specs.declared.processors.Cpu.{Cpu}
use Rattle.axp_base.specs.declared.processors.TheConstants.{MAX_CPUS}
use Rattle.axp_access.specs.declared.Act.{Act}
use Rattle.axp_access.specs.declared.Act.TheVariants as act
use Rattle.axp_access.specs.declared.Event.{Event}
use Rattle.axp_access.specs.declared.Intent.{Intent}
use Rattle.axp_access.specs.declared.Outcome.{Outcome}
use Rattle.axp_access.specs.declared.Outcome.TheVariants as outcome
use Rattle.axp_access.specs.declared.Place.TheVariants.{At}
use Rattle.axp_access.specs.declared.Record.{Record}
use Rattle.axp_access.specs.declared.Wanted.{Wanted}
use Rattle.axp_cpu.proofs.ActorLemmas.{asked_ok}
use Rattle.axp_cpu.specs.Actors.{Actor, actor_intent, outcome_of, request_of}
use Rattle.axp_image.specs.Contents.{Contents}
use Rattle.axp_base.specs.LatePairs.{others}
use Rattle.axp_line.specs.Lines.{data_of}
use Rattle.axp_line.specs.declared.messages.Reply.{Reply}
use Rattle.axp_line.specs.declared.messages.Reply.TheVariants as reply
use Rattle.axp_line.specs.declared.messages.Request.{Request}
use Rattle.axp_line.specs.declared.messages.Request.TheVariants as request
use Rattle.axp_base.specs.Blocks.{is_allowed}
use Rattle.axp_lsu.specs.declared.asks.Ask2.{Ask2}
use Rattle.axp_lsu.specs.declared.asks.Ask2.TheVariants as ask
use Rattle.axp_lsu.specs.Asking.{access_ask, act_ask, ask_of, drain_ask, fill_ask, fill_for, may_bring, is_ready, signal_to, step_ask, take_ask}
use Rattle.axp_lsu.specs.Going as going
use Rattle.axp_lsu.specs.Keeping.{LocalMemory, copies_of, data_copies, has_dropped, held_pairs}
use Rattle.axp_line.specs.BusCalls as calls
use Rattle.axp_line.specs.BusCalls.{BusCall}
use Rattle.axp_line.specs.BusReply.{PortState, bus_reply, first_late, port_state, reply_by, conditional_reply}
use Rattle.axp_model.specs.Entries.{buffer, oldest}
use Rattle.axp_model.specs.Late.{late, late_by_own}
use Rattle.axp_model.specs.Legal.{is_timely}
use Rattle.axp_model.specs.Locks.{lock, lock_by_own, is_signalled}
use Rattle.axp_model.specs.Memory.{memory_byte}
use Rattle.axp_model.specs.Records.{enters, is_turn, signals, line_of_turn}
use Rattle.axp_model.specs.Sources.{byte_of_source}
use Rattle.axp_model.specs.Turns.{turns}
use Rattle.axp_laws.proofs.SourceClosedForm.{memory_step}
use Rattle.axp_laws.proofs.RunRecords.{InBank, late_in}
use Rattle.axp_laws.proofs.RunFacts.{FitsOutcome, Fitting}
use Rattle.axp_laws.proofs.RunFacts as model
use Rattle.axp_laws.proofs.RunSteps.{kept}
use Rattle.axp_regs.specs.declared.asks.Kind.{Kind}
use Rattle.axp_regs.specs.declared.asks.Kind.TheVariants as kind
use Rattle.axp_wbuf.specs.Drains.{oldest_group}
use Rattle.axp_wbuf.specs.Pending.{Buffer, Pending}
use Rattle.axp_world.specs.Worlds.{World, answer_of, calls_for, image_bytes, reply_for, world}
use Rattle.axp_world.proofs.Agreement.{BufferAgrees, BusAgrees}
use Rattle.axp_world.proofs.BusMemory.{memory_left}
use Rattle.axp_world.proofs.PlayedRecords.{calls_after, shown}
use Rattle.axp_world.proofs.BusWrites.{drained_memory, entry_line, entry_waits, stored_memory}

-- what a request with its answer leaves, its record leaves
pub record Matches (image : ℕ → ℕ) (e : Event) (o : Outcome) (h : List Record) (q : Request) (a : Reply) : Type 0 where
  pub turn : calls.is_turn a ≡ is_turn o
  pub line : calls.line_written (calls.write_made q a) ≡ line_of_turn o
  pub late : (b : Bank) → calls.late_by_own b q a (late (cpu_number e.cpu) b h) ≡ late_by_own b o (late (cpu_number e.cpu) b h)
  pub block : (block : Option ℕ) → calls.lock_by_own q block ≡ lock_by_own o block
  pub signal : (p : ℕ) → calls.signals p q ≡ signals p o
  pub taken : cond (calls.takes_interrupt q) false (is_signalled (cpu_number e.cpu) h) ≡ cond (enters o) false (is_signalled (cpu_number e.cpu) h)
  pub bytes : (first : ℕ → ℕ) (at : ℕ) → calls.overwritten (calls.write_made q a) (memory_byte first h (turns h)) at ≡ memory_byte first (record { event = e; outcome = o } ∷ h) (turns (record { event = e; outcome = o } ∷ h)) at

-- a record that made no call leaves all
pub record Stays (image : ℕ → ℕ) (e : Event) (o : Outcome) (h : List Record) : Type 0 where
  pub turn : is_turn o ≡ false
  pub line : line_of_turn o ≡ None
  pub late : (b : Bank) → late_by_own b o (late (cpu_number e.cpu) b h) ≡ late (cpu_number e.cpu) b h
  pub block : (block : Option ℕ) → lock_by_own o block ≡ block
  pub signal : (p : ℕ) → signals p o ≡ false
  pub taken : enters o ≡ false
  pub bytes : (first : ℕ → ℕ) (at : ℕ) → memory_byte first h (turns h) at ≡ memory_byte first (record { event = e; outcome = o } ∷ h) (turns (record { event = e; outcome = o } ∷ h)) at

abbrev pub Follows : (ℕ → ℕ) → List BusCall → Event → Outcome → List Record → Ask2 → Type 0
Follows image cs e o h ask.Private = Stays image e o h
Follows image cs e o h (ask.Bus q) = Matches image e o h q (bus_reply image cs (cpu_number e.cpu) q)

-- what processor e.cpu is answered
abbrev answered : (ℕ → ℕ) → List BusCall → Event → Ask2 → Option Reply
answered image cs e z = reply_for image cs (cpu_number e.cpu) (Ok z)

-- so it is with an ask, where what its answer gives fits
abbrev Leads : (ℕ → ℕ) → List BusCall → Event → List Record → (Option Reply → Outcome) → Ask2 → Type 0
Leads image cs e h give z = FitsOutcome (cpu_number e.cpu) (give (answered image cs e z)) h → Follows image cs e (give (answered image cs e z)) h z

-- a record that is no turn leaves memory
quiet_bytes : (image : ℕ → ℕ) (e : Event) (o : Outcome) (h : List Record) (at : ℕ) → FitsOutcome (cpu_number e.cpu) o h → model.RunFacts h → is_turn o ≡ false → memory_byte image h (turns h) at ≡ memory_byte image (record { event = e; outcome = o } ∷ h) (turns (record { event = e; outcome = o } ∷ h)) at
quiet_bytes image e o h at fit k none = rw none (ap (byte_of_source image at) (sym (memory_step (turns h) at (record { event = e; outcome = o }) h fit k (omega arith))))

pub some_if : (b : Bool) (x y : Ask2) → cond b (Some x) None ≡ Some y → x ≡ y
some_if true x y is = cc
some_if false x y is = cc

-- a wanted access of this kind
abbrev pub want : Kind → ℕ → ℕ → ℕ → Wanted
want k a s v = record { kind = k; address = a; size = s; value = v }

-- a signal goes to the processor that its value names
target_by : (v : ℕ) (small : Bool) (tested : ltb v MAX_CPUS ≡ small) (target : Cpu) → cpu_by v small tested ≡ Some target → cpu_number target ≡ v
target_by v true tested target is = let same : record { number = v; below = tested } ≡ target = cc in sym (ap cpu_number same)
target_by v false tested target is = cc

signal_leads : (image : ℕ → ℕ) (cs : List BusCall) (e : Event) (c : Cpu) (a s v : ℕ) (u : LocalMemory) (h : List Record) → model.RunFacts h → (o : Option Cpu) → cpu_of v ≡ o
    → Leads image cs e h (going.step_outcome c (Some (want kind.Signal a s v)) u) (signal_to o)
unfolding reply_by
signal_leads image cs e c a s v u h k None is fit = let never : 0 ≡ turns h + 1 = cc in absurd (omega (arith, never))
signal_leads image cs e c a s v u h k (Some target) is fit =
    let number : cpu_number target ≡ v = target_by v (ltb v MAX_CPUS) refl target is in
    record {
      turn = refl;
      line = refl;
      late = λ b. refl;
      block = λ block. refl;
      signal = λ p. ap (λ n. eqb n p) number;
      taken = refl;
      bytes = λ first at. sym (ap (byte_of_source first at) (memory_left e (record { cpu = c; kind = kind.Signal; address = a; size = s; value = v; yes = false; place = At (calls.turns cs + 1) }) h (turns h + 1) at k refl (omega arith)));
    }

-- a store-conditional by its answer
tried_matches : (image : ℕ → ℕ) (f : PortState) (e : Event) (c : Cpu) (a s v : ℕ) (armed : Bool) (u : LocalMemory) (h : List Record) → model.RunFacts h → (success : Bool)
    → FitsOutcome (cpu_number e.cpu) (going.step_outcome c (Some (want kind.Conditional a s v)) u (Some (conditional_reply success f (calls.write_asked (request.Conditional a s v armed)) (line_at a)))) h
    → Matches image e (going.step_outcome c (Some (want kind.Conditional a s v)) u (Some (conditional_reply success f (calls.write_asked (request.Conditional a s v armed)) (line_at a)))) h (request.Conditional a s v armed) (conditional_reply success f (calls.write_asked (request.Conditional a s v armed)) (line_at a))
tried_matches image f e c a s v armed u h k true fit = record {
  turn = refl;
  line = refl;
  late = λ b. refl;
  block = λ block. refl;
  signal = λ p. refl;
  taken = refl;
  bytes = λ first at. stored_memory first e (record { cpu = c; kind = kind.Conditional; address = a; size = s; value = v; yes = true; place = At (f.turns + 1) }) h at fit.1 k refl fit.2.0;
}
tried_matches image f e c a s v armed u h k false fit = record {
  turn = refl;
  line = refl;
  late = λ b. refl;
  block = λ block. refl;
  signal = λ p. refl;
  taken = refl;
  bytes = λ first at. quiet_bytes first e (going.step_outcome c (Some (want kind.Conditional a s v)) u (Some (conditional_reply false f (calls.write_asked (request.Conditional a s v armed)) (line_at a)))) h at fit k refl;
}

-- the Step of a wanted access, by its kind
step_leads : (k : Kind) (image : ℕ → ℕ) (cs : List BusCall) (e : Event) (c : Cpu) (a s v : ℕ) (armed : Bool) (u : LocalMemory) (h : List Record) → model.RunFacts h
    → Leads image cs e h (going.step_outcome c (Some (want k a s v)) u) (access_ask k (want k a s v) armed u)
unfolding reply_by
step_leads kind.Conditional image cs e c a s v armed u h k fit = tried_matches image (port_state image cs (cpu_number e.cpu)) e c a s v armed u h k (armed && is_allowed a (calls.register (cpu_number e.cpu) cs)) fit
step_leads kind.Signal image cs e c a s v armed u h k fit = signal_leads image cs e c a s v u h k (cpu_of v) refl fit
step_leads kind.Fetch image cs e c a s v armed u h k fit = record {
  turn = refl;
  line = refl;
  late = λ b. refl;
  block = λ block. refl;
  signal = λ p. refl;
  taken = refl;
  bytes = λ first at. quiet_bytes first e (going.step_outcome c (Some (want kind.Fetch a s v)) u None) h at fit k refl;
}
step_leads kind.Read image cs e c a s v armed u h k fit = record {
  turn = refl;
  line = refl;
  late = λ b. refl;
  block = λ block. refl;
  signal = λ p. refl;
  taken = refl;
  bytes = λ first at. quiet_bytes first e (going.step_outcome c (Some (want kind.Read a s v)) u None) h at fit k refl;
}
step_leads kind.Write image cs e c a s v armed u h k fit = record {
  turn = refl;
  line = refl;
  late = λ b. refl;
  block = λ block. refl;
  signal = λ p. refl;
  taken = refl;
  bytes = λ first at. quiet_bytes first e (going.step_outcome c (Some (want kind.Write a s v)) u None) h at fit k refl;
}
step_leads kind.WriteBarrier image cs e c a s v armed u h k fit = record {
  turn = refl;
  line = refl;
  late = λ b. refl;
  block = λ block. refl;
  signal = λ p. refl;
  taken = refl;
  bytes = λ first at. quiet_bytes first e (going.step_outcome c (Some (want kind.WriteBarrier a s v)) u None) h at fit k refl;
}
step_leads kind.Poll image cs e c a s v armed u h k fit = record {
  turn = refl;
  line = refl;
  late = λ b. refl;
  block = λ block. refl;
  signal = λ p. refl;
  taken = refl;
  bytes = λ first at. quiet_bytes first e (going.step_outcome c (Some (want kind.Poll a s v)) u None) h at fit k refl;
}
step_leads kind.Locked image cs e c a s v armed u h k fit = record {
  turn = refl;
  line = refl;
  late = λ b. refl;
  block = λ block. refl;
  signal = λ p. refl;
  taken = refl;
  bytes = λ first at. quiet_bytes first e (going.step_outcome c (Some (want kind.Locked a s v)) u (answered image cs e (ask.Bus (request.Locked a)))) h at fit k refl;
}
step_leads kind.Barrier image cs e c a s v armed u h k fit = record {
  turn = refl;
  line = refl;
  late = λ b. refl;
  block = λ block. refl;
  signal = λ p. refl;
  taken = refl;
  bytes = λ first at. quiet_bytes first e (going.step_outcome c (Some (want kind.Barrier a s v)) u (answered image cs e (ask.Bus (request.Barrier (held_pairs u))))) h at fit k refl;
}
step_leads kind.CodeBarrier image cs e c a s v armed u h k fit = record {
  turn = refl;
  line = refl;
  late = λ b. refl;
  block = λ block. refl;
  signal = λ p. refl;
  taken = refl;
  bytes = λ first at. quiet_bytes first e (going.step_outcome c (Some (want kind.CodeBarrier a s v)) u (answered image cs e (ask.Bus (request.CodeBarrier (held_pairs u))))) h at fit k refl;
}
step_leads kind.Console image cs e c a s v armed u h k fit = record {
  turn = refl;
  line = refl;
  late = λ b. refl;
  block = λ block. refl;
  signal = λ p. refl;
  taken = refl;
  bytes = λ first at. quiet_bytes first e (going.step_outcome c (Some (want kind.Console a s v)) u (answered image cs e (ask.Bus (request.Console (v % 2 ^ 8))))) h at fit k refl;
}

wanted_leads : (boundary : Bool) (o : Option Wanted) (armed : Bool) (image : ℕ → ℕ) (cs : List BusCall) (e : Event) (c : Cpu) (u : LocalMemory) (h : List Record) (z : Ask2) → model.RunFacts h → step_ask boundary o armed u ≡ Some z
    → Leads image cs e h (going.step_outcome c o u) z
wanted_leads boundary None armed image cs e c u h z k is =
    subst (Leads image cs e h (going.step_outcome c None u)) (some_if boundary ask.Private z is)
    (λ fit. record {
      turn = refl;
      line = refl;
      late = λ b. refl;
      block = λ block. refl;
      signal = λ p. refl;
      taken = refl;
      bytes = λ first at. quiet_bytes first e outcome.NoAccess h at fit k refl;
    })
wanted_leads boundary (Some w) armed image cs e c u h z k is =
    subst (Leads image cs e h (going.step_outcome c (Some w) u)) (some_if (is_ready w.kind (line_of w.address) u) (access_ask w.kind w armed u) z is)
    (step_leads w.kind image cs e c w.address w.size w.value armed u h k)

-- a Fill
copy_leads : (image : ℕ → ℕ) (cs : List BusCall) (e : Event) (w : Wanted) (h : List Record) → model.RunFacts h → (line : Line) → Leads image cs e h (going.fill_outcome (Some w)) (ask.Bus (request.Fill line))
unfolding reply_by
copy_leads image cs e w h k line fit = record {
  turn = refl;
  line = refl;
  late = λ b. refl;
  block = λ block. refl;
  signal = λ p. refl;
  taken = refl;
  bytes = λ first at. quiet_bytes first e (going.fill_outcome (Some w) (answered image cs e (ask.Bus (request.Fill line)))) h at fit k refl;
}

code_copy_leads : (image : ℕ → ℕ) (cs : List BusCall) (e : Event) (w : Wanted) (h : List Record) → model.RunFacts h → (line : Line) → Leads image cs e h (going.fill_outcome (Some w)) (ask.Bus (request.FillCode line))
unfolding reply_by
code_copy_leads image cs e w h k line fit = record {
  turn = refl;
  line = refl;
  late = λ b. refl;
  block = λ block. refl;
  signal = λ p. refl;
  taken = refl;
  bytes = λ first at. quiet_bytes first e (going.fill_outcome (Some w) (answered image cs e (ask.Bus (request.FillCode line)))) h at fit k refl;
}

fill_for_leads : (k : Kind) (image : ℕ → ℕ) (cs : List BusCall) (e : Event) (w : Wanted) (u : LocalMemory) (h : List Record) (z : Ask2) → model.RunFacts h → fill_for k w u ≡ Some z → Leads image cs e h (going.fill_outcome (Some w)) z
fill_for_leads kind.Fetch image cs e w u h z k is =
    subst (Leads image cs e h (going.fill_outcome (Some w))) (some_if (may_bring (line_of w.address) u.code) (ask.Bus (request.FillCode (line_at w.address))) z is) (code_copy_leads image cs e w h k (line_at w.address))
fill_for_leads kind.Read image cs e w u h z k is =
    subst (Leads image cs e h (going.fill_outcome (Some w))) (some_if (may_bring (line_of w.address) (data_copies (line_of w.address) u)) (ask.Bus (request.Fill (line_at w.address))) z is) (copy_leads image cs e w h k (line_at w.address))
fill_for_leads _ image cs e w u h z k is = cc

fill_leads : (o : Option Wanted) (image : ℕ → ℕ) (cs : List BusCall) (e : Event) (u : LocalMemory) (h : List Record) (z : Ask2) → model.RunFacts h → fill_ask o u ≡ Some z → Leads image cs e h (going.fill_outcome o) z
fill_leads None image cs e u h z k is = cc
fill_leads (Some w) image cs e u h z k is = fill_for_leads w.kind image cs e w u h z k is

-- a Drain
entry_leads : (image : ℕ → ℕ) (cs : List BusCall) (ev : Event) (e : Pending) (n : ℕ) (b : Buffer) (h : List Record) → Fitting h → BufferAgrees (cpu_number ev.cpu) h b → slice_get (oldest_group b.kept) n ≡ Some e
    → Leads image cs ev h (going.drain_outcome (Some e)) (ask.Bus (request.Drain (line_numbered e.line) (record { 0 = e.bits }) (data_of e.bytes)))
unfolding reply_by
entry_leads image cs ev e n b h before agrees is fit =
    let waits = entry_waits (oldest_group b.kept) (oldest (buffer (cpu_number ev.cpu) h).waiting) n e agrees.oldest is in
    record {
      turn = refl;
      line = refl;
      late = λ b. refl;
      block = λ block. refl;
      signal = λ p. refl;
      taken = refl;
      bytes = λ first at. drained_memory first ev (calls.turns cs + 1) (line_numbered e.line) e waits.0 h at (fit, before) waits.2 (entry_line e waits.0 waits.2) (agrees.bytes n e is);
    }

drain_leads : (o : Option Pending) (image : ℕ → ℕ) (cs : List BusCall) (e : Event) (n : ℕ) (b : Buffer) (h : List Record) (z : Ask2) → Fitting h → BufferAgrees (cpu_number e.cpu) h b → slice_get (oldest_group b.kept) n ≡ o → drain_ask o ≡ Some z
    → Leads image cs e h (going.drain_outcome o) z
drain_leads None image cs e n b h z before agrees found is = cc
drain_leads (Some x) image cs e n b h z before agrees found is =
    let same : ask.Bus (request.Drain (line_numbered x.line) (record { 0 = x.bits }) (data_of x.bytes)) ≡ z = cc in
    subst (Leads image cs e h (going.drain_outcome (Some x))) same (entry_leads image cs e x n b h before agrees found)

-- a Take
taken_bank : (b bank : Bank) (l : ℕ) → in_bank bank l ≡ true → same_bank b bank ≡ in_bank b l
taken_bank Even Even l is = sym is
taken_bank Odd Odd l is = sym is
taken_bank Code Code l is = cc
taken_bank Even Odd l is = sym (not-true (eqb (l % 2) 0) is)
taken_bank Odd Even l is = rw is refl
taken_bank Even Code l is = cc
taken_bank Odd Code l is = cc
taken_bank Code Even l is = refl
taken_bank Code Odd l is = refl

first_matches : (image : ℕ → ℕ) (e : Event) (bank : Bank) (u : LocalMemory) (h : List Record) → model.RunFacts h → (pairs : List (Line × ℕ)) → AllByRecursion (InBank bank) pairs → (Some (first_late pairs) ≡ Some reply.Nothing → ⊥)
    → FitsOutcome (cpu_number e.cpu) (going.take_outcome u (Some (first_late pairs))) h → Matches image e (going.take_outcome u (Some (first_late pairs))) h (request.Take bank) (first_late pairs)
first_matches image e bank u h k [] banked something fit = absurd (something refl)
first_matches image e bank u h k ((line, turn) ∷ pairs) banked something fit = record {
  turn = refl;
  line = refl;
  late = λ b. ap (λ x. cond x (others (late (cpu_number e.cpu) b h)) (late (cpu_number e.cpu) b h)) (taken_bank b bank (line_number line) banked.0);
  block = λ block. refl;
  signal = λ p. refl;
  taken = refl;
  bytes = λ first at. quiet_bytes first e (going.take_outcome u (Some (reply.Late line turn))) h at fit k refl;
}

take_leads : (bank : Bank) (image : ℕ → ℕ) (cs : List BusCall) (e : Event) (u : LocalMemory) (h : List Record) (z : Ask2) → model.RunFacts h → ((b : Bank) → calls.late (cpu_number e.cpu) b cs ≡ late (cpu_number e.cpu) b h)
    → (answered image cs e z ≡ Some reply.Nothing → ⊥) → take_ask bank ≡ Some z → Leads image cs e h (going.take_outcome u) z
unfolding reply_by
take_leads Even image cs e u h z k same something is =
    let this : ask.Bus (request.Take Even) ≡ z = cc in
    subst (λ y. (answered image cs e y ≡ Some reply.Nothing → ⊥) → Leads image cs e h (going.take_outcome u) y) this
    (λ more fit. first_matches image e Even u h k (calls.late (cpu_number e.cpu) Even cs) (subst (λ pairs. AllByRecursion (InBank Even) pairs) (sym (same Even)) (late_in (cpu_number e.cpu) Even h)) more fit) something
take_leads Odd image cs e u h z k same something is =
    let this : ask.Bus (request.Take Odd) ≡ z = cc in
    subst (λ y. (answered image cs e y ≡ Some reply.Nothing → ⊥) → Leads image cs e h (going.take_outcome u) y) this
    (λ more fit. first_matches image e Odd u h k (calls.late (cpu_number e.cpu) Odd cs) (subst (λ pairs. AllByRecursion (InBank Odd) pairs) (sym (same Odd)) (late_in (cpu_number e.cpu) Odd h)) more fit) something
take_leads Code image cs e u h z k same something is = cc

-- a Poll
poll_taken : (low waiting : Bool) → cond low false waiting ≡ cond (waiting && low) false waiting
poll_taken true true = refl
poll_taken true false = refl
poll_taken false true = refl
poll_taken false false = refl

poll_leads : (low : Bool) (image : ℕ → ℕ) (cs : List BusCall) (e : Event) (h : List Record) → model.RunFacts h → calls.pending (cpu_number e.cpu) cs ≡ is_signalled (cpu_number e.cpu) h → Leads image cs e h (going.poll_outcome low) (ask.Bus (request.Poll low))
unfolding reply_by
poll_leads low image cs e h k same fit = record {
  turn = refl;
  line = refl;
  late = λ b. refl;
  block = λ block. refl;
  signal = λ p. refl;
  taken = poll_taken low (is_signalled (cpu_number e.cpu) h) ∙ ap (λ b. cond (b && low) false (is_signalled (cpu_number e.cpu) h)) (sym same);
  bytes = λ first at. quiet_bytes first e (going.poll_outcome low (answered image cs e (ask.Bus (request.Poll low)))) h at fit k refl;
}

-- a Drop or a Tick
done_leads : (image : ℕ → ℕ) (cs : List BusCall) (e : Event) (h : List Record) → model.RunFacts h → Leads image cs e h (λ r. outcome.Done) ask.Private
done_leads image cs e h k fit = record {
  turn = refl;
  line = refl;
  late = λ b. refl;
  block = λ block. refl;
  signal = λ p. refl;
  taken = refl;
  bytes = λ first at. quiet_bytes first e outcome.Done h at fit k refl;
}

-- every act
act_leads : (a : Act) (image : ℕ → ℕ) (cs : List BusCall) (e : Event) (c : Cpu) (i : Intent) (u : LocalMemory) (h : List Record) (z : Ask2) → Fitting h → BufferAgrees (cpu_number e.cpu) h u.buffer → BusAgrees image h cs
    → (answered image cs e z ≡ Some reply.Nothing → ⊥) → act_ask a i u ≡ Some z → Leads image cs e h (going.outcome_by a c i u) z
act_leads act.Step image cs e c i u h z before buffers bus something is = wanted_leads i.boundary i.wanted i.lock_flag image cs e c u h z (kept h before) is
act_leads act.Fill image cs e c i u h z before buffers bus something is = fill_leads i.wanted image cs e u h z (kept h before) is
act_leads (act.Drain n) image cs e c i u h z before buffers bus something is = drain_leads (slice_get (oldest_group u.buffer.kept) n) image cs e n u.buffer h z before buffers refl is
act_leads (act.Take b) image cs e c i u h z before buffers bus something is = take_leads b image cs e u h z (kept h before) (λ b. bus.pairs (cpu_number e.cpu) b) something is
act_leads (act.Drop b line) image cs e c i u h z before buffers bus something is =
    subst (Leads image cs e h (λ r. outcome.Done)) (some_if (is_held (line_number line) (copies_of b u) && not (has_dropped b u.since)) ask.Private z is) (done_leads image cs e h (kept h before))
act_leads act.Poll image cs e c i u h z before buffers bus something is =
    subst (Leads image cs e h (going.poll_outcome i.takes_interrupts)) (some_if (i.boundary && not u.since.polled) (ask.Bus (request.Poll i.takes_interrupts)) z is) (poll_leads i.takes_interrupts image cs e h (kept h before) (bus.requested (cpu_number e.cpu)))
act_leads act.Tick image cs e c i u h z before buffers bus something is =
    subst (Leads image cs e h (λ r. outcome.Done)) (some_if (i.boundary && (i.takes_interrupts && not u.since.ticked)) ask.Private z is) (done_leads image cs e h (kept h before))

-- the bus after a record that made no call
stays_after : (image : ℕ → ℕ) (cs : List BusCall) (e : Event) (o : Outcome) (h : List Record) → Stays image e o h → BusAgrees image h cs → BusAgrees image (record { event = e; outcome = o } ∷ h) cs
stays_after image cs e o h s bus = record {
  count = rw s.turn bus.count;
  pairs = λ p b.
      ⊎_elim
      (λ (own : eqb (cpu_number e.cpu) p ≡ true). rw own (bus.pairs p b ∙ sym (subst (λ q. late_by_own b o (late q b h) ≡ late q b h) (eqb-true (cpu_number e.cpu) p own) (s.late b))))
      (λ (other : eqb (cpu_number e.cpu) p ≡ false). rw other (rw s.line (bus.pairs p b)))
      (cases_Bool (eqb (cpu_number e.cpu) p));
  block = λ p.
      ⊎_elim
      (λ (own : eqb (cpu_number e.cpu) p ≡ true). rw own (bus.block p ∙ sym (s.block (lock p h))))
      (λ (other : eqb (cpu_number e.cpu) p ≡ false). rw other (rw s.line (bus.block p)))
      (cases_Bool (eqb (cpu_number e.cpu) p));
  requested = λ p. rw (s.signal p) (rw s.taken (bus.requested p ∙ sym (never (eqb (cpu_number e.cpu) p) (is_signalled p h))));
  bytes = λ first at. bus.bytes first at ∙ s.bytes first at;
} where
  never : (b s : Bool) → cond (b && false) false s ≡ s
  never true s = refl
  never false s = refl

-- the bus after a call
matches_after : (image : ℕ → ℕ) (cs : List BusCall) (e : Event) (o : Outcome) (h : List Record) (q : Request) (a : Reply) → Matches image e o h q a → BusAgrees image h cs → BusAgrees image (record { event = e; outcome = o } ∷ h) (record { cpu = e.cpu; ask = q; answer = a } ∷ cs)
matches_after image cs e o h q a m bus = record {
  count = rw (m.turn, bus.count) refl;
  pairs = λ p b. rw (bus.pairs p b, bus.count)
      (⊎_elim
      (λ (own : eqb (cpu_number e.cpu) p ≡ true). rw own (subst (λ n. calls.late_by_own b q a (late n b h) ≡ late_by_own b o (late n b h)) (eqb-true (cpu_number e.cpu) p own) (m.late b)))
      (λ (other : eqb (cpu_number e.cpu) p ≡ false). rw other (rw m.line refl))
      (cases_Bool (eqb (cpu_number e.cpu) p)));
  block = λ p. rw (bus.block p)
      (⊎_elim
      (λ (own : eqb (cpu_number e.cpu) p ≡ true). rw own (m.block (lock p h)))
      (λ (other : eqb (cpu_number e.cpu) p ≡ false). rw other (rw m.line refl))
      (cases_Bool (eqb (cpu_number e.cpu) p)));
  requested = λ p. rw (bus.requested p, m.signal p)
      (⊎_elim
      (λ (own : eqb (cpu_number e.cpu) p ≡ true). rw own (ap (cond (signals p o) true) (subst (λ n. cond (calls.takes_interrupt q) false (is_signalled n h) ≡ cond (enters o) false (is_signalled n h)) (eqb-true (cpu_number e.cpu) p own) m.taken)))
      (λ (other : eqb (cpu_number e.cpu) p ≡ false). rw other refl)
      (cases_Bool (eqb (cpu_number e.cpu) p)));
  bytes = λ first at. ap (λ memory. calls.overwritten (calls.write_made q a) memory at) (λ i x. bus.bytes first x i) ∙ m.bytes first at;
}

follows_after : (image : ℕ → ℕ) (cs : List BusCall) (e : Event) (o : Outcome) (h : List Record) (z : Ask2) → Follows image cs e o h z → BusAgrees image h cs → BusAgrees image (record { event = e; outcome = o } ∷ h) (calls_for image cs e.cpu (Ok z))
follows_after image cs e o h ask.Private s bus = stays_after image cs e o h s bus
follows_after image cs e o h (ask.Bus q) m bus = matches_after image cs e o h q (bus_reply image cs (cpu_number e.cpu) q) m bus

-- what is asked is what the act asks
pub asked_act : (a : Actor) (e : Act) (z : Ask2) → request_of a e ≡ Ok z → (act_ask e (actor_intent a) a.kept ≡ Some z) × (is_timely e (actor_intent a).finished a.kept.since.filled ≡ true)
unfolding request_of ask_of
asked_act a e z is = chosen (is_timely e (actor_intent a).finished a.kept.since.filled) (act_ask e (actor_intent a) a.kept) (asked_ok (cond (is_timely e (actor_intent a).finished a.kept.since.filled) (act_ask e (actor_intent a) a.kept) None) z is) where
  chosen : (b : Bool) (o : Option Ask2) → cond b o None ≡ Some z → (o ≡ Some z) × (b ≡ true)
  chosen true o same = (same, refl)
  chosen false o same = cc

-- the first world has no calls
pub bus_start : (image : ℕ → ℕ) → BusAgrees image [] []
bus_start image = record { count = refl; pairs = λ p b. refl; block = λ p. refl; requested = λ p. refl; bytes = λ first at. refl }

pub bus_step : (image : Contents) (cpus budget : ℕ) (r : Record) (h : List Record) → answer_of image cpus (world image cpus budget h) r.event ≡ Ok r.outcome → Fitting (r ∷ h)
    → BufferAgrees (cpu_number r.event.cpu) h ((world image cpus budget h).actors (cpu_number r.event.cpu)).kept.buffer → BusAgrees (image_bytes image) h (world image cpus budget h).calls
    → BusAgrees (image_bytes image) (r ∷ h) (world image cpus budget (r ∷ h)).calls
unfolding outcome_of going.outcome_of
bus_step image cpus budget r h played fit buffers bus =
    let w : World = world image cpus budget h in
    let a : Actor = w.actors (cpu_number r.event.cpu) in
    let s = shown image cpus w r.event r.outcome played in
    let given : r.outcome ≡ going.outcome_by r.event.act a.cpu (actor_intent a) a.kept (answered (image_bytes image) w.calls r.event s.ask) = s.outcome ∙ ap (going.outcome_by r.event.act a.cpu (actor_intent a) a.kept) s.answered in
    let something : answered (image_bytes image) w.calls r.event s.ask ≡ Some reply.Nothing → ⊥ = λ x. s.something (s.answered ∙ x) in
    let follows : Follows (image_bytes image) w.calls r.event r.outcome h s.ask =
    subst (λ o. FitsOutcome (cpu_number r.event.cpu) o h → Follows (image_bytes image) w.calls r.event o h s.ask) (sym given)
    (act_leads r.event.act (image_bytes image) w.calls r.event a.cpu (actor_intent a) a.kept h s.ask fit.1 buffers bus something (asked_act a r.event.act s.ask s.asked).0) fit.0 in
    subst (BusAgrees (image_bytes image) (r ∷ h)) (sym (calls_after image w r.event r.outcome s)) (follows_after (image_bytes image) w.calls r.event r.outcome h s.ask follows bus)
