-- An event is refused as not legal exactly where the memory model says that it is not.
use Rattle.axp_cpu.specs.Following.{processors}
use Rattle.axp_cpu.specs.Seats.{intent_of}
use Rattle.axp_access.specs.declared.Intent.{Intent}
use Rattle.axp_world.proofs.Agreement.{BusAgrees}
use Rattle.axp_model.specs.Legal.{legal, is_timely}
use Rattle.std.proofs.lemmas.Bool.{cases_Bool, ltb-true, lt-ltb}
use Rattle.std.proofs.Common.{ltb, ⊎_elim, true, false, ℕ, ◌<◌, ◌≡◌, cond, Bool, not, ◌&&◌, List, [], ◌∷◌, slice_get, Option, Some, None, is_some, refl, sym, ap, ◌∙◌}
use Rattle.std.specs.Prelude.{Ok, is_ok}
use Rattle.axp_bank.specs.Copies.{is_held}
use Rattle.axp_base.specs.Cpus.{cpu_number, cpu_of}
use Rattle.axp_base.specs.Lines.{line_number, line_at, line_numbered, line_of}
use Rattle.axp_base.specs.declared.lines.Bank.{Bank}
use Rattle.axp_base.specs.declared.lines.Bank.TheVariants.{Even, Odd, Code}
use Rattle.axp_base.specs.declared.lines.Line.{Line}
use Rattle.axp_base.specs.declared.processors.Cpu.{Cpu}
use Rattle.axp_access.specs.declared.Act.{Act}
use Rattle.axp_access.specs.declared.Act.TheVariants as act
use Rattle.axp_access.specs.declared.Event.{Event}
use Rattle.axp_access.specs.declared.Outcome.{Outcome}
use Rattle.axp_access.specs.declared.Record.{Record}
use Rattle.axp_access.specs.declared.Wanted.{Wanted}
use Rattle.axp_cpu.specs.Actors.{Actor, actor_intent, asked_or_refused, outcome_of, request_of}
use Rattle.axp_image.specs.Contents.{Contents}
use Rattle.axp_line.specs.Lines.{data_of}
use Rattle.axp_line.specs.declared.messages.Reply.{Reply}
use Rattle.axp_line.specs.declared.messages.Reply.TheVariants as reply
use Rattle.axp_line.specs.declared.messages.Request.TheVariants as request
use Rattle.axp_base.specs.Blocks.{is_allowed}
use Rattle.axp_lsu.specs.declared.asks.Ask2.{Ask2}
use Rattle.axp_lsu.specs.declared.asks.Ask2.TheVariants as ask
use Rattle.axp_lsu.specs.Asking as asking
use Rattle.axp_lsu.specs.Asking.{access_ask, act_ask, ask_of, drain_ask, fill_ask, fill_for, may_bring, signal_to, step_ask, take_ask}
use Rattle.axp_lsu.specs.Keeping.{LocalMemory, copies_of, data_copies, has_dropped}
use Rattle.axp_line.specs.BusCalls as calls
use Rattle.axp_line.specs.BusCalls.{BusCall, Written}
use Rattle.axp_line.specs.BusReply.{PortState, first_late, reply_by, conditional_reply}
use Rattle.axp_base.specs.Lists.{is_empty}
use Rattle.axp_regs.specs.declared.asks.Kind.{Kind}
use Rattle.axp_regs.specs.declared.asks.Kind.TheVariants as kind
use Rattle.axp_wbuf.specs.Drains.{oldest_group}
use Rattle.axp_wbuf.specs.Pending.{Pending}
use Rattle.axp_world.specs.RunLaws.{is_not_legal}
use Rattle.axp_world.specs.Worlds.{World, answer_by, answer_of, image_bytes, reply_at, reply_for, world}
use Rattle.axp_world.proofs.BusRecords.{some_if}
use Rattle.axp_world.specs.Deeds.{has_late}
use Rattle.axp_world.proofs.RunLegality.{legal_agrees}
use Rattle.axp_world.proofs.RunSeats.{legal_by}
use Rattle.axp_world.proofs.RunPlayed.{Agrees}
use Rattle.axp_world.proofs.RunOutcomes.{answer}

-- nothing is late
abbrev is_nothing : Option Reply → Bool
is_nothing (Some reply.Nothing) = true
is_nothing _ = false

abbrev is_take : Ask2 → Bool
is_take (ask.Bus (request.Take b)) = true
is_take _ = false

-- only a Take is answered so
pub tried_something : (success : Bool) (f : PortState) (w : Option Written) (line : Line) → is_nothing (Some (conditional_reply success f w line)) ≡ false
tried_something true f w line = refl
tried_something false f w line = refl

only_takes : (z : Ask2) (image : ℕ → ℕ) (cs : List BusCall) (c : Cpu) → is_take z ≡ false → is_nothing (answer image cs c z) ≡ false
unfolding reply_by
only_takes ask.Private image cs c is = refl
only_takes (ask.Bus (request.Take b)) image cs c is = cc
only_takes (ask.Bus (request.Conditional a s v armed)) image cs c is =
    tried_something (armed && is_allowed a (calls.register (cpu_number c) cs)) _ (calls.write_asked (request.Conditional a s v armed)) (line_at a)
only_takes (ask.Bus (request.Fill line)) image cs c is = refl
only_takes (ask.Bus (request.FillCode line)) image cs c is = refl
only_takes (ask.Bus (request.Drain line mask bytes)) image cs c is = refl
only_takes (ask.Bus (request.Locked a)) image cs c is = refl
only_takes (ask.Bus (request.Barrier lines)) image cs c is = refl
only_takes (ask.Bus (request.CodeBarrier lines)) image cs c is = refl
only_takes (ask.Bus (request.Poll below)) image cs c is = refl
only_takes (ask.Bus (request.Signal target)) image cs c is = refl
only_takes (ask.Bus (request.Console byte)) image cs c is = refl

-- no other act asks for one
signal_no_take : (o : Option Cpu) → is_take (signal_to o) ≡ false
signal_no_take None = refl
signal_no_take (Some target) = refl

access_no_take : (k : Kind) (w : Wanted) (armed : Bool) (u : LocalMemory) → is_take (access_ask k w armed u) ≡ false
access_no_take kind.Signal w armed u = signal_no_take (cpu_of w.value)
access_no_take _ w armed u = refl

step_no_take : (o : Option Wanted) (boundary armed : Bool) (u : LocalMemory) (z : Ask2) → step_ask boundary o armed u ≡ Some z → is_take z ≡ false
step_no_take None boundary armed u z is = ap is_take (sym (some_if boundary ask.Private z is))
step_no_take (Some w) boundary armed u z is = ap is_take (sym (some_if (asking.is_ready w.kind (line_of w.address) u) (access_ask w.kind w armed u) z is)) ∙ access_no_take w.kind w armed u

fill_for_no_take : (k : Kind) (w : Wanted) (u : LocalMemory) (z : Ask2) → fill_for k w u ≡ Some z → is_take z ≡ false
fill_for_no_take kind.Fetch w u z is = ap is_take (sym (some_if (may_bring (line_of w.address) u.code) (ask.Bus (request.FillCode (line_at w.address))) z is))
fill_for_no_take kind.Read w u z is = ap is_take (sym (some_if (may_bring (line_of w.address) (data_copies (line_of w.address) u)) (ask.Bus (request.Fill (line_at w.address))) z is))
fill_for_no_take _ w u z is = cc

fill_no_take : (o : Option Wanted) (u : LocalMemory) (z : Ask2) → fill_ask o u ≡ Some z → is_take z ≡ false
fill_no_take None u z is = cc
fill_no_take (Some w) u z is = fill_for_no_take w.kind w u z is

drain_no_take : (o : Option Pending) (z : Ask2) → drain_ask o ≡ Some z → is_take z ≡ false
drain_no_take None z is = cc
drain_no_take (Some e) z is = let same : ask.Bus (request.Drain (line_numbered e.line) (record { 0 = e.bits }) (data_of e.bytes)) ≡ z = cc in ap is_take (sym same)

first_nothing : (pairs : List (Line × ℕ)) → is_nothing (Some (first_late pairs)) ≡ not (not (is_empty pairs))
first_nothing [] = refl
first_nothing (x ∷ pairs) = refl

take_nothing : (b : Bank) (image : ℕ → ℕ) (cs : List BusCall) (c : Cpu) (z : Ask2) → take_ask b ≡ Some z → is_nothing (answer image cs c z) ≡ not (not (is_empty (calls.late (cpu_number c) b cs)))
unfolding reply_by
take_nothing Even image cs c z is = let same : ask.Bus (request.Take Even) ≡ z = cc in ap (λ y. is_nothing (answer image cs c y)) (sym same) ∙ first_nothing (calls.late (cpu_number c) Even cs)
take_nothing Odd image cs c z is = let same : ask.Bus (request.Take Odd) ≡ z = cc in ap (λ y. is_nothing (answer image cs c y)) (sym same) ∙ first_nothing (calls.late (cpu_number c) Odd cs)
take_nothing Code image cs c z is = cc

act_nothing : (a : Act) (i : Intent) (u : LocalMemory) (image : ℕ → ℕ) (cs : List BusCall) (c : Cpu) (z : Ask2) → act_ask a i u ≡ Some z → is_nothing (answer image cs c z) ≡ not (has_late a cs (cpu_number c))
act_nothing (act.Take b) i u image cs c z is = take_nothing b image cs c z is
act_nothing act.Step i u image cs c z is = only_takes z image cs c (step_no_take i.wanted i.boundary i.lock_flag u z is)
act_nothing act.Fill i u image cs c z is = only_takes z image cs c (fill_no_take i.wanted u z is)
act_nothing (act.Drain k) i u image cs c z is = only_takes z image cs c (drain_no_take (slice_get (oldest_group u.buffer.kept) k) z is)
act_nothing (act.Drop b line) i u image cs c z is = only_takes z image cs c (ap is_take (sym (some_if (is_held (line_number line) (copies_of b u) && not (has_dropped b u.since)) ask.Private z is)))
act_nothing act.Poll i u image cs c z is = only_takes z image cs c (ap is_take (sym (some_if (i.boundary && not u.since.polled) (ask.Bus (request.Poll i.takes_interrupts)) z is)))
act_nothing act.Tick i u image cs c z is = only_takes z image cs c (ap is_take (sym (some_if (i.boundary && (i.takes_interrupts && not u.since.ticked)) ask.Private z is)))

by_reply : (q : Ask2) (r : Option Reply) (o : Outcome) → is_not_legal (answer_by (Ok q) r o) ≡ is_nothing r
by_reply q None o = refl
by_reply q (Some reply.Nothing) o = refl
by_reply q (Some _) o = refl

by_ask : (o : Option Ask2) (some : Bool) (image : ℕ → ℕ) (cs : List BusCall) (c : Cpu) (out : Outcome) → ((z : Ask2) → o ≡ Some z → is_nothing (answer image cs c z) ≡ not some)
    → is_not_legal (answer_by (asked_or_refused o) (reply_for image cs (cpu_number c) (asked_or_refused o)) out) ≡ not (is_some o && some)
by_ask None some image cs c out nothing = refl
by_ask (Some q) some image cs c out nothing = by_reply q (answer image cs c q) out ∙ nothing q refl

ask_act : (now : Bool) (o : Option Ask2) (z : Ask2) → cond now o None ≡ Some z → o ≡ Some z
ask_act true o z is = is
ask_act false o z is = cc

below_agrees : (image : Contents) (cpus budget : ℕ) (h : List Record) (e : Event) → cpu_number e.cpu < cpus → Agrees image cpus budget h (cpu_number e.cpu) → BusAgrees (image_bytes image) h (world image cpus budget h).calls
    → is_not_legal (answer_of image cpus (world image cpus budget h) e) ≡ not (legal (processors image cpus budget) h e)
unfolding answer_of request_of ask_of
below_agrees image cpus budget h e below agrees bus =
    let w : World = world image cpus budget h in
    let a : Actor = w.actors (cpu_number e.cpu) in
    rw (lt-ltb (cpu_number e.cpu) cpus below)
    (by_ask (ask_of e.act (actor_intent a) a.kept) (has_late e.act w.calls (cpu_number e.cpu)) (image_bytes image) w.calls e.cpu (outcome_of a e.act (reply_at image w e))
    (λ z is. act_nothing e.act (actor_intent a) a.kept (image_bytes image) w.calls e.cpu z (ask_act (is_timely e.act (actor_intent a).finished a.kept.since.filled) (act_ask e.act (actor_intent a) a.kept) z is))
    ∙ ap not (legal_agrees (image_bytes image) (cpu_number e.cpu) h (actor_intent a) a.kept w.calls e.act agrees.buffer agrees.banks agrees.since bus)
    ∙ ap not (sym (legal_by (processors image cpus budget) h e (actor_intent a) below (ap intent_of agrees.seat))))

-- so what is allowed is what is legal
pub allowed_agrees : (image : Contents) (cpus budget : ℕ) (h : List Record) (e : Event) → cpu_number e.cpu < cpus → Agrees image cpus budget h (cpu_number e.cpu) → BusAgrees (image_bytes image) h (world image cpus budget h).calls
    → (is_ok (request_of ((world image cpus budget h).actors (cpu_number e.cpu)) e.act) && has_late e.act (world image cpus budget h).calls (cpu_number e.cpu)) ≡ legal (processors image cpus budget) h e
unfolding request_of
allowed_agrees image cpus budget h e below agrees bus =
    let w : World = world image cpus budget h in
    let a : Actor = w.actors (cpu_number e.cpu) in
    ap (λ b. b && has_late e.act w.calls (cpu_number e.cpu)) (asks_if (ask_of e.act (actor_intent a) a.kept))
    ∙ legal_agrees (image_bytes image) (cpu_number e.cpu) h (actor_intent a) a.kept w.calls e.act agrees.buffer agrees.banks agrees.since bus
    ∙ sym (legal_by (processors image cpus budget) h e (actor_intent a) below (ap intent_of agrees.seat)) where
      asks_if : (o : Option Ask2) → is_ok (asked_or_refused o) ≡ is_some o
      asks_if None = refl
      asks_if (Some q) = refl

-- an event of a processor that there is not is not legal
pub refused_agrees : (image : Contents) (cpus budget : ℕ) (h : List Record) (e : Event) → Agrees image cpus budget h (cpu_number e.cpu) → BusAgrees (image_bytes image) h (world image cpus budget h).calls
    → is_not_legal (answer_of image cpus (world image cpus budget h) e) ≡ not (legal (processors image cpus budget) h e)
unfolding answer_of legal
refused_agrees image cpus budget h e agrees bus =
    ⊎_elim
    (λ (below : ltb (cpu_number e.cpu) cpus ≡ true). below_agrees image cpus budget h e (ltb-true (cpu_number e.cpu) cpus below) agrees bus)
    (λ (above : ltb (cpu_number e.cpu) cpus ≡ false). rw above refl)
    (cases_Bool (ltb (cpu_number e.cpu) cpus))
