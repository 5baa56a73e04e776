-- What a granted event asks lies in memory, and the bus's answer fits it.
use Rattle.std.proofs.Common.{◌≡◌, ℕ, ◌+◌, ◌^◌, ◌<◌, ◌≤◌, ◌&&◌, Bool, true, false, cond, List, [], ◌∷◌, length, slice_get, Option, Some, None, arith, refl, sym, subst}
use Rattle.std.specs.Prelude.{Ok, nat_lt}
use Rattle.axp_access.specs.declared.Act.{Act}
use Rattle.axp_access.specs.declared.Act.TheVariants as act
use Rattle.axp_access.specs.declared.Intent.{Intent}
use Rattle.axp_access.specs.declared.Wanted.{Wanted}
use Rattle.axp_base.specs.Cpus.{cpu_by, cpu_number, cpu_of}
use Rattle.axp_base.specs.declared.processors.Cpu.{Cpu}
use Rattle.axp_base.specs.declared.processors.TheConstants.{MAX_CPUS}
use Rattle.axp_base.specs.declared.lines.Bank.{Bank}
use Rattle.axp_base.specs.declared.lines.Bank.TheVariants.{Even, Odd, Code}
use Rattle.axp_base.specs.declared.lines.Line.{Line}
use Rattle.axp_bus.specs.Buses.{MayAsk, State}
use Rattle.axp_cpu.specs.Actors.{Actor, actor_intent, request_of}
use Rattle.axp_cpu.specs.Seats.{Seat, wanted}
use Rattle.axp_cpu.specs.Soundness.{IsSoundAs}
use Rattle.axp_cpu.specs.ActorStands.{IsAt}
use Rattle.axp_cpu.specs.Stands.{Stands}
use Rattle.axp_cpu.specs.declared.processors.Processor.{Processor}
use Rattle.axp_cpu.specs.declared.sequencers.Sequencer.{Sequencer}
use Rattle.axp_cpu.proofs.ActorLemmas.{was_asked, wanted_sound}
use Rattle.axp_line.specs.declared.messages.Reply.TheVariants as reply
use Rattle.axp_line.specs.declared.messages.Request.{Request}
use Rattle.axp_line.specs.declared.messages.Request.TheVariants as request
use Rattle.axp_lsu.specs.Asking.{access_ask, act_ask, ask_of, drain_ask, fill_ask, fill_for, is_ready, signal_to, step_ask, take_ask}
use Rattle.axp_lsu.specs.Fitting.{FitsRequest}
use Rattle.axp_lsu.specs.Keeping.{LocalMemory}
use Rattle.axp_lsu.specs.Within.{IsAskWithin, IsRequestWithin}
use Rattle.axp_lsu.specs.declared.asks.Ask2.{Ask2}
use Rattle.axp_lsu.specs.declared.asks.Ask2.TheVariants as ask
use Rattle.axp_line.specs.BusCalls.{Written}
use Rattle.axp_line.specs.BusReply.{PortState, first_late, late_in, reply_by, conditional_reply}
use Rattle.axp_model.specs.Legal.{is_timely}
use Rattle.axp_wbuf.specs.Drains.{oldest_group}
use Rattle.axp_wbuf.specs.Pending.{Pending}
use Rattle.axp_base.specs.Lines.{line_at, line_of}
use Rattle.axp_base.specs.LatePairs.{AreBefore}
use Rattle.axp_regs.specs.declared.asks.Kind.{Kind}
use Rattle.axp_regs.specs.declared.asks.Kind.TheVariants as kind
use Rattle.axp_base.specs.Blocks.{is_allowed}
use Rattle.axp_machine.specs.Playing.{MayAskFor}

-- a signal that is asked for goes to a processor below this count
abbrev Targets : ℕ → Ask2 → Type 0
Targets cpus (ask.Bus (request.Signal target)) = cpu_number target < cpus
Targets cpus _ = Unit {0}

abbrev TargetsIf : ℕ → Option Ask2 → Type 0
TargetsIf cpus None = Unit {0}
TargetsIf cpus (Some q) = Targets cpus q

if_some : (cpus : ℕ) (b : Bool) (q : Ask2) → Targets cpus q → TargetsIf cpus (cond b (Some q) None)
if_some cpus true q is = is
if_some cpus false q is = tt

number_by : (v : ℕ) (small : Bool) (tested : nat_lt v MAX_CPUS ≡ small) (target : Cpu) → cpu_by v small tested ≡ Some target → cpu_number target ≡ v
number_by v true tested target is = cc
number_by v false tested target is = cc

number_of : (v : ℕ) (target : Cpu) → cpu_of v ≡ Some target → cpu_number target ≡ v
number_of v target is = number_by v (nat_lt v MAX_CPUS) refl target is

signal_targets : (cpus v : ℕ) (o : Option Cpu) → cpu_of v ≡ o → v < cpus → Targets cpus (signal_to o)
signal_targets cpus v None is below = tt
signal_targets cpus v (Some target) is below = subst (λ n. n < cpus) (sym (number_of v target is)) below

access_targets : (k : Kind) (size cpus : ℕ) (w : Wanted) (armed : Bool) (u : LocalMemory) → IsSoundAs size cpus k w → Targets cpus (access_ask k w armed u)
access_targets kind.Signal size cpus w armed u sound = signal_targets cpus w.value (cpu_of w.value) refl sound.value
access_targets _ size cpus w armed u sound = tt

abbrev pub IsWantedSound : ℕ → ℕ → Option Wanted → Type 0
IsWantedSound size cpus None = Unit {0}
IsWantedSound size cpus (Some w) = IsSoundAs size cpus w.kind w

step_targets : (o : Option Wanted) (size cpus : ℕ) (boundary armed : Bool) (u : LocalMemory) → IsWantedSound size cpus o → TargetsIf cpus (step_ask boundary o armed u)
step_targets None size cpus boundary armed u sound = if_some cpus boundary ask.Private tt
step_targets (Some w) size cpus boundary armed u sound = if_some cpus (is_ready w.kind (line_of w.address) u) (access_ask w.kind w armed u) (access_targets w.kind size cpus w armed u sound)

fill_for_targets : (k : Kind) (cpus : ℕ) (w : Wanted) (u : LocalMemory) → TargetsIf cpus (fill_for k w u)
fill_for_targets kind.Fetch cpus w u = if_some cpus _ (ask.Bus (request.FillCode (line_at w.address))) tt
fill_for_targets kind.Read cpus w u = if_some cpus _ (ask.Bus (request.Fill (line_at w.address))) tt
fill_for_targets _ cpus w u = tt

fill_targets : (o : Option Wanted) (cpus : ℕ) (u : LocalMemory) → TargetsIf cpus (fill_ask o u)
fill_targets None cpus u = tt
fill_targets (Some w) cpus u = fill_for_targets w.kind cpus w u

drain_targets : (o : Option Pending) (cpus : ℕ) → TargetsIf cpus (drain_ask o)
drain_targets None cpus = tt
drain_targets (Some e) cpus = tt

take_targets : (b : Bank) (cpus : ℕ) → TargetsIf cpus (take_ask b)
take_targets Even cpus = tt
take_targets Odd cpus = tt
take_targets Code cpus = tt

act_targets : (a : Act) (size cpus : ℕ) (i : Intent) (u : LocalMemory) → IsWantedSound size cpus i.wanted → TargetsIf cpus (act_ask a i u)
act_targets act.Step size cpus i u sound = step_targets i.wanted size cpus i.boundary i.lock_flag u sound
act_targets act.Fill size cpus i u sound = fill_targets i.wanted cpus u
act_targets (act.Drain k) size cpus i u sound = drain_targets (slice_get (oldest_group u.buffer.kept) k) cpus
act_targets (act.Take b) size cpus i u sound = take_targets b cpus
act_targets (act.Drop b line) size cpus i u sound = if_some cpus _ ask.Private tt
act_targets act.Poll size cpus i u sound = if_some cpus _ (ask.Bus (request.Poll i.takes_interrupts)) tt
act_targets act.Tick size cpus i u sound = if_some cpus _ ask.Private tt

now_targets : (now : Bool) (cpus : ℕ) (o : Option Ask2) → TargetsIf cpus o → TargetsIf cpus (cond now o None)
now_targets true cpus o targets = targets
now_targets false cpus o targets = tt

ask_targets : (a : Act) (size cpus : ℕ) (i : Intent) (u : LocalMemory) → IsWantedSound size cpus i.wanted → TargetsIf cpus (ask_of a i u)
unfolding ask_of
ask_targets a size cpus i u sound = now_targets (is_timely a i.finished u.since.filled) cpus (act_ask a i u) (act_targets a size cpus i u sound)

-- the wanted access of a seat is one of the table
wanted_by_sound : (q : Sequencer) (s : Seat) (o : Option Wanted) → Stands q s → wanted s ≡ o → IsWantedSound s.size s.cpus o
wanted_by_sound q s None stands is = tt
wanted_by_sound q s (Some w) stands is = wanted_sound q s w stands is

-- what lies in memory and goes to a processor that there is may be asked
request_may : (q : Request) (size n cpus : ℕ) → n ≤ cpus → IsRequestWithin size q → Targets n (ask.Bus q) → MayAsk size cpus q
request_may (request.Fill line) size n cpus few inside targets = inside
request_may (request.FillCode line) size n cpus few inside targets = inside
request_may (request.Drain line mask bytes) size n cpus few inside targets = inside
request_may (request.Locked address) size n cpus few inside targets = inside
request_may (request.Conditional address width value armed) size n cpus few inside targets = (inside.2, (inside.0, inside.1))
request_may (request.Signal target) size n cpus few inside targets = omega (arith, few, targets)
request_may _ size n cpus few inside targets = tt

abbrev pub MayBoth : ℕ → ℕ → Ask2 → Type 0
MayBoth size cpus ask.Private = Unit {0}
MayBoth size cpus (ask.Bus q) = MayAsk size cpus q

ask_may : (q : Ask2) (size n cpus : ℕ) → n ≤ cpus → IsAskWithin size q → Targets n q → MayBoth size cpus q
ask_may ask.Private size n cpus few inside targets = tt
ask_may (ask.Bus q) size n cpus few inside targets = request_may q size n cpus few inside targets

pub asked_may : (p : Processor) (a : Actor) (e : Act) (q : Ask2) (cpus : ℕ) → IsAt p a → a.seat.cpus ≤ cpus → request_of a e ≡ Ok q → IsAskWithin a.seat.size q → MayBoth a.seat.size cpus q
asked_may p a e q cpus at few is inside =
    let n = a.seat.cpus in
    let sound : IsWantedSound a.seat.size n (actor_intent a).wanted = wanted_by_sound p.sequencer a.seat (actor_intent a).wanted at.seat refl in
    let asked : ask_of e (actor_intent a) a.kept ≡ Some q = was_asked a e q is in
    ask_may q a.seat.size n cpus few inside (subst (TargetsIf n) asked (ask_targets e a.seat.size n (actor_intent a) a.kept sound))

-- the size and processors that the bus has
pub may_ask_for : (q : Ask2) (b : State) (size : ℕ) → size ≡ length b.memory → MayBoth size (length b.ports) q → MayAskFor b q
may_ask_for ask.Private b size is may = tt
may_ask_for (ask.Bus q) b size is may = subst (λ n. MayAsk n (length b.ports) q) is may

-- the bus's answers fit
tried_fits : (stored : Bool) (f : PortState) (w : Option Written) (line : Line) (address size value : ℕ) (armed : Bool) → f.turns + 1 < 2 ^ 32 → FitsRequest (request.Conditional address size value armed) (conditional_reply stored f w line)
tried_fits true f w line address size value armed few = few
tried_fits false f w line address size value armed few = omega (arith, few)

first_fits : (bank : Bank) (pairs : List (Line × ℕ)) (turns : ℕ) → turns + 1 < 2 ^ 32 → AreBefore (turns + 1) pairs → (first_late pairs ≡ reply.Nothing → ⊥) → FitsRequest (request.Take bank) (first_late pairs)
first_fits bank [] turns few before something = absurd (something refl)
first_fits bank ((line, turn) ∷ pairs) turns few before something = let first = before.0 in omega (arith, few, first)

-- what is late is of turns that were made
abbrev pub IsLateMade : PortState → Bank → Type 0
IsLateMade f bank = AreBefore (f.turns + 1) (late_in f bank)

pub reply_fits : (q : Request) (f : PortState) → f.turns + 1 < 2 ^ 32 → ((bank : Bank) → IsLateMade f bank) → (reply_by f q ≡ reply.Nothing → ⊥) → FitsRequest q (reply_by f q)
unfolding reply_by
reply_fits (request.Fill line) f few late something = omega (arith, few)
reply_fits (request.FillCode line) f few late something = omega (arith, few)
reply_fits (request.Drain line mask bytes) f few late something = few
reply_fits (request.Locked address) f few late something = omega (arith, few)
reply_fits (request.Conditional address size value armed) f few late something = tried_fits (armed && is_allowed address f.block) f _ (line_at address) address size value armed few
reply_fits (request.Barrier held) f few late something = omega (arith, few)
reply_fits (request.CodeBarrier held) f few late something = omega (arith, few)
reply_fits (request.Take bank) f few late something = first_fits bank (late_in f bank) f.turns few (late bank) something
reply_fits (request.Poll below) f few late something = omega (arith, few)
reply_fits (request.Signal target) f few late something = few
reply_fits (request.Console byte) f few late something = omega (arith, few)
