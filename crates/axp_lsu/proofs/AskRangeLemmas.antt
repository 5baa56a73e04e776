-- What is asked lies in memory, where what is kept and wanted does.
use Rattle.std.proofs.Common.{ℕ, zero, suc, ◌*◌, ◌<◌, ◌≤◌, ◌==◌, Bool, true, false, not, ◌&&◌, cond, List, [], ◌∷◌, Some, None, arith, IfSome, ⊎_elim}
use Rattle.std.specs.Prelude.{Option, slice_get}
use Rattle.std.specs.List.{AllByRecursion}
use Rattle.axp_base.specs.Cpus.{cpu_of}
use Rattle.axp_base.specs.Masks.{IsSize}
use Rattle.axp_base.specs.declared.lines.Bank.{Bank}
use Rattle.axp_base.specs.declared.lines.Bank.TheVariants.{Even, Odd, Code}
use Rattle.axp_base.specs.declared.lines.TheConstants.{LINE_BYTES}
use Rattle.axp_base.specs.declared.processors.Cpu.{Cpu}
use Rattle.axp_line.specs.declared.messages.Request.TheVariants as request
use Rattle.axp_regs.specs.declared.asks.Kind.{Kind}
use Rattle.axp_regs.specs.declared.asks.Kind.TheVariants as kind
use Rattle.axp_wbuf.specs.Drains.{in_front, first_group, oldest_group}
use Rattle.axp_wbuf.specs.Pending.{Pending}
use Rattle.axp_access.specs.declared.Act.{Act}
use Rattle.axp_access.specs.declared.Act.TheVariants as act
use Rattle.axp_access.specs.declared.Intent.{Intent}
use Rattle.axp_access.specs.declared.Wanted.{Wanted}
use Rattle.axp_model.specs.Legal.{is_timely}
use Rattle.axp_base.specs.Lines.{line_of}
use Rattle.axp_lsu.specs.declared.asks.Ask2.{Ask2}
use Rattle.axp_lsu.specs.declared.asks.Ask2.TheVariants as ask
use Rattle.axp_lsu.specs.Keeping.{LocalMemory, data_copies}
use Rattle.axp_lsu.specs.Asking.{is_ready, signal_to, access_ask, step_ask, may_bring, fill_for, fill_ask, drain_ask, take_ask, act_ask, ask_of}
use Rattle.axp_lsu.specs.Within.{IsAskWithin, IsEntryWithin, IsInMemory, IsKeptWithin, IsWantedBy, IsWantedWithin}
use Rattle.axp_lsu.proofs.LineLemmas.{line_within}

abbrev Within : ℕ → Option Ask2 → Type 0
Within size o = IfSome o (IsAskWithin size)

if_asked : (size : ℕ) (b : Bool) (o : Option Ask2) → Within size o → Within size (cond b o None)
if_asked size true o h = h
if_asked size false o h = tt

sized : (n : ℕ) → IsSize n → 1 ≤ n
sized n h = ⊎_elim (λ e. omega (arith, e)) (λ h. ⊎_elim (λ e. omega (arith, e)) (λ h. ⊎_elim (λ e. omega (arith, e)) (λ e. omega (arith, e)) h) h) h

-- the address of a wanted access, and that of its line
pub address_within : (size : ℕ) (w : Wanted) → IsInMemory size w → w.address < size
address_within size w h = let some = sized w.size h.sized in let fits = h.within in omega arith

pub line_address_within : (size : ℕ) (w : Wanted) → IsInMemory size w → line_of w.address * LINE_BYTES < size
line_address_within size w h = let below = address_within size w h in omega arith

signal_within : (size : ℕ) (o : Option Cpu) → IsAskWithin size (signal_to o)
signal_within size None = tt
signal_within size (Some target) = tt

access_within : (size : ℕ) (k : Kind) (w : Wanted) (armed : Bool) (u : LocalMemory) → IsWantedBy size k w → IsAskWithin size (access_ask k w armed u)
access_within size kind.Fetch w armed u h = tt
access_within size kind.Read w armed u h = tt
access_within size kind.Write w armed u h = tt
access_within size kind.Locked w armed u h = address_within size w h
access_within size kind.Conditional w armed u h = (h.sized, h.within.aligned, address_within size w h.within)
access_within size kind.Barrier w armed u h = tt
access_within size kind.WriteBarrier w armed u h = tt
access_within size kind.CodeBarrier w armed u h = tt
access_within size kind.Signal w armed u h = signal_within size (cpu_of w.value)
access_within size kind.Console w armed u h = tt
access_within size kind.Poll w armed u h = tt

step_within : (size : ℕ) (boundary : Bool) (o : Option Wanted) (armed : Bool) (u : LocalMemory) → IsWantedWithin size o → Within size (step_ask boundary o armed u)
step_within size boundary None armed u h = if_asked size boundary (Some ask.Private) tt
step_within size boundary (Some w) armed u h = if_asked size (is_ready w.kind (line_of w.address) u) (Some (access_ask w.kind w armed u)) (access_within size w.kind w armed u h)

fill_for_within : (size : ℕ) (k : Kind) (w : Wanted) (u : LocalMemory) → IsWantedBy size k w → Within size (fill_for k w u)
fill_for_within size kind.Fetch w u h = if_asked size (may_bring (line_of w.address) u.code) _ (line_within size _ (line_address_within size w h))
fill_for_within size kind.Read w u h = if_asked size (may_bring (line_of w.address) (data_copies (line_of w.address) u)) _ (line_within size _ (line_address_within size w h))
fill_for_within size kind.Write w u h = tt
fill_for_within size kind.Locked w u h = tt
fill_for_within size kind.Conditional w u h = tt
fill_for_within size kind.Barrier w u h = tt
fill_for_within size kind.WriteBarrier w u h = tt
fill_for_within size kind.CodeBarrier w u h = tt
fill_for_within size kind.Signal w u h = tt
fill_for_within size kind.Console w u h = tt
fill_for_within size kind.Poll w u h = tt

fill_within : (size : ℕ) (o : Option Wanted) (u : LocalMemory) → IsWantedWithin size o → Within size (fill_ask o u)
fill_within size None u h = tt
fill_within size (Some w) u h = fill_for_within size w.kind w u h

-- the entries of a group in front, and one of them
in_front_all : (P : Pending → Type 0) (group : ℕ) (es : List Pending) → AllByRecursion P es → AllByRecursion P (in_front group es)
unfolding in_front
in_front_all P group [] h = tt
in_front_all P group (e ∷ es) h = by (e.group == group) (in_front_all P group es h.1)
  where
    by : (b : Bool) → AllByRecursion P (in_front group es) → AllByRecursion P (cond b (e ∷ in_front group es) [])
    by true rest = (h.0, rest)
    by false rest = tt

get_all : (P : Pending → Type 0) (es : List Pending) (k : ℕ) → AllByRecursion P es → IfSome (slice_get es k) P
get_all P [] k h = tt
get_all P (e ∷ es) zero h = h.0
get_all P (e ∷ es) (suc k) h = get_all P es k h.1

pub oldest_within : (size : ℕ) (u : LocalMemory) (k : ℕ) → IsKeptWithin size u → IfSome (slice_get (oldest_group u.buffer.kept) k) (IsEntryWithin size)
oldest_within size u k h =
    get_all (IsEntryWithin size) (oldest_group u.buffer.kept) k (in_front_all (IsEntryWithin size) (first_group u.buffer.kept) u.buffer.kept h.entries)

drain_within : (size : ℕ) (o : Option Pending) → IfSome o (IsEntryWithin size) → Within size (drain_ask o)
drain_within size None h = tt
drain_within size (Some e) h = line_within size e.line h

take_within : (size : ℕ) (b : Bank) → Within size (take_ask b)
take_within size Even = tt
take_within size Odd = tt
take_within size Code = tt

act_within : (size : ℕ) (a : Act) (i : Intent) (u : LocalMemory) → IsKeptWithin size u → IsWantedWithin size i.wanted → Within size (act_ask a i u)
act_within size act.Step i u kept wanted = step_within size i.boundary i.wanted i.lock_flag u wanted
act_within size act.Fill i u kept wanted = fill_within size i.wanted u wanted
act_within size (act.Drain k) i u kept wanted = drain_within size (slice_get (oldest_group u.buffer.kept) k) (oldest_within size u k kept)
act_within size (act.Take b) i u kept wanted = take_within size b
act_within size (act.Drop b line) i u kept wanted = if_asked size _ (Some ask.Private) tt
act_within size act.Poll i u kept wanted = if_asked size (i.boundary && not u.since.polled) (Some (ask.Bus (request.Poll i.takes_interrupts))) tt
act_within size act.Tick i u kept wanted = if_asked size _ (Some ask.Private) tt

pub asks_within : (size : ℕ) (a : Act) (i : Intent) (u : LocalMemory) → IsKeptWithin size u → IsWantedWithin size i.wanted → Within size (ask_of a i u)
unfolding ask_of
asks_within size a i u kept wanted = if_asked size (is_timely a i.finished u.since.filled) (act_ask a i u) (act_within size a i u kept wanted)
