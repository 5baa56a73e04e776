-- Which acts a processor may make, as far as it knows, and what each asks of the bus.
use Rattle.std.specs.Prelude.{ℕ, ◌%◌, ◌^◌, ◌==◌, Bool, true, false, not, ◌&&◌, if◌then◌else◌, List, length, Option, Some, None}
use Rattle.std.specs.List.{list_any}
use Rattle.axp_base.specs.Cpus.{cpu_of}
use Rattle.axp_base.specs.Lines.{line_number, line_of, line_at, line_numbered}
use Rattle.axp_base.specs.declared.lines.Bank.{Bank}
use Rattle.axp_base.specs.declared.lines.Bank.TheVariants.{Even, Odd, Code}
use Rattle.axp_base.specs.declared.processors.Cpu.{Cpu}
use Rattle.axp_bank.specs.Copies.{is_held, has_room}
use Rattle.axp_bank.specs.declared.copies.LineCopy.{LineCopy}
use Rattle.axp_line.specs.Lines.{data_of}
use Rattle.axp_line.specs.declared.messages.Request.TheVariants as request
use Rattle.axp_regs.specs.declared.asks.Kind.{Kind}
use Rattle.axp_regs.specs.declared.asks.Kind.TheVariants as kind
use Rattle.axp_wbuf.specs.Pending.{Pending, is_before, is_of_line}
use Rattle.axp_wbuf.specs.Pending as pending
use Rattle.axp_access.specs.declared.Act.{Act}
use Rattle.axp_access.specs.declared.Act.TheVariants as act
use Rattle.axp_access.specs.declared.Intent.{Intent}
use Rattle.axp_access.specs.declared.Wanted.{Wanted}
use Rattle.axp_model.specs.Legal.{is_timely}
use Rattle.axp_lsu.specs.declared.asks.Ask2.{Ask2}
use Rattle.axp_lsu.specs.declared.asks.Ask2.TheVariants as ask
use Rattle.axp_lsu.specs.Keeping.{LocalMemory, copies_of, data_copies, entry_at, held_pairs, has_dropped}

-- the condition of a Step that makes an access of this kind to this line
abbrev pub is_ready : Kind → ℕ → LocalMemory → Bool
is_ready kind.Fetch l u = is_held l u.code
is_ready kind.Read l u = is_held l (data_copies l u)
is_ready kind.Write l u = pending.takes l u.buffer
is_ready kind.Locked l u = not (list_any (is_of_line l) u.buffer.kept) && has_room l (data_copies l u)
is_ready kind.Conditional l u = not (list_any (is_of_line l) u.buffer.kept) && not (list_any (is_before u.buffer.newest) u.buffer.kept)
is_ready kind.Barrier l u = length u.buffer.kept == 0
is_ready kind.WriteBarrier l u = true
is_ready kind.CodeBarrier l u = length u.buffer.kept == 0
is_ready kind.Signal l u = not (list_any (is_before u.buffer.newest) u.buffer.kept)
is_ready kind.Console l u = true
is_ready kind.Poll l u = false

-- a signal asks the bus; one to a number that no processor has asks nothing
abbrev pub signal_to : Option Cpu → Ask2
signal_to None = ask.Private
signal_to (Some target) = ask.Bus (request.Signal target)

-- what the Step of a wanted access asks
abbrev pub access_ask : Kind → Wanted → Bool → LocalMemory → Ask2
access_ask kind.Locked w armed u = ask.Bus (request.Locked w.address)
access_ask kind.Conditional w armed u = ask.Bus (request.Conditional w.address w.size w.value armed)
access_ask kind.Barrier w armed u = ask.Bus (request.Barrier (held_pairs u))
access_ask kind.CodeBarrier w armed u = ask.Bus (request.CodeBarrier (held_pairs u))
access_ask kind.Signal w armed u = signal_to (cpu_of w.value)
access_ask kind.Console w armed u = ask.Bus (request.Console (w.value % 2 ^ 8))
access_ask _ w armed u = ask.Private

-- None: not legal
abbrev pub step_ask : Bool → Option Wanted → Bool → LocalMemory → Option Ask2
step_ask boundary None armed u = if boundary then Some ask.Private else None
step_ask boundary (Some w) armed u = if is_ready w.kind (line_of w.address) u then Some (access_ask w.kind w armed u) else None

-- a bank that doesn't hold the line has room for it
abbrev pub may_bring : ℕ → List LineCopy → Bool
may_bring l cs = not (is_held l cs) && has_room l cs

-- a Fill brings in the line of a wanted fetch or plain read
abbrev pub fill_for : Kind → Wanted → LocalMemory → Option Ask2
fill_for kind.Fetch w u = if may_bring (line_of w.address) u.code then Some (ask.Bus (request.FillCode (line_at w.address))) else None
fill_for kind.Read w u = if may_bring (line_of w.address) (data_copies (line_of w.address) u) then Some (ask.Bus (request.Fill (line_at w.address))) else None
fill_for _ w u = None

abbrev pub fill_ask : Option Wanted → LocalMemory → Option Ask2
fill_ask None u = None
fill_ask (Some w) u = fill_for w.kind w u

-- a Drain writes an entry to memory
abbrev pub drain_ask : Option Pending → Option Ask2
drain_ask None = None
drain_ask (Some e) = Some (ask.Bus (request.Drain (line_numbered e.line) (record { 0 = e.bits }) (data_of e.bytes)))

-- a Take of a data bank
abbrev pub take_ask : Bank → Option Ask2
take_ask Even = Some (ask.Bus (request.Take Even))
take_ask Odd = Some (ask.Bus (request.Take Odd))
take_ask Code = None

abbrev pub act_ask : Act → Intent → LocalMemory → Option Ask2
act_ask act.Step i u = step_ask i.boundary i.wanted i.lock_flag u
act_ask act.Fill i u = fill_ask i.wanted u
act_ask (act.Drain k) i u = drain_ask (entry_at k u)
act_ask (act.Take b) i u = take_ask b
act_ask (act.Drop b line) i u = if is_held (line_number line) (copies_of b u) && not (has_dropped b u.since) then Some ask.Private else None
act_ask act.Poll i u = if i.boundary && not u.since.polled then Some (ask.Bus (request.Poll i.takes_interrupts)) else None
act_ask act.Tick i u = if i.boundary && (i.takes_interrupts && not u.since.ticked) then Some ask.Private else None

-- what an act asks; None exactly where it is not legal, but for a Take where nothing is late, which the
-- bus alone knows
unfoldable pub ask_of : Act → Intent → LocalMemory → Option Ask2
ask_of a i u = if is_timely a i.finished u.since.filled then act_ask a i u else None
