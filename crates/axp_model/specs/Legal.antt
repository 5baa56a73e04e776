-- Which events are legal. What the instruction table says of a processor is given as its intent.
use Rattle.std.specs.Prelude.{ℕ, zero, suc, nat_lt, Bool, true, false, not, ◌&&◌, ◌||◌, if◌then◌else◌, List, [], ◌∷◌, length, Option, Some, None, is_some}
use Rattle.axp_base.specs.Cpus.{cpu_number}
use Rattle.axp_base.specs.Lines.{line_number, data_bank, line_of, in_bank}
use Rattle.axp_base.specs.declared.lines.Bank.{Bank}
use Rattle.axp_base.specs.declared.lines.Bank.TheVariants.{Code}
use Rattle.axp_base.specs.declared.limits.TheConstants.{BANK_COPIES, WBUF_ENTRIES}
use Rattle.axp_regs.specs.declared.asks.Kind.{Kind}
use Rattle.axp_regs.specs.declared.asks.Kind.TheVariants as kind
use Rattle.axp_access.specs.declared.Act.{Act}
use Rattle.axp_access.specs.declared.Act.TheVariants as act
use Rattle.axp_access.specs.declared.Event.{Event}
use Rattle.axp_access.specs.declared.Intent.{Intent}
use Rattle.axp_model.specs.Processors.{Processors}
use Rattle.axp_access.specs.declared.Record.{Record}
use Rattle.axp_access.specs.declared.Wanted.{Wanted}
use Rattle.axp_model.specs.Records.{is_of}
use Rattle.axp_model.specs.Entries.{Buffer, buffer, entry_joined, oldest, has_closed, has_line}
use Rattle.axp_model.specs.Late.{late, held, code_held, copies, code_copies}
use Rattle.axp_access.specs.Acts.{is_step, is_fill, is_poll_act, is_tick, is_drop_of}
use Rattle.axp_base.specs.Lists.{is_empty}

-- since processor p's last Step, or the start, it made an act that passes a test
abbrev pub since_step : (Act → Bool) → ℕ → List Record → Bool
since_step test p [] = false
since_step test p (r ∷ h) = if is_of p r then (if is_step r.event.act then false else test r.event.act || since_step test p h) else since_step test p h

-- a data bank, the code bank, can take a copy of a line that it doesn't hold
abbrev pub has_room : ℕ → ℕ → List Record → Bool
has_room l p h = nat_lt (length (copies p (data_bank l) h)) BANK_COPIES

abbrev pub code_has_room : ℕ → List Record → Bool
code_has_room p h = nat_lt (length (code_copies p h)) BANK_COPIES

-- a write of the line joins an entry, or there is room for another
abbrev pub takes_write : ℕ → Buffer → Bool
takes_write l b = is_some (entry_joined l b.age b.waiting) || nat_lt (length b.waiting) WBUF_ENTRIES

-- the condition of a Step that makes an access of this kind to this line
abbrev pub is_ready : Kind → ℕ → ℕ → List Record → Bool
is_ready kind.Fetch l p h = code_held p l h
is_ready kind.Read l p h = held p l h
is_ready kind.Write l p h = takes_write l (buffer p h)
is_ready kind.Locked l p h = not (has_line l (buffer p h).waiting) && (held p l h || has_room l p h)
is_ready kind.Conditional l p h = not (has_line l (buffer p h).waiting) && not (has_closed (buffer p h).age (buffer p h).waiting)
is_ready kind.Barrier l p h = is_empty (buffer p h).waiting
is_ready kind.WriteBarrier l p h = true
is_ready kind.CodeBarrier l p h = is_empty (buffer p h).waiting
is_ready kind.Signal l p h = not (has_closed (buffer p h).age (buffer p h).waiting)
is_ready kind.Console l p h = true
is_ready kind.Poll l p h = false

-- a Step makes the wanted access, or none at a boundary that wants none
abbrev pub is_step_enabled : Bool → Option Wanted → ℕ → List Record → Bool
is_step_enabled boundary None p h = boundary
is_step_enabled boundary (Some w) p h = is_ready w.kind (line_of w.address) p h

-- a Fill brings in the line of a wanted fetch or plain read
abbrev pub is_fill_enabled_for : Kind → ℕ → ℕ → List Record → Bool
is_fill_enabled_for kind.Fetch l p h = not (code_held p l h) && code_has_room p h
is_fill_enabled_for kind.Read l p h = not (held p l h) && has_room l p h
is_fill_enabled_for _ l p h = false

abbrev pub is_fill_enabled : Option Wanted → ℕ → List Record → Bool
is_fill_enabled None p h = false
is_fill_enabled (Some w) p h = is_fill_enabled_for w.kind (line_of w.address) p h

-- the bank holds the line
abbrev pub holds_in : Bank → ℕ → ℕ → List Record → Bool
holds_in Code l p h = code_held p l h
holds_in b l p h = in_bank b l && held p l h

-- the condition of each act beside that the processor is not finished and has not just filled
abbrev pub is_enabled : Act → Intent → ℕ → List Record → Bool
is_enabled act.Step i p h = is_step_enabled i.boundary i.wanted p h
is_enabled act.Fill i p h = is_fill_enabled i.wanted p h
is_enabled (act.Drain k) i p h = nat_lt k (length (oldest (buffer p h).waiting))
is_enabled (act.Take b) i p h = not (is_empty (late p b h))
is_enabled (act.Drop b line) i p h = holds_in b (line_number line) p h && not (since_step (is_drop_of b) p h)
is_enabled act.Poll i p h = i.boundary && not (since_step is_poll_act p h)
is_enabled act.Tick i p h = i.boundary && (i.takes_interrupts && not (since_step is_tick p h))

-- a finished processor may drain alone; after a Fill only the Step is left
abbrev pub is_timely : Act → Bool → Bool → Bool
is_timely act.Step finished filled = not finished
is_timely (act.Drain k) finished filled = finished || not filled
is_timely _ finished filled = not finished && not filled

abbrev pub is_legal_act : Act → Intent → ℕ → List Record → Bool
is_legal_act a i p h = is_enabled a i p h && is_timely a i.finished (since_step is_fill p h)

-- an event of one of the processors is legal after a history
unfoldable pub legal : Processors → List Record → Event → Bool
legal ps h e = nat_lt (cpu_number e.cpu) ps.count && is_legal_act e.act (ps.intent (cpu_number e.cpu) h) (cpu_number e.cpu) h

-- processor p is finished, and no entry of its write buffer waits
abbrev pub is_done : Processors → List Record → ℕ → Bool
is_done ps h p = (ps.intent p h).finished && is_empty (buffer p h).waiting

-- so is every processor below n
abbrev pub are_done : Processors → List Record → ℕ → Bool
are_done ps h zero = true
are_done ps h (suc n) = are_done ps h n && is_done ps h n

-- a history is complete: every processor is done
abbrev pub is_complete : Processors → List Record → Bool
is_complete ps h = are_done ps h ps.count
