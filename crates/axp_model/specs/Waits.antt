-- The full bank that an access waits for.
use Rattle.std.specs.Prelude.{ℕ, ◌||◌, if◌then◌else◌, List, Option, Some, None}
use Rattle.axp_base.specs.Lines.{data_bank, line_of}
use Rattle.axp_base.specs.declared.lines.Bank.{Bank}
use Rattle.axp_base.specs.declared.lines.Bank.TheVariants.{Code}
use Rattle.axp_access.specs.declared.Record.{Record}
use Rattle.axp_access.specs.declared.Wanted.{Wanted}
use Rattle.axp_regs.specs.declared.asks.Kind.{Kind}
use Rattle.axp_regs.specs.declared.asks.Kind.TheVariants as kind
use Rattle.axp_model.specs.Late.{held, code_held}
use Rattle.axp_model.specs.Legal.{code_has_room, has_room}

-- an access of this kind needs a copy of this line, which its bank does not hold and has no room for
abbrev pub full_bank_for : Kind → ℕ → ℕ → List Record → Option Bank
full_bank_for kind.Fetch l p h = if code_held p l h || code_has_room p h then None else Some Code
full_bank_for kind.Read l p h = if held p l h || has_room l p h then None else Some (data_bank l)
full_bank_for kind.Locked l p h = if held p l h || has_room l p h then None else Some (data_bank l)
full_bank_for _ l p h = None

abbrev pub full_bank : Option Wanted → ℕ → List Record → Option Bank
full_bank None p h = None
full_bank (Some w) p h = full_bank_for w.kind (line_of w.address) p h
