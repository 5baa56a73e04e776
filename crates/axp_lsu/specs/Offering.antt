-- Which acts a processor may make, as lists and numbers.
use Rattle.std.specs.Prelude.{ℕ, Bool, not, ◌&&◌, if◌then◌else◌, List, [], ◌++◌, map, Option, Some, None}
use Rattle.axp_access.specs.declared.Wanted.{Wanted}
use Rattle.axp_bank.specs.Copies.{has_room}
use Rattle.axp_bank.specs.declared.copies.LineCopy.{LineCopy}
use Rattle.axp_base.specs.Lines.{data_bank, line_of}
use Rattle.axp_base.specs.declared.lines.Bank.{Bank}
use Rattle.axp_base.specs.declared.lines.Bank.TheVariants.{Even, Odd, Code}
use Rattle.axp_base.specs.declared.lines.Line.{Line}
use Rattle.axp_regs.specs.declared.asks.Kind.{Kind}
use Rattle.axp_regs.specs.declared.asks.Kind.TheVariants as kind
use Rattle.axp_lsu.specs.Keeping.{LocalMemory, copies_of, data_copies, has_dropped}

-- a processor may take what is late, or give up a copy: it is not finished, and did not just fill
abbrev pub is_open : Bool → LocalMemory → Bool
is_open finished u = not finished && not u.since.filled

-- this bank's copies of lines
abbrev pub copies_named : Bank → List Line → List (Bank × Line)
copies_named bank lines = map (λ line. (bank, line)) lines

-- the copies that a bank may give up
abbrev pub named : Bank → List LineCopy → List (Bank × Line)
named bank cs = map (λ c. (bank, c.line)) cs

abbrev pub bank_drops : Bank → LocalMemory → List (Bank × Line)
bank_drops bank u = if has_dropped bank u.since then [] else named bank (copies_of bank u)

abbrev pub drops_of : LocalMemory → List (Bank × Line)
drops_of u = bank_drops Even u ++ bank_drops Odd u ++ bank_drops Code u

-- the full bank that an access of this kind to this line waits for
abbrev pub full_bank_for : Kind → ℕ → LocalMemory → Option Bank
full_bank_for kind.Fetch l u = if has_room l u.code then None else Some Code
full_bank_for kind.Read l u = if has_room l (data_copies l u) then None else Some (data_bank l)
full_bank_for kind.Locked l u = if has_room l (data_copies l u) then None else Some (data_bank l)
full_bank_for _ l u = None

abbrev pub full_bank : Option Wanted → LocalMemory → Option Bank
full_bank None u = None
full_bank (Some w) u = full_bank_for w.kind (line_of w.address) u
