-- What an offer names.
use Rattle.std.specs.Prelude.{ℕ, ◌==◌, nat_lt, Bool, true, false, ◌&&◌, ◌||◌, List, [], ◌∷◌}
use Rattle.std.specs.List.{list_any}
use Rattle.axp_base.specs.Lines.{line_number, same_bank}
use Rattle.axp_base.specs.declared.lines.Bank.{Bank}
use Rattle.axp_base.specs.declared.lines.Bank.TheVariants.{Even, Odd, Code}
use Rattle.axp_base.specs.declared.lines.Line.{Line}
use Rattle.axp_access.specs.declared.Act.{Act}
use Rattle.axp_access.specs.declared.Act.TheVariants as act
use Rattle.axp_access.specs.declared.offers.Offer.{Offer}

-- the copy of this line in this bank
abbrev pub is_copy : Bank → Line → Bank × Line → Bool
is_copy bank line c = same_bank bank c.0 && (line_number c.1 == line_number line)

-- the offer has this act
abbrev pub is_offered : Offer → Act → Bool
is_offered o act.Step = o.step
is_offered o act.Fill = o.fill
is_offered o (act.Drain k) = nat_lt k o.drains
is_offered o (act.Take Even) = o.late.0
is_offered o (act.Take Odd) = o.late.1
is_offered o (act.Take Code) = false
is_offered o (act.Drop bank line) = list_any (is_copy bank line) o.drops.items
is_offered o act.Poll = o.poll
is_offered o act.Tick = o.tick

-- d0 comes before d1, and this before the code bank
abbrev pub bank_rank : Bank → ℕ
bank_rank Even = 0
bank_rank Odd = 1
bank_rank Code = 2

-- of one bank lines ascend
abbrev pub is_copy_before : Bank × Line → Bank × Line → Bool
is_copy_before c d = nat_lt (bank_rank c.0) (bank_rank d.0) || ((bank_rank c.0 == bank_rank d.0) && nat_lt (line_number c.1) (line_number d.1))

-- so none stands twice
abbrev pub are_ascending : List (Bank × Line) → Bool
are_ascending [] = true
are_ascending (c ∷ []) = true
are_ascending (c ∷ d ∷ cs) = is_copy_before c d && are_ascending (d ∷ cs)
