-- Which of the acts of an offer a word chooses.
use Rattle.std.specs.Prelude.{ℕ, zero, suc, ◌/◌, ◌%◌, ◌^◌, ◌==◌, nat_lt, nat_le, Bool, if◌then◌else◌, ◌&&◌, List, [], ◌∷◌, length, slice_get, find, Option, Some, None, is_some}
use Rattle.axp_access.specs.declared.Act.{Act}
use Rattle.axp_access.specs.declared.Act.TheVariants as act
use Rattle.axp_access.specs.declared.offers.Offer.{Offer}
use Rattle.axp_base.specs.Lines.{same_bank}
use Rattle.axp_base.specs.declared.lines.Bank.{Bank}
use Rattle.axp_base.specs.declared.lines.Bank.TheVariants.{Even, Odd}
use Rattle.axp_base.specs.declared.lines.Line.{Line}

-- a word's fields: the processor that acts (bits 15:0), the kind of act (19:16), how rare a tick is (31:20), and which of the drains or drops (63:32)
abbrev pub turn_field : ℕ → ℕ
turn_field word = word % 2 ^ 16

abbrev pub kind_field : ℕ → ℕ
kind_field word = word / 2 ^ 16 % 16

abbrev pub rarity_field : ℕ → ℕ
rarity_field word = word / 2 ^ 20 % 2 ^ 12

abbrev pub index_field : ℕ → ℕ
index_field word = word / 2 ^ 32

-- an act, where a test holds
abbrev pub where_legal : Bool → Act → Option Act
where_legal legal a = if legal then Some a else None

-- the first option that there is
abbrev pub or_else : Option Act → Option Act → Option Act
or_else (Some a) _ = Some a
or_else None other = other

-- the drop of a copy
abbrev pub drop_of : Option (Bank × Line) → Option Act
drop_of None = None
drop_of (Some copy) = Some (act.Drop copy.0 copy.1)

-- the first copy of a bank
abbrev pub first_in_bank : Bank → List (Bank × Line) → Option (Bank × Line)
first_in_bank bank drops = find (λ copy. same_bank bank copy.0) drops

-- the drop that makes room in the full bank that the wanted access waits for
abbrev pub room_made : Option Bank → List (Bank × Line) → Option Act
room_made None drops = None
room_made (Some bank) drops = drop_of (first_in_bank bank drops)

-- the act that brings the processor on: the first legal of a step, a fill, a drain and a drop that makes room
unfoldable pub progress : Offer → Option Act
progress o = or_else (where_legal o.step act.Step)
    (or_else (where_legal o.fill act.Fill)
    (or_else (where_legal (nat_lt 0 o.drains) (act.Drain 0)) (room_made o.needs o.drops.items)))

-- one of so many drains
abbrev pub drain_of : ℕ → ℕ → Option Act
drain_of index zero = None
drain_of index (suc n) = Some (act.Drain (index % suc n))

-- one of the drops
abbrev pub drop_at : ℕ → List (Bank × Line) → Option Act
drop_at index [] = None
drop_at index (copy ∷ rest) = drop_of (slice_get (copy ∷ rest) (index % length (copy ∷ rest)))

-- how many of the 2 ^ 12 values of the field let a tick pass
abbrev pub TICKS : ℕ
TICKS = 16

-- the act that a kind names, where it is legal: kinds 8 to 10 a drain, and 0 to 7 none
unfoldable pub named : ℕ → ℕ → ℕ → Offer → Option Act
named kind rarity index o =
    if nat_le 8 kind && nat_le kind 10 then drain_of index o.drains
    else (if kind == 11 then where_legal o.late.0 (act.Take Even)
    else (if kind == 12 then where_legal o.late.1 (act.Take Odd)
    else (if kind == 13 then drop_at index o.drops.items
    else (if kind == 14 then where_legal o.poll act.Poll
    else (if kind == 15 then where_legal (o.tick && nat_lt rarity TICKS) act.Tick
    else None)))))

-- the act that a word chooses: of a finished processor a drain; else the one that the word names, and progress where that is not legal
unfoldable pub choice : Offer → ℕ → Option Act
choice o word = if o.spent then drain_of (index_field word) o.drains else or_else (named (kind_field word) (rarity_field word) (index_field word) o) (progress o)

-- a word chooses an act, whichever word it is
unfoldable pub is_able : Offer → Bool
is_able o = if o.spent then nat_lt 0 o.drains else is_some (progress o)
