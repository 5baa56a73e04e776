-- What is told of the end, and in which order.
use Rattle.std.specs.Prelude.{◌≡◌, ℕ, ◌<◌, ◌≤◌, ◌⊎◌, List, [], ◌∷◌, Some}
use Rattle.std.specs.List.{AllByRecursion}
use Rattle.axp_access.specs.declared.tail_items.TailItem.{TailItem}
use Rattle.axp_access.specs.declared.tail_items.TailItem.TheVariants.{Cpu as Ended, Reg, Mem, Console, End}
use Rattle.axp_base.specs.Cpus.{cpu_number}
use Rattle.axp_machine.specs.Runs.{Seen}
use Rattle.axp_machine.specs.Tails.{IsPlace, item_at}
use Rattle.axp_machine.specs.declared.machine.tails.TailAt.{TailAt}

-- how a processor ended, a register that is not 0, a quadword that was written, the console, or the number of events
abbrev pub IsLeft : Seen → TailItem → Type 0
IsLeft m i = (place : TailAt) × IsPlace m place × (item_at m place ≡ Some i)

-- the parts of a tail, in order: processors, memory, the console, the end
abbrev pub part : TailItem → ℕ
part (Ended cpu halt steps pc) = 0
part (Reg cpu n value) = 0
part (Mem address value) = 1
part (Console bytes) = 2
part (End events) = 3

-- an earlier part, or the same part and a processor, a register or an address that is below
abbrev pub ComesBefore : TailItem → TailItem → Type 0
ComesBefore (Ended c halt steps pc) (Ended d other made at) = cpu_number c < cpu_number d
ComesBefore (Ended c halt steps pc) (Reg d n value) = cpu_number c ≤ cpu_number d
ComesBefore (Reg c n value) (Ended d halt steps pc) = cpu_number c < cpu_number d
ComesBefore (Reg c n value) (Reg d k other) = (cpu_number c < cpu_number d) ⊎ ((cpu_number c ≡ cpu_number d) × (n < k))
ComesBefore (Mem a value) (Mem b other) = a < b
ComesBefore x y = part x < part y

-- each comes before all behind it
abbrev pub AreAscending : List TailItem → Type 0
AreAscending [] = Unit {0}
AreAscending (i ∷ is) = AllByRecursion (ComesBefore i) is × AreAscending is
