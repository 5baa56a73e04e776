-- Location: of two accesses that overlap and of which one is a memory write, one is BEFORE the other.
use Rattle.std.specs.Prelude.{◌≡◌, ◌≢◌, ◌⊎◌, Bool, true, ◌||◌}
use Rattle.axp_access.specs.Kinds.{is_memory_write}
use Rattle.axp_access.specs.Numbering.{NumberedAccess, cpu_of}
use Rattle.axp_access.specs.Order.{Times, spot, before}
use Rattle.axp_model.specs.Issue.{overlap}

-- an access has a place
abbrev pub is_placed : Times → NumberedAccess → Bool
is_placed t u = (spot t (cpu_of u) u.access.place).placed

-- two accesses are made by different processors, or are different accesses of one
abbrev pub AreApart : NumberedAccess → NumberedAccess → Type 0
AreApart u v = cpu_of u ≡ cpu_of v → u.number ≢ v.number

-- one of the two is BEFORE the other
abbrev pub AreComparable : Times → NumberedAccess → NumberedAccess → Type 0
AreComparable t u v = (before t u v ≡ true) ⊎ (before t v u ≡ true)

-- overlapping accesses of which one is a memory write are comparable
abbrev pub IsLocated : Times → NumberedAccess → NumberedAccess → Type 0
IsLocated t u v = overlap u.access v.access ≡ true → is_memory_write u.access || is_memory_write v.access ≡ true → AreComparable t u v
