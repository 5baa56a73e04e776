-- A list of accesses that came from anywhere: the accesses, the drains that were told beside them, and
-- the numbers and times that the order of memory asks for.
use Rattle.std.specs.Prelude.{◌≡◌, ◌↔◌, ℕ, ◌-◌, ◌%◌, ◌==◌, Bool, true, false, ◌&&◌, ◌||◌, take, slice_get, if◌then◌else◌, List, [], ◌∷◌, ◌++◌, reverse, Option, Some, None}
use Rattle.std.specs.Option.{option_map}
use Rattle.axp_base.specs.Cpus.{cpu_number}
use Rattle.axp_base.specs.Masks.{IsSize}
use Rattle.axp_access.specs.declared.Access.{Access}
use Rattle.axp_access.specs.declared.Place.{Place}
use Rattle.axp_access.specs.declared.Place.TheVariants.{At, Entry, Absent}
use Rattle.axp_access.specs.declared.access_lists.Drain.{Drain}
use Rattle.axp_access.specs.Kinds.{is_read, is_fetch, is_plain_write, is_conditional, is_write_barrier}
use Rattle.axp_access.specs.Numbering.{NumberedAccess, next_access}
use Rattle.axp_access.specs.Order.{Times}

-- the accesses and the drains, the oldest first, and how many accesses there may be
pub record Accesses : Type 0 where
  pub items : List Access
  pub drains : List Drain
  pub room : ℕ

-- the turn of the drain that named entry n of processor p
abbrev pub turn_in : List Drain → ℕ → ℕ → Option ℕ
turn_in [] p n = None
turn_in (d ∷ ds) p n = if (cpu_number d.cpu == p) && (d.entry == n) then Some d.turn else turn_in ds p n

abbrev pub times_in : List Drain → Times
times_in ds = record { drained = turn_in ds }

abbrev pub times_of : Accesses → Times
times_of list = times_in list.drains

-- accesses, the newest first, each with its number and with how many WMBs of its processor are older
abbrev pub number_accesses : List Access → List NumberedAccess
number_accesses [] = []
number_accesses (a ∷ rest) = next_access (number_accesses rest) a ∷ number_accesses rest

-- a list's accesses, the newest first, as the memory model takes them
abbrev pub accesses_in : Accesses → List NumberedAccess
accesses_in list = number_accesses (reverse list.items)

-- its first n
abbrev pub accesses_to : Accesses → ℕ → List NumberedAccess
accesses_to list n = number_accesses (reverse (take n list.items))

-- the access of this number, counted from 1
abbrev pub access_at : Accesses → ℕ → Option NumberedAccess
access_at list n = option_map (next_access (accesses_to list (n - 1))) (slice_get list.items (n - 1))

-- where a place of a processor is once drains are told
abbrev pub settled_place : List Drain → ℕ → Place → Place
settled_place ds p (Entry n) = settled_by (turn_in ds p n) n where
  settled_by : Option ℕ → ℕ → Place
  settled_by None n = Entry n
  settled_by (Some turn) n = At turn
settled_place ds p at = at

-- a list with this room and no access
abbrev pub no_accesses : ℕ → Accesses
no_accesses room = record { items = []; drains = []; room = room }

-- a list with one access more, which is the last
abbrev pub append_access : Accesses → Access → Accesses
append_access list a = record list { items = list.items ++ a ∷ [] }

abbrev pub append_drain : Accesses → Drain → Accesses
append_drain list d = record list { drains = list.drains ++ d ∷ [] }

-- a fetch, read, plain write or STx_C, of any outcome
abbrev pub names_memory : Access → Bool
names_memory a = (is_fetch a.kind || is_read a.kind) || (is_plain_write a.kind || is_conditional a.kind)

-- what an access meets, whoever made it
pub record IsSound (a : Access) : Type 0 where
  pub sized : names_memory a ≡ true → IsSize a.size
  pub aligned : names_memory a ≡ true → a.address % a.size ≡ 0
  pub placed : (a.place ≡ Absent) ↔ (is_write_barrier a.kind ≡ true)

-- no drain has named the entry that an access stands in
abbrev pub IsUndrained : List Drain → ℕ → Place → Type 0
IsUndrained ds p (Entry n) = turn_in ds p n ≡ None
IsUndrained ds p at = Unit {0}

-- the place is this entry
abbrev pub is_at_entry : ℕ → Place → Bool
is_at_entry n (Entry m) = m == n
is_at_entry n at = false

-- a plain write that stands in this entry of this processor
abbrev pub is_write_in : ℕ → ℕ → Access → Bool
is_write_in p n a = is_plain_write a.kind && ((cpu_number a.cpu == p) && is_at_entry n a.place)
