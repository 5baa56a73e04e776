-- BEFORE, the order of accesses in memory: by place, then writes before other accesses, then by the
-- number of the processor, then by issue order. An access without a place is BEFORE none.
use Rattle.std.specs.Prelude.{ℕ, ◌==◌, Bool, true, false, ◌&&◌, Option, Some, None, nat_lt, not}
use Rattle.axp_access.specs.declared.Place.{Place}
use Rattle.axp_access.specs.declared.Place.TheVariants.{At, Entry, Absent}
use Rattle.axp_access.specs.Kinds.{is_write}
use Rattle.axp_access.specs.Numbering.{NumberedAccess, cpu_of}
use Rattle.std.specs.declared.cmp.Ordering.{Ordering}
use Rattle.std.specs.Ordering.{ordering_then, nat_cmp, bool_cmp, is_lt}

-- when that became settled which the access itself leaves open: the turn at which an entry of a
-- processor's write buffer was drained
pub record Times : Type 0 where
  pub drained : ℕ → ℕ → Option ℕ

-- where an access stands: nowhere, last of all, or at a number
pub record Spot : Type 0 where
  pub placed : Bool
  pub last : Bool
  pub place : ℕ

-- an entry stands at its drain's turn, last of all while none has named it
abbrev pub spot_at : Option ℕ → Spot
spot_at None = record { placed = true; last = true; place = 0 }
spot_at (Some turn) = record { placed = true; last = false; place = turn }

-- where an access of processor p stands
abbrev pub spot : Times → ℕ → Place → Spot
spot t p (At turn) = record { placed = true; last = false; place = turn }
spot t p (Entry n) = spot_at (t.drained p n)
spot t p Absent = record { placed = false; last = false; place = 0 }

-- what the order compares
pub record Key : Type 0 where
  pub spot : Spot
  pub other : Bool
  pub cpu : ℕ
  pub number : ℕ

abbrev pub key : Times → NumberedAccess → Key
key t u = record { spot = spot t (cpu_of u) u.access.place; other = not (is_write u.access); cpu = cpu_of u; number = u.number }

abbrev pub key_cmp : Key → Key → Ordering
key_cmp a b =
    ordering_then (bool_cmp a.spot.last b.spot.last)
    (ordering_then (nat_cmp a.spot.place b.spot.place)
    (ordering_then (bool_cmp a.other b.other)
    (ordering_then (nat_cmp a.cpu b.cpu)
    (nat_cmp a.number b.number))))

unfoldable pub key_before : Key → Key → Bool
key_before a b = (a.spot.placed && b.spot.placed) && is_lt (key_cmp a b)

-- u is BEFORE v
abbrev pub before : Times → NumberedAccess → NumberedAccess → Bool
before t u v = key_before (key t u) (key t v)

-- u precedes v in issue order: both are of one processor, and u is the earlier
abbrev pub precedes : NumberedAccess → NumberedAccess → Bool
precedes u v = (cpu_of u == cpu_of v) && nat_lt u.number v.number
