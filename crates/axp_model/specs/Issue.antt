-- The issue constraint and the write barrier: what must be BEFORE what, of one processor's accesses.
use Rattle.std.specs.Prelude.{ℕ, ◌+◌, nat_lt, Bool, true, false, ◌&&◌, ◌||◌, ◌≡◌, List, [], ◌∷◌}
use Rattle.axp_access.specs.declared.Access.{Access}
use Rattle.axp_access.specs.declared.Place.{Place}
use Rattle.axp_access.specs.declared.Place.TheVariants.{At, Entry, Absent}
use Rattle.axp_access.specs.Kinds.{is_read, is_write, is_memory_write, is_fetch, is_barrier, is_code_barrier, is_poll}
use Rattle.axp_access.specs.Numbering.{NumberedAccess}
use Rattle.axp_access.specs.Order.{precedes, Times, before}
use Rattle.std.specs.List.{AllByRecursion}
use Rattle.axp_access.specs.declared.Record.{Record}
use Rattle.axp_model.specs.Accesses.{accesses, times}

-- two accesses overlap where each is a read, a memory write or a fetch and they have a byte in common
abbrev pub in_memory : Access → Bool
in_memory a = is_read a.kind || (is_memory_write a || is_fetch a.kind)

abbrev pub share_a_byte : ℕ → ℕ → ℕ → ℕ → Bool
share_a_byte a s b t = nat_lt a (b + t) && nat_lt b (a + s)

abbrev pub overlap : Access → Access → Bool
overlap u v = (in_memory u && in_memory v) && share_a_byte u.address u.size v.address v.size

abbrev pub has_place : Place → Bool
has_place (At turn) = true
has_place (Entry n) = true
has_place Absent = false

-- the issue constraint of u and of v, which comes later in issue order, case by case:
-- fetches that overlap; a read and a read or memory write that overlaps it; memory writes that overlap;
-- what stands before an MB; what stands after one; an IMB and whatever has a place; a fetch and a memory
-- write of what was fetched
abbrev pub is_demanded : Access → Access → Bool
is_demanded u v =
    ((is_fetch u.kind && is_fetch v.kind) && overlap u v)
    || (((is_read u.kind && (is_read v.kind || is_memory_write v)) && overlap u v)
    || (((is_memory_write v && is_memory_write u) && overlap u v)
    || ((is_barrier v.kind && (is_read u.kind || (is_write u || is_poll u.kind)))
    || ((is_barrier u.kind && (is_read v.kind || (is_write v || (is_poll v.kind || is_barrier v.kind))))
    || (((is_code_barrier u.kind && has_place v.place) || (is_code_barrier v.kind && has_place u.place))
    || ((is_fetch u.kind && is_memory_write v) && overlap u v))))))

abbrev pub issue_demands : NumberedAccess → NumberedAccess → Bool
issue_demands u v = precedes u v && is_demanded u.access v.access

-- both are writes, and a WMB of their processor stands between them in issue order
abbrev pub barrier_demands : NumberedAccess → NumberedAccess → Bool
barrier_demands u v = precedes u v && ((is_write u.access && is_write v.access) && nat_lt u.parts v.parts)

-- a relation holds of each two of a list, the one that stands further back first
abbrev pub AllPairs : {X : Type 0} → (X → X → Type 0) → List X → Type 0
AllPairs P [] = Unit {0}
AllPairs P (v ∷ us) = AllByRecursion (λ u. P u v) us × AllPairs P us

-- u is BEFORE v wherever the issue constraint or a write barrier demands it
pub record IsInOrder (t : Times) (u v : NumberedAccess) : Type 0 where
  pub issue : issue_demands u v ≡ true → before t u v ≡ true
  pub barrier : barrier_demands u v ≡ true → before t u v ≡ true

-- of each two accesses of a history
abbrev pub KeepsOrder : List Record → Type 0
KeepsOrder h = AllPairs (IsInOrder (times h)) (accesses h)
