-- What two accesses of a list owe one another.
use Rattle.std.specs.Prelude.{Bool, not, ◌&&◌, ◌||◌}
use Rattle.axp_access.specs.declared.Access.{Access}
use Rattle.axp_access.specs.Kinds.{is_read, is_write, is_memory_write, is_fetch, is_barrier, is_code_barrier, is_poll}
use Rattle.axp_access.specs.Numbering.{NumberedAccess}
use Rattle.axp_access.specs.Order.{Times, before}
use Rattle.axp_model.specs.Issue.{barrier_demands, has_place, issue_demands, overlap}
use Rattle.axp_model.specs.Sources.{is_visible, takes_bytes}

-- u is a memory write, v a read or fetch, and u is visible to v
abbrev pub is_seen : Times → NumberedAccess → NumberedAccess → Bool
is_seen t u v = is_memory_write u.access && (takes_bytes v && is_visible t u v)

-- the issue constraint demands u BEFORE v, which it is not
abbrev pub breaks_issue : Times → NumberedAccess → NumberedAccess → Bool
breaks_issue t u v = issue_demands u v && not (before t u v)

-- so does a write barrier
abbrev pub breaks_barrier : Times → NumberedAccess → NumberedAccess → Bool
breaks_barrier t u v = barrier_demands u v && not (before t u v)

-- the cases of the issue constraint by their names: two fetches that overlap
abbrev pub are_fetches : Access → Access → Bool
are_fetches u v = (is_fetch u.kind && is_fetch v.kind) && overlap u v

-- a read, and a read or memory write that overlaps it
abbrev pub is_behind_read : Access → Access → Bool
is_behind_read u v = (is_read u.kind && (is_read v.kind || is_memory_write v)) && overlap u v

-- two memory writes that overlap
abbrev pub are_writes : Access → Access → Bool
are_writes u v = (is_memory_write v && is_memory_write u) && overlap u v

-- what stands in front of an MB
abbrev pub is_before_barrier : Access → Access → Bool
is_before_barrier u v = is_barrier v.kind && (is_read u.kind || (is_write u || is_poll u.kind))

-- what stands behind one
abbrev pub is_behind_barrier : Access → Access → Bool
is_behind_barrier u v = is_barrier u.kind && (is_read v.kind || (is_write v || (is_poll v.kind || is_barrier v.kind)))

-- an IMB, and whatever has a place
abbrev pub is_at_code_barrier : Access → Access → Bool
is_at_code_barrier u v = (is_code_barrier u.kind && has_place v.place) || (is_code_barrier v.kind && has_place u.place)

-- a fetch, and a memory write of what was fetched
abbrev pub is_behind_fetch : Access → Access → Bool
is_behind_fetch u v = (is_fetch u.kind && is_memory_write v) && overlap u v
