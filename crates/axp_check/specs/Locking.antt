-- Locking over a list of accesses: what stands between an STx_C and its LDx_L.
use Rattle.std.specs.Prelude.{◌≡◌, ℕ, ◌==◌, Bool, true, not, ◌&&◌, ◌||◌, if◌then◌else◌, List, [], ◌∷◌, slice_get, Option, Some, None}
use Rattle.std.specs.List.{AllByRecursion}
use Rattle.std.specs.Option.{option_or, option_map}
use Rattle.axp_base.specs.Blocks.{block_of}
use Rattle.axp_base.specs.Lines.{line_of}
use Rattle.axp_access.specs.Kinds.{is_locked, is_success, is_memory_write}
use Rattle.axp_access.specs.Numbering.{NumberedAccess, cpu_of}
use Rattle.axp_access.specs.Order.{Times, before}
use Rattle.axp_model.specs.Locking.{is_locking, IsPaired, IsApart}
use Rattle.axp_order.specs.Oldest.{oldest_that}

-- the newest LDx_L or STx_C of a processor
abbrev pub last_locking : ℕ → List NumberedAccess → Option NumberedAccess
last_locking p [] = None
last_locking p (u ∷ us) = if (cpu_of u == p) && is_locking u.access then Some u else last_locking p us

-- it is the LDx_L that v is paired with: one of v's block
abbrev pub pair_by : NumberedAccess → Option NumberedAccess → Option NumberedAccess
pair_by v None = None
pair_by v (Some u) = if is_locked u.access.kind && (block_of u.access.address == block_of v.access.address) then Some u else None

-- what v is paired with, by the accesses older than it
abbrev pub pair_of : NumberedAccess → List NumberedAccess → Option NumberedAccess
pair_of v older = pair_by v (last_locking (cpu_of v) older)

-- w is a memory write of another processor on u's line, neither BEFORE u nor behind v
abbrev pub disturbs : Times → NumberedAccess → NumberedAccess → NumberedAccess → Bool
disturbs t u v w = is_memory_write w.access && (not (cpu_of w == cpu_of v) && ((line_of w.access.address == line_of u.access.address) && not (before t w u || before t v w)))

-- the number of the oldest access of the whole list that disturbs the pair, 0 where there is no pair
abbrev pub disturber : Times → List NumberedAccess → NumberedAccess → Option NumberedAccess → Option ℕ
disturber t us v None = Some 0
disturber t us v (Some u) = option_map (λ w. w.number) (oldest_that (disturbs t u v) us)

-- so it is of an STx_C that succeeds, by the accesses older than it
abbrev pub lock_fault_of : Times → List NumberedAccess → NumberedAccess → List NumberedAccess → Option ℕ
lock_fault_of t us v older = if is_success v.access then disturber t us v (pair_of v older) else None

-- the oldest STx_C that succeeds and is not paired or is disturbed, with that number in front
abbrev pub first_unlocked : Times → List NumberedAccess → List NumberedAccess → Option (ℕ × ℕ)
first_unlocked t us [] = None
first_unlocked t us (v ∷ older) = option_or (first_unlocked t us older) (option_map (λ first. (first, v.number)) (lock_fault_of t us v older))

-- the pair by which a list breaks locking
abbrev pub locking_fault : Times → List NumberedAccess → Option (ℕ × ℕ)
locking_fault t us = first_unlocked t us us

-- v is paired with one of a list's accesses, and each of them is apart
pub record HasLockIn (t : Times) (us : List NumberedAccess) (v : NumberedAccess) : Type 0 where
  -- the LDx_L, and where it stands in the list
  pub lock : NumberedAccess
  pub place : ℕ
  pub listed : slice_get us place ≡ Some lock
  pub paired : IsPaired us lock v
  pub apart : AllByRecursion (IsApart t lock v) us

abbrev pub KeepsLockingIn : Times → List NumberedAccess → Type 0
KeepsLockingIn t us = AllByRecursion (λ v. is_success v.access ≡ true → HasLockIn t us v) us
