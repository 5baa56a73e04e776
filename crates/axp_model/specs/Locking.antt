-- Locking: an STx_C that succeeds is paired with an LDx_L, and no other processor writes the line between.
use Rattle.std.specs.Prelude.{◌≡◌, ◌≢◌, ℕ, Bool, true, false, ◌||◌, List, slice_get, Some}
use Rattle.std.specs.List.{AllByRecursion}
use Rattle.axp_base.specs.Lines.{line_of}
use Rattle.axp_base.specs.Blocks.{block_of}
use Rattle.axp_access.specs.declared.Access.{Access}
use Rattle.axp_access.specs.declared.Record.{Record}
use Rattle.axp_access.specs.Kinds.{is_locked, is_conditional, is_success, is_memory_write}
use Rattle.axp_model.specs.Accesses.{accesses, times}
use Rattle.axp_access.specs.Numbering.{NumberedAccess, cpu_of}
use Rattle.axp_access.specs.Order.{Times, before, precedes}

-- an LDx_L, or an STx_C of any outcome
abbrev pub is_locking : Access → Bool
is_locking a = is_locked a.kind || is_conditional a.kind

-- no LDx_L or STx_C stands between two accesses in issue order
abbrev pub IsNotBetween : NumberedAccess → NumberedAccess → NumberedAccess → Type 0
IsNotBetween u v w = precedes u w ≡ true → precedes w v ≡ true → is_locking w.access ≡ false

-- u is an LDx_L that precedes v in issue order, with neither an LDx_L nor an STx_C of their processor
-- between them, and both lie in one block
pub record IsPaired (us : List NumberedAccess) (u v : NumberedAccess) : Type 0 where
  pub locked : is_locked u.access.kind ≡ true
  pub first : precedes u v ≡ true
  pub same : block_of u.access.address ≡ block_of v.access.address
  pub alone : AllByRecursion (IsNotBetween u v) us

-- a memory write of another processor on u's line is BEFORE u, or has v BEFORE it
abbrev pub IsApart : Times → NumberedAccess → NumberedAccess → NumberedAccess → Type 0
IsApart t u v w = is_memory_write w.access ≡ true → cpu_of w ≢ cpu_of v → line_of w.access.address ≡ line_of u.access.address → (before t w u || before t v w) ≡ true

-- v is paired with one of a history's accesses, and each of them is apart
pub record HasLock (h : List Record) (v : NumberedAccess) : Type 0 where
  -- the LDx_L, and where it stands in the list
  pub lock : NumberedAccess
  pub place : ℕ
  pub listed : slice_get (accesses h) place ≡ Some lock
  pub paired : IsPaired (accesses h) lock v
  pub apart : AllByRecursion (IsApart (times h) lock v) (accesses h)

-- so it is with each STx_C of a history that succeeded
abbrev pub KeepsLocking : List Record → Type 0
KeepsLocking h = AllByRecursion (λ v. is_success v.access ≡ true → HasLock h v) (accesses h)
