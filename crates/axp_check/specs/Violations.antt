-- What a verdict says of a list of accesses: which rules hold of it, and which two break the next.
use Rattle.std.specs.Prelude.{◌≡◌, ℕ, true, List, None, Some}
use Rattle.std.specs.List.{AllByRecursion}
use Rattle.axp_access.specs.Numbering.{NumberedAccess}
use Rattle.axp_access.specs.Order.{Times, before}
use Rattle.axp_model.specs.Issue.{AllPairs, IsInOrder, issue_demands}
use Rattle.axp_order.specs.Pairs.{breaks_issue, breaks_barrier}
use Rattle.axp_check.specs.declared.Rule.{Rule}
use Rattle.axp_check.specs.declared.Rule.TheVariants.{Issue, Barrier, Storage, Locking, Loop}
use Rattle.axp_check.specs.Faults.{IsLeastPair, IsFirstWrong, IsFirstUnlocked}
use Rattle.axp_check.specs.Locking.{KeepsLockingIn}
use Rattle.axp_check.specs.Loops.{loop_fault}
use Rattle.axp_check.specs.Storage.{HasSourcesIn}

-- u is BEFORE v where the issue constraint demands it
abbrev pub IsIssued : Times → NumberedAccess → NumberedAccess → Type 0
IsIssued t u v = issue_demands u v ≡ true → before t u v ≡ true

-- each read and fetch has the bytes of its sources
abbrev pub KeepsStorageIn : (ℕ → ℕ) → Times → List NumberedAccess → Type 0
KeepsStorageIn image t us = AllByRecursion (HasSourcesIn image t us) us

-- all rules hold
pub record IsConsistent (image : ℕ → ℕ) (t : Times) (us : List NumberedAccess) : Type 0 where
  pub order : AllPairs (IsInOrder t) us
  pub storage : KeepsStorageIn image t us
  pub locking : KeepsLockingIn t us
  pub loops : loop_fault t us ≡ None

-- the lesser rules hold, and the accesses i and j are the first that break this one
abbrev pub IsViolated : (ℕ → ℕ) → Times → List NumberedAccess → Rule → ℕ → ℕ → Type 0
IsViolated image t us Issue i j = IsLeastPair (breaks_issue t) us i j
IsViolated image t us Barrier i j = AllPairs (IsIssued t) us × IsLeastPair (breaks_barrier t) us i j
IsViolated image t us Storage i j = AllPairs (IsInOrder t) us × IsFirstWrong image t us i j
IsViolated image t us Locking i j = AllPairs (IsInOrder t) us × (KeepsStorageIn image t us × IsFirstUnlocked t us i j)
IsViolated image t us Loop i j = AllPairs (IsInOrder t) us × (KeepsStorageIn image t us × (KeepsLockingIn t us × (loop_fault t us ≡ Some (i, j))))
