-- When a lock stands, and what an STx_C that succeeds keeps.
use Rattle.std.specs.Prelude.{◌≡◌, ◌≢◌, ℕ, true, false, List, ◌∷◌, ◌++◌, Option, Some, None}
use Rattle.std.specs.List.{AllByRecursion}
use Rattle.axp_base.specs.Lines.{line_number, line_of}
use Rattle.axp_base.specs.declared.lines.Line.{Line}
use Rattle.axp_base.specs.Blocks.{block_of}
use Rattle.axp_access.specs.declared.Access.{Access}
use Rattle.axp_access.specs.declared.Outcome.TheVariants as outcome
use Rattle.axp_access.specs.declared.Record.{Record}
use Rattle.axp_model.specs.Records.{is_of, makes_access, line_of_turn}
use Rattle.axp_access.specs.Kinds.{is_locked}
use Rattle.axp_model.specs.Locking.{is_locking}

-- no turn on the line of this number
abbrev pub IsElsewhere : ℕ → Option Line → Type 0
IsElsewhere l None = Unit {0}
IsElsewhere l (Some line) = line_number line ≢ l

-- a record leaves a lock of processor p in the line: one of p is neither an LDx_L nor an STx_C, one of
-- another processor is no turn on the line
pub record LeavesLock (p l : ℕ) (r : Record) : Type 0 where
  pub own : is_of p r ≡ true → makes_access is_locking r.outcome ≡ false
  pub other : is_of p r ≡ false → IsElsewhere l (line_of_turn r.outcome)

-- some LDx_L of processor p was of the address's block, and each record since then leaves the lock
pub record IsStillLocked (p address : ℕ) (h : List Record) : Type 0 where
  -- the records since the LDx_L, its own, and those before it
  pub since : List Record
  pub locking : Record
  pub before : List Record
  pub access : Access
  pub split : h ≡ since ++ locking ∷ before
  pub own : is_of p locking ≡ true
  pub made : locking.outcome ≡ outcome.Access access
  pub locked : is_locked access.kind ≡ true
  pub same : block_of access.address ≡ block_of address
  pub quiet : AllByRecursion (LeavesLock p (line_of address)) since
