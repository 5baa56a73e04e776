-- What is done to a register that was clear, and what it allows then.
use Rattle.std.specs.Prelude.{◌≡◌, ◌≢◌, ℕ, ◌/◌, ◌↔◌, IsTrue, List, [], ◌∷◌, ◌++◌, Option, Some, None}
use Rattle.axp_base.specs.declared.lines.TheConstants.{LINE_BYTES}
use Rattle.axp_base.specs.Blocks.{block_of, after_write, is_allowed}

pub data Step : Type 0 where
  -- the block of an address is locked
  Locked : ℕ → Step
  -- another processor's write reached the line of this number
  Disturbed : ℕ → Step
  -- nothing is locked any more
  Released : Step

-- what a step makes of the locked block
abbrev pub after_step : Step → Option ℕ → Option ℕ
after_step (Locked address) block = Some (block_of address)
after_step (Disturbed line) block = after_write line block
after_step Released block = None

-- the block that is locked after these steps, the newest first
abbrev pub after_steps : List Step → Option ℕ
after_steps [] = None
after_steps (s ∷ steps) = after_step s (after_steps steps)

-- a step that leaves a lock in this line as it is
abbrev pub IsElsewhere : ℕ → Step → Type 0
IsElsewhere line (Locked address) = ⊥
IsElsewhere line (Disturbed other) = other ≢ line
IsElsewhere line Released = ⊥

abbrev pub AreElsewhere : ℕ → List Step → Type 0
AreElsewhere line [] = Unit {0}
AreElsewhere line (s ∷ steps) = IsElsewhere line s × AreElsewhere line steps

-- the last lock was of the address's block, and since then nothing was released and no write
-- reached its line
pub record StillLocked (address : ℕ) (steps : List Step) : Type 0 where
  -- the steps since the lock, and those before it
  pub since : List Step
  pub before : List Step
  pub at : ℕ
  pub split : steps ≡ since ++ Locked at ∷ before
  pub same : block_of at ≡ block_of address
  pub quiet : AreElsewhere (at / LINE_BYTES) since

-- an address is allowed exactly where its block is still locked
abbrev pub AllowedIsStillLocked : Type 0
AllowedIsStillLocked = (address : ℕ) (steps : List Step) → IsTrue (is_allowed address (after_steps steps)) ↔ StillLocked address steps
