-- A buffer from its start on, and what left it.
use Rattle.std.specs.Prelude.{ℕ, ◌/◌, if◌then◌else◌, List, [], ◌∷◌, Option, Some, None, slice_get}
use Rattle.axp_base.specs.declared.lines.TheConstants.{LINE_BYTES}
use Rattle.axp_wbuf.specs.Drains.{oldest_group, without}
use Rattle.axp_wbuf.specs.Pending.{Buffer, Pending, closed, no_entries, stored, takes}

pub data Step : Type 0 where
  -- a store of an address, a size and a value; nothing where there is no room for it
  Stores : ℕ → ℕ → ℕ → Step
  Closes : Step
  -- entry k of the oldest group leaves; nothing where there is none
  Leaves : ℕ → Step

pub record Run : Type 0 where
  pub buffer : Buffer
  -- the entries that left, the last one first
  pub gone : List Pending

-- entry k leaves
abbrev pub left_by : ℕ → Run → Option Pending → Run
left_by k r None = r
left_by k r (Some e) = record { buffer = without k r.buffer; gone = e ∷ r.gone }

abbrev pub after_step : Step → Run → Run
after_step (Stores address size value) r =
    if takes (address / LINE_BYTES) r.buffer then record { buffer = stored address size value r.buffer; gone = r.gone } else r
after_step Closes r = record { buffer = closed r.buffer; gone = r.gone }
after_step (Leaves k) r = left_by k r (slice_get (oldest_group r.buffer.kept) k)

-- an empty buffer after these steps, the last step first
abbrev pub run : List Step → Run
run [] = record { buffer = no_entries; gone = [] }
run (step ∷ steps) = after_step step (run steps)
