-- The constraints of Alpha's shared memory on the accesses of a machine's records, in the order of their
-- places.
use Rattle.std.specs.Prelude.{List}
use Rattle.axp_model.specs.Causality.{IsChain}
use Rattle.axp_model.specs.Locking.{KeepsLocking}
use Rattle.axp_model.specs.Issue.{AllPairs, KeepsOrder}
use Rattle.axp_model.specs.Location.{IsLocated}
use Rattle.axp_model.specs.Outcomes as model
use Rattle.axp_model.specs.Accesses.{accesses, times}
use Rattle.axp_access.specs.Numbering.{NumberedAccess}
use Rattle.axp_model.specs.Interrupts.{KeepsInterrupts}
use Rattle.axp_model.specs.Polls.{KeepsPolls}
use Rattle.axp_model.specs.Storage.{KeepsEachByte, KeepsStorage}
use Rattle.axp_world.specs.Worlds.{image_bytes}
use Rattle.axp_machine.specs.Runs.{Seen, processors_of}

pub record KeepsConstraints (m : Seen) : Type 0 where
  -- each event was legal by the memory model, and has its outcome
  pub model : model.IsRun (image_bytes m.image) (processors_of m) m.records
  -- the issue constraint in all its cases, and the write barrier
  pub order : KeepsOrder m.records
  -- location: of two accesses that overlap and of which one is a memory write, one is before the other
  pub located : AllPairs (IsLocated (times m.records)) (accesses m.records)
  -- storage and visibility: what is read is made of the bytes of its sources, and each byte is its source's
  pub storage : KeepsStorage (image_bytes m.image) m.records
  pub bytes : KeepsEachByte (image_bytes m.image) m.records
  -- the constraint on load-locked and store-conditional
  pub locking : KeepsLocking m.records
  -- no value has itself as a cause
  pub no_loop : (u : NumberedAccess) (via : List NumberedAccess) → IsChain m.records u via u → ⊥
  -- no interrupt falls inside an instruction, a PAL call or an entry
  pub interrupts : KeepsInterrupts (processors_of m) m.records
  -- interrupts between processors: what each Poll shows, and when it enters
  pub polls : KeepsPolls (processors_of m) m.records
