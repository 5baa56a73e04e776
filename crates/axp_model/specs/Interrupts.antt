-- When interrupts are taken: none falls inside an instruction, a PAL call or an entry.
use Rattle.std.specs.Prelude.{◌≡◌, ◌||◌, Bool, true, false, List, ◌∷◌, ◌++◌}
use Rattle.axp_access.specs.Acts.{is_tick}
use Rattle.axp_access.specs.declared.Intent.{Intent}
use Rattle.axp_access.specs.declared.Record.{Record}
use Rattle.axp_base.specs.Cpus.{cpu_number}
use Rattle.axp_model.specs.Processors.{Processors}
use Rattle.axp_model.specs.Records.{enters}

-- a record that begins the entry of an interrupt: a Tick, or a Poll that entered
abbrev pub is_interrupt : Record → Bool
is_interrupt r = is_tick r.event.act || enters r.outcome

-- what a processor is about to do where it takes an interrupt: it goes on, stands between two groups of accesses,
-- and its interrupt level is below 5
pub record TakesInterrupt (i : Intent) : Type 0 where
  pub going : i.finished ≡ false
  pub boundary : i.boundary ≡ true
  pub low : i.takes_interrupts ≡ true

-- so it is with each interrupt of a history
abbrev pub KeepsInterrupts : Processors → List Record → Type 0
KeepsInterrupts ps k = (later : List Record) (r : Record) (h : List Record)
    → k ≡ later ++ r ∷ h → is_interrupt r ≡ true → TakesInterrupt (ps.intent (cpu_number r.event.cpu) h)
