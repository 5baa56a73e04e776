-- How the parts of a machine stand for its records.
use Rattle.std.specs.Prelude.{◌≡◌, ℕ, ◌*◌, ◌≤◌, List, length, reverse, slice_get, Some}
use Rattle.std.specs.List.{AllByRecursion}
use Rattle.std.specs.Vec.{vec_capacity}
use Rattle.axp_access.specs.declared.Record.{Record}
use Rattle.axp_base.specs.declared.processors.TheConstants.{MAX_BUDGET, MAX_CPUS, MIN_CPUS}
use Rattle.axp_bus.specs.BusStands as bus
use Rattle.axp_cpu.specs.ActorStands.{IsAt}
use Rattle.axp_cpu.specs.declared.processors.Processor.{Processor}
use Rattle.axp_image.specs.Contents.{IsValid}
use Rattle.axp_lsu.specs.Within.{IsRequestWithin}
use Rattle.axp_machine.specs.declared.machine.Machine.TheInside.{Inside}
use Rattle.axp_machine.specs.Runs.{Seen}
use Rattle.axp_line.specs.BusCalls.{BusCall}
use Rattle.axp_world.specs.declared.lengths.TheConstants.{EVENTS_PER_STEP}
use Rattle.axp_world.specs.Worlds.{World, IsPlayed, image_bytes, world}

-- the records, newest first
abbrev pub history : Inside → List Record
history a = reverse a.records.items

abbrev pub seen : Inside → Seen
seen a = record { image = a.image; cpus = length a.processors.items; budget = a.budget; records = history a }

-- each processor is the world's
abbrev pub AreSeated : World → List Processor → Type 0
AreSeated w ps = (p : ℕ) (x : Processor) → slice_get ps p ≡ Some x → IsAt x (w.actors p)

-- what each call asked lies in memory
abbrev pub AreAskedWithin : ℕ → List BusCall → Type 0
AreAskedWithin size cs = AllByRecursion (λ (c : BusCall). IsRequestWithin size c.ask) cs

pub record Ties (a : Inside) : Type 0 where
  pub valid : IsValid a.image
  pub seats : AreSeated (world a.image (length a.processors.items) a.budget (history a)) a.processors.items
  pub bus : bus.Stands a.bus (image_bytes a.image) (world a.image (length a.processors.items) a.budget (history a)).calls
  pub asked : AreAskedWithin a.image.size (world a.image (length a.processors.items) a.budget (history a)).calls
  pub size : length a.bus.memory ≡ a.image.size
  pub ports : length a.bus.ports ≡ length a.processors.items
  pub run : IsPlayed a.image (length a.processors.items) a.budget (history a)
  pub least_cpus : MIN_CPUS ≤ length a.processors.items
  pub most_cpus : length a.processors.items ≤ MAX_CPUS
  pub least_budget : 1 ≤ a.budget
  pub most_budget : a.budget ≤ MAX_BUDGET
  pub room : vec_capacity a.records ≡ EVENTS_PER_STEP * length a.processors.items * a.budget
  pub bus_room : a.bus.room ≡ EVENTS_PER_STEP * length a.processors.items * a.budget
