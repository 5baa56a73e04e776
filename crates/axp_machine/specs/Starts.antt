-- The processors at the start.
use Rattle.std.specs.Prelude.{◌≡◌, ℕ, List, length, slice_get, Some}
use Rattle.axp_base.specs.Cpus.{cpu_of}
use Rattle.axp_cpu.specs.Actors.{first_actor}
use Rattle.axp_cpu.specs.ActorStands.{IsAt}
use Rattle.axp_cpu.specs.declared.processors.Processor.{Processor}
use Rattle.axp_image.specs.Contents.{Contents}
use Rattle.axp_world.specs.Worlds.{cpu_or_first}

-- processors 0 to n - 1, each at the start
pub record StartsAll (image : Contents) (cpus budget n : ℕ) (ps : List Processor) : Type 0 where
  pub count : length ps ≡ n
  pub each : (p : ℕ) (x : Processor) → slice_get ps p ≡ Some x → IsAt x (first_actor image cpus budget (cpu_or_first (cpu_of p)))
