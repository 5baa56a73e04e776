-- What `seed` prints: the run that a seed defines, whole.
use Rattle.std.specs.Prelude.{ℕ, ◌++◌, ◌≤◌, Option, Some}
use Rattle.axp_elf.specs.Executables.{IsSetting}
use Rattle.axp_image.specs.Contents.{Contents}
use Rattle.axp_base.specs.declared.processors.TheConstants.{MAX_BUDGET, MAX_CPUS, MIN_CPUS}
use Rattle.axp_machine.specs.Runs.{Seen}
use Rattle.axp_seed.specs.Seeds.{end_of, seeded_start}
use Rattle.axp_top.specs.Replays.{Answer}
use Rattle.axp_top.specs.Texts.{lines, tail}
use Rattle.axp_top.specs.declared.status.Status.TheVariants as status
use Rattle.axp_words.specs.Words as words

-- the header, a line for each record, and the tail
abbrev pub whole_answer : Seen → Answer
whole_answer m = record { status = status.Done; lines = lines m ++ tail m }

abbrev pub seeded_answer : Contents → ℕ → ℕ → ℕ → Answer
seeded_answer image cpus budget seed = whole_answer (end_of (seeded_start image cpus budget seed))

-- the numbers with which a machine may be loaded
pub record AreInRange (cpus budget : ℕ) : Type 0 where
  pub least_cpus : MIN_CPUS ≤ cpus
  pub most_cpus : cpus ≤ MAX_CPUS
  pub least_budget : 1 ≤ budget
  pub most_budget : budget ≤ MAX_BUDGET

-- the numbers of a command that has them
abbrev pub IsInRange : Option words.Order → Type 0
IsInRange (Some (words.Seed image cpus budget seed)) = AreInRange cpus budget
IsInRange (Some (words.Elf file memory stack table)) = IsSetting memory stack table
IsInRange _ = Unit {0}
