-- The rounds of a number: each is a seeded run of the litmus test that the number chooses.
use Rattle.std.specs.Prelude.{◌≡◌, ℕ, ◌+◌, ◌%◌, ◌^◌, true}
use Rattle.axp_gen.specs.declared.shapes.Shape.{Shape}
use Rattle.axp_gen.specs.declared.shapes.Shape.TheVariants.{Lock}
use Rattle.axp_gen.specs.Litmus.{litmus_image}
use Rattle.axp_gen.specs.Shapes.{shape_of}
use Rattle.axp_machine.specs.Constraints.{KeepsConstraints}
use Rattle.axp_machine.specs.Runs.{IsRun, Seen, is_complete}
use Rattle.axp_seed.specs.Seeds.{Seeded, end_of, seeded_start}
use Rattle.axp_summary.specs.declared.rounds.TheConstants.{BUDGET, CPUS, LOCK_BUDGET, LOCK_ROUNDS, ROUNDS}

-- how many rounds a litmus test has
abbrev pub rounds_of : Shape → ℕ
rounds_of Lock = LOCK_ROUNDS
rounds_of _ = ROUNDS

-- the steps that each of its processors may make
abbrev pub budget_of : Shape → ℕ
budget_of Lock = LOCK_BUDGET
budget_of _ = BUDGET

-- the seed of a round: the first is the number
abbrev pub seed_of : ℕ → ℕ → ℕ
seed_of number round = (number + round) % 2 ^ 64

-- a round before its first event
abbrev pub start_of_round : ℕ → ℕ → Seeded
start_of_round number round = seeded_start (litmus_image (shape_of number)) CPUS (budget_of (shape_of number)) (seed_of number round)

-- the machine at its end
unfoldable pub end_of_round : ℕ → ℕ → Seen
end_of_round number round = end_of (start_of_round number round)

-- two processors ran the litmus test of a shape to its end, and the records keep the constraints of shared memory
pub record IsWholeRun (shape : Shape) (m : Seen) : Type 0 where
  pub over : m.image ≡ litmus_image shape
  pub cpus : m.cpus ≡ CPUS
  pub budget : m.budget ≡ budget_of shape
  pub complete : is_complete m ≡ true
  pub run : IsRun m
  pub constraints : KeepsConstraints m
