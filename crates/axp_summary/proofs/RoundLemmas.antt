-- The rounds of a summary come to their end.
use Rattle.std.proofs.Common.{◌≡◌, ℕ, refl, sym, ap, ◌∙◌, subst, arith}
use Rattle.axp_gen.proofs.ValidityLemmas.{litmus_valid}
use Rattle.axp_gen.specs.declared.shapes.Shape.{Shape}
use Rattle.axp_gen.specs.Litmus.{litmus_image}
use Rattle.axp_gen.specs.Shapes.{shape_of}
use Rattle.axp_image.specs.Contents.{Contents, IsValid}
use Rattle.axp_machine.proofs.RunLemmas.{keeps_constraints}
use Rattle.axp_machine.specs.Runs.{Seen}
use Rattle.axp_seed.proofs.CompletionLemmas.{Ends, ends}
use Rattle.axp_seed.specs.Seeds.{Seeded, end_of, seeded_start}
use Rattle.axp_summary.specs.declared.rounds.TheConstants.{CPUS}
use Rattle.axp_summary.specs.Rounds.{IsWholeRun, budget_of, end_of_round, seed_of}

-- the budget and the seed are variables here, so that no check computes a run
run_ends : (shape : Shape) (budget seed : ℕ) → Ends (litmus_image shape) CPUS budget (end_of (seeded_start (litmus_image shape) CPUS budget seed))
unfolding end_of
run_ends shape budget seed = ends (litmus_image shape) CPUS budget seed (litmus_valid shape) (omega arith)

whole : (shape : Shape) (m : Seen) → Ends (litmus_image shape) CPUS (budget_of shape) m → IsWholeRun shape m
whole shape m end = record {
  over = end.over.0;
  cpus = end.over.1;
  budget = end.over.2;
  complete = end.complete;
  run = end.run;
  constraints = keeps_constraints m (subst IsValid (sym end.over.0) (litmus_valid shape)) end.run;
}

pub whole_run : (number round : ℕ) → IsWholeRun (shape_of number) (end_of_round number round)
unfolding end_of_round
whole_run number round = whole (shape_of number) _ (run_ends (shape_of number) (budget_of (shape_of number)) (seed_of number round))

-- a round that was made so is the round of the number
pub round_is : (number round budget seed : ℕ) (image : Contents) (run : Seeded) (m : Seen) → m ≡ end_of run → run ≡ seeded_start image CPUS budget seed → image ≡ litmus_image (shape_of number) → budget ≡ budget_of (shape_of number) → seed ≡ seed_of number round → m ≡ end_of_round number round
unfolding end_of_round
round_is number round budget seed image run m ends starts image_is budget_is seed_is = ends ∙ ap end_of starts ∙ rw (image_is, budget_is, seed_is) refl
