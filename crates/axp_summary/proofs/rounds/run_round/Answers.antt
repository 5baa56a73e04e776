use Rattle.std.proofs.Common.{ap, ◌∙◌, refl}
use Rattle.axp_machine.specs.Runs.{Seen}
use Rattle.axp_summary.specs.Rounds.{budget_of}
use Rattle.axp_summary.proofs.RoundLemmas.{round_is, whole_run}
use Rattle.axp_summary.proofs.rounds.run_round.Goals as goal

pub returns-clause-end : goal.returns-clause-end
returns-clause-end c =
    round_is c.args.number c.args.round c.budget_of.result _ c.args.image.now c.in_ok-run.run' c.finish.new.self.machine c.finish.ensures c.in_ok-run.ensures c.requires (c.budget_of.ensures.value ∙ ap budget_of c.shape_of.ensures) refl

pub returns-clause-image : goal.returns-clause-image
returns-clause-image c = ap (λ (m : Seen). m.image) (returns-clause-end c) ∙ (whole_run c.args.number c.args.round).over

pub returns-clause-cpus : goal.returns-clause-cpus
returns-clause-cpus c = ap (λ (m : Seen). m.cpus) (returns-clause-end c) ∙ (whole_run c.args.number c.args.round).cpus
