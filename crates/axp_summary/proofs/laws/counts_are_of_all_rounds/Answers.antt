use Rattle.axp_gen.specs.Shapes.{shape_of}
use Rattle.axp_summary.proofs.LabelLemmas.{all_counted, rounds_counted}
use Rattle.axp_summary.specs.Rounds.{rounds_of}
use Rattle.axp_summary.proofs.laws.counts_are_of_all_rounds.Goals as goal

pub returns-clause-each : goal.returns-clause-each
returns-clause-each c number = all_counted number (rounds_of (shape_of number))

pub returns-clause-rounds : goal.returns-clause-rounds
returns-clause-rounds c number = rounds_counted number (rounds_of (shape_of number))
