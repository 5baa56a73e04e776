use Rattle.axp_world.proofs.RunDeeds.{led_actors, led_answers, led_legal, led_outcomes}
use Rattle.axp_world.proofs.laws.processors_go_by_their_own_deeds.Goals as goal

pub returns : goal.returns
returns c = record {
  state = λ g. led_actors g.image g.cpus g.budget g.history;
  answers = λ g. led_answers g.image g.cpus g.budget g.history;
  legal = λ g e. led_legal g.image g.cpus g.budget g.history e g.valid g.plays;
  outcomes = λ g e o. led_outcomes g.image g.cpus g.budget (record { event = e; outcome = o }) g.history;
}
