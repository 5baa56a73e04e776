use Rattle.std.proofs.Common.{refl}
use Rattle.axp_world.proofs.CountEvents.{all_steps_are_few, events_are_few, played_is_short, steps_are_counted, steps_are_few, turns_are_few}
use Rattle.axp_world.proofs.lengths.length_of_a_history.Goals as goal

pub returns : goal.returns
returns c = record {
  constant = refl;
  steps = steps_are_counted;
  budget = steps_are_few;
  budgets = all_steps_are_few;
  turns = turns_are_few;
  events = events_are_few;
  length = played_is_short;
}
