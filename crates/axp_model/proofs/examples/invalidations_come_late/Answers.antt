use Rattle.axp_model.proofs.ExamplesComputed as example
use Rattle.axp_model.proofs.examples.invalidations_come_late.Goals as goal

pub returns : goal.returns
returns c = record {
  dependent_load = example.dependent_load;
  taken_in_time = example.taken_in_time;
  read_wants_copy = example.read_wants_copy;
  barrier_between = example.barrier_between;
  dropped_and_filled = example.dropped_and_filled;
  one_drop_a_step = example.one_drop_a_step;
}
