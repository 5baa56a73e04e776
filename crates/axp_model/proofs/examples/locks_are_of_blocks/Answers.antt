use Rattle.axp_model.proofs.ExamplesComputed as example
use Rattle.axp_model.proofs.examples.locks_are_of_blocks.Goals as goal

pub returns : goal.returns
returns c = record {
  lock_range = example.lock_range;
  another_block = example.another_block;
  own_store_waits = example.own_store_waits;
  own_store_drained = example.own_store_drained;
}
