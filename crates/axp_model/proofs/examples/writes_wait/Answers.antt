use Rattle.axp_model.proofs.ExamplesComputed as example
use Rattle.axp_model.proofs.examples.writes_wait.Goals as goal

pub returns : goal.returns
returns c = record {
  store_buffering = example.store_buffering;
  mixed_sources = example.mixed_sources;
  merging = example.merging;
  write_barrier_between = example.write_barrier_between;
  entries_round_write_barrier = example.entries_round_write_barrier;
  younger_group_waits = example.younger_group_waits;
  full_buffer = example.full_buffer;
  room_after_drain = example.room_after_drain;
}
