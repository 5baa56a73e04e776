use Rattle.axp_laws.proofs.OrderCounts.{turns_grow, stamp_grows, barrier_grows, code_stamp_grows, read_place_grows, stamp_most, barrier_most, code_stamp_most}
use Rattle.axp_laws.proofs.order.counts_grow.Goals as goal

pub returns : goal.returns
returns c = record {
  turns = turns_grow;
  stamps = stamp_grows;
  barriers = barrier_grows;
  code_stamps = code_stamp_grows;
  read_places = read_place_grows;
  stamps_bounded = stamp_most;
  barriers_bounded = barrier_most;
  code_stamps_bounded = code_stamp_most;
}
