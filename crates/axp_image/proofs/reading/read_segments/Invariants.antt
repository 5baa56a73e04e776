use Rattle.std.proofs.Common.{◌≡◌, ◌+◌, ◌≤◌, drop, length, vec_capacity}
use Rattle.axp_image.specs.Grammar.{segments_at}
use Rattle.axp_image.specs.Faults.{total}
use Rattle.axp_image.proofs.ReadingLoopLemmas.{with_front}
use Rattle.axp_image.proofs.reading.read_segments.Given as goal

abbrev pub invariant-loop-extent : goal.invariant-loop-extent
invariant-loop-extent l = record {
  room : vec_capacity l.segments ≡ length l.extents;
  taken : length l.segments.items ≡ l.extent-index;
  read : with_front l.segments.items (segments_at l.bytes l.at (drop l.extent-index l.extents)) ≡ segments_at l.bytes l.start l.extents;
  left : l.at + total (drop l.extent-index l.extents) ≡ l.start + total l.extents;
  within : l.at ≤ length l.bytes;
}
