use Rattle.std.proofs.Common.{◌≡◌, ◌-◌, ◌≤◌, ◌++◌, length, vec_capacity}
use Rattle.axp_image.specs.Grammar.{extents_at}
use Rattle.axp_image.specs.Faults.{first_of, record_at, extents_in, end_before, record_parts}
use Rattle.axp_image.specs.declared.layout.TheConstants.{HEADER_BYTES}
use Rattle.axp_image.proofs.ReadingLoopLemmas.{with_front}
use Rattle.axp_image.proofs.reading.read_extents.Given as goal

abbrev pub invariant-loop-n : goal.invariant-loop-n
invariant-loop-n l = record {
  room : vec_capacity l.extents ≡ l.count;
  taken : length l.extents.items ≡ l.n;
  from_is : l.from ≡ end_before l.bytes l.n;
  within : record_at l.n ≤ length l.bytes;
  read : with_front l.extents.items (extents_at l.bytes l.size (l.count - l.n) l.from (record_at l.n)) ≡ extents_at l.bytes l.size l.count 0 HEADER_BYTES;
  said : l.extents.items ++ extents_in l.bytes l.n (l.count - l.n) ≡ extents_in l.bytes 0 l.count;
  fault : first_of (length l.bytes) (record_parts l.bytes l.size l.n (l.count - l.n)) ≡ first_of (length l.bytes) (record_parts l.bytes l.size 0 l.count);
}
