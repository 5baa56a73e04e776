use Rattle.std.proofs.Common.{◌≡◌, ◌≤◌, length, vec_capacity}
use Rattle.axp_check.specs.SourceParts.{AreSourcesTo}
use Rattle.axp_check.proofs.sources.sources.Given as goal

abbrev pub invariant-loop-i : goal.invariant-loop-i
invariant-loop-i l = record {
  room : l.places ≤ vec_capacity l.numbers;
  count : length l.numbers.items ≡ l.i;
  so_far : AreSourcesTo l.list l.numbers.items l.i;
}
