use Rattle.std.proofs.Common.{◌≡◌, ◌%◌, ◌^◌, ◌<◌, drop}
use Rattle.axp_source.specs.Fields.{digits_behind}
use Rattle.axp_source.proofs.numbers.number_in.Given as goal

abbrev pub invariant-loop-byte : goal.invariant-loop-byte
invariant-loop-byte l = (digits_behind l.number (drop l.byte-index l.word) % 2 ^ 64 ≡ digits_behind 0 l.word % 2 ^ 64) × (l.number < 2 ^ 64)
