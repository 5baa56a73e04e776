use Rattle.std.proofs.Common.{◌≡◌, ◌%◌, ◌^◌, ◌<◌, drop}
use Rattle.axp_trace.specs.Digits.{hex_value_after}
use Rattle.axp_source.proofs.numbers.hex_in.Given as goal

abbrev pub invariant-loop-byte : goal.invariant-loop-byte
invariant-loop-byte l = (hex_value_after l.number (drop l.byte-index l.word) % 2 ^ 64 ≡ hex_value_after 0 l.word % 2 ^ 64) × (l.number < 2 ^ 64)
