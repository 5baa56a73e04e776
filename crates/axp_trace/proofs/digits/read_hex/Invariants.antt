use Rattle.std.proofs.Common.{◌≡◌, ◌<◌, ◌^◌, ◌*◌, drop}
use Rattle.axp_trace.specs.Digits.{hex_value_after}
use Rattle.axp_trace.proofs.digits.read_hex.Given as goal

abbrev pub invariant-loop-byte : goal.invariant-loop-byte
invariant-loop-byte l = (hex_value_after l.value (drop l.byte-index l.word) ≡ hex_value_after 0 l.word) × (l.value < 2 ^ (4 * l.byte-index))
