use Rattle.std.proofs.Common.{arith, get_or}
use Rattle.axp_trace.proofs.DigitLemmas.{hex_number_turn, hex_number_fits, hex_number_room, small_digit}
use Rattle.axp_trace.proofs.digits.read_hex.Goals as goal

pub overflow_mul-value : goal.overflow_mul-value
overflow_mul-value c = omega (arith, hex_number_room c.loop-byte.value c.loop-byte.byte-index c.loop-byte.invariant.1 (omega arith))

pub overflow_add-value : goal.overflow_add-value
overflow_add-value c = omega (arith, hex_number_room c.loop-byte.value c.loop-byte.byte-index c.loop-byte.invariant.1 (omega arith))

pub loop-byte-preserved : goal.loop-byte-preserved
loop-byte-preserved c = (hex_number_turn c.args.word.now c.loop-byte.byte-index c.loop-byte.value c.digit_value.result _ c.loop-byte-test.true c.digit_value.ensures c.loop-byte.invariant.0, hex_number_fits c.loop-byte.value c.digit_value.result c.loop-byte.byte-index c.loop-byte.invariant.1 (omega (arith, c.digit_value.ensures, small_digit (get_or c.args.word.now c.loop-byte.byte-index 0))))
