use Rattle.std.proofs.Common.{arith}
use Rattle.axp_trace.proofs.DigitLemmas.{number_turn, number_fits, number_room}
use Rattle.axp_trace.proofs.digits.read_number.Goals as goal

pub overflow_mul-value : goal.overflow_mul-value
overflow_mul-value c = omega (arith, number_room c.loop-byte.value c.loop-byte.byte-index c.loop-byte.invariant.1 (omega arith))

pub overflow_add-value : goal.overflow_add-value
overflow_add-value c = omega (arith, number_room c.loop-byte.value c.loop-byte.byte-index c.loop-byte.invariant.1 (omega arith), c.saturating_sub.ensures)

pub loop-byte-preserved : goal.loop-byte-preserved
loop-byte-preserved c = (number_turn c.args.word.now c.loop-byte.byte-index c.loop-byte.value c.saturating_sub.result _ c.loop-byte-test.true c.saturating_sub.ensures c.loop-byte.invariant.0, number_fits c.loop-byte.value c.saturating_sub.result c.loop-byte.byte-index c.loop-byte.invariant.1 (omega (arith, c.type_inv.word c.loop-byte.byte-index)))
