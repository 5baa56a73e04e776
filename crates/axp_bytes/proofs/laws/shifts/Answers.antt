use Rattle.axp_bytes.proofs.ShiftLemmas.{shift_back, signed_bit, signed_fits}
use Rattle.axp_bytes.proofs.laws.shifts.Goals as goal

pub returns-clause-left_taken_back : goal.returns-clause-left_taken_back
returns-clause-left_taken_back c = shift_back

pub returns-clause-arithmetic : goal.returns-clause-arithmetic
returns-clause-arithmetic c = signed_bit

pub returns-clause-arithmetic_fits : goal.returns-clause-arithmetic_fits
returns-clause-arithmetic_fits c = signed_fits
