use Rattle.std.proofs.Common.{◌≡◌, ◌++◌, ◌+◌, ◌≤◌}
use Rattle.arrayvec.specs.ArrayVec.{array_vec_len}
use Rattle.axp_trace.specs.Digits.{hex}
use Rattle.axp_trace.specs.declared.lines.TheConstants.{LINE_ROOM}
use Rattle.axp_trace.proofs.digits.push_hex.Given as goal

abbrev pub invariant-loop-k : goal.invariant-loop-k
invariant-loop-k l = (l.out.items ++ hex l.k l.n ≡ l.fn.out.items ++ hex l.digits l.n) × (array_vec_len l.out + l.k ≡ array_vec_len l.fn.out + l.digits) × (array_vec_len l.fn.out + l.digits ≤ LINE_ROOM) × (l.k ≤ 16)
