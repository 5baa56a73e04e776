use Rattle.std.proofs.Common.{◌≡◌, ◌++◌, map, length}
use Rattle.arrayvec.specs.ArrayVec.{array_vec_len}
use Rattle.axp_trace.specs.Fields.{words_of}
use Rattle.axp_trace.proofs.fields.words.Given as goal

abbrev pub invariant-loop-taken : goal.invariant-loop-taken
invariant-loop-taken l = (words_of l.line ≡ map (λ w. w.now) l.words.items ++ words_of l.rest) × (array_vec_len l.words ≡ l._taken) × (length l.words.items ≡ l._taken)
