use Rattle.std.proofs.Common.{◌≡◌, ℕ, false, List, [], ◌∷◌, length, take, slice_set, refl, ap, ◌∙◌, arith}
use Rattle.std.specs.Bool.{◌==◌}
use Rattle.axp_io.proofs.reading.tests.CourseReader.read.Goals as goal

-- the first byte of a buffer that has room
one_byte : (buf : List ℕ) (byte : ℕ) → false ≡ (length buf == 0) → take 1 (slice_set buf 0 byte) ≡ byte ∷ []
one_byte [] byte room = cc
one_byte (b ∷ bs) byte room = refl

pub returns-in-Ok-clause-course : goal.returns-in-Ok-clause-course
returns-in-Ok-clause-course c = rw (one_byte c.args.buf.now c.in-Ok.byte c.if-is_empty.ensures) (c.in-Some.ensures.cases.0 ∙ ap (λ answer. answer ∷ c.in-Some.rest.now) c.in-Ok.is, λ none. absurd (omega arith))
