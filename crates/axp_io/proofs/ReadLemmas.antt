-- What the loop keeps that reads to the end.
use Rattle.std.proofs.Common.{◌≡◌, ℕ, zero, suc, ◌+◌, ◌-◌, ◌^◌, ◌≤◌, ◌<◌, List, [], ◌∷◌, ◌++◌, map, length, take, Option, None, Some, Result, Ok, Err, IfSome, refl, sym, ap, ◌∙◌, append_assoc, zero-add, suc-add, arith}
use Rattle.std.proofs.KnownBytes.{Consumes-nil, Consumes-trans}
use Rattle.std.proofs.lemmas.List.{length-append, length-map, length-take-le}
use Rattle.std.specs.Io.KnownBytes.{Consumes}
use Rattle.axp_io.specs.Causes.{raised}
use Rattle.axp_io.specs.Courses.{ReadCourse, ReadRuns, prefixed, read_of, UnlessMemory, IsBelowTurns, TakesOff}
use Rattle.axp_io.specs.declared.FetchFault.{FetchFault}
use Rattle.axp_io.specs.declared.FetchFault.TheVariants as fetch

-- what comes of the whole course is what comes of the rest, after the bytes that came; each turn took an answer
abbrev pub Coursing : Option ReadCourse → Option ReadCourse → List ℕ → ℕ → ℕ → ℕ → Type 0
Coursing None now bytes most left turns = Unit {0}
Coursing (Some old) None bytes most left turns = ⊥
Coursing (Some old) (Some new) bytes most left turns = (read_of old most ≡ prefixed bytes (read_of new left)) × (turns + length new ≤ length old)

-- the bytes came, so many may still come, and the count of bytes given has risen by them
pub record Reading (known_before known_now : Option (List ℕ)) (course_before course_now : Option ReadCourse) (bytes : List ℕ) (most left given_before given_now turns : ℕ) : Type 0 where
  pub came : Consumes known_before known_now bytes
  pub left_is : left + length bytes ≡ most
  pub grows : given_before ≤ given_now
  pub given : given_now ≡ raised given_before (length bytes)
  pub course : Coursing course_before course_now bytes most left turns

-- ---- what comes of a course that begins with bytes

prefixed_twice : (a b : List ℕ) (r : Result (List ℕ) FetchFault) → prefixed a (prefixed b r) ≡ prefixed (a ++ b) r
prefixed_twice a b (Ok more) = ap (λ xs. Ok xs) (sym (append_assoc a b more))
prefixed_twice a b (Err fault) = refl

prefixed_none : (r : Result (List ℕ) FetchFault) → r ≡ prefixed [] r
prefixed_none (Ok more) = refl
prefixed_none (Err fault) = refl

-- bytes that may come are put before the rest's
read_front : (bytes : List ℕ) (rest : ReadCourse) (left more : ℕ) → left ≡ length bytes + more → read_of (map Ok bytes ++ rest) left ≡ prefixed bytes (read_of rest more)
read_front [] rest left more is = ap (read_of rest) (is ∙ zero-add more) ∙ prefixed_none (read_of rest more)
read_front (b ∷ bs) rest left more is = rw (is, suc-add (length bs) more) (ap (prefixed (b ∷ [])) (read_front bs rest (length bs + more) more refl) ∙ prefixed_twice (b ∷ []) bs (read_of rest more))

-- more bytes than may come are too long
read_long : (bytes : List ℕ) (rest : ReadCourse) (left : ℕ) → left < length bytes → read_of (map Ok bytes ++ rest) left ≡ Err fetch.TooLong
read_long [] rest left long = absurd (omega arith)
read_long (b ∷ bs) rest zero long = refl
read_long (b ∷ bs) rest (suc left) long = ap (prefixed (b ∷ [])) (read_long bs rest left (omega arith))

-- ---- the loop

course_begun : (course : Option ReadCourse) (most : ℕ) → Coursing course course [] most most 0
course_begun None most = tt
course_begun (Some c) most = (prefixed_none (read_of c most), omega arith)

-- nothing came yet
pub begun : (known : Option (List ℕ)) (course : Option ReadCourse) (bytes : List ℕ) (most given : ℕ) → bytes ≡ [] → given ≤ 2 ^ 64 - 1 → Reading known known course course bytes most most given given 0
begun known course bytes most given none fits = rw none (record {
  came = Consumes-nil known;
  left_is = omega arith;
  grows = omega arith;
  given = omega arith;
  course = course_begun course most;
})

-- a read gave n bytes
course_more : (old between new : Option ReadCourse) (bytes : List ℕ) (most left turns n : ℕ) (buf : List ℕ)
    → Coursing old between bytes most left turns → ReadRuns between new (Ok n) buf → 0 < n → n ≤ length buf → n ≤ left
    → Coursing old new (bytes ++ take n buf) most (left - n) (turns + 1)
course_more None between new bytes most left turns n buf so_far step some within fits = tt
course_more (Some o) None new bytes most left turns n buf so_far step some within fits = absurd so_far
course_more (Some o) (Some b) None bytes most left turns n buf so_far step some within fits = absurd step
course_more (Some o) (Some b) (Some r) bytes most left turns n buf so_far step some within fits =
    let long : length (take n buf) ≡ n = length-take-le n buf within in
    let is : read_of b left ≡ prefixed (take n buf) (read_of r (left - n)) = rw step.0 (read_front (take n buf) r left (left - n) (omega arith)) in
    let count : length b ≡ n + length r = ap length step.0 ∙ (simp (length-append, length-map, long) refl) in
    (so_far.0 ∙ ap (prefixed bytes) is ∙ prefixed_twice bytes (take n buf) (read_of r (left - n)), omega (arith, so_far.1))

pub read_more : (kb k kn : Option (List ℕ)) (cb c cn : Option ReadCourse) (bytes : List ℕ) (most left gb g gn turns n : ℕ) (buf : List ℕ)
    → Reading kb k cb c bytes most left gb g turns → Consumes k kn (take n buf) → ReadRuns c cn (Ok n) buf
    → 0 < n → n ≤ length buf → n ≤ left → gn ≡ raised g n
    → Reading kb kn cb cn (bytes ++ take n buf) most (left - n) gb gn (turns + 1)
read_more kb k kn cb c cn bytes most left gb g gn turns n buf r step runs some within fits is =
    let long : length (bytes ++ take n buf) ≡ length bytes + n = simp (length-append, length-take-le n buf within) refl in
    let total : left + length bytes ≡ most = r.left_is in
    let grown : gb ≤ g = r.grows in
    let counted : g ≡ raised gb (length bytes) = r.given in
    record {
      came = Consumes-trans kb k kn bytes (take n buf) r.came step;
      left_is = rw long (omega arith);
      grows = omega arith;
      given = rw long (omega arith);
      course = course_more cb c cn bytes most left turns n buf r.course runs some within fits;
    }

-- what is taken off the reader by a turn that ends the reading
pub took : (kb k kn : Option (List ℕ)) (cb c : Option ReadCourse) (bytes : List ℕ) (most left gb g gn turns n : ℕ) (buf : List ℕ)
    → Reading kb k cb c bytes most left gb g turns → Consumes k kn (take n buf)
    → n ≤ length buf → n ≤ left + 1 → gn ≡ raised g n → TakesOff kb kn gb gn most
took kb k kn cb c bytes most left gb g gn turns n buf r step within fits is =
    let long : length (bytes ++ take n buf) ≡ length bytes + n = simp (length-append, length-take-le n buf within) refl in
    let total : left + length bytes ≡ most = r.left_is in
    let counted : g ≡ raised gb (length bytes) = r.given in
    (bytes ++ take n buf, Consumes-trans kb k kn bytes (take n buf) r.came step, rw long (omega arith), rw long (omega arith))

-- one byte more than may come: the list is too long
pub course_long : (old between new : Option ReadCourse) (bytes : List ℕ) (most left turns n : ℕ) (buf : List ℕ)
    → Coursing old between bytes most left turns → ReadRuns between new (Ok n) buf → left < n → n ≤ length buf
    → IfSome old (λ course. IsBelowTurns course → UnlessMemory (read_of course most) (Err fetch.TooLong))
course_long None between new bytes most left turns n buf so_far step over within = tt
course_long (Some o) None new bytes most left turns n buf so_far step over within = absurd so_far
course_long (Some o) (Some b) None bytes most left turns n buf so_far step over within = absurd step
course_long (Some o) (Some b) (Some r) bytes most left turns n buf so_far step over within = λ _.
    let long : length (take n buf) ≡ n = length-take-le n buf within in
    let is : read_of b left ≡ Err fetch.TooLong = rw step.0 (read_long (take n buf) r left (omega arith)) in
    so_far.0 ∙ ap (prefixed bytes) is
