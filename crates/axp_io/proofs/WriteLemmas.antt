-- What the loop keeps that writes a piece.
use Rattle.std.proofs.Common.{◌≡◌, ℕ, zero, suc, ◌+◌, ◌-◌, ◌≤◌, ◌<◌, true, false, List, [], ◌∷◌, ◌++◌, Option, None, Some, Ok, Err, IfSome, length, replicate, take, drop, refl, subst, sym, ap, ◌∙◌, append_assoc, zero-add, suc-add, arith}
use Rattle.std.proofs.KnownBytes.{Appends-trans}
use Rattle.std.proofs.lemmas.List.{length-append, length-drop, length-replicate, take-append-drop}
use Rattle.axp_io.specs.Causes.{Appends}
use Rattle.axp_io.specs.Courses.{WriteCourse, WriteRuns, takes_all, IsBelowTurns, CourseOn, CourseAfter}
use Rattle.axp_io.specs.declared.troubles.Trouble.{Trouble}
use Rattle.axp_io.specs.declared.troubles.Trouble.TheVariants as trouble

-- whether the whole course takes the piece and more is whether the rest of it takes the rest and more; each turn took an answer
abbrev pub Coursing : Option WriteCourse → Option WriteCourse → ℕ → ℕ → ℕ → Type 0
Coursing None now whole rest turns = Unit {0}
Coursing (Some old) None whole rest turns = ⊥
Coursing (Some old) (Some new) whole rest turns = CourseOn old new whole rest × (turns + length new ≤ length old)

-- a front of the piece was written, and the rest is still to come
pub record Writing (before now : Option (List ℕ)) (course_before course_now : Option WriteCourse) (piece rest : List ℕ) (turns : ℕ) : Type 0 where
  pub front : List ℕ
  pub split : piece ≡ front ++ rest
  pub taken : Appends before now front
  pub course : Coursing course_before course_now (length piece) (length rest) turns

-- ---- courses

-- a course that takes n bytes next
takes_front : (n : ℕ) (rest : WriteCourse) (more : ℕ) → takes_all (replicate n (Ok tt) ++ rest) (n + more) ≡ takes_all rest more
takes_front zero rest more = ap (takes_all rest) (zero-add more)
takes_front (suc n) rest more = rw (suc-add n more) (takes_front n rest more)

-- a write took n bytes of the rest
course_more : (old between new : Option WriteCourse) (whole turns n : ℕ) (rest : List ℕ)
    → Coursing old between whole (length rest) turns → WriteRuns between new (Ok n) rest → 0 < n → n ≤ length rest
    → Coursing old new whole (length rest - n) (turns + 1)
course_more None between new whole turns n rest so_far step some within = tt
course_more (Some o) None new whole turns n rest so_far step some within = absurd so_far
course_more (Some o) (Some b) None whole turns n rest so_far step some within = absurd step
course_more (Some o) (Some b) (Some r) whole turns n rest so_far step some within =
    let count : length b ≡ n + length r = ap length step.0 ∙ (simp (length-append, length-replicate) refl) in
    let is : (more : ℕ) → takes_all b (length rest + more) ≡ takes_all r (length rest - n + more) = λ more.
    let sum : n + (length rest - n + more) ≡ length rest + more = omega arith in
    rw step.0 (ap (takes_all (replicate n (Ok tt) ++ r)) (sym sum) ∙ takes_front n r (length rest - n + more)) in
    (λ more. so_far.0 more ∙ is more, omega (arith, so_far.1))

takes_none : (course : WriteCourse) → takes_all course 0 ≡ true
takes_none [] = refl
takes_none (_ ∷ _) = refl

course_same : (old new : WriteCourse) (whole rest : ℕ) → CourseOn old new whole rest → takes_all old whole ≡ takes_all new rest
course_same old new whole rest on =
    let left : whole ≡ whole + 0 = omega arith in
    let right : rest + 0 ≡ rest = omega arith in
    ap (takes_all old) left ∙ on 0 ∙ ap (takes_all new) right

-- nothing is left to write
pub course_done : (old new : Option WriteCourse) (whole turns : ℕ) (rest : List ℕ)
    → Coursing old new whole (length rest) turns → length rest ≡ 0 → IfSome old (λ course. IsBelowTurns course → takes_all course whole ≡ true)
course_done None new whole turns rest so_far none = tt
course_done (Some o) None whole turns rest so_far none = absurd so_far
course_done (Some o) (Some n) whole turns rest so_far none = λ _. course_same o n whole (length rest) so_far.0 ∙ ap (takes_all n) none ∙ takes_none n

-- the course once all was written
pub course_left : (old new : Option WriteCourse) (whole turns : ℕ) (rest : List ℕ)
    → Coursing old new whole (length rest) turns → length rest ≡ 0 → CourseAfter old new whole
course_left None new whole turns rest so_far none = tt
course_left (Some o) None whole turns rest so_far none = absurd so_far
course_left (Some o) (Some n) whole turns rest so_far none = (λ more. let same : length rest + more ≡ more = omega (arith, none) in so_far.0 more ∙ ap (takes_all n) same, omega (arith, so_far.1))

-- ---- one turn of the loop

-- a write took the first n bytes of the rest
pub wrote : (before between now : Option (List ℕ)) (cb c cn : Option WriteCourse) (piece rest : List ℕ) (n turns : ℕ)
    → Writing before between cb c piece rest turns → Appends between now (take n rest) → WriteRuns c cn (Ok n) rest → 0 < n → n ≤ length rest
    → Writing before now cb cn piece (drop n rest) (turns + 1)
wrote before between now cb c cn piece rest n turns so_far step runs some within = record {
  front = so_far.front ++ take n rest;
  split = so_far.split ∙ ap (λ xs. so_far.front ++ xs) (sym (take-append-drop n rest)) ∙ sym (append_assoc so_far.front (take n rest) (drop n rest));
  taken = Appends-trans before between now so_far.front (take n rest) so_far.taken step;
  course = rw length-drop (course_more cb c cn (length piece) turns n rest so_far.course runs some within);
}

-- ---- a write that ends the loop

-- a course that takes no byte next, where some are wanted
abbrev pub TakesNone : WriteCourse → Type 0
TakesNone course = (n : ℕ) → 0 < n → takes_all course n ≡ false

course_stops : (old between : Option WriteCourse) (whole turns : ℕ) (rest : List ℕ)
    → Coursing old between whole (length rest) turns → IfSome between TakesNone → 0 < length rest
    → IfSome old (λ course. IsBelowTurns course → takes_all course whole ≡ false)
course_stops None between whole turns rest so_far none some = tt
course_stops (Some o) None whole turns rest so_far none some = absurd so_far
course_stops (Some o) (Some b) whole turns rest so_far none some = λ _. course_same o b whole (length rest) so_far.0 ∙ none (length rest) some

none_below : 0 < 0 → ⊥
none_below some = omega (arith, some)

nothing_taken : TakesNone []
nothing_taken zero some = absurd (none_below some)
nothing_taken (suc n) some = refl

memory_taken : (more : WriteCourse) → TakesNone (Err trouble.Memory ∷ more)
memory_taken more zero some = absurd (none_below some)
memory_taken more (suc n) some = refl

fault_taken : (more : WriteCourse) → TakesNone (Err trouble.Fault ∷ more)
fault_taken more zero some = absurd (none_below some)
fault_taken more (suc n) some = refl

stops_at_none : (between new : Option WriteCourse) (n : ℕ) (rest : List ℕ) → WriteRuns between new (Ok n) rest → n ≡ 0 → 0 < length rest → IfSome between TakesNone
stops_at_none None new n rest runs none some = tt
stops_at_none (Some b) None n rest runs none some = absurd runs
stops_at_none (Some b) (Some r) n rest runs none some = subst TakesNone (sym (runs.0 ∙ ap (λ k. replicate k (Ok tt) ++ r) none ∙ runs.1 none some)) nothing_taken

stops_at : (t : Trouble) → ((more : WriteCourse) → TakesNone (Err t ∷ more)) → (between new : Option WriteCourse) (rest : List ℕ) → WriteRuns between new (Err t) rest → IfSome between TakesNone
stops_at t none None new rest runs = tt
stops_at t none (Some b) None rest runs = absurd runs
stops_at t none (Some b) (Some r) rest runs = subst TakesNone (sym runs) (none r)

-- a write took nothing
pub course_ended : (old between new : Option WriteCourse) (whole turns n : ℕ) (rest : List ℕ)
    → Coursing old between whole (length rest) turns → WriteRuns between new (Ok n) rest → n ≡ 0 → 0 < length rest
    → IfSome old (λ course. IsBelowTurns course → takes_all course whole ≡ false)
course_ended old between new whole turns n rest so_far runs none some = course_stops old between whole turns rest so_far (stops_at_none between new n rest runs none some) some

-- a write wanted memory, or failed
pub course_wants : (old between new : Option WriteCourse) (whole turns : ℕ) (t : Trouble) (rest : List ℕ)
    → t ≡ trouble.Memory → Coursing old between whole (length rest) turns → WriteRuns between new (Err t) rest → 0 < length rest
    → IfSome old (λ course. IsBelowTurns course → takes_all course whole ≡ false)
course_wants old between new whole turns t rest is so_far runs some = course_stops old between whole turns rest so_far (stops_at trouble.Memory memory_taken between new rest (subst (λ x. WriteRuns between new (Err x) rest) is runs)) some

pub course_fails : (old between new : Option WriteCourse) (whole turns : ℕ) (t : Trouble) (rest : List ℕ)
    → t ≡ trouble.Fault → Coursing old between whole (length rest) turns → WriteRuns between new (Err t) rest → 0 < length rest
    → IfSome old (λ course. IsBelowTurns course → takes_all course whole ≡ false)
course_fails old between new whole turns t rest is so_far runs some = course_stops old between whole turns rest so_far (stops_at trouble.Fault fault_taken between new rest (subst (λ x. WriteRuns between new (Err x) rest) is runs)) some
