-- What a put behind a buffer leaves where a writing failed.
use Rattle.std.proofs.Common.{ℕ, zero, suc, ◌+◌, true, [], ◌∷◌, None, Some, IfSome, length, refl, sym, ◌∙◌, suc-add, arith, ◌≡◌, List, ◌++◌, Option, Result, Ok, Err, OnErr, subst}
use Rattle.axp_io.specs.Causes.{Appends, AppendsFront, PutTaken}
use Rattle.axp_io.specs.declared.SinkFault.{SinkFault}
use Rattle.axp_io.specs.declared.SinkFault.TheVariants as sink
use Rattle.axp_io.specs.declared.troubles.Trouble.TheVariants as trouble
use Rattle.axp_io.specs.Courses.{WriteCourse, takes_all, IsBelowTurns, WritesSo, CourseAfter, FailsOnlySo}
use Rattle.std.proofs.lemmas.Bool.{false≢true}
use Rattle.axp_io.proofs.Fronts.{front_put, front_longer, front_after}

-- ---- bytes

-- a fact holds where there is an error, if it holds
on_err : {T E P : Type 0} (result : Result T E) → P → OnErr result P
on_err (Ok _) holds = tt
on_err (Err _) holds = holds

-- what waited was not written whole
pub failed_before : {T U : Type 0} (before now : Option (List ℕ)) (waiting waits piece : List ℕ) (flushed : Result T SinkFault) (result : Result U SinkFault)
    → waits ≡ waiting → PutTaken before now waits flushed → OnErr result (AppendsFront before now (waiting ++ piece))
failed_before before now waiting waits piece flushed result same taken =
    on_err result (front_longer before now waiting piece (subst (AppendsFront before now) same (front_put before now waits flushed taken)))

-- what waited was written, and the piece was not written whole
pub failed_after : {T : Type 0} (before between now : Option (List ℕ)) (waiting waits piece : List ℕ) (result : Result T SinkFault)
    → waits ≡ waiting → Appends before between waits → PutTaken between now piece result → OnErr result (AppendsFront before now (waiting ++ piece))
failed_after before between now waiting waits piece result same flushed taken =
    on_err result (front_after before between now waiting piece (subst (Appends before between) same flushed) (front_put between now piece result taken))

-- ---- courses

-- a course that takes more bytes takes fewer
takes_fewer : (course : WriteCourse) (n more : ℕ) → takes_all course (n + more) ≡ true → takes_all course n ≡ true
takes_fewer [] zero more all = refl
takes_fewer [] (suc n) more all = absurd (false≢true (rw suc-add at all))
takes_fewer (_ ∷ course) zero more all = refl
takes_fewer (Ok _ ∷ course) (suc n) more all = takes_fewer course n more (rw suc-add at all)
takes_fewer (Err trouble.Interrupted ∷ course) (suc n) more all =
    let next : takes_all course (suc (n + more)) ≡ true = rw suc-add at all in
    takes_fewer course (suc n) more (rw suc-add next)
takes_fewer (Err trouble.Memory ∷ course) (suc n) more all = absurd (false≢true (rw suc-add at all))
takes_fewer (Err trouble.Fault ∷ course) (suc n) more all = absurd (false≢true (rw suc-add at all))

-- what waited was not written whole, so the course does not take it and the piece
not_so : (course : WriteCourse) (n more : ℕ) (fault : SinkFault) → WritesSo {T = Unit {0}} course n (Err fault) → takes_all course (n + more) ≡ true → ⊥
not_so course n more sink.Failed so all = false≢true (sym so ∙ takes_fewer course n more all)
not_so course n more sink.Memory so all = so

pub course_before : {U : Type 0} (old : Option WriteCourse) (waiting waits piece : List ℕ) (fault : SinkFault) (result : Result U SinkFault)
    → waits ≡ waiting → IfSome old (λ c. IsBelowTurns c → WritesSo {T = Unit {0}} c (length waits) (Err fault))
    → IfSome old (λ c. FailsOnlySo c (length waiting + length piece) result)
course_before None waiting waits piece fault result same flushed = tt
course_before (Some o) waiting waits piece fault result same flushed = λ below all.
    let all_waits = subst (λ w. takes_all o (length w + length piece) ≡ true) (sym same) all in
    absurd (not_so o (length waits) (length piece) fault (flushed below) all_waits)

-- what waited was written, and the piece goes by what is left of the course
pub course_after : {T : Type 0} (old between : Option WriteCourse) (waiting waits piece : List ℕ) (result : Result T SinkFault)
    → waits ≡ waiting → CourseAfter old between (length waits) → IfSome between (λ c. IsBelowTurns c → WritesSo c (length piece) result)
    → IfSome old (λ c. FailsOnlySo c (length waiting + length piece) result)
course_after None between waiting waits piece result same left written = tt
course_after (Some o) None waiting waits piece result same left written = absurd left
course_after (Some o) (Some b) waiting waits piece (Ok _) same left written = λ below all. refl
course_after (Some o) (Some b) waiting waits piece (Err sink.Failed) same left written = λ below all.
    let all_waits = subst (λ w. takes_all o (length w + length piece) ≡ true) (sym same) all in
    absurd (false≢true (sym (written (omega (arith, left.1, below))) ∙ sym (left.0 (length piece)) ∙ all_waits))
course_after (Some o) (Some b) waiting waits piece (Err sink.Memory) same left written = λ below all. absurd (written (omega (arith, left.1, below)))
