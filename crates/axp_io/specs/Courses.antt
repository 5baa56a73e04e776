-- Readers and writers that are known by their course: what their calls will answer, in order.
use Rattle.std.specs.Prelude.{◌≡◌, ℕ, zero, suc, ◌+◌, ◌-◌, ◌^◌, ◌≤◌, ◌<◌, Bool, true, false, List, [], ◌∷◌, ◌++◌, map, length, replicate, take, Option, None, Some, Result, Ok, Err, IsOk}
use Rattle.std.specs.Io.KnownBytes.{Consumes}
use Rattle.axp_io.specs.Causes.{raised}
use Rattle.axp_io.specs.declared.FetchFault.{FetchFault}
use Rattle.axp_io.specs.declared.FetchFault.TheVariants as fetch
use Rattle.axp_io.specs.declared.SinkFault.{SinkFault}
use Rattle.axp_io.specs.declared.SinkFault.TheVariants as sink
use Rattle.axp_io.specs.declared.troubles.Trouble.{Trouble}
use Rattle.axp_io.specs.declared.troubles.Trouble.TheVariants as trouble

-- ---- readers

-- a reader's course: its bytes one by one, and between them the troubles that its calls meet
abbrev pub ReadCourse : Type 0
ReadCourse = List (Result ℕ Trouble)

-- one read gave the bytes that come next, none only at the end or with no room, or met the trouble that comes next
abbrev pub ReadRuns : Option ReadCourse → Option ReadCourse → Result ℕ Trouble → List ℕ → Type 0
ReadRuns None now result buf = Unit {0}
ReadRuns (Some old) None result buf = ⊥
ReadRuns (Some old) (Some new) (Ok n) buf = (old ≡ map Ok (take n buf) ++ new) × (n ≡ 0 → 0 < length buf → new ≡ [])
ReadRuns (Some old) (Some new) (Err t) buf = old ≡ Err t ∷ new

-- a list with these bytes before it, or what failed
abbrev pub prefixed : List ℕ → Result (List ℕ) FetchFault → Result (List ℕ) FetchFault
prefixed bytes (Ok more) = Ok (bytes ++ more)
prefixed bytes (Err fault) = Err fault

-- what comes of reading a course to its end, where so many bytes may come: an interrupted read is tried again, and
-- every other trouble ends the reading
abbrev pub read_of : ReadCourse → ℕ → Result (List ℕ) FetchFault
read_of [] left = Ok []
read_of (Ok byte ∷ more) zero = Err fetch.TooLong
read_of (Ok byte ∷ more) (suc left) = prefixed (byte ∷ []) (read_of more left)
read_of (Err trouble.Interrupted ∷ more) left = read_of more left
read_of (Err trouble.Memory ∷ more) left = Err fetch.Memory
read_of (Err trouble.Fault ∷ more) left = Err fetch.Failed

-- the answer is this one, or want of memory
abbrev pub UnlessMemory : Result (List ℕ) FetchFault → Result (List ℕ) FetchFault → Type 0
UnlessMemory expected (Ok bytes) = expected ≡ Ok bytes
UnlessMemory expected (Err fetch.Failed) = expected ≡ Err fetch.Failed
UnlessMemory expected (Err fetch.TooLong) = expected ≡ Err fetch.TooLong
UnlessMemory expected (Err fetch.Memory) = Unit {0}

-- fewer answers than a loop makes calls
abbrev pub IsBelowTurns : {A : Type 0} → List A → Type 0
IsBelowTurns course = length course < 2 ^ 64 - 1

-- what was taken off a reader are the bytes that it gave, one more than the limit at most, and the count tells how many
abbrev pub TakesOff : Option (List ℕ) → Option (List ℕ) → ℕ → ℕ → ℕ → Type 0
TakesOff old new before now most = (bytes : List ℕ) × Consumes old new bytes × (length bytes ≤ most + 1) × (now ≡ raised before (length bytes))

-- ---- openers

-- what opening a name gives: the course of what lies there, or the trouble that the opening meets
abbrev pub Opening : Type 0
Opening = Result ReadCourse Trouble

-- a name was opened so, where the course of what was opened is given by a function of it
abbrev pub OpensAs : {F : Type 0} → (F → Option ReadCourse) → Opening → Result F Trouble → Type 0
OpensAs course_of (Ok course) (Ok file) = course_of file ≡ Some course
OpensAs course_of (Ok course) (Err t) = ⊥
OpensAs course_of (Err t) (Ok file) = ⊥
OpensAs course_of (Err t) (Err met) = met ≡ t

-- What comes of opening and reading: the course's list, or want of memory; and where the opening meets a trouble, a
-- failure, or want of memory where it is that.
abbrev pub FetchesSo : Opening → ℕ → Result (List ℕ) FetchFault → Type 0
FetchesSo (Ok course) most result = IsBelowTurns course → UnlessMemory (read_of course most) result
FetchesSo (Err trouble.Interrupted) most result = result ≡ Err fetch.Failed
FetchesSo (Err trouble.Memory) most result = result ≡ Err fetch.Memory
FetchesSo (Err trouble.Fault) most result = result ≡ Err fetch.Failed

-- ---- writers

-- a writer's course: a mark for each byte that it will take, and between them the troubles that its calls meet
abbrev pub WriteCourse : Type 0
WriteCourse = List (Result (Unit {0}) Trouble)

-- one write took bytes, none only at the end of the course or of an empty piece, or met the trouble that comes next
abbrev pub WriteRuns : Option WriteCourse → Option WriteCourse → Result ℕ Trouble → List ℕ → Type 0
WriteRuns None now result buf = Unit {0}
WriteRuns (Some old) None result buf = ⊥
WriteRuns (Some old) (Some new) (Ok n) buf = (old ≡ replicate n (Ok tt) ++ new) × (n ≡ 0 → 0 < length buf → new ≡ [])
WriteRuns (Some old) (Some new) (Err t) buf = old ≡ Err t ∷ new

-- whether a course takes so many bytes: an interrupted write is tried again, and every other trouble ends the writing, as
-- a write does that takes nothing
abbrev pub takes_all : WriteCourse → ℕ → Bool
takes_all [] zero = true
takes_all [] (suc n) = false
takes_all (_ ∷ _) zero = true
takes_all (Ok _ ∷ more) (suc n) = takes_all more n
takes_all (Err trouble.Interrupted ∷ more) (suc n) = takes_all more (suc n)
takes_all (Err trouble.Memory ∷ more) (suc n) = false
takes_all (Err trouble.Fault ∷ more) (suc n) = false

-- a piece of so many bytes was written where the course takes them all, and failed where it does not
abbrev pub WritesSo : {T : Type 0} → WriteCourse → ℕ → Result T SinkFault → Type 0
WritesSo course n (Ok _) = takes_all course n ≡ true
WritesSo course n (Err sink.Failed) = takes_all course n ≡ false
WritesSo course n (Err sink.Memory) = ⊥

-- the first course takes whole and more bytes exactly where the second takes rest and more
abbrev pub CourseOn : WriteCourse → WriteCourse → ℕ → ℕ → Type 0
CourseOn old new whole rest = (more : ℕ) → takes_all old (whole + more) ≡ takes_all new (rest + more)

-- a course once it took so many bytes: what it takes then is what it took after them, and it is no longer
abbrev pub CourseAfter : Option WriteCourse → Option WriteCourse → ℕ → Type 0
CourseAfter None now n = Unit {0}
CourseAfter (Some old) None n = ⊥
CourseAfter (Some old) (Some new) n = ((more : ℕ) → takes_all old (n + more) ≡ takes_all new more) × (length new ≤ length old)

-- what needs so many bytes of a course fails only where the course does not take them
abbrev pub FailsOnlySo : {T : Type 0} → WriteCourse → ℕ → Result T SinkFault → Type 0
FailsOnlySo course n result = IsBelowTurns course → takes_all course n ≡ true → IsOk result
