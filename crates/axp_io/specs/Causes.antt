-- What lies outside the program may fail: when each answer of a desk or a sink comes, and what it leaves.
use Rattle.std.specs.Prelude.{◌≡◌, ◌⊎◌, ℕ, ◌+◌, ◌-◌, ◌^◌, ◌≤◌, ◌<◌, min, List, [], ◌∷◌, ◌++◌, length, Option, Result, Ok, Err}
-- `Appends before now text`: the text was put after what is held; `Keeps before now`: what is held stays
pub use Rattle.std.specs.Io.KnownBytes.{Appends, Keeps}
use Rattle.axp_io.specs.declared.FetchFault.{FetchFault}
use Rattle.axp_io.specs.declared.FetchFault.TheVariants as fetch
use Rattle.axp_io.specs.declared.SinkFault.{SinkFault}
use Rattle.axp_io.specs.declared.SinkFault.TheVariants as sink

-- ---- counts, which stay at 2 ^ 64 - 1 once they stand there

-- a count after n more
abbrev pub raised : ℕ → ℕ → ℕ
raised count n = min (count + n) (2 ^ 64 - 1)

-- a count rose; one that stands at its last value counts as risen
abbrev pub Rose : ℕ → ℕ → Type 0
Rose before now = raised before 1 ≤ now

-- ---- bytes that are held, where it is known which

-- a front of the piece, which may be empty or the whole, was put after what is held
abbrev pub AppendsFront : Option (List ℕ) → Option (List ℕ) → List ℕ → Type 0
AppendsFront before now piece = (front rest : List ℕ) × (piece ≡ front ++ rest) × Appends before now front

-- ---- a desk

-- the name that is asked for, and the greatest number of bytes that the caller takes
abbrev pub Ask : Type 0
Ask = List ℕ × ℕ

-- the desk's faults: one more for a failure, and none for any other answer
abbrev pub FetchCount : ℕ → ℕ → Result (List ℕ) FetchFault → Type 0
FetchCount before now (Ok bytes) = now ≡ before
FetchCount before now (Err fetch.Failed) = now ≡ raised before 1
FetchCount before now (Err fetch.TooLong) = now ≡ before
FetchCount before now (Err fetch.Memory) = now ≡ before

-- the bytes given to the desk: those of the answer, and one more than the limit at most, just so many where that was too long
abbrev pub FetchGiven : ℕ → ℕ → ℕ → Result (List ℕ) FetchFault → Type 0
FetchGiven before now most (Ok bytes) = now ≡ raised before (length bytes)
FetchGiven before now most (Err fetch.Failed) = now ≤ before + (most + 1)
FetchGiven before now most (Err fetch.TooLong) = now ≡ raised before (most + 1)
FetchGiven before now most (Err fetch.Memory) = now ≤ before + (most + 1)

-- the answer where the desk tells the list: the whole list, or that it is longer than the limit
abbrev pub FetchTold : List ℕ → ℕ → Result (List ℕ) FetchFault → Type 0
FetchTold told most (Ok bytes) = (bytes ≡ told) × (length told ≤ most)
FetchTold told most (Err fetch.Failed) = Unit {0}
FetchTold told most (Err fetch.TooLong) = most < length told
FetchTold told most (Err fetch.Memory) = Unit {0}

-- the asks: one more, which want of memory may have left out
abbrev pub FetchAsks : List Ask → List Ask → Ask → Result (List ℕ) FetchFault → Type 0
FetchAsks before now ask (Ok bytes) = now ≡ before ++ ask ∷ []
FetchAsks before now ask (Err fetch.Failed) = now ≡ before ++ ask ∷ []
FetchAsks before now ask (Err fetch.TooLong) = now ≡ before ++ ask ∷ []
FetchAsks before now ask (Err fetch.Memory) = (now ≡ before) ⊎ (now ≡ before ++ ask ∷ [])

-- ---- a sink

-- the sink's faults: one more for a failure, and none for any other answer
abbrev pub PutCount : {T : Type 0} → ℕ → ℕ → Result T SinkFault → Type 0
PutCount before now (Ok _) = now ≡ before
PutCount before now (Err sink.Failed) = now ≡ raised before 1
PutCount before now (Err sink.Memory) = now ≡ before

-- the bytes taken: the piece, or a front of it where the sink failed
abbrev pub PutTaken : {T : Type 0} → Option (List ℕ) → Option (List ℕ) → List ℕ → Result T SinkFault → Type 0
PutTaken before now piece (Ok _) = Appends before now piece
PutTaken before now piece (Err sink.Failed) = AppendsFront before now piece
PutTaken before now piece (Err sink.Memory) = Keeps before now
