-- The sink of a list in memory, some of whose calls fail.
use Rattle.std.specs.Prelude.{◌≡◌, ℕ, Bool, true, false, List, [], ◌++◌, take, Result, Ok, Err}
use Rattle.axp_io.specs.Calls.{next_call, fails_next}
use Rattle.axp_io.specs.Causes.{raised}
use Rattle.axp_io.specs.declared.SinkFault.{SinkFault}
use Rattle.axp_io.specs.declared.SinkFault.TheVariants as sink

-- what a sink of a list is seen as
pub record SinkView : Type 0 where
  pub taken : List ℕ
  -- the numbers of the calls that fail, where the first call has number 1
  pub fails : List ℕ
  -- how many bytes of its piece a call takes that fails
  pub part : ℕ
  -- how many calls came so far, at most 2 ^ 32 - 1
  pub calls : ℕ
  pub faults : ℕ
  -- how many pieces it was handed so far
  pub puts : ℕ

-- nothing was taken yet
abbrev pub fresh_sink : List ℕ → ℕ → SinkView
fresh_sink fails part = record { taken = []; fails = fails; part = part; calls = 0; faults = 0; puts = 0 }

-- whether the next call fails
abbrev pub put_fails : SinkView → Bool
put_fails s = fails_next s.fails s.calls

-- the sink after a call that took these bytes and left so many faults
abbrev pub after_put : SinkView → List ℕ → ℕ → SinkView
after_put s bytes faults = record s { taken = s.taken ++ bytes; calls = next_call s.calls; faults = faults; puts = raised s.puts 1 }

-- what comes of a put: the piece is taken, or the part that a failing call takes, or nothing for want of memory
abbrev pub ListPut : {T : Type 0} → SinkView → SinkView → List ℕ → Result T SinkFault → Type 0
ListPut before now piece (Ok _) = (put_fails before ≡ false) × (now ≡ after_put before piece before.faults)
ListPut before now piece (Err sink.Failed) = (put_fails before ≡ true) × (now ≡ after_put before (take before.part piece) (raised before.faults 1))
ListPut before now piece (Err sink.Memory) = now ≡ record before { calls = next_call before.calls; puts = raised before.puts 1 }
