-- The sink over a stream.
use Rattle.std.specs.Prelude.{◌≡◌, ℕ, Bool, true, false, List, [], ◌++◌}

-- what a sink counts
pub record StreamView : Type 0 where
  pub faults : ℕ
  -- how many pieces it was handed so far
  pub puts : ℕ

-- nothing was put yet
abbrev pub fresh_stream : StreamView
fresh_stream = record { faults = 0; puts = 0 }

-- what the sink over standard output is seen as: its counts, and the bytes that are not written yet
pub record OutView : Type 0 where
  pub faults : ℕ
  pub puts : ℕ
  pub waiting : List ℕ

-- nothing was put yet, and nothing waits
abbrev pub fresh_out : OutView
fresh_out = record { faults = 0; puts = 0; waiting = [] }

-- whether a piece waits now, after the bytes that waited; else these alone wait
abbrev pub Kept : List ℕ → List ℕ → List ℕ → Bool → Type 0
Kept before now piece true = now ≡ before ++ piece
Kept before now piece false = now ≡ before
