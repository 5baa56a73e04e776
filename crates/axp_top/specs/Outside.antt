-- What a sink and a desk show at a moment.
use Rattle.std.specs.Prelude.{ℕ, List, Option}
use Rattle.axp_io.specs.Causes.{Ask}

-- a sink: the bytes taken, where it tells them, and its counts of faults and of puts
pub record SinkState : Type 0 where
  pub taken : Option (List ℕ)
  pub faults : ℕ
  pub puts : ℕ

-- a desk: its count of faults, and what it was asked for
pub record DeskState : Type 0 where
  pub faults : ℕ
  pub asks : List Ask

-- both
pub record Outside : Type 0 where
  pub sink : SinkState
  pub desk : DeskState

-- a sink's state by the members of its trait
abbrev pub sink_state : {K : Type 0} → (K → Option (List ℕ)) → (K → ℕ) → (K → ℕ) → K → SinkState
sink_state taken faults puts k = record { taken = taken k; faults = faults k; puts = puts k }

-- a desk's
abbrev pub desk_state : {D : Type 0} → (D → ℕ) → (D → List Ask) → D → DeskState
desk_state faults asks d = record { faults = faults d; asks = asks d }

-- both
abbrev pub outside_at : {D K : Type 0} → (D → ℕ) → (D → List Ask) → (K → Option (List ℕ)) → (K → ℕ) → (K → ℕ)
    → D → K → Outside
outside_at desk_faults asks taken sink_faults puts d k =
    record { sink = sink_state taken sink_faults puts k; desk = desk_state desk_faults asks d }
