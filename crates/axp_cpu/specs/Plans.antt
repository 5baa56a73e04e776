-- A group of accesses is a plan: an end, or a wanted access and what follows for each value.
use Rattle.std.specs.Prelude.{ℕ, List, [], ◌∷◌}
use Rattle.axp_access.specs.declared.Wanted.{Wanted}
use Rattle.axp_cpu.specs.declared.cpu_states.CpuState.{CpuState}

pub data Plan : Type 0 where
  -- the group ends in this table state
  End : CpuState → Plan
  -- in this table state the group wants this access, and goes on so with the value that it gives
  Want : CpuState → Wanted → (ℕ → Plan) → Plan

-- the plan after the wanted access gave this value
abbrev pub given : ℕ → Plan → Plan
given v (End t) = End t
given v (Want t w k) = k v

-- the plan after its accesses gave these values
abbrev pub along : List ℕ → Plan → Plan
along [] p = p
along (v ∷ vs) p = along vs (given v p)

-- the table state while a group stands before this plan, which began in an earlier one
abbrev pub table_in : CpuState → Plan → CpuState
table_in t (End u) = t
table_in t (Want u w k) = u
