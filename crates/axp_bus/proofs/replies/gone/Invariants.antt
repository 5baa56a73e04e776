use Rattle.std.proofs.Common.{◌≡◌, ℕ, drop}
use Rattle.axp_line.specs.BusReply.{gone}
use Rattle.axp_bus.specs.Buses.{port_state_of}
use Rattle.axp_bus.proofs.replies.gone.Given as goal

-- the bits of the copies from the n-th on
abbrev pub invariant-loop-n : goal.invariant-loop-n
invariant-loop-n l = (m : ℕ → ℕ) (turns : ℕ) → l.bits ≡ gone (port_state_of m turns l.port) (drop l.n l.held)
