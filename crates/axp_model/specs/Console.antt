-- What was sent to the console.
use Rattle.std.specs.Prelude.{ℕ, List, [], ◌∷◌, ◌++◌}
use Rattle.axp_regs.specs.declared.asks.Kind.{Kind}
use Rattle.axp_regs.specs.declared.asks.Kind.TheVariants as kind
use Rattle.axp_access.specs.declared.Outcome.{Outcome}
use Rattle.axp_access.specs.declared.Outcome.TheVariants as outcome
use Rattle.axp_access.specs.declared.Record.{Record}

-- the byte that an access of this kind sends, which it shows as its value
abbrev pub sent_by : Kind → ℕ → List ℕ
sent_by kind.Console value = value ∷ []
sent_by _ value = []

abbrev pub sent_in : Outcome → List ℕ
sent_in (outcome.Access a) = sent_by a.kind a.value
sent_in _ = []

-- all bytes that the accesses of a history sent to the console, in the order in which they were sent
abbrev pub printed : List Record → List ℕ
printed [] = []
printed (r ∷ h) = printed h ++ sent_in r.outcome
