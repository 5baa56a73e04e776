-- Conditional moves in pairs.
use Rattle.std.specs.Prelude.{◌≡◌, ◌⊎◌, ℕ}
use Rattle.axp_decode.specs.declared.names.Op.{Op}
use Rattle.axp_integer.specs.Rows.{value_of}

-- whatever the values are, one of the two writes b to Rc and the other leaves it
abbrev pub AreOpposite : Op → Op → Type 0
AreOpposite one other = (a b old : ℕ) → ((value_of one a b old ≡ b) × (value_of other a b old ≡ old)) ⊎ ((value_of one a b old ≡ old) × (value_of other a b old ≡ b))
