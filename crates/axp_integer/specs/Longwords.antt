-- Results that are longwords.
use Rattle.std.specs.Prelude.{◌≡◌, ℕ}
use Rattle.axp_base.specs.Numbers.{sign_extended}
use Rattle.axp_decode.specs.declared.names.Op.{Op}
use Rattle.axp_integer.specs.Rows.{value_of}

-- whatever the values are, bits 63:32 of what is written repeat bit 31
abbrev pub IsSignExtended : Op → Type 0
IsSignExtended op = (a b old : ℕ) → sign_extended 32 (value_of op a b old) ≡ value_of op a b old
