-- How the parts of a list of held lines stand for it.
use Rattle.std.specs.Prelude.{ℕ, ◌≤◌, List, length}
use Rattle.axp_line.specs.declared.messages.Held.TheInside.{Inside}
use Rattle.axp_line.specs.declared.messages.TheConstants.{MAX_HELD}

abbrev pub pairs_of : Inside → List (ℕ × ℕ)
pairs_of a = a.pairs.items

abbrev pub AreFew : Inside → Type 0
AreFew a = length a.pairs.items ≤ MAX_HELD
