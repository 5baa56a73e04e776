-- Of a list of accesses, the newest first: the oldest that passes a test, and of the pairs that a relation
-- names the one whose second is oldest, and then the first.
use Rattle.std.specs.Prelude.{ℕ, Bool, List, [], ◌∷◌, Option, Some, None, if◌then◌else◌}
use Rattle.std.specs.Option.{option_or, option_map}
use Rattle.axp_access.specs.Numbering.{NumberedAccess}

abbrev pub oldest_that : (NumberedAccess → Bool) → List NumberedAccess → Option NumberedAccess
oldest_that test [] = None
oldest_that test (u ∷ us) = option_or (oldest_that test us) (if test u then Some u else None)

-- the numbers of the first and the second of the least pair
abbrev pub least_pair : (NumberedAccess → NumberedAccess → Bool) → List NumberedAccess → Option (ℕ × ℕ)
least_pair bad [] = None
least_pair bad (v ∷ us) = option_or (least_pair bad us) (option_map (λ u. (u.number, v.number)) (oldest_that (λ u. bad u v) us))
