-- The decimal numbers of the command line.
use Rattle.std.specs.Prelude.{ℕ, ◌+◌, ◌-◌, ◌*◌, Bool, false, ◌==◌, ◌&&◌, not, nat_le, if◌then◌else◌, List, [], ◌∷◌, Option, Some, None}
use Rattle.std.specs.Str.{all_ascii_digits}

-- the number that decimal digits write behind those of `before`
abbrev pub value_behind : ℕ → List ℕ → ℕ
value_behind before [] = before
value_behind before (c ∷ cs) = value_behind (before * 10 + (c - 48)) cs

-- the number that decimal digits write
abbrev pub value_of : List ℕ → ℕ
value_of word = value_behind 0 word

-- a word has bytes, and the first is no plus sign, and no zero in front of others
abbrev pub begins_plainly : List ℕ → Bool
begins_plainly [] = false
begins_plainly (c ∷ []) = not (c == 43)
begins_plainly (c ∷ d ∷ rest) = not (c == 43) && not (c == 48)

-- the number that a word writes: in digits alone, with no zero in front of others
unfoldable pub number_of : List ℕ → Option ℕ
number_of word = if all_ascii_digits word && begins_plainly word then Some (value_of word) else None

-- the number, if it is in a range
abbrev pub in_range : ℕ → ℕ → Option ℕ → Option ℕ
in_range least most None = None
in_range least most (Some n) = if nat_le least n && nat_le n most then Some n else None

-- the number in a range that a word writes
abbrev pub number_in : ℕ → ℕ → List ℕ → Option ℕ
number_in least most word = in_range least most (number_of word)
