-- Lists of bytes under names, as a desk in memory holds them.
use Rattle.std.specs.Prelude.{◌≡◌, ℕ, List, [], Option, Some, map, String, string_bytes, Result, Ok, Err}
use Rattle.std.specs.Map.{lookup, update}
use Rattle.std.specs.Option.{unwrap_or}
use Rattle.std.specs.Str.{bytes_eq}
use Rattle.axp_io.specs.declared.FetchFault.{FetchFault}
use Rattle.axp_io.specs.declared.FetchFault.TheVariants as fetch

-- a name and the list under it
abbrev pub Named : Type 0
Named = List ℕ × List ℕ

-- the entries of a map, by the bytes of each name
abbrev pub named_in : {A : Type 0} → List (String A × List ℕ) → List Named
named_in entries = map (λ e. (string_bytes e.0, e.1)) entries

-- the list under a name
abbrev pub list_under : List Named → List ℕ → Option (List ℕ)
list_under lists name = lookup (bytes_eq name) lists

-- the list under a name, the empty one where none was given
abbrev pub list_or_empty : List Named → List ℕ → List ℕ
list_or_empty lists name = unwrap_or (list_under lists name) []

-- the list was put under the name in place of an earlier one, and each other name keeps its own
abbrev pub PutUnder : List Named → List Named → List ℕ → List ℕ → Type 0
PutUnder before now name list = (n : List ℕ) → list_under now n ≡ update bytes_eq (list_under before) name (Some list) n

-- the answer is not that the desk failed
abbrev pub NeverFails : Result (List ℕ) FetchFault → Type 0
NeverFails (Ok bytes) = Unit {0}
NeverFails (Err fetch.Failed) = ⊥
NeverFails (Err fetch.TooLong) = Unit {0}
NeverFails (Err fetch.Memory) = Unit {0}
