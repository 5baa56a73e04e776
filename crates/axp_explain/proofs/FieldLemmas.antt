-- A field that is not in the file.
use Rattle.std.proofs.Common.{◌≡◌, ℕ, ◌+◌, ◌<◌, List, length, refl, arith}
use Rattle.std.proofs.lemmas.Bool.{lt-leb}
use Rattle.axp_image.specs.Faults.{number_in}
use Rattle.axp_image.specs.Grammar.{number_at, piece_at}

-- its number is taken for 0
pub none_past : (bytes : List ℕ) (at behind n : ℕ) → length bytes < at → 0 ≡ number_in bytes (at + behind) n
unfolding number_at piece_at
none_past bytes at behind n past = rw (lt-leb (at + behind + n) (length bytes) (omega (arith, past))) refl
