-- Extract low, extract high and BIS put an unaligned datum together.
use Rattle.std.proofs.Common.{◌≡◌, ℕ, zero, suc, ◌+◌, ◌-◌, ◌*◌, ◌/◌, ◌%◌, ◌^◌, ◌<◌, ◌≤◌, arith}
use Rattle.axp_base.specs.Sizes.{bits_of, bytes_of, low_datum}
use Rattle.axp_base.specs.declared.sizes.Size.{Size}
use Rattle.axp_bytes.specs.Unaligned.{joined, loaded}
use Rattle.axp_bytes.proofs.DataParts.{bits_by_bytes}
use Rattle.axp_bytes.proofs.CrossingData.{crossing_at, not_crossing, at_no_byte}

pub load_crossing : (size : Size) (first last n : ℕ) → first < 2 ^ 64 → n < 8 → 8 < n + bytes_of size → loaded size first last n ≡ low_datum size (joined first last / 2 ^ (8 * n))
load_crossing size first last n small place past =
    let known = bits_by_bytes size in
    crossing_at first last (8 * n) (64 - 8 * n) (bits_of size) 64 ((64 - 8 * n) % 64) (omega arith) (omega (arith, known.1)) small (omega (arith, known.0, known.1))

pub load_inside : (size : Size) (first n : ℕ) → first < 2 ^ 64 → n < 8 → n + bytes_of size ≤ 8 → loaded size first first n ≡ low_datum size (first / 2 ^ (8 * n))
load_inside size first zero small place inside = at_no_byte first (bits_of size) small
load_inside size first (suc n) small place inside =
    let known = bits_by_bytes size in
    not_crossing first (8 * suc n) (64 - 8 * suc n) (bits_of size) 64 ((64 - 8 * suc n) % 64) (omega arith) (omega (arith, known.0)) (omega (arith, known.0, known.1))
