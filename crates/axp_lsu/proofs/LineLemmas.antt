-- A line's data are known by their bytes.
use Rattle.std.proofs.Common.{◌≡◌, ℕ, ◌*◌, ◌^◌, ◌<◌, ◌==◌, Bool, true, false, nat_lt, List, length, refl, ap, ◌∙◌, arith}
use Rattle.std.proofs.Math.Nat.{ℕ_set}
use Rattle.std.proofs.lemmas.Bool.{eqb-true, eqb-false}
use Rattle.axp_base.specs.Lines.{line_by, line_numbered}
use Rattle.axp_base.specs.declared.lines.TheConstants.{LINE_BYTES}
use Rattle.axp_line.specs.Lines.{bytes_of_line, data_by, data_of}
use Rattle.axp_line.specs.declared.contents.LineData.{LineData}
use Rattle.axp_lsu.specs.Within.{IsLineWithin}

data_made : (d : LineData) (b : Bool) (h : (length (bytes_of_line d) == LINE_BYTES) ≡ b) → d ≡ data_by (bytes_of_line d) b h
data_made d true h =
    ap (λ (p : length (bytes_of_line d) ≡ LINE_BYTES). let m : LineData = record { bytes = bytes_of_line d; whole = p } in m)
    (ℕ_set (length (bytes_of_line d)) LINE_BYTES d.whole (eqb-true _ _ h))
data_made d false h = absurd (eqb-false _ _ h d.whole)

pub data_is : (d : LineData) (bytes : List ℕ) → bytes_of_line d ≡ bytes → d ≡ data_of bytes
data_is d bytes e = data_made d (length (bytes_of_line d) == LINE_BYTES) refl ∙ ap data_of e

-- a line of a number whose address is below a size is so
within_by : (size n : ℕ) (b : Bool) (h : nat_lt (n * LINE_BYTES) (2 ^ 64) ≡ b) → n * LINE_BYTES < size → IsLineWithin size (line_by n b h)
within_by size n true h below = below
within_by size n false h below = omega arith

pub line_within : (size n : ℕ) → n * LINE_BYTES < size → IsLineWithin size (line_numbered n)
line_within size n below = within_by size n (nat_lt (n * LINE_BYTES) (2 ^ 64)) refl below
