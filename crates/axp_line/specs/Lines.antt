-- The bytes of a line.
use Rattle.std.specs.Prelude.{◌≡◌, ◌==◌, ℕ, zero, suc, Bool, true, false, refl, if◌then◌else◌, List, length, replicate, slice_index, slice_set}
use Rattle.std.proofs.lemmas.Bool.{eqb-true}
use Rattle.axp_base.specs.Masks.{has_bit}
use Rattle.axp_base.specs.declared.lines.TheConstants.{LINE_BYTES}
use Rattle.axp_line.specs.declared.contents.LineData.{LineData}

-- a line's data are seen as the list of its bytes
abbrev pub bytes_of_line : LineData → List ℕ
bytes_of_line d = d.bytes

-- the old bytes, with those of another line below byte n that the mask has
unfoldable pub merged_below : ℕ → ℕ → List ℕ → List ℕ → List ℕ
merged_below zero mask from old = old
merged_below (suc n) mask from old =
    if has_bit mask n then slice_set (merged_below n mask from old) n (slice_index from n) else merged_below n mask from old

-- the old bytes, with all those of another line that the mask has
abbrev pub merged : ℕ → List ℕ → List ℕ → List ℕ
merged mask from old = merged_below LINE_BYTES mask from old

-- the data of these bytes, by the test whether they are as many as a line has; zeros where they are not
abbrev pub data_by : (bytes : List ℕ) (whole : Bool) → length bytes == LINE_BYTES ≡ whole → LineData
data_by bytes true h = record { bytes = bytes; whole = eqb-true _ _ h }
data_by bytes false h = record { bytes = replicate LINE_BYTES 0; whole = refl }

abbrev pub data_of : List ℕ → LineData
data_of bytes = data_by bytes (length bytes == LINE_BYTES) refl
