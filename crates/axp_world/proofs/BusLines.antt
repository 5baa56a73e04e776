-- A line that the bus answers has memory's bytes.
use Rattle.std.proofs.Common.{◌≡◌, ℕ, zero, suc, ◌+◌, ◌*◌, ◌%◌, ◌<◌, Bool, true, false, eqb, length, slice_index, List, Some, refl, sym, ap, ◌∙◌, arith}
use Rattle.std.proofs.lemmas.Bool.{eq-eqb}
use Rattle.axp_base.specs.Lines.{line_number, line_of}
use Rattle.axp_base.specs.declared.lines.Line.{Line}
use Rattle.axp_base.specs.declared.lines.TheConstants.{LINE_BYTES}
use Rattle.axp_access.specs.declared.Record.{Record}
use Rattle.axp_line.specs.Lines.{bytes_of_line, data_by}
use Rattle.axp_line.specs.declared.contents.LineData.{LineData}
use Rattle.axp_line.specs.BusCalls as calls
use Rattle.axp_line.specs.BusCalls.{BusCall}
use Rattle.axp_line.specs.BusReply.{bytes_from, line_of_memory}
use Rattle.axp_model.specs.Turns.{turns}
use Rattle.axp_world.proofs.Agreement.{BusAgrees, HasMemory}

pub length_from : (memory : ℕ → ℕ) (at n : ℕ) → length (bytes_from memory at n) ≡ n
unfolding bytes_from
length_from memory at zero = refl
length_from memory at (suc n) = ap suc (length_from memory (at + 1) n)

byte_from : (memory : ℕ → ℕ) (at n k : ℕ) → k < n → slice_index (bytes_from memory at n) k ≡ memory (at + k)
unfolding bytes_from
byte_from memory at zero k less = absurd (omega (arith, less))
byte_from memory at (suc n) zero less = let same : at ≡ at + 0 = omega arith in ap memory same
byte_from memory at (suc n) (suc k) less = let same : at + 1 + k ≡ at + suc k = omega arith in byte_from memory (at + 1) n k (omega (arith, less)) ∙ ap memory same

pub data_bytes : (bytes : List ℕ) (b : Bool) (h : eqb (length bytes) LINE_BYTES ≡ b) → b ≡ true → bytes_of_line (data_by bytes b h) ≡ bytes
data_bytes bytes true h e = refl
data_bytes bytes false h e = cc

-- the byte of a line of memory at an address in it
line_byte : (memory : ℕ → ℕ) (line : Line) (at : ℕ) → line_of at ≡ line_number line → slice_index (bytes_of_line (line_of_memory memory line)) (at % LINE_BYTES) ≡ memory at
line_byte memory line at on =
    let bytes : List ℕ = bytes_from memory (line_number line * LINE_BYTES) LINE_BYTES in
    let whole : eqb (length bytes) LINE_BYTES ≡ true = eq-eqb (length bytes) LINE_BYTES (length_from memory (line_number line * LINE_BYTES) LINE_BYTES) in
    let place : line_number line * LINE_BYTES + at % LINE_BYTES ≡ at = omega (arith, on) in
    ap (λ (xs : List ℕ). slice_index xs (at % LINE_BYTES)) (data_bytes bytes (eqb (length bytes) LINE_BYTES) refl whole)
    ∙ byte_from memory (line_number line * LINE_BYTES) LINE_BYTES (at % LINE_BYTES) (omega arith) ∙ ap memory place

-- after a call the bus's line is what memory has after the turns made, under the turn count
pub bus_line : (image : ℕ → ℕ) (h : List Record) (cs : List BusCall) (line : Line) (l turn : ℕ) (d : LineData) → BusAgrees image h cs → line_number line ≡ l → turn ≡ calls.turns cs → d ≡ line_of_memory (calls.memory image cs) line
    → HasMemory image h l (Some (turn, d)) (turns h)
bus_line image h cs line l turn d agrees is count shows = (
  count ∙ agrees.count,
  λ at on. ap (λ (x : LineData). slice_index (bytes_of_line x) (at % LINE_BYTES)) shows ∙ line_byte (calls.memory image cs) line at (on ∙ sym is) ∙ agrees.bytes image at,
)
