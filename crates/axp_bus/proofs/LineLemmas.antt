-- Lines of a memory that is seen as a function, and as a list.
use Rattle.std.proofs.Common.{◌≡◌, ℕ, zero, suc, ◌+◌, ◌*◌, ◌/◌, ◌%◌, ◌^◌, ◌<◌, ◌≤◌, Bool, true, false, cond, List, [], ◌∷◌, length, drop, get_or, slice_index, Some, arith, refl, sym, ap, ap₂, ◌∙◌, ⊎_elim, eqb}
use Rattle.std.proofs.Math.Nat.{ℕ_set}
use Rattle.std.proofs.lemmas.Bool.{cases_eq, eqb-true, eq-eqb, ne_eqb, eqb-false}
use Rattle.std.proofs.lemmas.List.{length-drop, length-take}
use Rattle.axp_base.specs.Lines.{line_number, line_of}
use Rattle.axp_base.specs.Masks.{has_bit, mask_bits}
use Rattle.axp_base.specs.Parts.{number_at, part}
use Rattle.axp_base.specs.declared.lines.Line.{Line}
use Rattle.axp_base.specs.declared.lines.TheConstants.{LINE_BYTES}
use Rattle.axp_line.specs.Lines.{bytes_of_line, data_by, data_of, merged}
use Rattle.axp_line.specs.declared.contents.LineData.{LineData}
use Rattle.axp_line.proofs.MergeLemmas.{merged_each}
use Rattle.axp_memory.specs.Bytes.{bytes_at, line_in, written}
use Rattle.axp_memory.proofs.MergingLemmas.{byte_at}
use Rattle.axp_memory.proofs.WriteLemmas.{changes_one_line}
use Rattle.axp_line.specs.BusCalls.{Written, overwritten}
use Rattle.axp_line.specs.BusReply.{bytes_from, line_of_memory}
use Rattle.axp_bus.specs.Buses.{Agrees}
use Rattle.axp_bus.specs.Writes.{written_of}
use Rattle.axp_bus.specs.declared.writes.Write.{Write}
use Rattle.axp_memory.proofs.MergingLemmas.{byte_at}

-- data are known by their bytes
abbrev line_made : (bytes : List ℕ) → length bytes ≡ LINE_BYTES → LineData
line_made bytes whole = record { bytes = bytes; whole = whole }

data_by_is : (bytes : List ℕ) (whole : length bytes ≡ LINE_BYTES) (test : Bool) (h : eqb (length bytes) LINE_BYTES ≡ test) → line_made bytes whole ≡ data_by bytes test h
data_by_is bytes whole true h = ap (λ (w : length bytes ≡ LINE_BYTES). line_made bytes w) (ℕ_set (length bytes) LINE_BYTES whole (eqb-true _ _ h))
data_by_is bytes whole false h = absurd (eqb-false _ _ h whole)

pub data_known : (d : LineData) → d ≡ data_of (bytes_of_line d)
data_known d = data_by_is d.bytes d.whole (eqb (length d.bytes) LINE_BYTES) refl

bytes_same : (xs : List ℕ) (memory : ℕ → ℕ) (n at : ℕ) → length xs ≡ n → ((i : ℕ) → i < n → get_or xs i 0 ≡ memory (at + i)) → xs ≡ bytes_from memory at n
unfolding bytes_from
bytes_same [] memory zero at size each = refl
bytes_same [] memory (suc n) at size each = absurd (omega (arith, size))
bytes_same (x ∷ xs) memory zero at size each = absurd (omega (arith, size))
bytes_same (x ∷ xs) memory (suc n) at size each =
    let here : at + 0 ≡ at = omega arith in
    let head : x ≡ memory at = each 0 (omega arith) ∙ ap memory here in
    let tail = bytes_same xs memory n (at + 1) (omega (arith, size)) (λ i below.
    let there : at + suc i ≡ at + 1 + i = omega arith in
    each (suc i) (omega arith) ∙ ap memory there) in
    λ i. head i ∷ tail i

line_is : (d : LineData) (memory : ℕ → ℕ) (at : ℕ) → ((i : ℕ) → i < LINE_BYTES → get_or (bytes_of_line d) i 0 ≡ memory (at + i)) → d ≡ data_of (bytes_from memory at LINE_BYTES)
line_is d memory at each = data_known d ∙ ap data_of (bytes_same d.bytes memory LINE_BYTES at d.whole each)

-- the bytes of a line of a list
length-bytes_at : (at : ℕ) (xs : List ℕ) → length (bytes_at at xs) ≡ LINE_BYTES → at + LINE_BYTES ≤ length xs
unfolding bytes_at
length-bytes_at at xs whole = omega (arith, whole, length-take LINE_BYTES (drop at xs), length-drop at xs)

pub line_read : (d : LineData) (xs : List ℕ) (memory : ℕ → ℕ) (n : ℕ) → bytes_of_line d ≡ line_in n xs → Agrees xs memory → d ≡ data_of (bytes_from memory (n * LINE_BYTES) LINE_BYTES)
line_read d xs memory n read agrees =
    let within = length-bytes_at (n * LINE_BYTES) xs (sym (ap length read) ∙ d.whole) in
    line_is d memory (n * LINE_BYTES) (λ i below.
    ap (λ bytes. get_or bytes i 0) read ∙ byte_at (n * LINE_BYTES) xs i below ∙ agrees (n * LINE_BYTES + i) (omega arith))

-- a byte of the line that is written, and of another
overwritten_here : (w : Written) (memory : ℕ → ℕ) (k : ℕ) → line_of k ≡ line_number w.line
    → overwritten (Some w) memory k ≡ cond (has_bit w.bits (k % LINE_BYTES)) (slice_index w.bytes (k % LINE_BYTES)) (memory k)
overwritten_here w memory k same = rw (eq-eqb _ _ same) refl

overwritten_there : (w : Written) (memory : ℕ → ℕ) (k : ℕ) → (line_of k ≡ line_number w.line → ⊥) → overwritten (Some w) memory k ≡ memory k
overwritten_there w memory k apart = rw (ne_eqb _ _ apart) refl

pub line_merged : (d before : LineData) (xs : List ℕ) (memory : ℕ → ℕ) (w : Write) → bytes_of_line before ≡ line_in (line_number w.line) xs
    → bytes_of_line d ≡ merged (mask_bits w.mask) (bytes_of_line w.bytes) (bytes_of_line before) → Agrees xs memory → d ≡ line_of_memory (overwritten (Some (written_of w)) memory) w.line
line_merged d before xs memory w read put agrees =
    let n = line_number w.line in
    let within = length-bytes_at (n * LINE_BYTES) xs (sym (ap length read) ∙ before.whole) in
    line_is d (overwritten (Some (written_of w)) memory) (n * LINE_BYTES) (λ i below.
    let line : line_of (n * LINE_BYTES + i) ≡ n = omega arith in
    let place : (n * LINE_BYTES + i) % LINE_BYTES ≡ i = omega arith in
    ap (λ bytes. get_or bytes i 0) put
    ∙ merged_each LINE_BYTES (mask_bits w.mask) w.bytes.bytes before.bytes i (omega (arith, before.whole)) below
    ∙ ap (λ x. cond (has_bit (mask_bits w.mask) i) (get_or w.bytes.bytes i 0) x)
    (ap (λ bytes. get_or bytes i 0) read ∙ byte_at (n * LINE_BYTES) xs i below ∙ agrees (n * LINE_BYTES + i) (omega arith))
    ∙ ap (λ j. cond (has_bit (mask_bits w.mask) j) (get_or w.bytes.bytes j 0) (memory (n * LINE_BYTES + i))) (sym place)
    ∙ sym (overwritten_here (written_of w) memory (n * LINE_BYTES + i) line))

pub write_agrees : (xs : List ℕ) (memory : ℕ → ℕ) (w : Written) → length xs % LINE_BYTES ≡ 0 → line_number w.line * LINE_BYTES < length xs → Agrees xs memory
    → Agrees (written (line_number w.line) w.bits w.bytes xs) (overwritten (Some w) memory)
write_agrees xs memory w whole inside agrees k below =
    let n = line_number w.line in
    let law = changes_one_line n w.bits w.bytes xs (omega arith) in
    let short : k < length xs = omega (arith, below, law.size) in
    ⊎_elim
    (λ same. law.inside k same ∙ ap (λ x. cond (has_bit w.bits (k % LINE_BYTES)) (get_or w.bytes (k % LINE_BYTES) 0) x) (agrees k short) ∙ sym (overwritten_here w memory k same))
    (λ apart. law.outside k apart ∙ agrees k short ∙ sym (overwritten_there w memory k apart))
    (cases_eq (line_of k) n)

-- a number of bytes that are the same
number_same : (f g : ℕ → ℕ) (a b n : ℕ) → ((i : ℕ) → i < n → f (a + i) ≡ g (b + i)) → number_at f a n ≡ number_at g b n
unfolding number_at
number_same f g a b zero same = refl
number_same f g a b (suc n) same =
    ap₂ (λ x y. x + y * 2 ^ (8 * n)) (number_same f g a b n (λ i below. same i (omega arith))) (same n (omega arith))

-- bytes of a line are bytes of the list that it is a line of
pub line_part : (line xs : List ℕ) (address n : ℕ) → line ≡ line_in (address / LINE_BYTES) xs → length line ≡ LINE_BYTES → address % LINE_BYTES + n ≤ LINE_BYTES
    → part line (address % LINE_BYTES) n ≡ part xs address n
line_part line xs address n read whole most =
    let at = address / LINE_BYTES * LINE_BYTES in
    number_same (slice_index line) (slice_index xs) (address % LINE_BYTES) address n (λ i below.
    let place : at + (address % LINE_BYTES + i) ≡ address + i = omega arith in
    ap (λ bytes. get_or bytes (address % LINE_BYTES + i) 0) read ∙ byte_at at xs (address % LINE_BYTES + i) (omega (arith, below, most)) ∙ ap (λ k. get_or xs k 0) place)

pub part_agrees : (xs : List ℕ) (memory : ℕ → ℕ) (address n : ℕ) → address + n ≤ length xs → Agrees xs memory → part xs address n ≡ number_at memory address n
part_agrees xs memory address n most agrees =
    number_same (slice_index xs) memory address address n (λ i below. agrees (address + i) (omega (arith, below, most)))

-- a line of a memory has the memory's bytes
length-bytes_from : (memory : ℕ → ℕ) (n at : ℕ) → length (bytes_from memory at n) ≡ n
unfolding bytes_from
length-bytes_from memory zero at = refl
length-bytes_from memory (suc n) at = ap suc (length-bytes_from memory n (at + 1))

byte_from : (memory : ℕ → ℕ) (n at i : ℕ) → i < n → get_or (bytes_from memory at n) i 0 ≡ memory (at + i)
unfolding bytes_from
byte_from memory zero at i below = absurd (omega (arith, below))
byte_from memory (suc n) at zero below = let here : at ≡ at + 0 = omega arith in ap memory here
byte_from memory (suc n) at (suc i) below =
    let there : at + 1 + i ≡ at + suc i = omega arith in
    byte_from memory n (at + 1) i (omega (arith, below)) ∙ ap memory there

data_has : (bytes : List ℕ) (test : Bool) (h : eqb (length bytes) LINE_BYTES ≡ test) → length bytes ≡ LINE_BYTES → bytes_of_line (data_by bytes test h) ≡ bytes
data_has bytes true h whole = refl
data_has bytes false h whole = absurd (eqb-false _ _ h whole)

pub line_told : (memory : ℕ → ℕ) (line : Line) (i : ℕ) → i < LINE_BYTES → slice_index (bytes_of_line (line_of_memory memory line)) i ≡ memory (line_number line * LINE_BYTES + i)
line_told memory line i below =
    let at = line_number line * LINE_BYTES in
    let bytes = bytes_from memory at LINE_BYTES in
    ap (λ xs. get_or xs i 0) (data_has bytes (eqb (length bytes) LINE_BYTES) refl (length-bytes_from memory LINE_BYTES at)) ∙ byte_from memory LINE_BYTES at i below
