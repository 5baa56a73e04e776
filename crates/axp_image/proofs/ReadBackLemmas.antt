-- The spelling of what is valid is read as it.
use Rattle.std.proofs.Common.{◌≡◌, ℕ, suc, ◌+◌, ◌-◌, ◌*◌, ◌/◌, ◌^◌, ◌<◌, ◌≤◌, true, false, leb, ltb, List, [], ◌∷◌, ◌++◌, length, map, take, drop, Some, refl, sym, ap, ◌∙◌, append_assoc, arith, lit≤, lit<}
use Rattle.std.specs.List.{flat_map}
use Rattle.std.proofs.lemmas.Bool.{and_from, eq-eqb, le-leb, lt-ltb, le-ltb}
use Rattle.std.proofs.lemmas.List.{append-nil, drop-drop, take_at, drop_at, length-drop, length-append}
use Rattle.byteorder.specs.Endian.{little_number, little_bytes}
use Rattle.byteorder.specs.Numbers.{little_number-reads_back, length-bytes_low_first}
use Rattle.axp_image.specs.declared.limits.TheConstants.{PAGE_BYTES, MAX_MEMORY}
use Rattle.axp_image.specs.declared.layout.TheConstants.{MAGIC, VERSION, MAGIC_AT, VERSION_AT, COUNT_AT, SIZE_AT, ENTRY_AT, STACK_AT, TABLE_AT, HEADER_BYTES, RECORD_BYTES, ADDRESS_AT, LENGTH_AT, ZERO_AT}
use Rattle.axp_image.specs.declared.reading.Header.{Header}
use Rattle.axp_image.specs.declared.reading.Extent.{Extent}
use Rattle.axp_image.specs.Contents.{Segment, Contents, end_of, IsPlaced, ArePlaced, IsValid}
use Rattle.axp_image.specs.Grammar.{piece_at, number_at, header_of, is_extent, extent, extent_at, extents_at, segments_at, image_of}
use Rattle.axp_image.specs.Spelling.{number_bytes, format_bytes, header_bytes, record_of, bytes_of, spelling}
use Rattle.axp_image.proofs.ValidityLemmas.{HasHeader}

-- what stands in a file from an offset on: a piece, and the rest
record Stands (file : List ℕ) (at : ℕ) (piece rest : List ℕ) : Type 0 where
  read : piece_at file at (length piece) ≡ Some piece
  behind : drop (at + length piece) file ≡ rest

stands : (file : List ℕ) (at : ℕ) (piece rest : List ℕ) → 1 ≤ length piece → drop at file ≡ piece ++ rest → Stands file at piece rest
unfolding piece_at
stands file at piece rest some there =
    let n = length piece in
    let room : n + length rest ≡ length file - at = sym (length-append piece rest) ∙ ap length (sym there) ∙ length-drop at file in
    let within : leb (at + n) (length file) ≡ true = le-leb _ _ (omega arith) in
    let own : take n (drop at file) ≡ piece = ap (take n) there ∙ take_at piece rest n refl in
    record {
      read = rw (within, own) refl;
      behind = sym (drop-drop n at file) ∙ ap (drop n) there ∙ drop_at piece rest n refl;
    }

-- a number of n bytes that stands in a file is read, and the rest stands behind it
number_again : (file : List ℕ) (at n x : ℕ) (rest : List ℕ) → 1 ≤ n → x < 256 ^ n → drop at file ≡ little_bytes n x ++ rest
    → (number_at file at n ≡ Some x) × (drop (at + n) file ≡ rest)
unfolding number_at
number_again file at n x rest some small there =
    let len : length (little_bytes n x) ≡ n = length-bytes_low_first 0 n x in
    let found = stands file at (little_bytes n x) rest (omega (arith, len)) there in
    let piece : piece_at file at n ≡ Some (little_bytes n x) = ap (piece_at file at) (sym len) ∙ found.read in
    let value : little_number n (little_bytes n x) ≡ x = ap (little_number n) (sym (append-nil (little_bytes n x))) ∙ little_number-reads_back n x [] small in
    (rw piece (ap Some value), ap (λ (k : ℕ). drop (at + k) file) (sym len) ∙ found.behind)

-- ---- records

record_again : (file : List ℕ) (size from at : ℕ) (s : Segment) (rest : List ℕ) → size ≤ MAX_MEMORY → IsPlaced size from s → drop at file ≡ record_of s ++ rest
    → (extent_at file size from at ≡ Some (extent s.address (length s.bytes))) × (drop (at + RECORD_BYTES) file ≡ rest)
unfolding extent_at record_of number_bytes
record_again file size from at s rest most placed there =
    let found = stands file at (record_of s) rest (lit≤ tt) there in
    let a = number_again (record_of s) ADDRESS_AT 8 s.address (little_bytes 4 (length s.bytes) ++ little_bytes 4 0) (lit≤ tt) (omega (arith, placed.within)) refl in
    let n = number_again (record_of s) LENGTH_AT 4 (length s.bytes) (little_bytes 4 0) (lit≤ tt) (omega (arith, placed.within)) a.1 in
    let z = number_again (record_of s) ZERO_AT 4 0 [] (lit≤ tt) (lit< tt) n.1 in
    let passed : is_extent size from (extent s.address (length s.bytes)) 0 ≡ true =
    and_from (leb from s.address) _ (le-leb _ _ placed.above) (and_from (leb 1 (length s.bytes)) _ (le-leb _ _ placed.not_empty) (and_from (leb (end_of s) size) _ (le-leb _ _ placed.within) refl)) in
    (rw (found.read, a.0, n.0, z.0, passed) refl, found.behind)

abbrev extents_of : List Segment → List Extent
extents_of ss = map (λ s. extent s.address (length s.bytes)) ss

records_again : (file : List ℕ) (size from at : ℕ) (ss : List Segment) (rest : List ℕ) → size ≤ MAX_MEMORY → ArePlaced size from ss → drop at file ≡ flat_map record_of ss ++ rest
    → (extents_at file size (length ss) from at ≡ Some (extents_of ss)) × (drop (at + length ss * RECORD_BYTES) file ≡ rest)
unfolding extents_at
records_again file size from at [] rest most placed there =
    let same : at + 0 * RECORD_BYTES ≡ at = omega arith in
    (refl, ap (λ (n : ℕ). drop n file) same ∙ there)
records_again file size from at (s ∷ ss) rest most placed there =
    let first = record_again file size from at s (flat_map record_of ss ++ rest) most placed.0 (there ∙ append_assoc (record_of s) (flat_map record_of ss) rest) in
    let others = records_again file size (end_of s) (at + RECORD_BYTES) ss rest most placed.1 first.1 in
    let same : at + suc (length ss) * RECORD_BYTES ≡ at + RECORD_BYTES + length ss * RECORD_BYTES = omega arith in
    (rw (first.0, others.0) refl, ap (λ (n : ℕ). drop n file) same ∙ others.1)

-- ---- segments

segments_again : (file : List ℕ) (size from at : ℕ) (ss : List Segment) → ArePlaced size from ss → drop at file ≡ flat_map bytes_of ss
    → segments_at file at (extents_of ss) ≡ Some ss
unfolding segments_at
segments_again file size from at [] placed there =
    let room : length file - at ≡ 0 = sym (length-drop at file) ∙ ap length there in
    let past : ltb at (length file) ≡ false = le-ltb _ _ (omega arith) in
    rw past refl
segments_again file size from at (s ∷ ss) placed there =
    let own = stands file at s.bytes (flat_map bytes_of ss) placed.0.not_empty there in
    let others = segments_again file size (end_of s) (at + length s.bytes) ss placed.1 own.behind in
    rw (own.read, others) refl

-- ---- the whole

pub header_again : (bytes : List ℕ) (h : Header) → HasHeader bytes h → header_of bytes ≡ Some h
unfolding header_of
header_again bytes h has =
    rw (has.magic, has.version, has.count, has.count_good, has.size, has.size_good, has.entry, has.entry_good, has.stack, has.table, has.table_good) refl

pub header_fields : Contents → Header
header_fields c = record { count = length c.segments; size = c.size; entry = c.entry; stack = c.stack; table = c.table }

-- the bytes of a file from each field on
abbrev tail_segments : Contents → List ℕ
tail_segments c = flat_map record_of c.segments ++ flat_map bytes_of c.segments

abbrev tail_table : Contents → List ℕ
tail_table c = little_bytes 8 c.table ++ tail_segments c

abbrev tail_stack : Contents → List ℕ
tail_stack c = little_bytes 8 c.stack ++ tail_table c

abbrev tail_entry : Contents → List ℕ
tail_entry c = little_bytes 8 c.entry ++ tail_stack c

abbrev tail_size : Contents → List ℕ
tail_size c = little_bytes 8 c.size ++ tail_entry c

abbrev tail_count : Contents → List ℕ
tail_count c = little_bytes 2 (length c.segments) ++ tail_size c

abbrev tail_version : Contents → List ℕ
tail_version c = little_bytes 2 VERSION ++ tail_count c

has_header : (file : List ℕ) (c : Contents) → IsValid c → file ≡ little_bytes 4 MAGIC ++ tail_version c
    → HasHeader file (header_fields c) × (drop HEADER_BYTES file ≡ tail_segments c)
unfolding header_fields
has_header file c valid there =
    let pages : c.size / PAGE_BYTES ≤ c.size = omega arith in
    let magic = number_again file MAGIC_AT 4 MAGIC (tail_version c) (lit≤ tt) (lit< tt) there in
    let version = number_again file VERSION_AT 2 VERSION (tail_count c) (lit≤ tt) (lit< tt) magic.1 in
    let count = number_again file COUNT_AT 2 (length c.segments) (tail_size c) (lit≤ tt) (omega (arith, valid.count)) version.1 in
    let size = number_again file SIZE_AT 8 c.size (tail_entry c) (lit≤ tt) (omega (arith, valid.most_size)) count.1 in
    let entry = number_again file ENTRY_AT 8 c.entry (tail_stack c) (lit≤ tt) (omega (arith, valid.most_entry, valid.most_size)) size.1 in
    let stack = number_again file STACK_AT 8 c.stack (tail_table c) (lit≤ tt) valid.stack_word entry.1 in
    let table = number_again file TABLE_AT 8 c.table (tail_segments c) (lit≤ tt) (omega (arith, valid.table_page, valid.most_size, pages)) stack.1 in (
      record {
        magic = magic.0;
        version = version.0;
        count = count.0;
        size = size.0;
        entry = entry.0;
        stack = stack.0;
        table = table.0;
        count_good = le-leb _ _ valid.count;
        size_good = and_from _ _ (eq-eqb _ _ valid.whole_pages) (and_from _ _ (le-leb _ _ valid.least_size) (le-leb _ _ valid.most_size));
        entry_good = and_from _ _ (eq-eqb _ _ valid.entry_aligned) (and_from _ _ (le-leb _ _ valid.least_entry) (le-leb _ _ valid.most_entry));
        table_good = lt-ltb _ _ valid.table_page;
      },
      table.1,
    )

read_again : (file : List ℕ) (c : Contents) → IsValid c → file ≡ little_bytes 4 MAGIC ++ tail_version c → image_of file ≡ Some c
unfolding image_of header_fields
read_again file c valid there =
    let header = has_header file c valid there in
    let found : header_of file ≡ Some (header_fields c) = header_again file (header_fields c) header.0 in
    let records = records_again file c.size 0 HEADER_BYTES c.segments (flat_map bytes_of c.segments) valid.most_size valid.placed header.1 in
    let segments = segments_again file c.size 0 (HEADER_BYTES + length c.segments * RECORD_BYTES) c.segments valid.placed records.1 in
    rw (found, records.0, segments) refl

pub spelling_again : (c : Contents) → IsValid c → image_of (spelling c) ≡ Some c
unfolding spelling header_bytes format_bytes record_of number_bytes
spelling_again c valid = read_again (spelling c) c valid refl
