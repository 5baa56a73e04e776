-- A file has no fault exactly where it is an image.
use Rattle.std.proofs.Common.{◌≡◌, ℕ, zero, suc, ◌+◌, ◌*◌, ◌/◌, ◌≤◌, Bool, true, false, leb, ltb, eqb, cond, List, [], ◌∷◌, length, take, drop, Option, Some, None, refl, sym, ap, subst, ◌∙◌, ◌↔◌, IsSome, arith}
use Rattle.std.specs.Option.{option_map, option_or}
use Rattle.std.proofs.lemmas.Option.{none-some}
use Rattle.std.proofs.lemmas.Bool.{and_from, le-leb, leb-true, le-ltb, eqb-true}
use Rattle.byteorder.specs.Endian.{little_number}
use Rattle.axp_image.specs.declared.faults.ImageKind.{ImageKind}
use Rattle.axp_image.specs.declared.faults.ImageKind.TheVariants as shorts
use Rattle.axp_image.specs.declared.limits.TheConstants.{PAGE_BYTES, MAX_SEGMENTS}
use Rattle.axp_image.specs.declared.layout.TheConstants.{MAGIC, VERSION, MAGIC_AT, VERSION_AT, COUNT_AT, SIZE_AT, ENTRY_AT, STACK_AT, TABLE_AT, HEADER_BYTES, RECORD_BYTES, ADDRESS_AT, LENGTH_AT, ZERO_AT}
use Rattle.axp_image.specs.declared.reading.Header.{Header}
use Rattle.axp_image.specs.declared.reading.Extent.{Extent}
use Rattle.axp_image.specs.Contents.{Segment, Contents, contents, segment_of}
use Rattle.axp_image.specs.Grammar.{◌>>=◌, piece_at, number_at, is_memory_size, is_entry, header_of, is_extent, extent, extent_at, extents_at, segments_at, image_of}
use Rattle.axp_image.specs.Faults.{Fault, Part, tested, untested, fault_of, first_of, header_parts, record_at, extent_in, extents_in, end_before, total, record_part, record_parts, body_parts, number_in, first_fault}
use Rattle.axp_image.proofs.ValidityLemmas.{HasHeader, header_has, extent_has, bind_some, some_is, guard_none, piece_some, after_header, after_extents}
use Rattle.axp_image.proofs.RecordLemmas.{number_inside, piece_there, extent_there}
use Rattle.axp_image.proofs.ReadBackLemmas.{header_again}
use Rattle.axp_image.proofs.FaultLemmas.{header_fault, records_fault, body_fault, by_parts, none_left}

-- ---- an image has no fault

-- a number that is read lies in the file
pub number_within : (bytes : List ℕ) (at n x : ℕ) → number_at bytes at n ≡ Some x → leb (at + n) (length bytes) ≡ true
unfolding number_at
number_within bytes at n x read =
    let piece = bind_some (piece_at bytes at n) (λ p. Some (little_number n p)) x read in
    le-leb _ _ (piece_some bytes at n piece.0 piece.1).0

pub header_sound : (bytes : List ℕ) (h : Header) → HasHeader bytes h → header_fault bytes ≡ None
header_sound bytes h has =
    let w_magic = number_within bytes MAGIC_AT 4 MAGIC has.magic in
    let w_version = number_within bytes VERSION_AT 2 VERSION has.version in
    let w_count = number_within bytes COUNT_AT 2 h.count has.count in
    let w_size = number_within bytes SIZE_AT 8 h.size has.size in
    let w_entry = number_within bytes ENTRY_AT 8 h.entry has.entry in
    let w_stack = number_within bytes STACK_AT 8 h.stack has.stack in
    let w_table = number_within bytes TABLE_AT 8 h.table has.table in
    rw (w_magic, w_version, w_count, w_size, w_entry, w_stack, w_table, has.magic, has.version, has.count, has.size, has.entry, has.table, has.count_good, has.size_good, has.entry_good, has.table_good) refl

pub record ReadsRecord (bytes : List ℕ) (size from at : ℕ) (e : Extent) : Type 0 where
  pub sound : fault_of (length bytes) (record_part bytes size from at) ≡ None
  pub said : e ≡ extent_in bytes at
  pub within : at + RECORD_BYTES ≤ length bytes

pub record_sound : (bytes : List ℕ) (size from at : ℕ) (e : Extent) → extent_at bytes size from at ≡ Some e → ReadsRecord bytes size from at e
record_sound bytes size from at e read =
    let has = extent_has bytes size from at e read in
    let within = (piece_some bytes at RECORD_BYTES has.piece has.piece_is).0 in
    let piece = (piece_some bytes at RECORD_BYTES has.piece has.piece_is).1 in
    let a : number_at bytes (at + ADDRESS_AT) 8 ≡ Some e.address = sym (number_inside bytes at RECORD_BYTES ADDRESS_AT 8 within (omega arith)) ∙ ap (λ (p : List ℕ). number_at p ADDRESS_AT 8) piece ∙ has.address in
    let l : number_at bytes (at + LENGTH_AT) 4 ≡ Some e.length = sym (number_inside bytes at RECORD_BYTES LENGTH_AT 4 within (omega arith)) ∙ ap (λ (p : List ℕ). number_at p LENGTH_AT 4) piece ∙ has.len in
    let z : number_at bytes (at + ZERO_AT) 4 ≡ Some 0 = sym (number_inside bytes at RECORD_BYTES ZERO_AT 4 within (omega arith)) ∙ ap (λ (p : List ℕ). number_at p ZERO_AT 4) piece ∙ has.zero_word in
    let passed : is_extent size from (extent e.address e.length) 0 ≡ true =
    and_from (leb from e.address) _ (le-leb _ _ has.placed.above) (and_from (leb 1 e.length) _ (le-leb _ _ has.placed.not_empty) (and_from (leb (e.address + e.length) size) _ (le-leb _ _ has.placed.within) refl)) in
    let here : leb (at + RECORD_BYTES) (length bytes) ≡ true = le-leb _ _ within in
    record { sound = rw (here, a, l, z, passed) refl; said = rw (a, l) refl; within = within }

pub record ReadsRecords (bytes : List ℕ) (size n count : ℕ) (es : List Extent) : Type 0 where
  pub sound : first_of (length bytes) (record_parts bytes size n count) ≡ None
  pub said : es ≡ extents_in bytes n count
  pub within : record_at (n + count) ≤ length bytes

pub records_sound : (bytes : List ℕ) (size n count from : ℕ) (es : List Extent) → from ≡ end_before bytes n → record_at n ≤ length bytes
    → extents_at bytes size count from (record_at n) ≡ Some es → ReadsRecords bytes size n count es
unfolding extents_at
records_sound bytes size n zero from es is before read =
    record { sound = refl; said = sym (some_is [] es read); within = omega (arith, before) }
records_sound bytes size n (suc count) from es is before read =
    let first = bind_some (extent_at bytes size from (record_at n)) (λ x. extents_at bytes size count (x.address + x.length) (record_at n + RECORD_BYTES) >>= λ xs. Some (x ∷ xs)) es read in
    let others = bind_some (extents_at bytes size count (first.0.address + first.0.length) (record_at n + RECORD_BYTES)) (λ xs. Some (first.0 ∷ xs)) es first.2 in
    let here = record_sound bytes size from (record_at n) first.0 first.1 in
    let next : record_at n + RECORD_BYTES ≡ record_at (suc n) = omega arith in
    let behind : extents_at bytes size count (first.0.address + first.0.length) (record_at (suc n)) ≡ Some others.0 = ap (λ (at : ℕ). extents_at bytes size count (first.0.address + first.0.length) at) (sym next) ∙ others.1 in
    let rest = records_sound bytes size (suc n) count (first.0.address + first.0.length) others.0 (ap (λ (x : Extent). x.address + x.length) here.said) (omega (arith, here.within)) behind in
    let passed : fault_of (length bytes) (record_part bytes size (end_before bytes n) (record_at n)) ≡ None = subst (λ (f : ℕ). fault_of (length bytes) (record_part bytes size f (record_at n)) ≡ None) is here.sound in
    record {
      sound = rw (passed, rest.sound) refl;
      said = sym (some_is (first.0 ∷ others.0) es others.2) ∙ ap (λ (x : Extent). x ∷ others.0) here.said ∙ ap (λ (xs : List Extent). extent_in bytes (record_at n) ∷ xs) rest.said;
      within = omega (arith, rest.within);
    }

-- the segments' bytes end with the file
pub segments_fill : (bytes : List ℕ) (at : ℕ) (es : List Extent) (ss : List Segment) → at ≤ length bytes → segments_at bytes at es ≡ Some ss → at + total es ≡ length bytes
unfolding segments_at
segments_fill bytes at [] ss within read =
    let past = guard_none (ltb at (length bytes)) [] ss read in
    omega (arith, within, ltb_false at (length bytes) past.0)
  where
    ltb_false : (m n : ℕ) → ltb m n ≡ false → n ≤ m
    ltb_false m n h = grind arith
segments_fill bytes at (e ∷ es) ss within read =
    let own = bind_some (piece_at bytes at e.length) (λ x. segments_at bytes (at + e.length) es >>= λ xs. Some (segment_of e.address x ∷ xs)) ss read in
    let others = bind_some (segments_at bytes (at + e.length) es) (λ xs. Some (segment_of e.address own.0 ∷ xs)) ss own.2 in
    let rest = segments_fill bytes (at + e.length) es others.0 (piece_some bytes at e.length own.0 own.1).0 others.1 in
    omega (arith, rest)

body_sound : (len start : ℕ) (es : List Extent) → start + total es ≡ len → first_of len (body_parts len start es) ≡ None
body_sound len start es fills =
    let whole : leb (start + total es) len ≡ true = le-leb _ _ (omega (arith, fills)) in
    let end : leb (start + total es + 0) len ≡ true = le-leb _ _ (omega (arith, fills)) in
    let none : leb len (start + total es) ≡ true = le-leb _ _ (omega (arith, fills)) in
    rw (whole, end, none) refl

pub image_sound : (bytes : List ℕ) (c : Contents) → image_of bytes ≡ Some c → first_fault bytes ≡ None
unfolding image_of
image_sound bytes c read =
    let header = bind_some (header_of bytes) (after_header bytes) c read in
    let h = header.0 in
    let extents = bind_some (extents_at bytes h.size h.count 0 HEADER_BYTES) (after_extents bytes h) c header.2 in
    let segments = bind_some (segments_at bytes (HEADER_BYTES + h.count * RECORD_BYTES) extents.0) (λ ss. Some (contents h.size h.entry h.stack h.table ss)) c extents.2 in
    let has = header_has bytes h header.1 in
    let room : HEADER_BYTES ≤ length bytes = leb-true _ _ (number_within bytes TABLE_AT 8 h.table has.table) in
    let records = records_sound bytes h.size 0 h.count 0 extents.0 refl room extents.1 in
    let fills = segments_fill bytes (record_at h.count) extents.0 segments.0 (omega (arith, records.within)) segments.1 in
    none_left bytes h (record_at h.count) extents.0 header.1 (header_sound bytes h has) records.sound records.said refl (body_sound (length bytes) (record_at h.count) extents.0 fills)

-- ---- what has no fault is an image

or_none : {A : Type 0} (x y : Option A) → option_or x y ≡ None → (x ≡ None) × (y ≡ None)
or_none None y h = (refl, h)
or_none (Some x) y h = absurd cc

-- a part without a fault is in the file and passes its test
part_passes : (len at n : ℕ) (kind : ImageKind) (passes : Bool) → fault_of len (tested at n kind passes) ≡ None → (leb (at + n) len ≡ true) × (passes ≡ true)
part_passes len at n kind passes h = by_case (leb (at + n) len) passes h
  where
    by_case : (b p : Bool) → cond b (option_map {U = Fault} (λ k. (k, at)) (cond p None (Some kind))) (Some (shorts.Short, len)) ≡ None → (b ≡ true) × (p ≡ true)
    by_case true true g = (refl, refl)
    by_case true false g = absurd cc
    by_case false p g = absurd cc

abbrev AllPass : ℕ → List Part → Type 0
AllPass len [] = Unit {0}
AllPass len (p ∷ ps) = (fault_of len p ≡ None) × AllPass len ps

all_pass : (len : ℕ) (ps : List Part) → first_of len ps ≡ None → AllPass len ps
all_pass len [] h = tt
all_pass len (p ∷ ps) h =
    let both = or_none (fault_of len p) (first_of len ps) h in
    (both.0, all_pass len ps both.1)

-- an untested part without a fault is in the file
part_there : (len at n : ℕ) → fault_of len (untested at n) ≡ None → leb (at + n) len ≡ true
part_there len at n h = by_case (leb (at + n) len) h
  where
    by_case : (b : Bool) → cond b (option_map {U = Fault} (λ k. (k, at)) None) (Some (shorts.Short, len)) ≡ None → b ≡ true
    by_case true g = refl
    by_case false g = absurd cc

number_there : (bytes : List ℕ) (at n : ℕ) → leb (at + n) (length bytes) ≡ true → number_at bytes at n ≡ Some (number_in bytes at n)
unfolding number_at piece_at
number_there bytes at n within = rw within refl

header_in : List ℕ → Header
header_in bytes = record {
  count = number_in bytes COUNT_AT 2;
  size = number_in bytes SIZE_AT 8;
  entry = number_in bytes ENTRY_AT 8;
  stack = number_in bytes STACK_AT 8;
  table = number_in bytes TABLE_AT 8;
}

header_reads : (bytes : List ℕ) → header_fault bytes ≡ None → header_of bytes ≡ Some (header_in bytes)
unfolding header_in
header_reads bytes sound =
    let len = length bytes in
    let memory = number_in bytes SIZE_AT 8 in
    let all = all_pass len (header_parts bytes) sound in
    let magic = part_passes len MAGIC_AT 4 _ (eqb (number_in bytes MAGIC_AT 4) MAGIC) all.0 in
    let version = part_passes len VERSION_AT 2 _ (eqb (number_in bytes VERSION_AT 2) VERSION) all.1.0 in
    let count = part_passes len COUNT_AT 2 _ (leb (number_in bytes COUNT_AT 2) MAX_SEGMENTS) all.1.1.0 in
    let size = part_passes len SIZE_AT 8 _ (is_memory_size memory) all.1.1.1.0 in
    let entry = part_passes len ENTRY_AT 8 _ (is_entry memory (number_in bytes ENTRY_AT 8)) all.1.1.1.1.0 in
    let stack = part_there len STACK_AT 8 all.1.1.1.1.1.0 in
    let table = part_passes len TABLE_AT 8 _ (ltb (number_in bytes TABLE_AT 8) (memory / PAGE_BYTES)) all.1.1.1.1.1.1.0 in
    header_again bytes (header_in bytes) (record {
      magic = number_there bytes MAGIC_AT 4 magic.0 ∙ ap Some (eqb-true _ _ magic.1);
      version = number_there bytes VERSION_AT 2 version.0 ∙ ap Some (eqb-true _ _ version.1);
      count = number_there bytes COUNT_AT 2 count.0;
      size = number_there bytes SIZE_AT 8 size.0;
      entry = number_there bytes ENTRY_AT 8 entry.0;
      stack = number_there bytes STACK_AT 8 stack;
      table = number_there bytes TABLE_AT 8 table.0;
      count_good = count.1;
      size_good = size.1;
      entry_good = entry.1;
      table_good = table.1;
    })

record_reads : (bytes : List ℕ) (size from at : ℕ) → fault_of (length bytes) (record_part bytes size from at) ≡ None → extent_at bytes size from at ≡ Some (extent_in bytes at)
record_reads bytes size from at sound =
    let passed = part_passes (length bytes) at RECORD_BYTES _ (is_extent size from (extent_in bytes at) (number_in bytes (at + ZERO_AT) 4)) sound in
    let within : at + RECORD_BYTES ≤ length bytes = leb-true _ _ passed.0 in
    extent_there bytes size from at _ _ _ within
    (number_there bytes (at + ADDRESS_AT) 8 (le-leb _ _ (omega arith)))
    (number_there bytes (at + LENGTH_AT) 4 (le-leb _ _ (omega arith)))
    (number_there bytes (at + ZERO_AT) 4 (le-leb _ _ (omega arith)))
    passed.1

records_read : (bytes : List ℕ) (size n count : ℕ) → first_of (length bytes) (record_parts bytes size n count) ≡ None
    → extents_at bytes size count (end_before bytes n) (record_at n) ≡ Some (extents_in bytes n count)
unfolding extents_at
records_read bytes size n zero sound = refl
records_read bytes size n (suc count) sound =
    let both = or_none (fault_of (length bytes) (record_part bytes size (end_before bytes n) (record_at n))) (first_of (length bytes) (record_parts bytes size (suc n) count)) sound in
    let next : record_at n + RECORD_BYTES ≡ record_at (suc n) = omega arith in
    rw (record_reads bytes size (end_before bytes n) (record_at n) both.0, next, records_read bytes size (suc n) count both.1) refl

segments_read : (bytes : List ℕ) (at : ℕ) (es : List Extent) → at + total es ≡ length bytes → (ss : List Segment) × (segments_at bytes at es ≡ Some ss)
unfolding segments_at
segments_read bytes at [] fills = ([], rw (le-ltb at (length bytes) (omega (arith, fills))) refl)
segments_read bytes at (e ∷ es) fills =
    let own = take e.length (drop at bytes) in
    let here : piece_at bytes at e.length ≡ Some own = piece_there bytes at e.length (omega (arith, fills)) in
    let rest = segments_read bytes (at + e.length) es (omega (arith, fills)) in
    (segment_of e.address own ∷ rest.0, rw (here, rest.1) refl)

body_fills : (len start : ℕ) (es : List Extent) → first_of len (body_parts len start es) ≡ None → start + total es ≡ len
body_fills len start es sound =
    let all = all_pass len (body_parts len start es) sound in
    let whole = leb-true _ _ (part_there len start (total es) all.0) in
    let end = leb-true _ _ (part_passes len (start + total es) 0 _ (leb len (start + total es)) all.1.0).1 in
    omega (arith, whole, end)

image_reads : (bytes : List ℕ) → first_fault bytes ≡ None → (c : Contents) × (image_of bytes ≡ Some c)
unfolding image_of header_in
image_reads bytes sound =
    let h = header_in bytes in
    let parts = or_none (header_fault bytes) _ (sym (by_parts bytes) ∙ sound) in
    let header = header_reads bytes parts.0 in
    let both = or_none (records_fault bytes h.size h.count) (body_fault bytes h.count) parts.1 in
    let extents = records_read bytes h.size 0 h.count both.0 in
    let segments = segments_read bytes (record_at h.count) (extents_in bytes 0 h.count) (body_fills (length bytes) (record_at h.count) (extents_in bytes 0 h.count) both.1) in
    (contents h.size h.entry h.stack h.table segments.0, rw (header, extents, segments.1) refl)

-- ---- both

pub sound_image : (bytes : List ℕ) → (first_fault bytes ≡ None) ↔ IsSome (image_of bytes)
sound_image bytes = (
  λ sound. subst IsSome (sym (image_reads bytes sound).1) refl,
  λ some. by_case (image_of bytes) refl some,
)
  where
    by_case : (o : Option Contents) → image_of bytes ≡ o → IsSome o → first_fault bytes ≡ None
    by_case None read some = absurd cc
    by_case (Some c) read some = image_sound bytes c read

pub fault_is_no_image : (bytes : List ℕ) (f : Fault) → first_fault bytes ≡ Some f → image_of bytes ≡ None
fault_is_no_image bytes f fault = by_case (image_of bytes) refl
  where
    by_case : (o : Option Contents) → image_of bytes ≡ o → o ≡ None
    by_case None read = refl
    by_case (Some c) read = absurd (none-some f (sym (image_sound bytes c read) ∙ fault))
