-- What a front of an image file lacks, and what an image file with more behind it has too much.
use Rattle.std.proofs.Common.{◌≡◌, ◌≢◌, ℕ, zero, suc, ◌+◌, ◌*◌, ◌<◌, ◌≤◌, ◌⊎◌, true, false, leb, List, [], ◌∷◌, ◌++◌, length, take, drop, Option, Some, None, refl, sym, ap, subst, ◌∙◌, inl, inr, arith}
use Rattle.std.specs.Option.{option_or}
use Rattle.std.proofs.lemmas.Bool.{le-leb, lt-leb, leb-true, cases_Bool, cases_lt}
use Rattle.std.proofs.lemmas.List.{length-append, length-drop, drop-append-le, take-append-le}
use Rattle.axp_image.specs.declared.faults.ImageKind.TheVariants.{Short, Extra}
use Rattle.axp_image.specs.declared.layout.TheConstants.{MAGIC, VERSION, MAGIC_AT, VERSION_AT, COUNT_AT, SIZE_AT, ENTRY_AT, STACK_AT, TABLE_AT, HEADER_BYTES, RECORD_BYTES}
use Rattle.axp_image.specs.declared.reading.Header.{Header}
use Rattle.axp_image.specs.declared.reading.Extent.{Extent}
use Rattle.axp_image.specs.Contents.{Contents, contents}
use Rattle.axp_image.specs.Grammar.{◌>>=◌, piece_at, number_at, header_of, extent_at, extents_at, segments_at, image_of}
use Rattle.axp_image.specs.Faults.{Fault, Part, fault_of, first_of, header_parts, record_at, end_before, total, record_part, record_parts, body_parts, first_fault}
use Rattle.axp_image.proofs.ValidityLemmas.{HasHeader, header_has, bind_some, after_header, after_extents}
use Rattle.axp_image.proofs.RecordLemmas.{piece_there}
use Rattle.axp_image.proofs.ReadBackLemmas.{header_again}
use Rattle.axp_image.proofs.FaultLemmas.{header_fault, records_fault, body_fault, by_parts, by_header, body_left}
use Rattle.axp_image.proofs.NoFaultLemmas.{number_within, header_sound, record_sound, records_sound, segments_fill}

-- ---- what lies in a front of a file is the front's

piece_same : (front rest : List ℕ) (at n : ℕ) → at + n ≤ length front → piece_at (front ++ rest) at n ≡ piece_at front at n
piece_same front rest at n within =
    let whole : at + n ≤ length (front ++ rest) = omega (arith, within, length-append front rest) in
    let dropped : drop at (front ++ rest) ≡ drop at front ++ rest = drop-append-le at front rest (omega (arith, within)) in
    let taken : take n (drop at front ++ rest) ≡ take n (drop at front) = take-append-le n (drop at front) rest (omega (arith, within, length-drop at front)) in
    piece_there (front ++ rest) at n whole ∙ ap Some (ap (take n) dropped ∙ taken) ∙ sym (piece_there front at n within)

number_same : (front rest : List ℕ) (at n : ℕ) → at + n ≤ length front → number_at (front ++ rest) at n ≡ number_at front at n
unfolding number_at
number_same front rest at n within = rw (piece_same front rest at n within) refl

extent_same : (front rest : List ℕ) (size from at : ℕ) → at + RECORD_BYTES ≤ length front → extent_at (front ++ rest) size from at ≡ extent_at front size from at
unfolding extent_at
extent_same front rest size from at within = rw (piece_same front rest at RECORD_BYTES within) refl

extents_same : (front rest : List ℕ) (size count from at : ℕ) → at + count * RECORD_BYTES ≤ length front → extents_at (front ++ rest) size count from at ≡ extents_at front size count from at
unfolding extents_at
extents_same front rest size zero from at within = refl
extents_same front rest size (suc count) from at within =
    let more : (e : Extent) → extents_at (front ++ rest) size count (e.address + e.length) (at + RECORD_BYTES) ≡ extents_at front size count (e.address + e.length) (at + RECORD_BYTES) =
    λ e. extents_same front rest size count (e.address + e.length) (at + RECORD_BYTES) (omega (arith, within)) in
    rw (extent_same front rest size from at (omega (arith, within))) (by_case more (extent_at front size from at))
  where
    by_case : ((e : Extent) → extents_at (front ++ rest) size count (e.address + e.length) (at + RECORD_BYTES) ≡ extents_at front size count (e.address + e.length) (at + RECORD_BYTES))
        → (o : Option Extent) → (o >>= λ x. extents_at (front ++ rest) size count (x.address + x.length) (at + RECORD_BYTES) >>= λ xs. Some (x ∷ xs))
        ≡ (o >>= λ x. extents_at front size count (x.address + x.length) (at + RECORD_BYTES) >>= λ xs. Some (x ∷ xs))
    by_case more None = refl
    by_case more (Some e) = rw (more e) refl

header_longer : (front rest : List ℕ) (h : Header) → HEADER_BYTES ≤ length front → HasHeader front h → HasHeader (front ++ rest) h
header_longer front rest h room has = record {
  magic = number_same front rest MAGIC_AT 4 (omega (arith, room)) ∙ has.magic;
  version = number_same front rest VERSION_AT 2 (omega (arith, room)) ∙ has.version;
  count = number_same front rest COUNT_AT 2 (omega (arith, room)) ∙ has.count;
  size = number_same front rest SIZE_AT 8 (omega (arith, room)) ∙ has.size;
  entry = number_same front rest ENTRY_AT 8 (omega (arith, room)) ∙ has.entry;
  stack = number_same front rest STACK_AT 8 (omega (arith, room)) ∙ has.stack;
  table = number_same front rest TABLE_AT 8 (omega (arith, room)) ∙ has.table;
  count_good = has.count_good;
  size_good = has.size_good;
  entry_good = has.entry_good;
  table_good = has.table_good;
}

header_shorter : (front rest : List ℕ) (h : Header) → HEADER_BYTES ≤ length front → HasHeader (front ++ rest) h → HasHeader front h
header_shorter front rest h room has = record {
  magic = sym (number_same front rest MAGIC_AT 4 (omega (arith, room))) ∙ has.magic;
  version = sym (number_same front rest VERSION_AT 2 (omega (arith, room))) ∙ has.version;
  count = sym (number_same front rest COUNT_AT 2 (omega (arith, room))) ∙ has.count;
  size = sym (number_same front rest SIZE_AT 8 (omega (arith, room))) ∙ has.size;
  entry = sym (number_same front rest ENTRY_AT 8 (omega (arith, room))) ∙ has.entry;
  stack = sym (number_same front rest STACK_AT 8 (omega (arith, room))) ∙ has.stack;
  table = sym (number_same front rest TABLE_AT 8 (omega (arith, room))) ∙ has.table;
  count_good = has.count_good;
  size_good = has.size_good;
  entry_good = has.entry_good;
  table_good = has.table_good;
}

-- ---- an image file

-- what is known of a file that is an image
record IsFile (bytes : List ℕ) (h : Header) (es : List Extent) : Type 0 where
  header : HasHeader bytes h
  room : HEADER_BYTES ≤ length bytes
  records : extents_at bytes h.size h.count 0 (record_at 0) ≡ Some es
  records_room : record_at h.count ≤ length bytes
  fills : record_at h.count + total es ≡ length bytes

is_file : (bytes : List ℕ) (c : Contents) → image_of bytes ≡ Some c → (h : Header) × (es : List Extent) × IsFile bytes h es
unfolding image_of
is_file bytes c read =
    let header = bind_some (header_of bytes) (after_header bytes) c read in
    let h = header.0 in
    let extents = bind_some (extents_at bytes h.size h.count 0 HEADER_BYTES) (after_extents bytes h) c header.2 in
    let segments = bind_some (segments_at bytes (HEADER_BYTES + h.count * RECORD_BYTES) extents.0) (λ ss. Some (contents h.size h.entry h.stack h.table ss)) c extents.2 in
    let has = header_has bytes h header.1 in
    let room : HEADER_BYTES ≤ length bytes = leb-true _ _ (number_within bytes TABLE_AT 8 h.table has.table) in
    let records = records_sound bytes h.size 0 h.count 0 extents.0 refl room extents.1 in
    let records_room : record_at h.count ≤ length bytes = omega (arith, records.within) in (
      h,
      extents.0,
      record {
        header = has;
        room = room;
        records = extents.1;
        records_room = records_room;
        fills = segments_fill bytes (record_at h.count) extents.0 segments.0 records_room segments.1;
      },
    )

-- ---- more behind an image

body_long : (len start : ℕ) (es : List Extent) → start + total es < len → first_of len (body_parts len start es) ≡ Some (Extra, start + total es)
body_long len start es long =
    let whole : leb (start + total es) len ≡ true = le-leb _ _ (omega (arith, long)) in
    let end : leb (start + total es + 0) len ≡ true = le-leb _ _ (omega (arith, long)) in
    let more : leb len (start + total es) ≡ false = lt-leb _ _ long in
    rw (whole, end, more) refl

pub more_is_extra : (bytes more : List ℕ) (c : Contents) → image_of bytes ≡ Some c → more ≢ [] → first_fault (bytes ++ more) ≡ Some (Extra, length bytes)
more_is_extra bytes [] c read some = absurd (some refl)
more_is_extra bytes (x ∷ xs) c read some =
    let file = is_file bytes c read in
    let h = file.0 in
    let es = file.1 in
    let is = file.2 in
    let whole = bytes ++ x ∷ xs in
    let longer : length bytes < length whole = omega (arith, length-append bytes (x ∷ xs)) in
    let has = header_longer bytes (x ∷ xs) h is.room is.header in
    let records : extents_at whole h.size h.count 0 (record_at 0) ≡ Some es = extents_same bytes (x ∷ xs) h.size h.count 0 (record_at 0) (omega (arith, is.records_room)) ∙ is.records in
    let placed = records_sound whole h.size 0 h.count 0 es refl (omega (arith, is.room, longer)) records in
    body_left whole h (record_at h.count) es (header_again whole h has) (header_sound whole h has) placed.sound placed.said refl
    ∙ body_long (length whole) (record_at h.count) es (omega (arith, is.fills, longer))
    ∙ ap (λ (n : ℕ). Some (Extra, n)) is.fills

-- ---- a front of an image

-- each part that lies in the file is sound
abbrev AreSound : ℕ → List Part → Type 0
AreSound len [] = Unit {0}
AreSound len (p ∷ ps) = (p.at + p.size ≤ len → p.wrong ≡ None) × AreSound len ps

-- some part does not lie in the file
abbrev SomePast : ℕ → List Part → Type 0
SomePast len [] = ⊥
SomePast len (p ∷ ps) = (len < p.at + p.size) ⊎ SomePast len ps

first_short : (len : ℕ) (ps : List Part) → AreSound len ps → SomePast len ps → first_of len ps ≡ Some (Short, len)
first_short len [] sound past = absurd past
first_short len (p ∷ ps) sound (inl past) = rw (lt-leb _ _ past) refl
first_short len (p ∷ ps) sound (inr past) =
    elim (cases_Bool (leb (p.at + p.size) len)) [
      | inl within ↦ rw (within, sound.0 (leb-true _ _ within)) (first_short len ps sound.1 past)
      | inr over ↦ rw over refl
    ]

-- a number that lies in a front is the file's
number_cut : (front rest : List ℕ) (at n x : ℕ) → number_at (front ++ rest) at n ≡ Some x → at + n ≤ length front → number_at front at n ≡ Some x
number_cut front rest at n x read within = sym (number_same front rest at n within) ∙ read

header_cut : (front rest : List ℕ) (h : Header) → HasHeader (front ++ rest) h → length front < HEADER_BYTES → header_fault front ≡ Some (Short, length front)
header_cut front rest h has cut =
    first_short (length front) (header_parts front) (
      λ within. rw (number_cut front rest MAGIC_AT 4 MAGIC has.magic within) refl,
      (
        λ within. rw (number_cut front rest VERSION_AT 2 VERSION has.version within) refl,
        (
          λ within. rw (number_cut front rest COUNT_AT 2 h.count has.count within, has.count_good) refl,
          (
            λ within. rw (number_cut front rest SIZE_AT 8 h.size has.size within, has.size_good) refl,
            (
              λ within. rw (number_cut front rest SIZE_AT 8 h.size has.size (omega (arith, within)), number_cut front rest ENTRY_AT 8 h.entry has.entry within, has.entry_good) refl,
              (
                λ within. refl,
                (
                  λ within. rw (number_cut front rest SIZE_AT 8 h.size has.size (omega (arith, within)), number_cut front rest TABLE_AT 8 h.table has.table within, has.table_good) refl,
                  tt,
                ),
              ),
            ),
          ),
        ),
      ),
    )
    (inr (inr (inr (inr (inr (inr (inl cut)))))))

records_cut : (front rest : List ℕ) (size n count from : ℕ) (es : List Extent) → from ≡ end_before front n → record_at n ≤ length front → length front < record_at (n + count)
    → extents_at (front ++ rest) size count from (record_at n) ≡ Some es → first_of (length front) (record_parts front size n count) ≡ Some (Short, length front)
unfolding extents_at
records_cut front rest size n zero from es is before cut read = absurd (omega (arith, before, cut))
records_cut front rest size n (suc count) from es is before cut read =
    let first = bind_some (extent_at (front ++ rest) size from (record_at n)) (λ x. extents_at (front ++ rest) size count (x.address + x.length) (record_at n + RECORD_BYTES) >>= λ xs. Some (x ∷ xs)) es read in
    let others = bind_some (extents_at (front ++ rest) size count (first.0.address + first.0.length) (record_at n + RECORD_BYTES)) (λ xs. Some (first.0 ∷ xs)) es first.2 in
    let next : record_at n + RECORD_BYTES ≡ record_at (suc n) = omega arith in
    let behind : extents_at (front ++ rest) size count (first.0.address + first.0.length) (record_at (suc n)) ≡ Some others.0 = ap (λ (at : ℕ). extents_at (front ++ rest) size count (first.0.address + first.0.length) at) (sym next) ∙ others.1 in
    elim (cases_Bool (leb (record_at n + RECORD_BYTES) (length front))) [
      | inl there ↦
          let within : record_at n + RECORD_BYTES ≤ length front = leb-true _ _ there in
          let own : extent_at front size from (record_at n) ≡ Some first.0 = sym (extent_same front rest size from (record_at n) within) ∙ first.1 in
          let here = record_sound front size from (record_at n) first.0 own in
          let passed : fault_of (length front) (record_part front size (end_before front n) (record_at n)) ≡ None = subst (λ (f : ℕ). fault_of (length front) (record_part front size f (record_at n)) ≡ None) is here.sound in
          let more = records_cut front rest size (suc n) count (first.0.address + first.0.length) others.0 (ap (λ (x : Extent). x.address + x.length) here.said) (omega (arith, within)) (omega (arith, cut)) behind in
          rw passed more
      | inr over ↦ rw over refl
    ]

or_first : {A : Type 0} (x y : Option A) (f : A) → x ≡ Some f → option_or x y ≡ Some f
or_first x y f is = rw is refl

body_cut : (len start : ℕ) (es : List Extent) → len < start + total es → first_of len (body_parts len start es) ≡ Some (Short, len)
body_cut len start es cut = rw (lt-leb _ _ cut) refl

pub cut_is_short : (front rest : List ℕ) (c : Contents) → image_of (front ++ rest) ≡ Some c → rest ≢ [] → first_fault front ≡ Some (Short, length front)
cut_is_short front [] c read some = absurd (some refl)
cut_is_short front (x ∷ xs) c read some =
    let rest = x ∷ xs in
    let file = is_file (front ++ rest) c read in
    let h = file.0 in
    let es = file.1 in
    let is = file.2 in
    let len = length front in
    let shorter : len < length (front ++ rest) = omega (arith, length-append front rest) in
    elim (cases_lt len HEADER_BYTES) [
      | inl early ↦ by_parts front ∙ or_first (header_fault front) _ (Short, len) (header_cut front rest h is.header early)
      | inr room ↦
          let has = header_shorter front rest h room is.header in
          let after : first_fault front ≡ option_or (records_fault front h.size h.count) (body_fault front h.count) =
          by_header front h (header_again front h has) ∙ ap (λ (f : Option Fault). option_or f (option_or (records_fault front h.size h.count) (body_fault front h.count))) (header_sound front h has) in
          elim (cases_lt len (record_at h.count)) [
            | inl early ↦
                after ∙ ap (λ (f : Option Fault). option_or f (body_fault front h.count)) (records_cut front rest h.size 0 h.count 0 es refl (omega (arith, room)) (omega (arith, early)) is.records)
            | inr late ↦
                let records : extents_at front h.size h.count 0 (record_at 0) ≡ Some es = sym (extents_same front rest h.size h.count 0 (record_at 0) (omega (arith, late))) ∙ is.records in
                let placed = records_sound front h.size 0 h.count 0 es refl (omega (arith, room)) records in
                body_left front h (record_at h.count) es (header_again front h has) (header_sound front h has) placed.sound placed.said refl
                ∙ body_cut len (record_at h.count) es (omega (arith, is.fills, shorter))
          ]
    ]
