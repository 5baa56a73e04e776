-- What a file in the grammar says is valid.
use Rattle.std.proofs.Common.{◌≡◌, ℕ, zero, suc, ◌+◌, ◌-◌, ◌*◌, ◌/◌, ◌%◌, ◌^◌, ◌<◌, ◌≤◌, Bool, true, false, ◌&&◌, eqb, leb, ltb, cond, List, [], ◌∷◌, length, take, drop, Option, Some, None, refl, sym, ap, subst, ◌∙◌, inl, inr, arith}
use Rattle.std.proofs.lemmas.Bool.{and_parts, eqb-true, leb-true, ltb-true, cases_lt}
use Rattle.std.proofs.lemmas.List.{get_or-drop, get_or-take, get_or_past, length-take, length-drop}
use Rattle.byteorder.specs.Endian.{little_number}
use Rattle.byteorder.specs.Numbers.{little_from-lt}
use Rattle.axp_image.specs.declared.limits.TheConstants.{PAGE_BYTES, MAX_MEMORY, MAX_SEGMENTS, KSEG, INSTRUCTION_BYTES}
use Rattle.axp_image.specs.declared.layout.TheConstants.{MAGIC, VERSION, MAGIC_AT, VERSION_AT, COUNT_AT, SIZE_AT, ENTRY_AT, STACK_AT, TABLE_AT, HEADER_BYTES, RECORD_BYTES, ADDRESS_AT, LENGTH_AT, ZERO_AT}
use Rattle.axp_image.specs.declared.reading.Header.{Header}
use Rattle.axp_image.specs.declared.reading.Extent.{Extent}
use Rattle.axp_image.specs.Contents.{Segment, Contents, contents, segment_of, end_of, AreBytes, IsPlaced, ArePlaced, IsValid}
use Rattle.axp_image.specs.Grammar.{◌>>=◌, piece_at, number_at, field, is_memory_size, is_entry, header_of, is_extent, extent, extent_at, extents_at, segments_at, image_of}

-- the value of a step that did not fail
pub bind_some : {A B : Type 0} (o : Option A) (f : A → Option B) (y : B) → (o >>= f) ≡ Some y → (x : A) × (o ≡ Some x) × (f x ≡ Some y)
bind_some None f y h = absurd cc
bind_some (Some x) f y h = (x, refl, h)

pub some_is : {A : Type 0} (x y : A) → Some x ≡ Some y → x ≡ y
some_is x y h = cc

-- a test that did not fail
pub guard_some : {A : Type 0} (b : Bool) (x y : A) → cond b (Some x) None ≡ Some y → (b ≡ true) × (x ≡ y)
guard_some true x y h = (refl, cc)
guard_some false x y h = absurd cc

pub guard_none : {A : Type 0} (b : Bool) (x y : A) → cond b None (Some x) ≡ Some y → (b ≡ false) × (x ≡ y)
guard_none true x y h = absurd cc
guard_none false x y h = (refl, cc)

-- a field is its number, which passes the test
pub field_some : (bytes : List ℕ) (at n : ℕ) (good : ℕ → Bool) (x : ℕ) → field bytes at n good ≡ Some x → (number_at bytes at n ≡ Some x) × (good x ≡ true)
field_some bytes at n good x h =
    let number = bind_some (number_at bytes at n) (λ m. cond (good m) (Some m) None) x h in
    let passed = guard_some (good number.0) number.0 x number.2 in
    (number.1 ∙ ap Some passed.1, subst (λ (m : ℕ). good m ≡ true) passed.1 passed.0)

-- ---- pieces

pub piece_some : (bytes : List ℕ) (at n : ℕ) (piece : List ℕ) → piece_at bytes at n ≡ Some piece → (at + n ≤ length bytes) × (take n (drop at bytes) ≡ piece)
unfolding piece_at
piece_some bytes at n piece h =
    let passed = guard_some (leb (at + n) (length bytes)) (take n (drop at bytes)) piece h in
    let within : at + n ≤ length bytes = leb-true _ _ passed.0 in
    (within, passed.1)

pub piece_length : (bytes : List ℕ) (at n : ℕ) (piece : List ℕ) → piece_at bytes at n ≡ Some piece → length piece ≡ n
piece_length bytes at n piece h =
    let p = piece_some bytes at n piece h in
    rw (← p.1) (omega (arith, length-take n (drop at bytes), length-drop at bytes, p.0))

pub AreBytes-take : (n : ℕ) (bytes : List ℕ) → AreBytes bytes → AreBytes (take n bytes)
AreBytes-take n bytes all i =
    elim (cases_lt i n) [
      | inl lt ↦ rw (get_or-take n bytes i 0 lt) (all i)
      | inr le ↦ rw (get_or_past (take n bytes) i 0 (omega (arith, length-take n bytes))) (omega arith)
    ]

pub AreBytes-drop : (n : ℕ) (bytes : List ℕ) → AreBytes bytes → AreBytes (drop n bytes)
AreBytes-drop n bytes all i = rw get_or-drop (all (n + i))

pub piece_bytes : (bytes : List ℕ) (at n : ℕ) (piece : List ℕ) → AreBytes bytes → piece_at bytes at n ≡ Some piece → AreBytes piece
piece_bytes bytes at n piece all h =
    subst AreBytes (piece_some bytes at n piece h).1 (AreBytes-take n (drop at bytes) (AreBytes-drop at bytes all))

-- a number of n bytes is below 256 ^ n
pub number_small : (bytes : List ℕ) (at n x : ℕ) → AreBytes bytes → number_at bytes at n ≡ Some x → x < 256 ^ n
unfolding number_at
number_small bytes at n x all h =
    let piece = bind_some (piece_at bytes at n) (λ p. Some (little_number n p)) x h in
    let is : little_number n piece.0 ≡ x = cc (piece.2) in
    rw (← is) (little_from-lt 0 n piece.0 (piece_bytes bytes at n piece.0 all piece.1))

-- ---- the header

pub record IsHeader (h : Header) : Type 0 where
  pub count : h.count ≤ MAX_SEGMENTS
  pub whole_pages : h.size % PAGE_BYTES ≡ 0
  pub least_size : PAGE_BYTES ≤ h.size
  pub most_size : h.size ≤ MAX_MEMORY
  pub entry_aligned : h.entry % INSTRUCTION_BYTES ≡ 0
  pub least_entry : KSEG ≤ h.entry
  pub most_entry : h.entry ≤ KSEG + h.size - INSTRUCTION_BYTES
  pub stack_word : h.stack < 2 ^ 64
  pub table_page : h.table < h.size / PAGE_BYTES

memory_size_says : (n : ℕ) → is_memory_size n ≡ true → (n % PAGE_BYTES ≡ 0) × (PAGE_BYTES ≤ n) × (n ≤ MAX_MEMORY)
memory_size_says n h =
    let a = and_parts (eqb (n % PAGE_BYTES) 0) (leb PAGE_BYTES n && leb n MAX_MEMORY) h in
    let b = and_parts (leb PAGE_BYTES n) (leb n MAX_MEMORY) a.1 in
    (eqb-true _ _ a.0, leb-true _ _ b.0, leb-true _ _ b.1)

entry_says : (size n : ℕ) → is_entry size n ≡ true → (n % INSTRUCTION_BYTES ≡ 0) × (KSEG ≤ n) × (n ≤ KSEG + size - INSTRUCTION_BYTES)
entry_says size n h =
    let a = and_parts (eqb (n % INSTRUCTION_BYTES) 0) (leb KSEG n && leb n (KSEG + size - INSTRUCTION_BYTES)) h in
    let b = and_parts (leb KSEG n) (leb n (KSEG + size - INSTRUCTION_BYTES)) a.1 in
    (eqb-true _ _ a.0, leb-true _ _ b.0, leb-true _ _ b.1)

-- what is read of the header from each field on
abbrev from_table : List ℕ → ℕ → ℕ → ℕ → ℕ → Option Header
from_table bytes count size entry stack = field bytes TABLE_AT 8 (λ n. ltb n (size / PAGE_BYTES)) >>= λ table. Some (record { count = count; size = size; entry = entry; stack = stack; table = table })

abbrev from_stack : List ℕ → ℕ → ℕ → ℕ → Option Header
from_stack bytes count size entry = number_at bytes STACK_AT 8 >>= λ stack. from_table bytes count size entry stack

abbrev from_entry : List ℕ → ℕ → ℕ → Option Header
from_entry bytes count size = field bytes ENTRY_AT 8 (is_entry size) >>= λ entry. from_stack bytes count size entry

abbrev from_size : List ℕ → ℕ → Option Header
from_size bytes count = field bytes SIZE_AT 8 is_memory_size >>= λ size. from_entry bytes count size

abbrev from_count : List ℕ → Option Header
from_count bytes = field bytes COUNT_AT 2 (λ n. leb n MAX_SEGMENTS) >>= λ count. from_size bytes count

abbrev from_version : List ℕ → Option Header
from_version bytes = field bytes VERSION_AT 2 (λ n. eqb n VERSION) >>= λ version. from_count bytes

-- the header of a file is these numbers, each of which passes its test
pub record HasHeader (bytes : List ℕ) (h : Header) : Type 0 where
  pub magic : number_at bytes MAGIC_AT 4 ≡ Some MAGIC
  pub version : number_at bytes VERSION_AT 2 ≡ Some VERSION
  pub count : number_at bytes COUNT_AT 2 ≡ Some h.count
  pub size : number_at bytes SIZE_AT 8 ≡ Some h.size
  pub entry : number_at bytes ENTRY_AT 8 ≡ Some h.entry
  pub stack : number_at bytes STACK_AT 8 ≡ Some h.stack
  pub table : number_at bytes TABLE_AT 8 ≡ Some h.table
  pub count_good : leb h.count MAX_SEGMENTS ≡ true
  pub size_good : is_memory_size h.size ≡ true
  pub entry_good : is_entry h.size h.entry ≡ true
  pub table_good : ltb h.table (h.size / PAGE_BYTES) ≡ true

header_ends : (bytes : List ℕ) (h : Header) (magic version count size entry stack : ℕ)
    → (number_at bytes MAGIC_AT 4 ≡ Some magic) × (eqb magic MAGIC ≡ true)
    → (number_at bytes VERSION_AT 2 ≡ Some version) × (eqb version VERSION ≡ true)
    → (number_at bytes COUNT_AT 2 ≡ Some count) × (leb count MAX_SEGMENTS ≡ true)
    → (number_at bytes SIZE_AT 8 ≡ Some size) × (is_memory_size size ≡ true)
    → (number_at bytes ENTRY_AT 8 ≡ Some entry) × (is_entry size entry ≡ true)
    → number_at bytes STACK_AT 8 ≡ Some stack
    → from_table bytes count size entry stack ≡ Some h
    → HasHeader bytes h
header_ends bytes h magic version count size entry stack m v n s e k last =
    let made : ℕ → Header = λ t. record { count = count; size = size; entry = entry; stack = stack; table = t } in
    let table = bind_some (field bytes TABLE_AT 8 (λ t. ltb t (size / PAGE_BYTES))) (λ t. Some (made t)) h last in
    let t = field_some bytes TABLE_AT 8 (λ t. ltb t (size / PAGE_BYTES)) table.0 table.1 in
    subst (HasHeader bytes) (some_is (made table.0) h table.2) (record {
      magic = m.0 ∙ ap Some (eqb-true _ _ m.1);
      version = v.0 ∙ ap Some (eqb-true _ _ v.1);
      count = n.0;
      size = s.0;
      entry = e.0;
      stack = k;
      table = t.0;
      count_good = n.1;
      size_good = s.1;
      entry_good = e.1;
      table_good = t.1;
    })

pub header_has : (bytes : List ℕ) (h : Header) → header_of bytes ≡ Some h → HasHeader bytes h
unfolding header_of
header_has bytes h e =
    let magic = bind_some (field bytes MAGIC_AT 4 (λ n. eqb n MAGIC)) (λ _. from_version bytes) h e in
    let version = bind_some (field bytes VERSION_AT 2 (λ n. eqb n VERSION)) (λ _. from_count bytes) h magic.2 in
    let count = bind_some (field bytes COUNT_AT 2 (λ n. leb n MAX_SEGMENTS)) (from_size bytes) h version.2 in
    let size = bind_some (field bytes SIZE_AT 8 is_memory_size) (from_entry bytes count.0) h count.2 in
    let entry = bind_some (field bytes ENTRY_AT 8 (is_entry size.0)) (from_stack bytes count.0 size.0) h size.2 in
    let stack = bind_some (number_at bytes STACK_AT 8) (from_table bytes count.0 size.0 entry.0) h entry.2 in
    header_ends bytes h magic.0 version.0 count.0 size.0 entry.0 stack.0
    (field_some bytes MAGIC_AT 4 (λ n. eqb n MAGIC) magic.0 magic.1)
    (field_some bytes VERSION_AT 2 (λ n. eqb n VERSION) version.0 version.1)
    (field_some bytes COUNT_AT 2 (λ n. leb n MAX_SEGMENTS) count.0 count.1)
    (field_some bytes SIZE_AT 8 is_memory_size size.0 size.1)
    (field_some bytes ENTRY_AT 8 (is_entry size.0) entry.0 entry.1)
    stack.1 stack.2

pub header_says : (bytes : List ℕ) (h : Header) → AreBytes bytes → HasHeader bytes h → IsHeader h
header_says bytes h all has =
    let memory = memory_size_says h.size has.size_good in
    let start = entry_says h.size h.entry has.entry_good in
    record {
      count = leb-true _ _ has.count_good;
      whole_pages = memory.0;
      least_size = memory.1;
      most_size = memory.2;
      entry_aligned = start.0;
      least_entry = start.1;
      most_entry = start.2;
      stack_word = number_small bytes STACK_AT 8 h.stack all has.stack;
      table_page = ltb-true _ _ has.table_good;
    }

-- ---- the records

abbrev pub extent_end : Extent → ℕ
extent_end e = e.address + e.length

pub record IsExtent (size from : ℕ) (e : Extent) : Type 0 where
  pub above : from ≤ e.address
  pub not_empty : 1 ≤ e.length
  pub within : extent_end e ≤ size

abbrev pub AreExtents : ℕ → ℕ → List Extent → Type 0
AreExtents size from [] = Unit {0}
AreExtents size from (e ∷ es) = IsExtent size from e × AreExtents size (extent_end e) es

-- the record at an offset is these numbers, which pass the test
pub record HasExtent (bytes : List ℕ) (size from at : ℕ) (e : Extent) : Type 0 where
  pub piece : List ℕ
  pub piece_is : piece_at bytes at RECORD_BYTES ≡ Some piece
  pub address : number_at piece ADDRESS_AT 8 ≡ Some e.address
  pub len : number_at piece LENGTH_AT 4 ≡ Some e.length
  pub zero_word : number_at piece ZERO_AT 4 ≡ Some 0
  pub placed : IsExtent size from e

-- what is read of a record from each number on
abbrev from_last : List ℕ → ℕ → ℕ → ℕ → ℕ → Option Extent
from_last piece size from address len = number_at piece ZERO_AT 4 >>= λ last. cond (is_extent size from (extent address len) last) (Some (extent address len)) None

abbrev from_length : List ℕ → ℕ → ℕ → ℕ → Option Extent
from_length piece size from address = number_at piece LENGTH_AT 4 >>= λ len. from_last piece size from address len

extent_ends : (bytes : List ℕ) (size from at : ℕ) (e : Extent) (piece : List ℕ) (address len : ℕ)
    → piece_at bytes at RECORD_BYTES ≡ Some piece → number_at piece ADDRESS_AT 8 ≡ Some address → number_at piece LENGTH_AT 4 ≡ Some len
    → from_last piece size from address len ≡ Some e → HasExtent bytes size from at e
extent_ends bytes size from at e piece address len p a n h =
    let x = extent address len in
    let last = bind_some (number_at piece ZERO_AT 4) (λ z. cond (is_extent size from x z) (Some x) None) e h in
    let passed = guard_some (is_extent size from x last.0) x e last.2 in
    let one = and_parts (leb from address) (leb 1 len && (leb (address + len) size && eqb last.0 0)) passed.0 in
    let two = and_parts (leb 1 len) (leb (address + len) size && eqb last.0 0) one.1 in
    let three = and_parts (leb (address + len) size) (eqb last.0 0) two.1 in
    subst (HasExtent bytes size from at) passed.1 (record {
      piece = piece;
      piece_is = p;
      address = a;
      len = n;
      zero_word = last.1 ∙ ap Some (eqb-true _ _ three.1);
      placed = record { above = leb-true _ _ one.0; not_empty = leb-true _ _ two.0; within = leb-true _ _ three.0 };
    })

pub extent_has : (bytes : List ℕ) (size from at : ℕ) (e : Extent) → extent_at bytes size from at ≡ Some e → HasExtent bytes size from at e
unfolding extent_at
extent_has bytes size from at e h =
    let piece = bind_some (piece_at bytes at RECORD_BYTES) (λ p. number_at p ADDRESS_AT 8 >>= λ a. from_length p size from a) e h in
    let address = bind_some (number_at piece.0 ADDRESS_AT 8) (λ a. from_length piece.0 size from a) e piece.2 in
    let len = bind_some (number_at piece.0 LENGTH_AT 4) (λ n. from_last piece.0 size from address.0 n) e address.2 in
    extent_ends bytes size from at e piece.0 address.0 len.0 piece.1 address.1 len.1 len.2

pub extents_say : (bytes : List ℕ) (size count from at : ℕ) (es : List Extent) → extents_at bytes size count from at ≡ Some es → AreExtents size from es × (length es ≡ count)
unfolding extents_at
extents_say bytes size zero from at es h = subst (λ (xs : List Extent). AreExtents size from xs × (length xs ≡ 0)) (some_is [] es h) (tt, refl)
extents_say bytes size (suc count) from at es h =
    let first = bind_some (extent_at bytes size from at) (λ x. extents_at bytes size count (extent_end x) (at + RECORD_BYTES) >>= λ xs. Some (x ∷ xs)) es h in
    let others = bind_some (extents_at bytes size count (extent_end first.0) (at + RECORD_BYTES)) (λ xs. Some (first.0 ∷ xs)) es first.2 in
    let rest = extents_say bytes size count (extent_end first.0) (at + RECORD_BYTES) others.0 others.1 in
    subst (λ (xs : List Extent). AreExtents size from xs × (length xs ≡ suc count)) (some_is (first.0 ∷ others.0) es others.2) (((extent_has bytes size from at first.0 first.1).placed, rest.0), ap suc rest.1)

-- ---- the segments

pub segments_say : (bytes : List ℕ) (size from at : ℕ) (es : List Extent) (ss : List Segment) → AreBytes bytes → AreExtents size from es → segments_at bytes at es ≡ Some ss
    → ArePlaced size from ss × (length ss ≡ length es)
unfolding segments_at
segments_say bytes size from at [] ss all placed h =
    let passed = guard_none (ltb at (length bytes)) [] ss h in
    subst (λ (xs : List Segment). ArePlaced size from xs × (length xs ≡ 0)) passed.1 (tt, refl)
segments_say bytes size from at (e ∷ es) ss all placed h =
    let own = bind_some (piece_at bytes at e.length) (λ x. segments_at bytes (at + e.length) es >>= λ xs. Some (segment_of e.address x ∷ xs)) ss h in
    let s = segment_of e.address own.0 in
    let others = bind_some (segments_at bytes (at + e.length) es) (λ xs. Some (s ∷ xs)) ss own.2 in
    let len : length own.0 ≡ e.length = piece_length bytes at e.length own.0 own.1 in
    let ends : end_of s ≡ extent_end e = ap (λ (n : ℕ). e.address + n) len in
    let rest = segments_say bytes size (extent_end e) (at + e.length) es others.0 all placed.1 others.1 in
    let here : IsPlaced size from s = record { above = placed.0.above; not_empty = omega (arith, len, placed.0.not_empty); within = omega (arith, ends, placed.0.within); bytes = piece_bytes bytes at e.length own.0 all own.1 } in
    subst (λ (xs : List Segment). ArePlaced size from xs × (length xs ≡ suc (length es))) (some_is (s ∷ others.0) ss others.2) ((here, subst (λ (n : ℕ). ArePlaced size n others.0) (sym ends) rest.0), ap suc rest.1)

-- ---- the whole

abbrev pub after_extents : List ℕ → Header → List Extent → Option Contents
after_extents bytes h es = segments_at bytes (HEADER_BYTES + h.count * RECORD_BYTES) es >>= λ ss. Some (contents h.size h.entry h.stack h.table ss)

abbrev pub after_header : List ℕ → Header → Option Contents
after_header bytes h = extents_at bytes h.size h.count 0 HEADER_BYTES >>= after_extents bytes h

pub image_says : (bytes : List ℕ) (c : Contents) → AreBytes bytes → image_of bytes ≡ Some c → IsValid c
unfolding image_of
image_says bytes c all e =
    let header = bind_some (header_of bytes) (after_header bytes) c e in
    let h = header.0 in
    let extents = bind_some (extents_at bytes h.size h.count 0 HEADER_BYTES) (after_extents bytes h) c header.2 in
    let segments = bind_some (segments_at bytes (HEADER_BYTES + h.count * RECORD_BYTES) extents.0) (λ ss. Some (contents h.size h.entry h.stack h.table ss)) c extents.2 in
    let says = header_says bytes h all (header_has bytes h header.1) in
    let placed = extents_say bytes h.size h.count 0 HEADER_BYTES extents.0 extents.1 in
    let stand = segments_say bytes h.size 0 (HEADER_BYTES + h.count * RECORD_BYTES) extents.0 segments.0 all placed.0 segments.1 in
    subst IsValid (some_is (contents h.size h.entry h.stack h.table segments.0) c segments.2) (record {
      whole_pages = says.whole_pages;
      least_size = says.least_size;
      most_size = says.most_size;
      entry_aligned = says.entry_aligned;
      least_entry = says.least_entry;
      most_entry = says.most_entry;
      stack_word = says.stack_word;
      table_page = says.table_page;
      count = omega (arith, says.count, placed.1, stand.1);
      placed = stand.0;
    })
