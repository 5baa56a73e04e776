-- A header without a fault has room in memory, and an image with its bytes is valid.
use Rattle.std.proofs.Common.{◌≡◌, ℕ, ◌+◌, ◌<◌, ◌≤◌, true, false, ltb, List, [], ◌∷◌, ◌++◌, length, drop, None, refl, inl, inr, arith}
use Rattle.std.proofs.lemmas.Bool.{cases_Bool, and_parts, ltb-true}
use Rattle.std.proofs.lemmas.Bool.Decides.{nat_tests}
use Rattle.std.proofs.lemmas.List.{length-take, length-drop}
use Rattle.axp_image.specs.declared.limits.TheConstants.{KSEG, MAX_SEGMENTS}
use Rattle.axp_image.specs.Contents.{Segment, Contents, AreBytes, IsPlaced, IsValid, end_of, end_after, last_end}
use Rattle.axp_image.proofs.ValidityLemmas.{AreBytes-take, AreBytes-drop}
use Rattle.axp_image.proofs.WritingLemmas.{valid_with}
use Rattle.axp_elf.specs.declared.headers.ProgramHeader.{ProgramHeader}
use Rattle.axp_elf.specs.Headers.{header_in, is_dynamic, is_loaded, has_bytes, physical, memory_end, end_past, segment_in}
use Rattle.axp_elf.specs.Faults.{first_of, header_fault, parts_of}
use Rattle.axp_elf.specs.Executables.{parts_fault, with_header}

-- what a loaded header without a fault says of its place
pub record HasRoom (memory from before : ℕ) (h : ProgramHeader) : Type 0 where
  pub in_file : h.file_size ≤ h.memory_size
  pub in_kernel : KSEG ≤ h.address
  pub in_memory : memory_end h ≤ memory
  pub above : from ≤ physical h
  pub few : 0 < h.file_size → before < MAX_SEGMENTS

pub has_room : (memory from before : ℕ) (h : ProgramHeader) → header_fault memory from before h ≡ None → is_loaded h ≡ true → HasRoom memory from before h
has_room memory from before h none loads = record {
  in_file = grind (arith, nat_tests);
  in_kernel = grind (arith, nat_tests);
  in_memory = grind (arith, nat_tests);
  above = grind (arith, nat_tests);
  few = λ some. grind (arith, nat_tests);
}

pub not_dynamic : (memory from before : ℕ) (h : ProgramHeader) → header_fault memory from before h ≡ None → is_dynamic h ≡ false
not_dynamic memory from before h none = grind (arith, nat_tests)

-- a header without a fault, with its bytes
pub header_sound : (len memory from before at : ℕ) (h : ProgramHeader) → first_of len (parts_of memory from before at h) ≡ None → header_fault memory from before h ≡ None
header_sound len memory from before at h none = grind (arith, nat_tests)

pub bytes_within : (len memory from before at : ℕ) (h : ProgramHeader) → first_of len (parts_of memory from before at h) ≡ None → has_bytes h ≡ true → h.offset + h.file_size ≤ len
bytes_within len memory from before at h none some = grind (arith, nat_tests)

last_end-push : (from : ℕ) (ss : List Segment) (s : Segment) → end_after from (ss ++ s ∷ []) ≡ end_of s
last_end-push from [] s = refl
last_end-push from (x ∷ xs) s = last_end-push (end_of x) xs s

segment_ends : (bytes : List ℕ) (h : ProgramHeader) → h.file_size ≤ h.memory_size → end_of (segment_in bytes h) ≤ memory_end h
unfolding segment_in
segment_ends bytes h fits = omega (arith, fits, length-take h.file_size (drop h.offset bytes))

-- behind a header that is put into an image, the last segment ends at or below the last loaded header
pub behind_more : (bytes : List ℕ) (c : Contents) (from at : ℕ) → parts_fault bytes c from at ≡ None → last_end c.segments ≤ from
    → last_end (with_header bytes c (header_in bytes at)).segments ≤ end_past from (header_in bytes at)
behind_more bytes c from at none behind =
    let h = header_in bytes at in
    let sound = header_sound (length bytes) c.size from (length c.segments) at h none in
    elim (cases_Bool (is_loaded h)) [
      | inl loads ↦
          let room = has_room c.size from (length c.segments) h sound loads in
          elim (cases_Bool (has_bytes h)) [
            | inl has ↦ rw (has, loads, last_end-push 0 c.segments (segment_in bytes h)) (segment_ends bytes h room.in_file)
            | inr lacks ↦ rw (lacks, loads) (omega (arith, behind, room.above))
          ]
      | inr skips ↦ rw skips behind
    ]

-- ---- an image with the bytes of one more header is valid

segment_placed : (bytes : List ℕ) (c : Contents) (from : ℕ) (h : ProgramHeader) → AreBytes bytes → HasRoom c.size from (length c.segments) h → last_end c.segments ≤ from
    → 0 < h.file_size → h.offset + h.file_size ≤ length bytes → IsPlaced c.size (last_end c.segments) (segment_in bytes h)
unfolding segment_in
segment_placed bytes c from h all room behind some within = record {
  above = omega (arith, behind, room.above);
  not_empty = omega (arith, some, within, length-take h.file_size (drop h.offset bytes), length-drop h.offset bytes);
  within = omega (arith, room.in_file, room.in_memory, length-take h.file_size (drop h.offset bytes));
  bytes = AreBytes-take h.file_size (drop h.offset bytes) (AreBytes-drop h.offset bytes all);
}

pub valid_more : (bytes : List ℕ) (c : Contents) (from at : ℕ) → AreBytes bytes → parts_fault bytes c from at ≡ None → last_end c.segments ≤ from
    → IsValid c → IsValid (with_header bytes c (header_in bytes at))
valid_more bytes c from at all none behind valid =
    let h = header_in bytes at in
    elim (cases_Bool (has_bytes h)) [
      | inl has ↦
          let both = and_parts (is_loaded h) (ltb 0 h.file_size) has in
          let some : 0 < h.file_size = ltb-true _ _ both.1 in
          let sound = header_sound (length bytes) c.size from (length c.segments) at h none in
          let within = bytes_within (length bytes) c.size from (length c.segments) at h none has in
          let room = has_room c.size from (length c.segments) h sound both.0 in
          rw has (valid_with c (segment_in bytes h) valid (room.few some) (segment_placed bytes c from h all room behind some within))
      | inr lacks ↦ rw lacks valid
    ]
