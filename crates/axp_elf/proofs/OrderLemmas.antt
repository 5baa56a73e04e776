-- The loaded headers of an executable lie in memory, in order.
use Rattle.std.proofs.Common.{◌≡◌, ℕ, ◌≤◌, true, false, ltb, List, [], ◌∷◌, ◌++◌, length, Some, None, refl, subst, ◌∙◌, inl, inr, arith}
use Rattle.std.specs.Prelude.{All, AllPairs}
use Rattle.std.proofs.lemmas.Bool.{cases_Bool, and_parts, ltb-true}
use Rattle.std.proofs.lemmas.List.{append-nil, length-append}
use Rattle.std.proofs.lemmas.List.Elements.{All-nil, All-push, All-weaker, filter-append}
use Rattle.std.proofs.lemmas.List.Quantifiers.{all_pairs_push}
use Rattle.axp_image.specs.declared.limits.TheConstants.{MAX_SEGMENTS}
use Rattle.axp_image.specs.Contents.{Contents}
use Rattle.axp_elf.specs.declared.headers.ProgramHeader.{ProgramHeader}
use Rattle.axp_elf.specs.Headers.{header_in, headers_of, is_dynamic, is_loaded, has_bytes, memory_end, end_past, end_of_all, loaded_headers, headers_with_bytes, segment_in}
use Rattle.axp_elf.specs.Faults.{header_fault}
use Rattle.axp_elf.specs.Executables.{with_header, image_of}
use Rattle.axp_elf.specs.Laws.{IsInMemory, EndsBelow}
use Rattle.axp_elf.proofs.PlacingLemmas.{HasRoom, has_room, header_sound, not_dynamic}
use Rattle.axp_elf.proofs.ExecutableLemmas.{IsKept, kept_by_all}

-- the loaded headers lie in a memory of this size, in order, below `from`
pub record AreInOrder (memory from : ℕ) (headers : List ProgramHeader) : Type 0 where
  pub in_memory : All (IsInMemory memory) headers
  pub in_order : AllPairs EndsBelow headers
  pub below : All (λ h. memory_end h ≤ from) headers

-- what holds of the headers that an image was loaded by
pub record IsOrdered (memory : ℕ) (c : Contents) (from : ℕ) (headers : List ProgramHeader) : Type 0 where
  pub size : c.size ≡ memory
  pub loaded : AreInOrder memory from (loaded_headers headers)
  pub count : length c.segments ≡ length (headers_with_bytes headers)
  pub few : length c.segments ≤ MAX_SEGMENTS
  pub static_only : All (λ h. is_dynamic h ≡ false) headers

in_order_more : (memory from before : ℕ) (headers : List ProgramHeader) (h : ProgramHeader) → HasRoom memory from before h → AreInOrder memory from headers
    → AreInOrder memory (memory_end h) (headers ++ h ∷ [])
in_order_more memory from before headers h room order = record {
  in_memory = All-push (IsInMemory memory) headers h order.in_memory (record { in_kernel = room.in_kernel; within = room.in_memory; in_file = room.in_file });
  in_order = all_pairs_push EndsBelow headers h order.in_order (λ k d lt. omega (arith, order.below k d lt, room.above));
  below = All-push (λ g. memory_end g ≤ memory_end h) headers h (All-weaker (λ g. memory_end g ≤ from) (λ g. memory_end g ≤ memory_end h) (λ g le. omega (arith, le, room.above)) headers order.below) (omega arith);
}

loaded_more : (memory from before : ℕ) (headers : List ProgramHeader) (h : ProgramHeader) → (is_loaded h ≡ true → HasRoom memory from before h) → AreInOrder memory from (loaded_headers headers)
    → AreInOrder memory (end_past from h) (loaded_headers (headers ++ h ∷ []))
loaded_more memory from before headers h room order =
    elim (cases_Bool (is_loaded h)) [
      | inl loads ↦ rw (filter-append is_loaded headers (h ∷ []), loads) (in_order_more memory from before (loaded_headers headers) h (room loads) order)
      | inr skips ↦ rw (filter-append is_loaded headers (h ∷ []), skips, append-nil (loaded_headers headers)) order
    ]

size_kept : (bytes : List ℕ) (c : Contents) (h : ProgramHeader) → (with_header bytes c h).size ≡ c.size
size_kept bytes c h = elim (cases_Bool (has_bytes h)) [ inl has ↦ rw has refl | inr lacks ↦ rw lacks refl ]

count_kept : (bytes : List ℕ) (c : Contents) (headers : List ProgramHeader) (h : ProgramHeader) → length c.segments ≡ length (headers_with_bytes headers)
    → length (with_header bytes c h).segments ≡ length (headers_with_bytes (headers ++ h ∷ []))
count_kept bytes c headers h same =
    elim (cases_Bool (has_bytes h)) [
      | inl has ↦ rw (filter-append has_bytes headers (h ∷ []), has) (omega (arith, same, length-append c.segments (segment_in bytes h ∷ []), length-append (headers_with_bytes headers) (h ∷ [])))
      | inr lacks ↦ rw (filter-append has_bytes headers (h ∷ []), lacks, append-nil (headers_with_bytes headers)) same
    ]

few_kept : (bytes : List ℕ) (c : Contents) (memory from : ℕ) (h : ProgramHeader) → header_fault memory from (length c.segments) h ≡ None → length c.segments ≤ MAX_SEGMENTS
    → length (with_header bytes c h).segments ≤ MAX_SEGMENTS
few_kept bytes c memory from h none few =
    elim (cases_Bool (has_bytes h)) [
      | inl has ↦
          let both = and_parts (is_loaded h) (ltb 0 h.file_size) has in
          let room = (has_room memory from (length c.segments) h none both.0).few (ltb-true _ _ both.1) in
          rw has (omega (arith, room, length-append c.segments (segment_in bytes h ∷ [])))
      | inr lacks ↦ rw lacks few
    ]

order_kept : (bytes : List ℕ) (memory : ℕ) → IsKept bytes (IsOrdered memory)
order_kept bytes memory c from at headers none behind order =
    let h = header_in bytes at in
    let sound = subst (λ (m : ℕ). header_fault m from (length c.segments) h ≡ None) order.size (header_sound (length bytes) c.size from (length c.segments) at h none) in
    record {
      size = size_kept bytes c h ∙ order.size;
      loaded = loaded_more memory from (length c.segments) headers h (has_room memory from (length c.segments) h sound) order.loaded;
      count = count_kept bytes c headers h order.count;
      few = few_kept bytes c memory from h sound order.few;
      static_only = All-push (λ g. is_dynamic g ≡ false) headers h order.static_only (not_dynamic memory from (length c.segments) h sound);
    }

pub executable_ordered : (bytes : List ℕ) (memory stack table : ℕ) (c : Contents) → image_of bytes memory stack table ≡ Some c
    → IsOrdered memory c (end_of_all (headers_of bytes)) (headers_of bytes)
executable_ordered bytes memory stack table c read =
    kept_by_all (IsOrdered memory) bytes memory stack table c (order_kept bytes memory) read (λ good. record {
      size = refl;
      loaded = record { in_memory = All-nil (IsInMemory memory); in_order = λ i j d lt below. absurd (omega arith); below = All-nil (λ h. memory_end h ≤ 0) };
      count = refl;
      few = omega arith;
      static_only = All-nil (λ h. is_dynamic h ≡ false);
    })
