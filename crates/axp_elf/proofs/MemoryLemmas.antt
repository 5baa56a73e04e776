-- Which byte of an executable stands where in memory.
use Rattle.std.proofs.Common.{◌≡◌, ℕ, ◌+◌, ◌<◌, true, leb, ltb, List, length, take, drop, slice_get, get_or, Option, Some, None, refl, sym, ap, subst, ◌∙◌, arith}
use Rattle.std.specs.Prelude.{slice_index}
use Rattle.std.specs.Option.{option_map}
use Rattle.std.proofs.lemmas.Bool.{and_parts, and_from, ltb-true, lt-ltb}
use Rattle.std.proofs.lemmas.List.{get_or-take, get_or-drop, length-take, length-drop}
use Rattle.std.proofs.lemmas.Option.{slice_get-map, slice_get_within, get_or_from_slice_get, none-some}
use Rattle.axp_image.specs.Contents.{Segment, Contents, AreBytes, covers, byte_in}
use Rattle.axp_image.proofs.BytePlaceLemmas.{have_their_bytes, are_zero_elsewhere}
use Rattle.axp_image.proofs.ValidityLemmas.{some_is}
use Rattle.axp_elf.specs.declared.headers.ProgramHeader.{ProgramHeader}
use Rattle.axp_elf.specs.Headers.{headers_of, physical, headers_with_bytes, segment_in, segments_in}
use Rattle.axp_elf.specs.Executables.{IsSetting, image_of}
use Rattle.axp_elf.specs.Laws.{fills, HasFileBytes, IsZeroElsewhere}
use Rattle.axp_elf.proofs.ExecutableLemmas.{IsInFile, without_fault, executable_sound}

-- a header's segment has its bytes, at its address
segment_address : (bytes : List ℕ) (h : ProgramHeader) → (segment_in bytes h).address ≡ physical h
unfolding segment_in
segment_address bytes h = refl

segment_length : (bytes : List ℕ) (h : ProgramHeader) → IsInFile bytes h → length (segment_in bytes h).bytes ≡ h.file_size
unfolding segment_in
segment_length bytes h within = omega (arith, within, length-take h.file_size (drop h.offset bytes), length-drop h.offset bytes)

segment_byte : (bytes : List ℕ) (h : ProgramHeader) (k : ℕ) → k < h.file_size → slice_index (segment_in bytes h).bytes k ≡ slice_index bytes (h.offset + k)
unfolding segment_in
segment_byte bytes h k lt = get_or-take h.file_size (drop h.offset bytes) k 0 lt ∙ get_or-drop h.offset bytes k 0

-- where a header's segment has a byte, the header has one
fills_there : (bytes : List ℕ) (h : ProgramHeader) (address : ℕ) → covers (segment_in bytes h) address ≡ true → fills h address ≡ true
unfolding segment_in
fills_there bytes h address has =
    let own = take h.file_size (drop h.offset bytes) in
    let both = and_parts (leb (physical h) address) (ltb address (physical h + length own)) has in
    let lt = ltb-true address (physical h + length own) both.1 in
    and_from (leb (physical h) address) _ both.0 (lt-ltb _ _ (omega (arith, lt, length-take h.file_size (drop h.offset bytes))))

pub has_file_bytes : (bytes : List ℕ) (memory stack table : ℕ) (c : Contents) → AreBytes bytes → IsSetting memory stack table → image_of bytes memory stack table ≡ Some c → HasFileBytes bytes c
has_file_bytes bytes memory stack table c all setting read i k h at lt =
    let headers = headers_of bytes in
    let is = (without_fault bytes memory stack table c read).1 in
    let sound = executable_sound bytes memory stack table c all setting read in
    let found : get_or (headers_with_bytes headers) i h ≡ h = get_or_from_slice_get (headers_with_bytes headers) i h h at in
    let within : IsInFile bytes h = subst (IsInFile bytes) found (sound.in_file i h (slice_get_within (headers_with_bytes headers) i h at)) in
    let there : slice_get c.segments i ≡ Some (segment_in bytes h) = rw is (slice_get-map (segment_in bytes) (headers_with_bytes headers) i ∙ ap (option_map (segment_in bytes)) at) in
    let inside : k < length (segment_in bytes h).bytes = omega (arith, lt, segment_length bytes h within) in
    subst (λ (address : ℕ). byte_in c.segments (address + k) ≡ slice_index (segment_in bytes h).bytes k) (segment_address bytes h)
    (have_their_bytes c.size 0 c.segments sound.valid.placed i k (segment_in bytes h) there inside)
    ∙ segment_byte bytes h k lt

pub is_zero_elsewhere : (bytes : List ℕ) (memory stack table : ℕ) (c : Contents) → image_of bytes memory stack table ≡ Some c → IsZeroElsewhere bytes c
is_zero_elsewhere bytes memory stack table c read address none =
    let headers = headers_of bytes in
    let is = (without_fault bytes memory stack table c read).1 in
    are_zero_elsewhere c.segments address (λ i s at has. by_header (slice_get (headers_with_bytes headers) i) i s refl (subst (λ (x : Contents). slice_get x.segments i ≡ Some s) is at) has)
  where
    by_header : (o : Option ProgramHeader) (i : ℕ) (s : Segment) → slice_get (headers_with_bytes (headers_of bytes)) i ≡ o → slice_get (segments_in bytes (headers_of bytes)) i ≡ Some s → covers s address ≡ true → ⊥
    by_header None i s at there has = absurd (none-some s (sym (slice_get-map (segment_in bytes) (headers_with_bytes (headers_of bytes)) i ∙ ap (option_map (segment_in bytes)) at) ∙ there))
    by_header (Some h) i s at there has =
        let own = some_is (segment_in bytes h) s (sym (slice_get-map (segment_in bytes) (headers_with_bytes (headers_of bytes)) i ∙ ap (option_map (segment_in bytes)) at) ∙ there) in
        none i h at (fills_there bytes h address (subst (λ (x : Segment). covers x address ≡ true) (sym own) has))
