-- Headers are tested and loaded one after the other, as a loop does.
use Rattle.std.proofs.Common.{◌≡◌, ℕ, suc, ◌+◌, ◌-◌, ◌<◌, ◌≤◌, List, [], ◌∷◌, ◌++◌, length, Option, Some, None, refl, sym, ap, subst, ◌∙◌, add-one, inl, inr, arith}
use Rattle.std.specs.Prelude.{map, filter, Result, Ok, Err, IsErrAnd, IfErr}
use Rattle.std.specs.Option.{option_or}
use Rattle.std.proofs.lemmas.Bool.{cases_Bool}
use Rattle.std.proofs.lemmas.List.{map-append, length-map, append-nil}
use Rattle.std.proofs.lemmas.List.Elements.{filter-append}
use Rattle.std.proofs.lemmas.List.Sums.{fold-append}
use Rattle.axp_image.specs.Contents.{Contents, contents, last_end}
use Rattle.axp_image.specs.Faults.{number_in}
use Rattle.axp_elf.specs.declared.faults.ElfError.{ElfError}
use Rattle.axp_elf.specs.declared.faults.ElfError.TheVariants as error
use Rattle.axp_elf.specs.declared.headers.ProgramHeader.{ProgramHeader}
use Rattle.axp_elf.specs.declared.layout.TheConstants.{ENTRY_AT, START_AT, COUNT_AT}
use Rattle.axp_elf.specs.Headers.{header_in, header_at, headers_in, has_bytes, end_past, end_of_all, headers_with_bytes, segment_in, segments_in}
use Rattle.axp_elf.specs.Faults.{Fault, Part, Names, first_of, parts_of, file_parts, header_parts, first_fault}
use Rattle.axp_elf.specs.Executables.{parts_fault, with_header, image_in, image_of}
use Rattle.axp_elf.proofs.PlacingLemmas.{behind_more}

-- ---- the first fault, part by part

pub first_of-append : (len : ℕ) (front rest : List Part) → first_of len (front ++ rest) ≡ option_or (first_of len front) (first_of len rest)
first_of-append len [] rest = refl
first_of-append len (p ∷ front) rest = grind (arith, first_of-append len front rest)

-- a fault of what stands in front is the file's
named_in_front : (e : ElfError) (front rest : Option Fault) → Names front e → Names (option_or front rest) e
named_in_front (error.Bad f offset) front rest named = rw named refl
named_in_front error.Memory front rest named = tt

-- the exit of a `?` hands the error on
pub handed_on : {A : Type 0} (fault : Option Fault) (r : Result A ElfError) (e : ElfError) → IsErrAnd r (λ x. x ≡ e) → Names fault e → IfErr r (Names fault)
handed_on fault (Ok v) e is named = absurd is
handed_on fault (Err x) e is named = subst (Names fault) (sym is) named

pub file_fails : (bytes : List ℕ) (memory : ℕ) (e : ElfError) → Names (first_of (length bytes) (file_parts bytes memory)) e → Names (first_fault bytes memory) e
unfolding first_fault
file_fails bytes memory e named =
    let headers = header_parts bytes memory (number_in bytes START_AT 8) 0 (number_in bytes COUNT_AT 2) in
    let one = first_of-append (length bytes) (file_parts bytes memory) headers in
    subst (λ (f : Option Fault). Names f e) (sym one) (named_in_front e (first_of (length bytes) (file_parts bytes memory)) (first_of (length bytes) headers) named)

-- where the file header has no fault, the first is one of the program headers'
pub file_passes : (bytes : List ℕ) (memory start count : ℕ) → start ≡ number_in bytes START_AT 8 → count ≡ number_in bytes COUNT_AT 2
    → first_of (length bytes) (file_parts bytes memory) ≡ None → first_of (length bytes) (header_parts bytes memory start 0 count) ≡ first_fault bytes memory
unfolding first_fault
file_passes bytes memory start count s n none =
    let headers = header_parts bytes memory (number_in bytes START_AT 8) 0 (number_in bytes COUNT_AT 2) in
    let one = first_of-append (length bytes) (file_parts bytes memory) headers in
    rw (s, n) (sym (one ∙ ap (λ (f : Option Fault). option_or f (first_of (length bytes) headers)) none))

-- ---- one header more

end_more : (bytes : List ℕ) (start n : ℕ) → end_past (end_of_all (headers_in bytes start n)) (header_in bytes (header_at start n)) ≡ end_of_all (headers_in bytes start (suc n))
end_more bytes start n = sym (fold-append end_past 0 (headers_in bytes start n) (header_in bytes (header_at start n) ∷ []))

segments_more : (bytes : List ℕ) (headers : List ProgramHeader) (h : ProgramHeader)
    → segments_in bytes (headers ++ h ∷ []) ≡ segments_in bytes headers ++ map (segment_in bytes) (filter has_bytes (h ∷ []))
segments_more bytes headers h =
    ap (map (segment_in bytes)) (filter-append has_bytes headers (h ∷ [])) ∙ map-append (segment_in bytes) (filter has_bytes headers) (filter has_bytes (h ∷ []))

image_more : (bytes : List ℕ) (memory entry stack table : ℕ) (headers : List ProgramHeader) (h : ProgramHeader)
    → with_header bytes (contents memory entry stack table (segments_in bytes headers)) h ≡ contents memory entry stack table (segments_in bytes (headers ++ h ∷ []))
image_more bytes memory entry stack table headers h =
    elim (cases_Bool (has_bytes h)) [
      | inl has ↦ rw (has, segments_more bytes headers h, has) refl
      | inr lacks ↦ rw (lacks, segments_more bytes headers h, lacks, append-nil (segments_in bytes headers)) refl
    ]

-- the image and the end of the last loaded header behind n headers, and the first fault among those that are left
pub record Loads (bytes : List ℕ) (memory entry stack table start count n : ℕ) (c : Contents) (from : ℕ) (fault : Option Fault) : Type 0 where
  pub image : c ≡ contents memory entry stack table (segments_in bytes (headers_in bytes start n))
  pub end : from ≡ end_of_all (headers_in bytes start n)
  pub behind : last_end c.segments ≤ from
  pub left : first_of (length bytes) (header_parts bytes memory start n (count - n)) ≡ fault

-- before any header
pub none_loaded : (bytes : List ℕ) (memory entry stack table start count : ℕ) (c : Contents) (fault : Option Fault) → c ≡ contents memory entry stack table []
    → first_of (length bytes) (header_parts bytes memory start 0 count) ≡ fault → Loads bytes memory entry stack table start count 0 c 0 fault
none_loaded bytes memory entry stack table start count c fault is left =
    let all : count - 0 ≡ count = omega arith in
    record { image = is; end = refl; behind = rw is (omega arith); left = rw all left }

-- the faults that are left are the next header's, and then those behind it
pub next_first : (bytes : List ℕ) (memory entry stack table start count n : ℕ) (c : Contents) (from : ℕ) (fault : Option Fault)
    → Loads bytes memory entry stack table start count n c from fault → n < count
    → option_or (parts_fault bytes c from (header_at start n)) (first_of (length bytes) (header_parts bytes memory start (suc n) (count - suc n))) ≡ fault
next_first bytes memory entry stack table start count n c from fault loads lt =
    let earlier = headers_in bytes start n in
    let at = header_at start n in
    let h = header_in bytes at in
    let k : count - n ≡ suc (count - suc n) = omega arith in
    let before : length (segments_in bytes earlier) ≡ length (headers_with_bytes earlier) = length-map (headers_with_bytes earlier) (segment_in bytes) in
    let joined = first_of-append (length bytes) (parts_of memory (end_of_all earlier) (length (headers_with_bytes earlier)) at h) (header_parts bytes memory start (suc n) (count - suc n)) in
    let one : first_of (length bytes) (header_parts bytes memory start n (count - n)) ≡ option_or (parts_fault bytes c from at) (first_of (length bytes) (header_parts bytes memory start (suc n) (count - suc n))) = rw (k, loads.image, loads.end, before) joined in
    sym one ∙ loads.left

pub header_fails : (bytes : List ℕ) (memory entry stack table start count n : ℕ) (c : Contents) (from : ℕ) (fault : Option Fault) (e : ElfError)
    → Loads bytes memory entry stack table start count n c from fault → n < count → Names (parts_fault bytes c from (header_at start n)) e → Names fault e
header_fails bytes memory entry stack table start count n c from fault e loads lt named =
    subst (λ (f : Option Fault). Names f e) (next_first bytes memory entry stack table start count n c from fault loads lt) (named_in_front e _ _ named)

pub header_passes : (bytes : List ℕ) (memory entry stack table start count n : ℕ) (c : Contents) (from : ℕ) (fault : Option Fault) (d : Contents) (end : ℕ)
    → Loads bytes memory entry stack table start count n c from fault → n < count → parts_fault bytes c from (header_at start n) ≡ None
    → d ≡ with_header bytes c (header_in bytes (header_at start n)) → end ≡ end_past from (header_in bytes (header_at start n))
    → Loads bytes memory entry stack table start count (n + 1) d end fault
header_passes bytes memory entry stack table start count n c from fault d end loads lt none is_d is_end =
    let h = header_in bytes (header_at start n) in
    let next = next_first bytes memory entry stack table start count n c from fault loads lt in
    let rest = first_of (length bytes) (header_parts bytes memory start (suc n) (count - suc n)) in
    rw add-one (record {
      image = is_d ∙ ap (λ (x : Contents). with_header bytes x h) loads.image ∙ image_more bytes memory entry stack table (headers_in bytes start n) h;
      end = is_end ∙ ap (λ (x : ℕ). end_past x h) loads.end ∙ end_more bytes start n;
      behind = rw (is_d, is_end) (behind_more bytes c from (header_at start n) none loads.behind);
      left = ap (λ (f : Option Fault). option_or f rest) (sym none) ∙ next;
    })

-- all headers are loaded
pub all_loaded : (bytes : List ℕ) (memory stack table entry start count n : ℕ) (c : Contents) (from : ℕ) → count ≤ n → n ≤ count
    → entry ≡ number_in bytes ENTRY_AT 8 → start ≡ number_in bytes START_AT 8 → count ≡ number_in bytes COUNT_AT 2
    → Loads bytes memory entry stack table start count n c from (first_fault bytes memory)
    → image_of bytes memory stack table ≡ Some c
unfolding image_of
all_loaded bytes memory stack table entry start count n c from le ge e s k loads =
    let none : count - n ≡ 0 = omega arith in
    let same : n ≡ count = omega arith in
    let sound : None ≡ first_fault bytes memory = ap (λ (left : ℕ). first_of (length bytes) (header_parts bytes memory start n left)) (sym none) ∙ loads.left in
    let image : c ≡ image_in bytes memory stack table =
    loads.image ∙ ap (λ (x : ℕ). contents memory x stack table (segments_in bytes (headers_in bytes start n))) e
    ∙ ap (λ (x : ℕ). contents memory (number_in bytes ENTRY_AT 8) stack table (segments_in bytes (headers_in bytes x n))) s
    ∙ ap (λ (x : ℕ). contents memory (number_in bytes ENTRY_AT 8) stack table (segments_in bytes (headers_in bytes (number_in bytes START_AT 8) x))) (same ∙ k) in
    rw (← sound) (ap Some (sym image))
