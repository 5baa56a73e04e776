-- The first fault of a file, part by part.
use Rattle.std.proofs.Common.{◌≡◌, ℕ, List, [], ◌∷◌, ◌++◌, length, Option, Some, None, refl, sym, ap, subst, ◌∙◌}
use Rattle.std.specs.Option.{option_or}
use Rattle.axp_image.specs.declared.faults.ImageError.{ImageError}
use Rattle.axp_image.specs.declared.layout.TheConstants.{COUNT_AT, SIZE_AT}
use Rattle.axp_image.specs.declared.reading.Header.{Header}
use Rattle.axp_image.specs.declared.reading.Extent.{Extent}
use Rattle.axp_image.specs.Grammar.{header_of}
use Rattle.axp_image.specs.Faults.{Fault, Part, Names, fault_of, first_of, header_parts, record_at, extents_in, record_parts, body_parts, number_in, first_fault}
use Rattle.axp_image.proofs.ValidityLemmas.{header_has}
use Rattle.axp_image.proofs.ReadingLoopLemmas.{names_first}

or_or : {A : Type 0} (x y z : Option A) → option_or x (option_or y z) ≡ option_or (option_or x y) z
or_or None y z = refl
or_or (Some x) y z = refl

-- the parts in front come first
first_joined : (len : ℕ) (xs ys : List Part) → first_of len (xs ++ ys) ≡ option_or (first_of len xs) (first_of len ys)
first_joined len [] ys = refl
first_joined len (p ∷ xs) ys = rw (first_joined len xs ys) (or_or (fault_of len p) (first_of len xs) (first_of len ys))

-- the faults of the header, of the records and of the rest
abbrev pub header_fault : List ℕ → Option Fault
header_fault bytes = first_of (length bytes) (header_parts bytes)

abbrev pub records_fault : List ℕ → ℕ → ℕ → Option Fault
records_fault bytes size count = first_of (length bytes) (record_parts bytes size 0 count)

abbrev pub body_fault : List ℕ → ℕ → Option Fault
body_fault bytes count = first_of (length bytes) (body_parts (length bytes) (record_at count) (extents_in bytes 0 count))

-- the first fault is that of the header, of the records or of the rest
pub by_parts : (bytes : List ℕ) → let count = number_in bytes COUNT_AT 2 in
    first_fault bytes ≡ option_or (header_fault bytes) (option_or (records_fault bytes (number_in bytes SIZE_AT 8) count) (body_fault bytes count))
unfolding first_fault
by_parts bytes =
    let len = length bytes in
    let count = number_in bytes COUNT_AT 2 in
    let records = record_parts bytes (number_in bytes SIZE_AT 8) 0 count in
    let body = body_parts len (record_at count) (extents_in bytes 0 count) in
    first_joined len (header_parts bytes) (records ++ body) ∙ ap (option_or (header_fault bytes)) (first_joined len records body)

-- the same by the header that is read
pub by_header : (bytes : List ℕ) (h : Header) → header_of bytes ≡ Some h
    → first_fault bytes ≡ option_or (header_fault bytes) (option_or (records_fault bytes h.size h.count) (body_fault bytes h.count))
by_header bytes h read =
    let has = header_has bytes h read in
    let count : number_in bytes COUNT_AT 2 ≡ h.count = rw has.count refl in
    let size : number_in bytes SIZE_AT 8 ≡ h.size = rw has.size refl in
    rw (← count, ← size) (by_parts bytes)

pub header_fails : (bytes : List ℕ) (e : ImageError) → Names (first_of (length bytes) (header_parts bytes)) e → Names (first_fault bytes) e
header_fails bytes e named = subst (λ (f : Option Fault). Names f e) (sym (by_parts bytes)) (names_first (header_fault bytes) _ e named)

pub records_fail : (bytes : List ℕ) (h : Header) (e : ImageError) → header_of bytes ≡ Some h → first_of (length bytes) (header_parts bytes) ≡ None
    → Names (first_of (length bytes) (record_parts bytes h.size 0 h.count)) e → Names (first_fault bytes) e
records_fail bytes h e read sound named =
    let after : first_fault bytes ≡ option_or (records_fault bytes h.size h.count) (body_fault bytes h.count) = by_header bytes h read ∙ ap (λ (f : Option Fault). option_or f (option_or (records_fault bytes h.size h.count) (body_fault bytes h.count))) sound in
    subst (λ (f : Option Fault). Names f e) (sym after) (names_first (records_fault bytes h.size h.count) _ e named)

-- where header and records have no fault, the fault is that of the rest
pub body_left : (bytes : List ℕ) (h : Header) (start : ℕ) (es : List Extent) → header_of bytes ≡ Some h → first_of (length bytes) (header_parts bytes) ≡ None
    → first_of (length bytes) (record_parts bytes h.size 0 h.count) ≡ None → es ≡ extents_in bytes 0 h.count → start ≡ record_at h.count
    → first_fault bytes ≡ first_of (length bytes) (body_parts (length bytes) start es)
body_left bytes h start es read sound placed said there =
    rw (said, there) (by_header bytes h read ∙ ap (λ (f : Option Fault). option_or f (option_or (records_fault bytes h.size h.count) (body_fault bytes h.count))) sound
    ∙ ap (λ (f : Option Fault). option_or f (body_fault bytes h.count)) placed)

pub body_fails : (bytes : List ℕ) (h : Header) (start : ℕ) (es : List Extent) (e : ImageError) → header_of bytes ≡ Some h → first_of (length bytes) (header_parts bytes) ≡ None
    → first_of (length bytes) (record_parts bytes h.size 0 h.count) ≡ None → es ≡ extents_in bytes 0 h.count → start ≡ record_at h.count
    → Names (first_of (length bytes) (body_parts (length bytes) start es)) e → Names (first_fault bytes) e
body_fails bytes h start es e read sound placed said there named =
    subst (λ (f : Option Fault). Names f e) (sym (body_left bytes h start es read sound placed said there)) named

pub none_left : (bytes : List ℕ) (h : Header) (start : ℕ) (es : List Extent) → header_of bytes ≡ Some h → first_of (length bytes) (header_parts bytes) ≡ None
    → first_of (length bytes) (record_parts bytes h.size 0 h.count) ≡ None → es ≡ extents_in bytes 0 h.count → start ≡ record_at h.count
    → first_of (length bytes) (body_parts (length bytes) start es) ≡ None → first_fault bytes ≡ None
none_left bytes h start es read sound placed said there whole = body_left bytes h start es read sound placed said there ∙ whole
