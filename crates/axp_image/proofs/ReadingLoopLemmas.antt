-- Reading records and segments one after the other, as a loop does: what was read so far stands in
-- front of what is still read.
use Rattle.std.proofs.Common.{◌≡◌, ℕ, suc, ◌+◌, ◌-◌, ◌<◌, ◌≤◌, false, ltb, List, [], ◌∷◌, ◌++◌, length, get_or, drop, Option, Some, None, refl, sym, ap, subst, ◌∙◌, append_assoc, add-one, drop-cons, arith}
use Rattle.std.specs.Option.{option_map, option_or}
use Rattle.std.proofs.lemmas.Bool.{le-ltb}
use Rattle.std.proofs.lemmas.List.{append-nil, drop_all}
use Rattle.axp_image.specs.declared.layout.TheConstants.{RECORD_BYTES}
use Rattle.axp_image.specs.declared.reading.Extent.{Extent}
use Rattle.axp_image.specs.Contents.{Segment, segment_of}
use Rattle.axp_image.specs.Grammar.{◌>>=◌, piece_at, extent_at, extents_at, segments_at}
use Rattle.axp_image.specs.Faults.{Fault, Names, fault_of, first_of, record_at, extent_in, extents_in, end_before, record_part, record_parts, total}
use Rattle.axp_image.specs.declared.faults.ImageError.{ImageError}
use Rattle.axp_image.specs.declared.faults.ImageError.TheVariants as error

abbrev pub with_front : {A : Type 0} → List A → Option (List A) → Option (List A)
with_front front read = option_map (λ rest. front ++ rest) read

regroup : {A : Type 0} (front : List A) (x : A) (read : Option (List A)) → with_front front (read >>= λ others. Some (x ∷ others)) ≡ with_front (front ++ x ∷ []) read
regroup front x (Some others) = ap Some (simp append_assoc)
regroup front x None = refl

pub extents_more : (bytes : List ℕ) (size count n from : ℕ) (front : List Extent) (e : Extent) (whole : Option (List Extent)) → n < count
    → extent_at bytes size from (record_at n) ≡ Some e
    → with_front front (extents_at bytes size (count - n) from (record_at n)) ≡ whole
    → with_front (front ++ e ∷ []) (extents_at bytes size (count - (n + 1)) (e.address + e.length) (record_at (n + 1))) ≡ whole
unfolding extents_at
extents_more bytes size count n from front e whole lt found so_far =
    let k : count - n ≡ suc (count - (n + 1)) = omega arith in
    let next : record_at n + RECORD_BYTES ≡ record_at (n + 1) = omega arith in
    let one : with_front front (extents_at bytes size (count - n) from (record_at n)) ≡ with_front (front ++ e ∷ []) (extents_at bytes size (count - (n + 1)) (e.address + e.length) (record_at (n + 1))) = rw (k, found, next) (regroup front e (extents_at bytes size (count - (n + 1)) (e.address + e.length) (record_at (n + 1)))) in
    sym one ∙ so_far

pub extents_end : (bytes : List ℕ) (size count n from : ℕ) (front : List Extent) (whole : Option (List Extent)) → count ≤ n
    → with_front front (extents_at bytes size (count - n) from (record_at n)) ≡ whole
    → whole ≡ Some front
unfolding extents_at
extents_end bytes size count n from front whole le so_far =
    let k : count - n ≡ 0 = omega arith in
    let one : with_front front (extents_at bytes size (count - n) from (record_at n)) ≡ Some front = rw k (ap Some (append-nil front)) in
    sym so_far ∙ one

-- ---- what the records say, and their faults

pub said_more : (bytes : List ℕ) (count n : ℕ) (front whole : List Extent) (e : Extent) → n < count → e ≡ extent_in bytes (record_at n)
    → front ++ extents_in bytes n (count - n) ≡ whole
    → (front ++ e ∷ []) ++ extents_in bytes (n + 1) (count - (n + 1)) ≡ whole
said_more bytes count n front whole e lt is so_far =
    let k : count - n ≡ suc (count - suc n) = omega arith in
    let next : n + 1 ≡ suc n = omega arith in
    let one : front ++ extents_in bytes n (count - n) ≡ (front ++ e ∷ []) ++ extents_in bytes (n + 1) (count - (n + 1)) = rw (next, k, is) (sym (append_assoc front (extent_in bytes (record_at n) ∷ []) (extents_in bytes (suc n) (count - suc n)))) in
    sym one ∙ so_far

pub end_next : (bytes : List ℕ) (n : ℕ) (e : Extent) → e ≡ extent_in bytes (record_at n) → e.address + e.length ≡ end_before bytes (n + 1)
end_next bytes n e is =
    let next : n + 1 ≡ suc n = omega arith in
    rw (next, is) refl

pub said_end : (bytes : List ℕ) (count n : ℕ) (front whole : List Extent) → count ≤ n
    → front ++ extents_in bytes n (count - n) ≡ whole → front ≡ whole
said_end bytes count n front whole le so_far =
    let k : count - n ≡ 0 = omega arith in
    let one : front ++ extents_in bytes n (count - n) ≡ front = rw k (append-nil front) in
    sym one ∙ so_far

pub fault_more : (bytes : List ℕ) (len size count n from : ℕ) (whole : Option Fault) → n < count → from ≡ end_before bytes n
    → fault_of len (record_part bytes size from (record_at n)) ≡ None
    → first_of len (record_parts bytes size n (count - n)) ≡ whole
    → first_of len (record_parts bytes size (n + 1) (count - (n + 1))) ≡ whole
fault_more bytes len size count n from whole lt is none so_far =
    let k : count - n ≡ suc (count - suc n) = omega arith in
    let next : n + 1 ≡ suc n = omega arith in
    let here : fault_of len (record_part bytes size (end_before bytes n) (record_at n)) ≡ None = subst (λ (f : ℕ). fault_of len (record_part bytes size f (record_at n)) ≡ None) is none in
    let one : first_of len (record_parts bytes size n (count - n)) ≡ first_of len (record_parts bytes size (n + 1) (count - (n + 1))) = rw (next, k, here) refl in
    sym one ∙ so_far

-- a fault of the first part is the file's
pub names_first : (fault rest : Option Fault) (e : ImageError) → Names fault e → Names (option_or fault rest) e
names_first fault rest (error.Bad kind offset) named = rw named refl
names_first fault rest error.Memory named = tt

pub record_fails : (bytes : List ℕ) (len size count n from : ℕ) (whole : Option Fault) (e : ImageError) → n < count → from ≡ end_before bytes n
    → first_of len (record_parts bytes size n (count - n)) ≡ whole
    → Names (fault_of len (record_part bytes size from (record_at n))) e → Names whole e
record_fails bytes len size count n from whole e lt is so_far named =
    let k : count - n ≡ suc (count - (n + 1)) = omega arith in
    let here = fault_of len (record_part bytes size from (record_at n)) in
    let rest = first_of len (record_parts bytes size (suc n) (count - (n + 1))) in
    let one : option_or here rest ≡ first_of len (record_parts bytes size n (count - n)) = rw (k, is) refl in
    subst (λ (f : Option Fault). Names f e) (one ∙ so_far) (names_first here rest e named)

pub fault_end : (bytes : List ℕ) (len size count n : ℕ) (whole : Option Fault) → count ≤ n
    → first_of len (record_parts bytes size n (count - n)) ≡ whole → whole ≡ None
fault_end bytes len size count n whole le so_far =
    let k : count - n ≡ 0 = omega arith in
    let one : first_of len (record_parts bytes size n (count - n)) ≡ None = rw k refl in
    sym so_far ∙ one

-- ---- segments

pub segments_more : (bytes : List ℕ) (at i : ℕ) (extents : List Extent) (d : Extent) (front : List Segment) (own : List ℕ) (whole : Option (List Segment)) → i < length extents
    → piece_at bytes at (get_or extents i d).length ≡ Some own → length own ≡ (get_or extents i d).length
    → with_front front (segments_at bytes at (drop i extents)) ≡ whole
    → with_front (front ++ segment_of (get_or extents i d).address own ∷ []) (segments_at bytes (at + length own) (drop (i + 1) extents)) ≡ whole
unfolding segments_at
segments_more bytes at i extents d front own whole lt found len so_far =
    let e = get_or extents i d in
    let split : drop i extents ≡ e ∷ drop (i + 1) extents = rw (add-one, drop-cons extents i d) refl in
    let next : at + e.length ≡ at + length own = omega arith in
    let one : with_front front (segments_at bytes at (drop i extents)) ≡ with_front (front ++ segment_of e.address own ∷ []) (segments_at bytes (at + length own) (drop (i + 1) extents)) = rw (split, found, next) (regroup front (segment_of e.address own) (segments_at bytes (at + length own) (drop (i + 1) extents))) in
    sym one ∙ so_far

pub left_more : (at i whole : ℕ) (extents : List Extent) (d : Extent) → i < length extents → at + total (drop i extents) ≡ whole
    → at + (get_or extents i d).length + total (drop (i + 1) extents) ≡ whole
left_more at i whole extents d lt so_far =
    let split : drop i extents ≡ get_or extents i d ∷ drop (i + 1) extents = rw (add-one, drop-cons extents i d) refl in
    let one : total (drop i extents) ≡ (get_or extents i d).length + total (drop (i + 1) extents) = rw split refl in
    omega (arith, one, so_far)

pub segments_end : (bytes : List ℕ) (at i : ℕ) (extents : List Extent) (front : List Segment) (whole : Option (List Segment)) → length extents ≤ i
    → length bytes ≤ at
    → with_front front (segments_at bytes at (drop i extents)) ≡ whole
    → whole ≡ Some front
unfolding segments_at
segments_end bytes at i extents front whole le past so_far =
    let done : drop i extents ≡ [] = drop_all i extents le in
    let end : ltb at (length bytes) ≡ false = le-ltb _ _ past in
    let one : with_front front (segments_at bytes at (drop i extents)) ≡ Some front = rw (done, end) (ap Some (append-nil front)) in
    sym so_far ∙ one
