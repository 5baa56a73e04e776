-- An image has one file: a file that is read is its image's spelling.
use Rattle.std.proofs.Common.{◌≡◌, ℕ, zero, suc, ◌+◌, ◌*◌, ◌/◌, ◌%◌, ◌^◌, ◌<◌, ◌≤◌, ltb, List, [], ◌∷◌, ◌++◌, length, take, drop, Some, refl, sym, ap, subst, ◌∙◌, append_assoc, arith}
use Rattle.std.specs.Int.{byte_at, bytes_low_first}
use Rattle.std.specs.List.{flat_map}
use Rattle.std.proofs.Math.Nat.{div-div-eq-div-mul, div-one, pow-succ'}
use Rattle.std.proofs.lemmas.Bool.{ltb-false}
use Rattle.std.proofs.lemmas.List.{take-append-drop, drop-drop, drop_all}
use Rattle.byteorder.specs.Endian.{little_number, little_bytes}
use Rattle.byteorder.specs.Numbers.{little_from-cons}
use Rattle.axp_image.specs.declared.layout.TheConstants.{MAGIC, VERSION, MAGIC_AT, VERSION_AT, COUNT_AT, SIZE_AT, ENTRY_AT, STACK_AT, TABLE_AT, HEADER_BYTES, RECORD_BYTES, ADDRESS_AT, LENGTH_AT, ZERO_AT}
use Rattle.axp_image.specs.declared.reading.Header.{Header}
use Rattle.axp_image.specs.declared.reading.Extent.{Extent}
use Rattle.axp_image.specs.Contents.{Segment, Contents, contents, segment_of, AreBytes}
use Rattle.axp_image.specs.Grammar.{◌>>=◌, piece_at, number_at, header_of, extent_at, extents_at, segments_at, image_of}
use Rattle.axp_image.specs.Spelling.{number_bytes, format_bytes, header_bytes, record_of, bytes_of, spelling}
use Rattle.axp_image.proofs.ValidityLemmas.{bind_some, guard_none, some_is, piece_some, piece_length, piece_bytes, HasHeader, header_has, HasExtent, extent_has, extent_end, extents_say, after_extents, after_header}

-- ---- numbers

byte_at-pow : (i x : ℕ) → byte_at i x ≡ x / 256 ^ i % 256
byte_at-pow zero x = ap (λ (y : ℕ). y % 256) (sym (div-one x))
byte_at-pow (suc i) x = refl

byte_shift : (i x : ℕ) → byte_at (suc i) x ≡ byte_at i (x / 256)
byte_shift i x =
    let split : x / 256 ^ suc i ≡ x / 256 / 256 ^ i = ap (λ (p : ℕ). x / p) (pow-succ' 256 i) ∙ sym (div-div-eq-div-mul x 256 (256 ^ i)) in
    ap (λ (q : ℕ). q % 256) split ∙ sym (byte_at-pow i (x / 256))

bytes_shift : (k i x : ℕ) → bytes_low_first (suc i) k x ≡ bytes_low_first i k (x / 256)
bytes_shift zero i x = refl
bytes_shift (suc k) i x =
    ap (λ (b : ℕ). b ∷ bytes_low_first (suc (suc i)) k x) (byte_shift i x) ∙ ap (λ (bs : List ℕ). byte_at i (x / 256) ∷ bs) (bytes_shift k (suc i) x)

bytes_cons : (b m x y : ℕ) (bs : List ℕ) → b < 256 → x ≡ b + 256 * y → bytes_low_first 0 m y ≡ bs → bytes_low_first 0 (suc m) x ≡ b ∷ bs
bytes_cons b m x y bs small is rest =
    let low : x % 256 ≡ b = omega arith in
    let high : x / 256 ≡ y = omega arith in
    ap (λ (c : ℕ). c ∷ bytes_low_first 1 m x) low ∙ ap (λ (cs : List ℕ). b ∷ cs) (bytes_shift m 0 x ∙ ap (bytes_low_first 0 m) high ∙ rest)

-- the bytes of the number that bytes make are these bytes
bytes_back : (piece : List ℕ) → AreBytes piece → little_bytes (length piece) (little_number (length piece) piece) ≡ piece
bytes_back [] all = refl
bytes_back (b ∷ bs) all =
    bytes_cons b (length bs) (little_number (suc (length bs)) (b ∷ bs)) (little_number (length bs) bs) bs (all 0) (ap (λ (r : ℕ). b + 256 * r) (little_from-cons 0 (length bs) b bs)) (bytes_back bs (λ i. all (suc i)))

-- ---- from an offset on

piece_spelled : (bytes : List ℕ) (at n : ℕ) (piece : List ℕ) → piece_at bytes at n ≡ Some piece → drop at bytes ≡ piece ++ drop (at + n) bytes
piece_spelled bytes at n piece h =
    sym (take-append-drop n (drop at bytes)) ∙ ap (λ (t : List ℕ). take n (drop at bytes) ++ t) (drop-drop n at bytes) ∙ ap (λ (t : List ℕ). t ++ drop (at + n) bytes) (piece_some bytes at n piece h).1

number_spelled : (bytes : List ℕ) (at n x : ℕ) → AreBytes bytes → number_at bytes at n ≡ Some x → drop at bytes ≡ little_bytes n x ++ drop (at + n) bytes
unfolding number_at
number_spelled bytes at n x all h =
    let piece = bind_some (piece_at bytes at n) (λ p. Some (little_number n p)) x h in
    let p = piece.0 in
    let text : little_bytes n (little_number n p) ≡ p = subst (λ (k : ℕ). little_bytes k (little_number k p) ≡ p) (piece_length bytes at n p piece.1) (bytes_back p (piece_bytes bytes at n p all piece.1)) in
    let same : little_bytes n x ≡ p = ap (little_bytes n) (sym (some_is (little_number n p) x piece.2)) ∙ text in
    piece_spelled bytes at n p piece.1 ∙ ap (λ (t : List ℕ). t ++ drop (at + n) bytes) (sym same)

-- a piece in front of what is spelled
then : (a x b c : List ℕ) → a ≡ x ++ b → b ≡ c → a ≡ x ++ c
then a x b c p q = p ∙ ap (λ (t : List ℕ). x ++ t) q

-- ---- records

abbrev pub extent_record : Extent → List ℕ
extent_record e = little_bytes 8 e.address ++ (little_bytes 4 e.length ++ little_bytes 4 0)

record_spelled : (bytes : List ℕ) (size from at : ℕ) (e : Extent) → AreBytes bytes → HasExtent bytes size from at e → drop at bytes ≡ extent_record e ++ drop (at + RECORD_BYTES) bytes
record_spelled bytes size from at e all has =
    let p = has.piece in
    let own = piece_bytes bytes at RECORD_BYTES p all has.piece_is in
    let len : length p ≡ RECORD_BYTES = piece_length bytes at RECORD_BYTES p has.piece_is in
    let nothing : drop RECORD_BYTES p ≡ [] = drop_all RECORD_BYTES p (omega (arith, len)) in
    let last : drop ZERO_AT p ≡ little_bytes 4 0 = number_spelled p ZERO_AT 4 0 own has.zero_word ∙ ap (λ (t : List ℕ). little_bytes 4 0 ++ t) nothing in
    let rest : drop LENGTH_AT p ≡ little_bytes 4 e.length ++ little_bytes 4 0 = then _ (little_bytes 4 e.length) _ _ (number_spelled p LENGTH_AT 4 e.length own has.len) last in
    let whole : p ≡ extent_record e = then _ (little_bytes 8 e.address) _ _ (number_spelled p ADDRESS_AT 8 e.address own has.address) rest in
    piece_spelled bytes at RECORD_BYTES p has.piece_is ∙ ap (λ (t : List ℕ). t ++ drop (at + RECORD_BYTES) bytes) whole

records_spelled : (bytes : List ℕ) (size count from at : ℕ) (es : List Extent) → AreBytes bytes → extents_at bytes size count from at ≡ Some es
    → drop at bytes ≡ flat_map extent_record es ++ drop (at + count * RECORD_BYTES) bytes
unfolding extents_at
records_spelled bytes size zero from at es all h =
    let there : at + 0 * RECORD_BYTES ≡ at = omega arith in
    subst (λ (xs : List Extent). drop at bytes ≡ flat_map extent_record xs ++ drop (at + 0 * RECORD_BYTES) bytes) (some_is [] es h) (ap (λ (n : ℕ). drop n bytes) (sym there))
records_spelled bytes size (suc count) from at es all h =
    let first = bind_some (extent_at bytes size from at) (λ x. extents_at bytes size count (extent_end x) (at + RECORD_BYTES) >>= λ xs. Some (x ∷ xs)) es h in
    let others = bind_some (extents_at bytes size count (extent_end first.0) (at + RECORD_BYTES)) (λ xs. Some (first.0 ∷ xs)) es first.2 in
    let there : at + RECORD_BYTES + count * RECORD_BYTES ≡ at + suc count * RECORD_BYTES = omega arith in
    let rest = records_spelled bytes size count (extent_end first.0) (at + RECORD_BYTES) others.0 all others.1 in
    let one = then _ (extent_record first.0) _ _ (record_spelled bytes size from at first.0 all (extent_has bytes size from at first.0 first.1)) rest in
    let grouped : extent_record first.0 ++ (flat_map extent_record others.0 ++ drop (at + RECORD_BYTES + count * RECORD_BYTES) bytes) ≡ (extent_record first.0 ++ flat_map extent_record others.0) ++ drop (at + suc count * RECORD_BYTES) bytes =
    ap (λ (n : ℕ). extent_record first.0 ++ (flat_map extent_record others.0 ++ drop n bytes)) there ∙ sym (append_assoc (extent_record first.0) (flat_map extent_record others.0) (drop (at + suc count * RECORD_BYTES) bytes)) in
    subst (λ (xs : List Extent). drop at bytes ≡ flat_map extent_record xs ++ drop (at + suc count * RECORD_BYTES) bytes) (some_is (first.0 ∷ others.0) es others.2) (one ∙ grouped)

-- ---- segments

segments_spelled : (bytes : List ℕ) (at : ℕ) (es : List Extent) (ss : List Segment) → segments_at bytes at es ≡ Some ss
    → (drop at bytes ≡ flat_map bytes_of ss) × (flat_map extent_record es ≡ flat_map record_of ss) × (length ss ≡ length es)
unfolding segments_at record_of number_bytes
segments_spelled bytes at [] ss h =
    let passed = guard_none (ltb at (length bytes)) [] ss h in
    let past : length bytes ≤ at = ltb-false at (length bytes) passed.0 in
    subst (λ (xs : List Segment). (drop at bytes ≡ flat_map bytes_of xs) × ([] ≡ flat_map record_of xs) × (length xs ≡ 0)) passed.1 (drop_all at bytes past, refl, refl)
segments_spelled bytes at (e ∷ es) ss h =
    let own = bind_some (piece_at bytes at e.length) (λ x. segments_at bytes (at + e.length) es >>= λ xs. Some (segment_of e.address x ∷ xs)) ss h in
    let s = segment_of e.address own.0 in
    let others = bind_some (segments_at bytes (at + e.length) es) (λ xs. Some (s ∷ xs)) ss own.2 in
    let rest = segments_spelled bytes (at + e.length) es others.0 others.1 in
    let len : e.length ≡ length own.0 = sym (piece_length bytes at e.length own.0 own.1) in
    let head : extent_record e ≡ record_of s = ap (λ (n : ℕ). little_bytes 8 e.address ++ (little_bytes 4 n ++ little_bytes 4 0)) len in
    let text : drop at bytes ≡ own.0 ++ flat_map bytes_of others.0 = then _ own.0 _ _ (piece_spelled bytes at e.length own.0 own.1) rest.0 in
    let records : extent_record e ++ flat_map extent_record es ≡ record_of s ++ flat_map record_of others.0 = ap (λ (t : List ℕ). t ++ flat_map extent_record es) head ∙ ap (λ (t : List ℕ). record_of s ++ t) rest.1 in
    subst (λ (xs : List Segment). (drop at bytes ≡ flat_map bytes_of xs) × (extent_record e ++ flat_map extent_record es ≡ flat_map record_of xs) × (length xs ≡ suc (length es))) (some_is (s ∷ others.0) ss others.2) (text, records, ap suc rest.2)

-- ---- the whole

header_spelled : (bytes : List ℕ) (h : Header) → AreBytes bytes → HasHeader bytes h
    → bytes ≡ little_bytes 4 MAGIC ++ (little_bytes 2 VERSION ++ (little_bytes 2 h.count ++ (little_bytes 8 h.size ++ (little_bytes 8 h.entry ++ (little_bytes 8 h.stack ++ (little_bytes 8 h.table ++ drop HEADER_BYTES bytes))))))
header_spelled bytes h all has =
    then _ (little_bytes 4 MAGIC) _ _ (number_spelled bytes MAGIC_AT 4 MAGIC all has.magic) (
    then _ (little_bytes 2 VERSION) _ _ (number_spelled bytes VERSION_AT 2 VERSION all has.version) (
    then _ (little_bytes 2 h.count) _ _ (number_spelled bytes COUNT_AT 2 h.count all has.count) (
    then _ (little_bytes 8 h.size) _ _ (number_spelled bytes SIZE_AT 8 h.size all has.size) (
    then _ (little_bytes 8 h.entry) _ _ (number_spelled bytes ENTRY_AT 8 h.entry all has.entry) (
    then _ (little_bytes 8 h.stack) _ _ (number_spelled bytes STACK_AT 8 h.stack all has.stack) (
    number_spelled bytes TABLE_AT 8 h.table all has.table))))))

whole_spelled : (bytes : List ℕ) (h : Header) (es : List Extent) (ss : List Segment) → AreBytes bytes → HasHeader bytes h
    → extents_at bytes h.size h.count 0 HEADER_BYTES ≡ Some es → segments_at bytes (HEADER_BYTES + h.count * RECORD_BYTES) es ≡ Some ss
    → bytes ≡ spelling (contents h.size h.entry h.stack h.table ss)
unfolding spelling header_bytes format_bytes record_of number_bytes
whole_spelled bytes h es ss all has records segments =
    let own = segments_spelled bytes (HEADER_BYTES + h.count * RECORD_BYTES) es ss segments in
    let said = extents_say bytes h.size h.count 0 HEADER_BYTES es records in
    let count : h.count ≡ length ss = sym (own.2 ∙ said.1) in
    let rest : drop HEADER_BYTES bytes ≡ flat_map record_of ss ++ flat_map bytes_of ss =
    records_spelled bytes h.size h.count 0 HEADER_BYTES es all records ∙ ap (λ (t : List ℕ). flat_map extent_record es ++ t) own.0 ∙ ap (λ (t : List ℕ). t ++ flat_map bytes_of ss) own.1 in
    header_spelled bytes h all has
    ∙ ap (λ (t : List ℕ). little_bytes 4 MAGIC ++ (little_bytes 2 VERSION ++ (little_bytes 2 h.count ++ (little_bytes 8 h.size ++ (little_bytes 8 h.entry ++ (little_bytes 8 h.stack ++ (little_bytes 8 h.table ++ t))))))) rest
    ∙ ap (λ (n : ℕ). little_bytes 4 MAGIC ++ (little_bytes 2 VERSION ++ (little_bytes 2 n ++ (little_bytes 8 h.size ++ (little_bytes 8 h.entry ++ (little_bytes 8 h.stack ++ (little_bytes 8 h.table ++ (flat_map record_of ss ++ flat_map bytes_of ss)))))))) count

pub image_spelled : (bytes : List ℕ) (c : Contents) → AreBytes bytes → image_of bytes ≡ Some c → bytes ≡ spelling c
unfolding image_of
image_spelled bytes c all e =
    let header = bind_some (header_of bytes) (after_header bytes) c e in
    let h = header.0 in
    let extents = bind_some (extents_at bytes h.size h.count 0 HEADER_BYTES) (after_extents bytes h) c header.2 in
    let segments = bind_some (segments_at bytes (HEADER_BYTES + h.count * RECORD_BYTES) extents.0) (λ ss. Some (contents h.size h.entry h.stack h.table ss)) c extents.2 in
    subst (λ (x : Contents). bytes ≡ spelling x) (some_is (contents h.size h.entry h.stack h.table segments.0) c segments.2)
    (whole_spelled bytes h extents.0 segments.0 all (header_has bytes h header.1) extents.1 segments.1)
