-- How long a listing is.
use Rattle.std.proofs.Common.{◌≡◌, ℕ, suc, ◌+◌, ◌*◌, ◌≤◌, List, [], ◌∷◌, ◌++◌, length, map, drop, codes, Some, ap, refl, subst, arith}
use Rattle.std.specs.Prelude.{slice_get}
use Rattle.std.specs.List.{flat_map}
use Rattle.std.proofs.lemmas.List.{length-append, length-drop}
use Rattle.axp_image.specs.Contents.{Contents, Segment, ArePlaced, IsValid, end_of}
use Rattle.axp_trace.specs.Digits.{hex}
use Rattle.axp_trace.specs.declared.files.TheConstants.{LINE_FEED}
use Rattle.axp_trace.proofs.DigitLemmas.{length-hex}
use Rattle.axp_trace.specs.declared.lines.TheConstants.{LINE_ROOM}
use Rattle.axp_source.specs.Texts.{directive_text}
use Rattle.axp_asm.specs.declared.layout.TheConstants.{MAX_SOURCE}
use Rattle.axp_asm.specs.Listings.{byte_listed, line_of}
use Rattle.axp_asm.proofs.ListingLemmas.{drop_next}

byte_length : (b : ℕ) → length (line_of (byte_listed b)) ≡ 9
unfolding directive_text
byte_length b =
    let digits = length-hex 2 b in
    let word = length-append (codes ".byte ") (hex 2 b) in
    let line = length-append (codes ".byte " ++ hex 2 b) (LINE_FEED ∷ []) in
    omega (arith, digits, word, line)

pub bytes_length : (bytes : List ℕ) → length (flat_map line_of (map byte_listed bytes)) ≡ 9 * length bytes
bytes_length [] = refl
bytes_length (b ∷ rest) =
    let first = byte_length b in
    let both = length-append (line_of (byte_listed b)) (flat_map line_of (map byte_listed rest)) in
    omega (arith, first, both, bytes_length rest)

-- the bytes of segments
abbrev pub bytes_in : List Segment → ℕ
bytes_in [] = 0
bytes_in (s ∷ rest) = length s.bytes + bytes_in rest

pub bytes_within : (size from : ℕ) (segments : List Segment) → ArePlaced size from segments → from ≤ size → from + bytes_in segments ≤ size
bytes_within size from [] placed inside = omega (arith, inside)
bytes_within size from (s ∷ rest) placed inside =
    let others = bytes_within size (end_of s) rest placed.1 placed.0.within in
    omega (arith, others, placed.0.above)

-- a listing of so many bytes, before more segments of all, is no longer than its lines may be
abbrev pub RoomLeft : ℕ → List Segment → List Segment → Type 0
RoomLeft written more all = written + (LINE_ROOM + 1) * length more + 25 * bytes_in more ≤ (LINE_ROOM + 1) * 4 + (LINE_ROOM + 1) * length all + 25 * bytes_in all

-- the lines of all bytes are written
pub bytes_written : (out old bytes : List ℕ) (n : ℕ) → out ++ flat_map line_of (map byte_listed (drop n bytes)) ≡ old ++ flat_map line_of (map byte_listed bytes) → length bytes ≤ n
    → length out ≡ length old + 9 * length bytes
bytes_written out old bytes n same all =
    let left : length (drop n bytes) ≡ 0 = omega (arith, length-drop n bytes, all) in
    let both = length-append out (flat_map line_of (map byte_listed (drop n bytes))) in
    let whole = length-append old (flat_map line_of (map byte_listed bytes)) in
    omega (arith, ap length same, both, whole, bytes_length (drop n bytes), bytes_length bytes, left)

-- one segment more is written
pub room_after : (written new n : ℕ) (all : List Segment) (s : Segment) → slice_get all n ≡ Some s → new ≤ written + (LINE_ROOM + 1) + 25 * length s.bytes
    → RoomLeft written (drop n all) all → RoomLeft new (drop (n + 1) all) all
room_after written new n all s at short room =
    let here : RoomLeft written (s ∷ drop (suc n) all) all = subst (λ (more : List Segment). RoomLeft written more all) (drop_next all n s at) room in
    let next : n + 1 ≡ suc n = omega arith in
    rw next (omega (arith, short, here))

-- all are written
pub short_enough : (written n : ℕ) (c : Contents) → IsValid c → RoomLeft written (drop n c.segments) c.segments → written ≤ MAX_SOURCE
short_enough written n c valid room =
    let inside : 0 + bytes_in c.segments ≤ c.size = bytes_within c.size 0 c.segments valid.placed (omega arith) in
    omega (arith, room, inside, valid.most_size, valid.count)
