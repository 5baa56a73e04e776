-- A record is read number by number.
use Rattle.std.proofs.Common.{◌≡◌, ℕ, ◌+◌, ◌-◌, ◌≤◌, true, leb, List, length, take, drop, Some, refl, ap, ◌∙◌, arith}
use Rattle.std.proofs.lemmas.Bool.{le-leb}
use Rattle.std.proofs.lemmas.List.{drop-take, take-take, drop-drop, length-take, length-drop}
use Rattle.axp_image.specs.declared.layout.TheConstants.{RECORD_BYTES, ADDRESS_AT, LENGTH_AT, ZERO_AT}
use Rattle.axp_image.specs.Grammar.{piece_at, number_at, is_extent, extent, extent_at}

-- the bytes inside of a piece
inside : (bytes : List ℕ) (at m k n : ℕ) → k + n ≤ m → take n (drop k (take m (drop at bytes))) ≡ take n (drop (at + k) bytes)
inside bytes at m k n fits =
    let j = m - k in
    let split : m ≡ k + j = omega arith in
    ap (λ (x : ℕ). take n (drop k (take x (drop at bytes)))) split ∙ ap (take n) (drop-take k j (drop at bytes)) ∙ take-take n j (drop k (drop at bytes)) (omega arith) ∙ ap (take n) (drop-drop k at bytes)

-- a number inside of a piece is the file's
pub number_inside : (bytes : List ℕ) (at m k n : ℕ) → at + m ≤ length bytes → k + n ≤ m → number_at (take m (drop at bytes)) k n ≡ number_at bytes (at + k) n
unfolding number_at piece_at
number_inside bytes at m k n within fits =
    let own : leb (k + n) (length (take m (drop at bytes))) ≡ true = le-leb _ _ (omega (arith, length-take m (drop at bytes), length-drop at bytes)) in
    let whole : leb (at + k + n) (length bytes) ≡ true = le-leb _ _ (omega arith) in
    rw (own, whole, inside bytes at m k n fits) refl

pub piece_there : (bytes : List ℕ) (at n : ℕ) → at + n ≤ length bytes → piece_at bytes at n ≡ Some (take n (drop at bytes))
unfolding piece_at
piece_there bytes at n within = rw (le-leb (at + n) (length bytes) within) refl

-- the record at an offset is its three numbers, which pass the test
pub extent_there : (bytes : List ℕ) (size from at address len last : ℕ) → at + RECORD_BYTES ≤ length bytes
    → number_at bytes (at + ADDRESS_AT) 8 ≡ Some address → number_at bytes (at + LENGTH_AT) 4 ≡ Some len → number_at bytes (at + ZERO_AT) 4 ≡ Some last
    → is_extent size from (extent address len) last ≡ true
    → extent_at bytes size from at ≡ Some (extent address len)
unfolding extent_at
extent_there bytes size from at address len last within a l z passes =
    let piece = piece_there bytes at RECORD_BYTES within in
    let first : number_at (take RECORD_BYTES (drop at bytes)) ADDRESS_AT 8 ≡ Some address = number_inside bytes at RECORD_BYTES ADDRESS_AT 8 within (omega arith) ∙ a in
    let second : number_at (take RECORD_BYTES (drop at bytes)) LENGTH_AT 4 ≡ Some len = number_inside bytes at RECORD_BYTES LENGTH_AT 4 within (omega arith) ∙ l in
    let third : number_at (take RECORD_BYTES (drop at bytes)) ZERO_AT 4 ≡ Some last = number_inside bytes at RECORD_BYTES ZERO_AT 4 within (omega arith) ∙ z in
    rw (piece, first, second, third, passes) refl
