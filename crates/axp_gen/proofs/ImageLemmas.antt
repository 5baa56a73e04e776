-- How long the code of an image is, and where it ends.
use Rattle.std.proofs.Common.{◌≡◌, ℕ, ◌+◌, ◌*◌, ◌≤◌, List, [], ◌∷◌, length, take, refl, ap, ◌∙◌, arith}
use Rattle.std.specs.Int.{to_le_bytes, w32}
use Rattle.std.proofs.lemmas.List.{length-append, take_all}
use Rattle.axp_image.specs.Contents.{Segment, last_end, segment_of}
use Rattle.axp_gen.specs.Litmus.{bytes_of}

-- a word has four bytes
pub bytes_length : (words : List ℕ) → length (bytes_of words) ≡ 4 * length words
bytes_length [] = refl
bytes_length (w ∷ ws) = omega (arith, length-append (to_le_bytes w32 w) (bytes_of ws), bytes_length ws)

-- the bytes that are put are all once each word is
pub all_length : (words bytes : List ℕ) (i : ℕ) → bytes ≡ bytes_of (take i words) → length words ≤ i → length bytes ≡ 4 * length words
all_length words bytes i so_far all = ap length so_far ∙ ap (λ (ws : List ℕ). length (bytes_of ws)) (take_all i words all) ∙ bytes_length words

-- code that begins at the start of a page and is no longer ends in it
pub code_ends : (segments : List Segment) (at : ℕ) (words : List ℕ) → segments ≡ segment_of at (bytes_of words) ∷ [] → length words ≤ 2048 → last_end segments ≤ at + 0x2000
code_ends segments at words is short = rw is (omega (arith, bytes_length words, short))
