-- The images keep the limits of an image, whatever their code is.
use Rattle.std.proofs.Common.{ℕ, zero, suc, ◌+◌, ◌*◌, ◌<◌, ◌≤◌, List, [], ◌∷◌, ◌++◌, length, refl, arith}
use Rattle.std.specs.Int.{byte_at, bytes_low_first, to_le_bytes, w32}
use Rattle.axp_image.specs.declared.limits.TheConstants.{KSEG}
use Rattle.axp_image.specs.Contents.{AreBytes, IsPlaced, IsValid, segment_of}
use Rattle.axp_gen.specs.Litmus.{bytes_of, litmus_image, quadword_at, with_code, with_pointer, table_entry, with_table}
use Rattle.axp_gen.specs.Programs.{code_of, store_buffering, dependent_load, dependent_load_with_barrier, spin_lock}
use Rattle.axp_gen.specs.declared.shapes.Shape.{Shape}
use Rattle.axp_gen.specs.declared.shapes.Shape.TheVariants.{Sb, Dl, Dm, Lock}
use Rattle.axp_gen.proofs.ImageLemmas.{bytes_length}

-- ---- bytes

-- a byte of a number is below 256
byte_small : (i n : ℕ) → byte_at i n < 256
byte_small zero n = omega arith
byte_small (suc i) n = omega arith

low_bytes : (i k n : ℕ) → AreBytes (bytes_low_first i k n)
low_bytes i zero n j = omega arith
low_bytes i (suc k) n zero = byte_small i n
low_bytes i (suc k) n (suc j) = low_bytes (suc i) k n j

append_bytes : (front rest : List ℕ) → AreBytes front → AreBytes rest → AreBytes (front ++ rest)
append_bytes [] rest first second j = second j
append_bytes (x ∷ xs) rest first second zero = first 0
append_bytes (x ∷ xs) rest first second (suc j) = append_bytes xs rest (λ i. first (suc i)) second j

code_bytes : (words : List ℕ) → AreBytes (bytes_of words)
code_bytes [] = λ j. omega arith
code_bytes (w ∷ ws) = append_bytes (to_le_bytes w32 w) (bytes_of ws) (low_bytes 0 4 w) (code_bytes ws)

-- ---- segments

code_placed : (size from at : ℕ) (words : List ℕ) → from ≤ at → 1 ≤ length words → at + 4 * length words ≤ size → IsPlaced size from (segment_of at (bytes_of words))
code_placed size from at words above some within = record {
  above = above;
  not_empty = omega (arith, some, bytes_length words);
  within = omega (arith, within, bytes_length words);
  bytes = code_bytes words;
}

quadword_placed : (size from at value : ℕ) → from ≤ at → at + 8 ≤ size → IsPlaced size from (quadword_at at value)
quadword_placed size from at value above within = record {
  above = above;
  not_empty = omega arith;
  within = within;
  bytes = low_bytes 0 8 value;
}

-- ---- images

pub with_code_valid : (words : List ℕ) → 1 ≤ length words → length words ≤ 2048 → IsValid (with_code words)
with_code_valid words some short = record {
  whole_pages = refl;
  least_size = omega arith;
  most_size = omega arith;
  entry_aligned = refl;
  least_entry = omega arith;
  most_entry = omega arith;
  stack_word = omega arith;
  table_page = omega arith;
  count = omega arith;
  placed = (code_placed 0x8000 0 0x2000 words (omega arith) some (omega (arith, short)), tt);
}

pub with_pointer_valid : (words : List ℕ) → 1 ≤ length words → length words ≤ 2048 → IsValid (with_pointer words)
with_pointer_valid words some short = record {
  whole_pages = refl;
  least_size = omega arith;
  most_size = omega arith;
  entry_aligned = refl;
  least_entry = omega arith;
  most_entry = omega arith;
  stack_word = omega arith;
  table_page = omega arith;
  count = omega arith;
  placed = (
    code_placed 0x8000 0 0x2000 words (omega arith) some (omega (arith, short)),
    (quadword_placed 0x8000 _ 0x4000 (KSEG + 0x4080) (omega (arith, short, bytes_length words)) (omega arith), tt),
  );
}

pub with_table_valid : (words : List ℕ) → 1 ≤ length words → length words ≤ 2048 → IsValid (with_table words)
with_table_valid words some short = record {
  whole_pages = refl;
  least_size = omega arith;
  most_size = omega arith;
  entry_aligned = refl;
  least_entry = omega arith;
  most_entry = omega arith;
  stack_word = omega arith;
  table_page = omega arith;
  count = omega arith;
  placed = (
    code_placed 0x10000 0 0x2000 words (omega arith) some (omega (arith, short)),
    (
      quadword_placed 0x10000 _ 0x6000 (table_entry 5 1) (omega (arith, short, bytes_length words)) (omega arith),
      (
        quadword_placed 0x10000 0x6008 0xA000 (table_entry 6 1) (omega arith) (omega arith),
        (quadword_placed 0x10000 0xA008 0xC008 (table_entry 7 0x1111) (omega arith) (omega arith), tt),
      ),
    ),
  );
}

pub litmus_valid : (shape : Shape) → IsValid (litmus_image shape)
unfolding litmus_image store_buffering dependent_load dependent_load_with_barrier spin_lock
litmus_valid Sb = with_code_valid (code_of Sb) (omega arith) (omega arith)
litmus_valid Dl = with_pointer_valid (code_of Dl) (omega arith) (omega arith)
litmus_valid Dm = with_pointer_valid (code_of Dm) (omega arith) (omega arith)
litmus_valid Lock = with_table_valid (code_of Lock) (omega arith) (omega arith)
