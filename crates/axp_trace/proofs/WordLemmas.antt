-- The words of a text, and the fields that they give back.
use Rattle.std.proofs.Common.{◌≡◌, ◌≢◌, ℕ, ◌+◌, ◌*◌, ◌%◌, ◌^◌, ◌<◌, ◌≤◌, ◌==◌, ◌&&◌, ◌||◌, Bool, true, false, List, [], ◌∷◌, ◌++◌, length, decimal, Option, Some, None, IfSome, refl, ap, ◌∙◌, arith, ⊎_elim, inl, inr, if◌then◌else◌, nat_lt, ◌/◌}
use Rattle.std.specs.List.{All, onto_first}
use Rattle.std.proofs.lemmas.Bool.{eq-eqb, ltb-true, eqb-true}
use Rattle.std.proofs.lemmas.List.Elements.{All-weaker, All-cons}
use Rattle.std.proofs.lemmas.List.Splits.{length-slice_split}
use Rattle.axp_base.specs.Cpus.{cpu_number}
use Rattle.axp_base.specs.Lines.{line_number}
use Rattle.axp_base.specs.Masks.{IsSize}
use Rattle.axp_base.specs.declared.lines.Bank.{Bank}
use Rattle.axp_base.specs.declared.lines.Bank.TheVariants.{Even, Odd, Code}
use Rattle.axp_base.specs.declared.lines.Line.{Line}
use Rattle.axp_base.specs.declared.lines.TheConstants.{LINE_BYTES}
use Rattle.axp_base.specs.declared.processors.Cpu.{Cpu}
use Rattle.axp_base.specs.declared.processors.TheConstants.{MAX_BUDGET}
use Rattle.axp_base.proofs.CpuLemmas.{cpu_of_number}
use Rattle.axp_access.specs.Spelling.{IsLine, IsTurn, IsEntry}
use Rattle.axp_trace.specs.Digits.{hex, number_of, hex_number_of, number_within}
use Rattle.axp_trace.specs.Fields.{words_of, cpu_in, line_by, line_of_number, line_in, bank_in, turn_in, entry_in, is_size, moved_of, moved_in, data_in}
use Rattle.axp_trace.specs.Lines.{bank_text, address_text}
use Rattle.axp_trace.specs.declared.fields.Moved.{Moved}
use Rattle.axp_trace.specs.declared.fields.TheConstants.{MOST_NUMBER}
use Rattle.axp_trace.proofs.DigitLemmas.{decimal_back, hex_number_back, hex_number_small, number_back, within_limits}
use Rattle.axp_trace.proofs.LineLemmas.{high_decimal, high_hex, small_cpu}
use Rattle.axp_trace.proofs.MemoryLineLemmas.{line_in_back}
use Rattle.axp_trace.proofs.ReadingLemmas.{words_of-one}

pub high_word : (word : List ℕ) → All (λ d. 48 ≤ d) word → All (λ b. b ≢ 32) word
high_word word h = All-weaker (λ d. 48 ≤ d) (λ d. d ≢ 32) (λ d h e. absurd (omega arith)) word h

pub words_of-decimal : (n : ℕ) → words_of (decimal n) ≡ decimal n ∷ []
words_of-decimal n = words_of-one (decimal n) (high_word (decimal n) (high_decimal n))

pub words_of-hex : (k n : ℕ) → words_of (hex k n) ≡ hex k n ∷ []
words_of-hex k n = words_of-one (hex k n) (high_word (hex k n) (high_hex k n))

-- a letter or a sign and a number are one word
pub words_of-marked : (letter n : ℕ) → 48 ≤ letter → words_of (letter ∷ decimal n) ≡ (letter ∷ decimal n) ∷ []
words_of-marked letter n high = words_of-one (letter ∷ decimal n) (high_word (letter ∷ decimal n) (All-cons (λ d. 48 ≤ d) letter (decimal n) high (high_decimal n)))

-- the words on both sides of a blank
pub words_of-both : (xs ys : List ℕ) → words_of (xs ++ 32 ∷ ys) ≡ words_of xs ++ words_of ys
words_of-both [] ys = refl
words_of-both (x ∷ xs) ys = by (x == 32) (words_of-both xs ys)
  where
    onto : (parts more : List (List ℕ)) → 0 < length parts → onto_first x (parts ++ more) ≡ onto_first x parts ++ more
    onto [] more h = absurd (omega arith)
    onto (part ∷ parts) more h = refl

    by : (t : Bool) → words_of (xs ++ 32 ∷ ys) ≡ words_of xs ++ words_of ys → (if t then [] ∷ words_of (xs ++ 32 ∷ ys) else onto_first x (words_of (xs ++ 32 ∷ ys))) ≡ (if t then [] ∷ words_of xs else onto_first x (words_of xs)) ++ words_of ys
    by true h = ap (λ ws. [] ∷ ws) h
    by false h = let some : length (words_of xs) ≡ _ + 1 = length-slice_split (λ b. b == 32) xs in ap (onto_first x) h ∙ onto (words_of xs) (words_of ys) (omega arith)

-- ---- what is printed is read

pub turn_back : (turn : ℕ) → IsTurn turn → turn_in (64 ∷ decimal turn) ≡ Some turn
turn_back turn small = number_back 0 MOST_NUMBER turn (omega arith) (omega arith) (omega arith)

pub entry_back : (n : ℕ) → IsEntry n → entry_in (101 ∷ decimal n) ≡ Some n
entry_back n h = let a = h.least in let b = h.most in number_back 1 MAX_BUDGET n a b (omega arith)

pub cpu_back : (c : Cpu) → cpu_in (number_of (decimal (cpu_number c))) ≡ Some c
cpu_back c = let small = small_cpu c in ap cpu_in (decimal_back (cpu_number c) (omega arith)) ∙ cpu_of_number c

pub bank_back : (b : Bank) → bank_in (bank_text b) ≡ Some b
bank_back Even = refl
bank_back Odd = refl
bank_back Code = refl

pub address_back : (l : Line) → IsLine l → line_in (hex_number_of 8 (address_text l)) ≡ Some l
address_back l small = ap line_in (hex_number_back 8 (line_number l * LINE_BYTES) small) ∙ line_in_back l small

size_is_tested : (n : ℕ) → IsSize n → is_size n ≡ true
size_is_tested n h = ⊎_elim (λ e. rw e refl) (λ h. ⊎_elim (λ e. rw e refl) (λ h. ⊎_elim (λ e. rw e refl) (λ e. rw e refl) h) h) h

size_tested : (n : ℕ) → is_size n ≡ true → IsSize n
size_tested n h = by (n == 1) (n == 2) (n == 4) (n == 8) refl refl refl refl h
  where
    by : (a b c d : Bool) → (n == 1) ≡ a → (n == 2) ≡ b → (n == 4) ≡ c → (n == 8) ≡ d → (((a || b) || c) || d) ≡ true → IsSize n
    by true b c d e f g i h = inl (eqb-true n 1 e)
    by false true c d e f g i h = inr (inl (eqb-true n 2 f))
    by false false true d e f g i h = inr (inr (inl (eqb-true n 4 g)))
    by false false false true e f g i h = inr (inr (inr (eqb-true n 8 i)))
    by false false false false e f g i h = cc

-- bytes that lie at a multiple of their number
pub moved_back : (address size value : ℕ) → IsSize size → address % size ≡ 0 → address < 2 ^ 32 → value < 2 ^ (8 * size) → moved_in (hex_number_of 8 (hex 8 address)) (Some size) (hex (2 * size) value) ≡ Some (record { address = address; size = size; value = value })
moved_back address size value sized aligned low small =
    let e : 8 * size ≡ 4 * (2 * size) = omega arith in
    let fits : value < 2 ^ (4 * (2 * size)) = rw (← e) small in
    ap (λ a. moved_in a (Some size) (hex (2 * size) value)) (hex_number_back 8 address low)
    ∙ rw (size_is_tested size sized, eq-eqb (address % size) 0 aligned) (ap (moved_of address size) (hex_number_back (2 * size) value fits))

pub data_back : (address size value : ℕ) → IsSize size → address % size ≡ 0 → address < 2 ^ 32 → value < 2 ^ (8 * size) → data_in (hex 8 address) (decimal size) (hex (2 * size) value) ≡ Some (record { address = address; size = size; value = value })
data_back address size value sized aligned low small =
    ap (λ n. moved_in (hex_number_of 8 (hex 8 address)) n (hex (2 * size) value)) (decimal_back size (few size sized))
    ∙ moved_back address size value sized aligned low small
  where
    few : (n : ℕ) → IsSize n → n < 2 ^ 32
    few n h = ⊎_elim (λ e. omega arith) (λ h. ⊎_elim (λ e. omega arith) (λ h. ⊎_elim (λ e. omega arith) (λ e. omega arith) h) h) h

-- ---- what is read is printed

pub turn_read : (word : List ℕ) → IfSome (turn_in word) IsTurn
turn_read [] = tt
turn_read (sign ∷ digits) = limited 0 MOST_NUMBER IsTurn (number_within 0 MOST_NUMBER digits) (within_limits 0 MOST_NUMBER (number_of digits)) (λ n low high. omega arith)
  where
    limited : (least most : ℕ) (P : ℕ → Type 0) (o : Option ℕ) → IfSome o (λ k. (least ≤ k) × (k ≤ most)) → ((n : ℕ) → least ≤ n → n ≤ most → P n) → IfSome o P
    limited least most P None h f = tt
    limited least most P (Some n) h f = f n h.0 h.1

pub entry_read : (word : List ℕ) → IfSome (entry_in word) IsEntry
entry_read [] = tt
entry_read (sign ∷ digits) = entries (number_within 1 MAX_BUDGET digits) (within_limits 1 MAX_BUDGET (number_of digits))
  where
    entries : (o : Option ℕ) → IfSome o (λ k. (1 ≤ k) × (k ≤ MAX_BUDGET)) → IfSome o IsEntry
    entries None h = tt
    entries (Some n) h = record { least = h.0; most = h.1 }

pub line_read : (address : Option ℕ) → IfSome (line_in address) IsLine
line_read None = tt
line_read (Some address) = by (nat_lt address (2 ^ 32)) refl
  where
    low : (t : Bool) (e : nat_lt (address / LINE_BYTES * LINE_BYTES) (2 ^ 64) ≡ t) → address < 2 ^ 32 → IfSome (line_by (address / LINE_BYTES) t e) IsLine
    low true e small = omega arith
    low false e small = tt

    by : (t : Bool) → nat_lt address (2 ^ 32) ≡ t → IfSome (if t then line_of_number (address / LINE_BYTES) else None) IsLine
    by true e = low (nat_lt (address / LINE_BYTES * LINE_BYTES) (2 ^ 64)) refl (ltb-true address (2 ^ 32) e)
    by false e = tt

-- bytes that lie at a multiple of their number, and as many as an access has
pub record IsMovedWell (m : Moved) : Type 0 where
  pub sized : IsSize m.size
  pub aligned : m.address % m.size ≡ 0
  pub address : m.address < 2 ^ 32
  pub value : m.value < 2 ^ (8 * m.size)

-- as many as were asked for
pub moved_size : (address : Option ℕ) (word : List ℕ) (n : ℕ) → IfSome (moved_in address (Some n) word) (λ m. m.size ≡ n)
moved_size None word n = tt
moved_size (Some a) word n = by (is_size n && (a % n == 0)) (hex_number_of (2 * n) word)
  where
    by : (t : Bool) (v : Option ℕ) → IfSome (if t then moved_of a n v else None) (λ m. m.size ≡ n)
    by true None = tt
    by true (Some v) = refl
    by false v = tt

pub moved_read : (address word : List ℕ) (size : Option ℕ) → IfSome (moved_in (hex_number_of 8 address) size word) IsMovedWell
moved_read address word size = by (hex_number_of 8 address) (hex_number_small 8 address) size
  where
    power : (n v : ℕ) → v < 2 ^ (4 * (2 * n)) → v < 2 ^ (8 * n)
    power n v h = let e : 4 * (2 * n) ≡ 8 * n = omega arith in rw e at h

    valued : (a n : ℕ) → IsSize n → a % n ≡ 0 → a < 2 ^ 32 → (v : Option ℕ) → IfSome v (λ v. v < 2 ^ (4 * (2 * n))) → IfSome (moved_of a n v) IsMovedWell
    valued a n size aligned low None h = tt
    valued a n size aligned low (Some v) h = record { sized = size; aligned = aligned; address = low; value = power n v h }

    tested : (a n : ℕ) → a < 2 ^ 32 → (t u : Bool) → is_size n ≡ t → (a % n == 0) ≡ u → IfSome (if t && u then moved_of a n (hex_number_of (2 * n) word) else None) IsMovedWell
    tested a n low true true e f = valued a n (size_tested n e) (eqb-true (a % n) 0 f) low (hex_number_of (2 * n) word) (hex_number_small (2 * n) word)
    tested a n low true false e f = tt
    tested a n low false u e f = tt

    by : (a : Option ℕ) → IfSome a (λ n. n < 2 ^ (4 * 8)) → (size : Option ℕ) → IfSome (moved_in a size word) IsMovedWell
    by None h size = tt
    by (Some a) h None = tt
    by (Some a) h (Some n) = tested a n h (is_size n) (a % n == 0) refl refl
