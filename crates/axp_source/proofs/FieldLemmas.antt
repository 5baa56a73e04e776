-- The fields of a statement's line: where their words end, and that they are read back.
use Rattle.std.proofs.Common.{◌≡◌, ◌≢◌, ℕ, ◌-◌, ◌*◌, ◌%◌, ◌^◌, ◌<◌, ◌≤◌, Bool, true, false, ◌&&◌, if◌then◌else◌, nat_lt, List, [], ◌∷◌, ◌++◌, decimal, Some, refl, sym, ap, ◌∙◌, arith, ⊎_elim, ne_eqb}
use Rattle.std.specs.Char.{is_ascii_alphabetic, is_ascii_alphanumeric}
use Rattle.std.specs.List.{All, list_all}
use Rattle.std.proofs.Math.Nat.{mod-eq_of_lt}
use Rattle.std.proofs.lemmas.Bool.{cases_lt, lt-ltb, le-ltb, lt-leb, and_parts, eqb-true}
use Rattle.std.proofs.lemmas.List.Elements.{All-append, All-cons, All-head, All-nil, All-weaker}
use Rattle.axp_trace.specs.Fields.{cut_at}
use Rattle.axp_trace.proofs.ColonLemmas.{low_decimal}
use Rattle.axp_trace.proofs.FileLemmas.{cut_at-begin}
use Rattle.axp_trace.proofs.LineLemmas.{high_decimal}
use Rattle.axp_decode.specs.Format.{OperandFits}
use Rattle.axp_decode.specs.declared.instructions.Operand.{Operand}
use Rattle.axp_decode.specs.declared.instructions.Operand.TheVariants.{Reg, Literal}
use Rattle.axp_source.specs.Items.{begins_with_letter, is_label, is_written_operand}
use Rattle.axp_source.specs.Fields.{number_in, begins, register_in, signed_in, operand_in}
use Rattle.axp_source.specs.Texts.{register_text, signed_text, operand_text}
use Rattle.axp_source.proofs.NumberLemmas.{number_back, marked_back, closed_back, bracketed_back}

-- ---- where words end

-- no digit is a byte below them
pub other_decimal : (c n : ℕ) → c < 48 → All (λ b. b ≢ c) (decimal n)
other_decimal c n low = All-weaker (λ d. 48 ≤ d) (λ d. d ≢ c) (λ d h e. absurd (omega arith)) (decimal n) (high_decimal n)

pub other_register : (c n : ℕ) → c < 48 → All (λ b. b ≢ c) (register_text n)
other_register c n low = All-cons (λ b. b ≢ c) 82 (decimal n) (λ e. absurd (omega arith)) (other_decimal c n low)

pub other_signed : (c half n : ℕ) → c < 45 → All (λ b. b ≢ c) (signed_text half n)
other_signed c half n low = by (nat_lt n half)
  where
    by : (t : Bool) → All (λ b. b ≢ c) (if t then decimal n else 45 ∷ decimal (2 * half - n))
    by true = other_decimal c n (omega arith)
    by false = All-cons (λ b. b ≢ c) 45 (decimal (2 * half - n)) (λ e. absurd (omega arith)) (other_decimal c (2 * half - n) (omega arith))

pub other_operand : (c : ℕ) (b : Operand) → 35 ≢ c → c < 48 → All (λ x. x ≢ c) (operand_text b)
other_operand c (Reg n pad) other low = other_register c n low
other_operand c (Literal value) other low = All-cons (λ x. x ≢ c) 35 (decimal value) other (other_decimal c value low)

pub other_bracketed : (c n : ℕ) → 40 ≢ c → 41 ≢ c → c < 48 → All (λ x. x ≢ c) (40 ∷ (register_text n ++ 41 ∷ []))
other_bracketed c n left right low =
    let closing = All-cons (λ x. x ≢ c) 41 [] right (All-nil (λ x. x ≢ c)) in
    All-cons (λ x. x ≢ c) 40 (register_text n ++ 41 ∷ []) left (All-append (λ x. x ≢ c) (register_text n) (41 ∷ []) (other_register c n low) closing)

-- the first operand, before a comma
pub first_cut : (n : ℕ) (rest : List ℕ) → cut_at 44 (register_text n ++ 44 ∷ rest) ≡ Some (register_text n, rest)
first_cut n rest = cut_at-begin 44 (register_text n) rest (other_register 44 n (omega arith))

-- ---- labels

letters : (c b : ℕ) → is_ascii_alphanumeric c ≡ false → is_ascii_alphanumeric b ≡ true → b ≢ c
letters c b other is same = let no : is_ascii_alphanumeric b ≡ false = ap is_ascii_alphanumeric same ∙ other in cc

-- no letter or digit is another byte
other_name : (c : ℕ) (name : List ℕ) → is_ascii_alphanumeric c ≡ false → list_all is_ascii_alphanumeric name ≡ true → All (λ b. b ≢ c) name
other_name c [] other h = All-nil (λ b. b ≢ c)
other_name c (b ∷ bs) other h =
    let parts = and_parts (is_ascii_alphanumeric b) (list_all is_ascii_alphanumeric bs) h in
    All-cons (λ b. b ≢ c) b bs (letters c b other parts.0) (other_name c bs other parts.1)

pub other_label : (c : ℕ) (name : List ℕ) → is_ascii_alphanumeric c ≡ false → is_label name ≡ true → All (λ b. b ≢ c) name
other_label c name other h = other_name c name other (and_parts (begins_with_letter name) (list_all is_ascii_alphanumeric name) h).1

low_letter : (c : ℕ) → c < 58 → is_ascii_alphabetic c ≡ false
low_letter c low =
    let below : c < 65 = omega arith in
    let far : c < 97 = omega arith in
    rw (lt-leb 65 c below, lt-leb 97 c far) refl

low_word : (word : List ℕ) → All (λ d. d < 58) word → begins_with_letter word ≡ false
low_word [] h = refl
low_word (c ∷ cs) h = low_letter c (All-head (λ d. d < 58) c cs h)

-- a displacement is no label
pub signed_no_label : (half n : ℕ) → is_label (signed_text half n) ≡ false
signed_no_label half n = by (nat_lt n half)
  where
    by : (t : Bool) → is_label (if t then decimal n else 45 ∷ decimal (2 * half - n)) ≡ false
    by true = ap (λ t. t && list_all is_ascii_alphanumeric (decimal n)) (low_word (decimal n) (low_decimal n))
    by false = refl

-- ---- what is written is read

pub register_back : (n : ℕ) → n < 2 ^ 5 → register_in (register_text n) ≡ n
register_back n small = ap (λ x. x % 2 ^ 5) (marked_back 82 n refl (omega arith)) ∙ mod-eq_of_lt small

pub register_closed : (n : ℕ) → n < 2 ^ 5 → register_in (register_text n ++ 41 ∷ []) ≡ n
register_closed n small = ap (λ x. x % 2 ^ 5) (closed_back 82 41 n refl refl (omega arith)) ∙ mod-eq_of_lt small

pub register_bracketed : (n : ℕ) → n < 2 ^ 5 → register_in (40 ∷ (register_text n ++ 41 ∷ [])) ≡ n
register_bracketed n small = ap (λ x. x % 2 ^ 5) (bracketed_back 40 82 41 n refl refl refl (omega arith)) ∙ mod-eq_of_lt small

high_begins : (word : List ℕ) → All (λ d. 48 ≤ d) word → begins 45 word ≡ false
high_begins [] h = refl
high_begins (c ∷ cs) h = let high = All-head (λ d. 48 ≤ d) c cs h in ne_eqb c 45 (λ e. absurd (omega arith))

pub signed_back : (half n : ℕ) → n < 2 * half → 2 * half < 2 ^ 64 → signed_in half (signed_text half n) ≡ n
signed_back half n fits large = ⊎_elim
    (λ low. ap (signed_in half) (ap (λ t. if t then decimal n else 45 ∷ decimal (2 * half - n)) (lt-ltb n half low)) ∙ plain)
    (λ high. ap (signed_in half) (ap (λ t. if t then decimal n else 45 ∷ decimal (2 * half - n)) (le-ltb n half high)) ∙ negative high)
    (cases_lt n half)
  where
    plain : signed_in half (decimal n) ≡ n
    plain = ap (λ t. if t then (2 * half - number_in (decimal n) % (2 * half)) % (2 * half) else number_in (decimal n) % (2 * half)) (high_begins (decimal n) (high_decimal n)) ∙ ap (λ x. x % (2 * half)) (number_back n (omega arith)) ∙ mod-eq_of_lt fits

    negative : half ≤ n → signed_in half (45 ∷ decimal (2 * half - n)) ≡ n
    negative high =
        let few : 2 * half - n < 2 * half = omega arith in
        let rest : 2 * half - (2 * half - n) ≡ n = omega arith in
        ap (λ x. (2 * half - x % (2 * half)) % (2 * half)) (marked_back 45 (2 * half - n) refl (omega arith))
        ∙ ap (λ x. (2 * half - x) % (2 * half)) (mod-eq_of_lt few)
        ∙ ap (λ x. x % (2 * half)) rest
        ∙ mod-eq_of_lt fits

pub operand_back : (b : Operand) → OperandFits b → is_written_operand b ≡ true → operand_in (operand_text b) ≡ b
operand_back (Reg n pad) fits written = ap (λ x. Reg x 0) (register_back n fits.0) ∙ ap (Reg n) (sym (eqb-true pad 0 written))
operand_back (Literal value) fits written = ap (λ x. Literal (x % 2 ^ 8)) (marked_back 35 value refl (omega arith)) ∙ ap Literal (mod-eq_of_lt fits)
