-- Lines of memory of one number are one.
use Rattle.std.proofs.Common.{◌≡◌, ℕ, ◌*◌, ◌/◌, ◌^◌, ◌<◌, Bool, true, false, nat_lt, Some, refl, ap, sym, ◌∙◌, arith}
use mathlib.Core.Bool.{Bool-set}
use Rattle.std.proofs.lemmas.Bool.{lt-ltb}
use Rattle.axp_base.specs.Lines.{line_number}
use Rattle.axp_base.specs.declared.lines.Line.{Line}
use Rattle.axp_base.specs.declared.lines.TheConstants.{LINE_BYTES}
use Rattle.axp_trace.specs.Fields.{line_by, line_of_number, line_in}

-- the test's answer does not matter where the line's bytes have addresses
line_by_addressed : (n : ℕ) (addressed : Bool) (tested : nat_lt (n * LINE_BYTES) (2 ^ 64) ≡ addressed) (h : nat_lt (n * LINE_BYTES) (2 ^ 64) ≡ true) → Some (record { number = n; addressed = h }) ≡ line_by n addressed tested
line_by_addressed n true tested h = ap (λ (p : nat_lt (n * LINE_BYTES) (2 ^ 64) ≡ true). Some (record { number = n; addressed = p })) (Bool-set (nat_lt (n * LINE_BYTES) (2 ^ 64)) true h tested)
line_by_addressed n false tested h = cc

number_gives_line : (l : Line) → line_of_number (line_number l) ≡ Some l
number_gives_line l = sym (line_by_addressed l.number (nat_lt (l.number * LINE_BYTES) (2 ^ 64)) refl l.addressed)

pub same_line : (a b : Line) → line_number a ≡ line_number b → a ≡ b
same_line a b e = let shown : Some a ≡ Some b = sym (number_gives_line a) ∙ ap line_of_number e ∙ number_gives_line b in cc

-- the line of a byte at an address below the greatest that is printed
pub line_in_at : (l : Line) (address : ℕ) → line_number l ≡ address / LINE_BYTES → address < 2 ^ 32 → Some l ≡ line_in (Some address)
line_in_at l address e small = rw (lt-ltb address (2 ^ 32) small) (sym (ap line_of_number (sym e) ∙ number_gives_line l))

-- a line is that of its first byte
pub line_in_back : (l : Line) → line_number l * LINE_BYTES < 2 ^ 32 → line_in (Some (line_number l * LINE_BYTES)) ≡ Some l
line_in_back l small = sym (line_in_at l (line_number l * LINE_BYTES) (omega arith) small)
