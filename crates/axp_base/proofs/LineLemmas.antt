-- A line is known by its number.
use Rattle.std.proofs.Common.{◌≡◌, ℕ, ◌/◌, ◌*◌, ◌^◌, Bool, true, false, nat_lt, refl, sym, ap, ◌∙◌}
use Rattle.std.proofs.lemmas.Bool.{true≢false}
use mathlib.Core.Bool.{Bool-set}
use Rattle.axp_base.specs.Lines.{line_number, line_at, line_by, line_numbered}
use Rattle.axp_base.specs.declared.lines.Line.{Line}
use Rattle.axp_base.specs.declared.lines.TheConstants.{LINE_BYTES}

line_made : (l : Line) (b : Bool) (h : nat_lt (line_number l * LINE_BYTES) (2 ^ 64) ≡ b) → l ≡ line_by (line_number l) b h
line_made l true h =
    ap (λ (p : nat_lt (line_number l * LINE_BYTES) (2 ^ 64) ≡ true). let m : Line = record { number = line_number l; addressed = p } in m)
    (Bool-set (nat_lt (line_number l * LINE_BYTES) (2 ^ 64)) true l.addressed h)
line_made l false h = absurd (true≢false (sym l.addressed ∙ h))

pub line_of_number : (l : Line) (n : ℕ) → line_number l ≡ n → l ≡ line_numbered n
line_of_number l n e = line_made l (nat_lt (line_number l * LINE_BYTES) (2 ^ 64)) refl ∙ ap line_numbered e

pub line_is : (l : Line) (address : ℕ) → line_number l ≡ address / LINE_BYTES → l ≡ line_at address
line_is l address e = line_of_number l (address / LINE_BYTES) e

-- the line of an address that has one
pub line_by-number : (n : ℕ) (b : Bool) (h : nat_lt (n * LINE_BYTES) (2 ^ 64) ≡ b) → b ≡ true → line_number (line_by n b h) ≡ n
line_by-number n true h e = refl
line_by-number n false h e = cc
