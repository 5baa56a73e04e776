-- From line to line through a tail.
use Rattle.std.proofs.Common.{◌≡◌, ℕ, ◌+◌, ◌≤◌, Bool, true, false, cond, List, [], ◌∷◌, length, Some, None, refl, ◌∙◌, eqb}
use Rattle.axp_trace.specs.declared.headers.Header.{Header}
use Rattle.axp_trace.specs.Files.{lines_of}
use Rattle.axp_trace.specs.TraceLines.{line_of}
use Rattle.axp_history.proofs.LineLemmas.{has_line, no_line}
use Rattle.axp_history.specs.Traces.{FileLine, extra_line, is_end_line, is_tail_line, tail_fault}

-- what is left of a tail decides as the whole does
pub record Goes (hd : Header) (first : ℕ) (lines : List FileLine) (number : ℕ) (rest : List FileLine) (left most : ℕ) : Type 0 where
  pub same : tail_fault hd first lines ≡ tail_fault hd number rest
  pub within : number + left ≤ most

unfolding_line : (hd : Header) (n : ℕ) (line : List ℕ) (ls : List FileLine) (tail end : Bool) → tail ≡ is_tail_line (line_of hd line) → end ≡ is_end_line line
    → tail_fault hd n (Some line ∷ ls) ≡ cond tail (cond end (extra_line (n + 1) ls) (tail_fault hd (n + 1) ls)) (Some n)
unfolding tail_fault
unfolding_line hd n line ls tail end is also = rw (is, also) refl

pub no_tail : (hd : Header) (n : ℕ) (line : List ℕ) (ls : List FileLine) (tail : Bool) → tail ≡ is_tail_line (line_of hd line) → tail ≡ false → tail_fault hd n (Some line ∷ ls) ≡ Some n
no_tail hd n line ls tail is no_ = unfolding_line hd n line ls tail (is_end_line line) is refl ∙ rw no_ refl

pub at_end : (hd : Header) (n : ℕ) (line : List ℕ) (ls : List FileLine) (tail end : Bool) → tail ≡ is_tail_line (line_of hd line) → tail ≡ true → end ≡ is_end_line line → end ≡ true → tail_fault hd n (Some line ∷ ls) ≡ extra_line (n + 1) ls
at_end hd n line ls tail end is yes_ also ends = unfolding_line hd n line ls tail end is also ∙ rw (yes_, ends) refl

pub goes_on : (hd : Header) (n : ℕ) (line : List ℕ) (ls : List FileLine) (tail end : Bool) → tail ≡ is_tail_line (line_of hd line) → tail ≡ true → end ≡ is_end_line line → end ≡ false → tail_fault hd n (Some line ∷ ls) ≡ tail_fault hd (n + 1) ls
goes_on hd n line ls tail end is yes_ also no_ = unfolding_line hd n line ls tail end is also ∙ rw (yes_, no_) refl

pub no_more : (hd : Header) (n k : ℕ) (ls : List FileLine) → ls ≡ cond (eqb k 0) [] (None ∷ []) → tail_fault hd n ls ≡ Some n
unfolding tail_fault
no_more hd n k ls is = by (eqb k 0) is where
  by : (b : Bool) → ls ≡ cond b [] (None ∷ []) → tail_fault hd n ls ≡ Some n
  by true is = rw is refl
  by false is = rw is refl

-- behind the line that ends a tail there is none, or there is one too many
pub ends_well : (n : ℕ) (text : List ℕ) (empty : Bool) → empty ≡ true → empty ≡ eqb (length text) 0 → extra_line n (lines_of text) ≡ None
ends_well n text empty is tested = rw (no_line text empty is tested) refl

pub one_too_many : (n : ℕ) (text : List ℕ) (empty : Bool) → empty ≡ false → empty ≡ eqb (length text) 0 → extra_line n (lines_of text) ≡ Some n
one_too_many n text empty is tested = let has = has_line text empty is tested in rw has.is refl
