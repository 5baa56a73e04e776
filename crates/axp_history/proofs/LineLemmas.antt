-- The lines of a text that is empty, or is not.
use Rattle.std.proofs.Common.{◌≡◌, ℕ, Bool, true, false, cond, eqb, List, [], ◌∷◌, length, Option, Some, None, refl, sym, ◌∙◌, arith}
use Rattle.std.proofs.lemmas.Bool.{eqb-true}
use Rattle.axp_trace.specs.declared.files.TheConstants.{LINE_FEED}
use Rattle.axp_trace.specs.Files.{lines_of, longer}

-- lines, of which there is a first
pub record HasLine (lines : List (Option (List ℕ))) : Type 0 where
  pub line : Option (List ℕ)
  pub more : List (Option (List ℕ))
  pub is : lines ≡ line ∷ more

longer_has : (b : ℕ) (lines : List (Option (List ℕ))) → HasLine (longer b lines)
longer_has b [] = record { line = None; more = []; is = refl }
longer_has b (None ∷ ls) = record { line = None; more = ls; is = refl }
longer_has b (Some l ∷ ls) = record { line = Some (b ∷ l); more = ls; is = refl }

either_has : (feed : Bool) (b : ℕ) (lines : List (Option (List ℕ))) → HasLine (cond feed (Some [] ∷ lines) (longer b lines))
either_has true b lines = record { line = Some []; more = lines; is = refl }
either_has false b lines = longer_has b lines

pub has_line : (text : List ℕ) (empty : Bool) → empty ≡ false → empty ≡ eqb (length text) 0 → HasLine (lines_of text)
has_line [] empty is tested = let never : true ≡ false = sym tested ∙ is in cc
has_line (b ∷ bs) empty is tested = either_has (eqb b LINE_FEED) b (lines_of bs)

pub no_line : (text : List ℕ) (empty : Bool) → empty ≡ true → empty ≡ eqb (length text) 0 → lines_of text ≡ []
no_line [] empty is tested = refl
no_line (b ∷ bs) empty is tested = absurd (omega (arith, eqb-true (length (b ∷ bs)) 0 (sym tested ∙ is)))
