-- A line is read as a statement exactly where it is the statement's text.
use Rattle.std.proofs.Common.{◌≡◌, ◌↔◌, ℕ, List, Option, Some, None, IsNone, IfSome, refl, sym, ap, subst, ◌∙◌}
use Rattle.axp_source.specs.Items.{Item, Fits, item_in, item_read}
use Rattle.axp_source.specs.Texts.{item_text}
use Rattle.axp_source.specs.Reading.{item_of}
use Rattle.axp_source.specs.declared.statements.Statement.{Statement}
use Rattle.axp_source.proofs.BackLemmas.{item_back}
use Rattle.axp_source.proofs.MeantLemmas.{IsLineOf, item_meant}

pub item_is_text : (line : List ℕ) (s : Item) → (item_of line ≡ Some s) ↔ ((line ≡ item_text s) × Fits s)
item_is_text line s = (λ h. subst (λ o. IfSome o (IsLineOf line)) h (item_meant line), λ h. ap item_of h.0 ∙ item_back s h.1)

-- the same of what was read
pub read_is_spelled : (line : List ℕ) (r : Option Item) → r ≡ item_of line → (s : Item) → (r ≡ Some s) ↔ ((line ≡ item_text s) × Fits s)
read_is_spelled line r is s = (λ e. (item_is_text line s).0 (sym is ∙ e), λ h. is ∙ (item_is_text line s).1 h)

pub read_is_meant : (line : List ℕ) (r : Option Item) → r ≡ item_of line → IfSome r (λ s. (line ≡ item_text s) × Fits s)
read_is_meant line r is = subst (λ o. IfSome o (IsLineOf line)) (sym is) (item_meant line)

none_read : (r : Option Statement) → item_read r ≡ None → IsNone r
none_read None h = refl
none_read (Some s) h = cc

pub none_is_spelled : (line : List ℕ) (r : Option Statement) → item_read r ≡ item_of line → IsNone r ↔ ((s : Item) → line ≡ item_text s → Fits s → ⊥)
none_is_spelled line None is = (λ none s text fits. let some = (read_is_spelled line None is s).1 (text, fits) in cc, λ h. refl)
none_is_spelled line (Some r) is = (λ none. cc, λ h. let told = (read_is_spelled line (Some (item_in r)) is (item_in r)).0 refl in absurd (h (item_in r) told.0 told.1))
