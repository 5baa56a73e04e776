-- The lines of the tail.
use Rattle.std.proofs.Common.{◌≡◌, ℕ, ◌<◌, ◌||◌, List, [], ◌∷◌, length, Option, Some, None, refl, arith}
use Rattle.axp_access.specs.declared.tail_items.TailItem.{TailItem}
use Rattle.axp_trace.specs.Tails.{item_in, item_or, is_item}

-- no item has so many words
pub item_in_long : (words : List (List ℕ)) → 8 < length words → item_in words ≡ None
item_in_long [] h = absurd (omega arith)
item_in_long (a ∷ []) h = absurd (omega arith)
item_in_long (a ∷ b ∷ []) h = absurd (omega arith)
item_in_long (a ∷ b ∷ c ∷ []) h = absurd (omega arith)
item_in_long (a ∷ b ∷ c ∷ d ∷ []) h = absurd (omega arith)
item_in_long (a ∷ b ∷ c ∷ d ∷ e ∷ []) h = absurd (omega arith)
item_in_long (a ∷ b ∷ c ∷ d ∷ e ∷ f ∷ []) h = absurd (omega arith)
item_in_long (a ∷ b ∷ c ∷ d ∷ e ∷ f ∷ g ∷ []) h = absurd (omega arith)
item_in_long (a ∷ b ∷ c ∷ d ∷ e ∷ f ∷ g ∷ i ∷ []) h = absurd (omega arith)
item_in_long (a ∷ b ∷ c ∷ d ∷ e ∷ f ∷ g ∷ i ∷ j ∷ more) h = refl

-- one of two items is there
pub either_item : (x y : Option TailItem) → (is_item x || is_item y) ≡ is_item (item_or x y)
either_item None y = refl
either_item (Some i) y = refl
