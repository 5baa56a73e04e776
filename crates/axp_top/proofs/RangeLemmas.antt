-- The numbers of a command are in their ranges.
use Rattle.std.proofs.Common.{◌≡◌, ℕ, List, Option, Some, None, refl}
use Rattle.axp_top.specs.SeededRuns.{IsInRange}
use Rattle.axp_words.proofs.WordsLemmas.{order_says}
use Rattle.axp_words.specs.Words as words
use Rattle.axp_words.specs.Words.{order_of}

pub in_range : (ws : List (List ℕ)) → IsInRange (order_of ws)
in_range ws = by_order (order_of ws) refl where
  by_order : (o : Option words.Order) → order_of ws ≡ o → IsInRange o
  by_order None is = tt
  by_order (Some (words.Seed image cpus budget seed)) is =
      let says = order_says ws (words.Seed image cpus budget seed) is in
      record { least_cpus = says.2; most_cpus = says.3; least_budget = says.4; most_budget = says.5 }
  by_order (Some (words.Replay image trace)) is = tt
  by_order (Some (words.Check image trace)) is = tt
  by_order (Some (words.Gen number)) is = tt
  by_order (Some (words.Asm file)) is = tt
  by_order (Some (words.Listing image)) is = tt
  by_order (Some (words.Elf file memory stack table)) is =
      let says = order_says ws (words.Elf file memory stack table) is in
      record { whole_pages = says.2; least_memory = says.3; most_memory = says.4; stack_word = says.5; table_page = says.6 }
