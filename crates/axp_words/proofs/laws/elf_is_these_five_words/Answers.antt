use Rattle.axp_words.specs.Words.{Elf}
use Rattle.axp_words.proofs.WordsLemmas.{order_says, order_has}
use Rattle.axp_words.proofs.laws.elf_is_these_five_words.Goals as goal

pub returns : goal.returns
returns c = λ words file memory stack table. (order_says words (Elf file memory stack table), order_has words (Elf file memory stack table))
