use Rattle.axp_words.specs.Words.{Asm}
use Rattle.axp_words.proofs.WordsLemmas.{order_says, order_has}
use Rattle.axp_words.proofs.laws.asm_is_these_two_words.Goals as goal

pub returns : goal.returns
returns c = λ words file. (order_says words (Asm file), order_has words (Asm file))
