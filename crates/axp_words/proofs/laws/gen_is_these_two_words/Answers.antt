use Rattle.axp_words.specs.Words.{Gen}
use Rattle.axp_words.proofs.WordsLemmas.{order_says, order_has}
use Rattle.axp_words.proofs.laws.gen_is_these_two_words.Goals as goal

pub returns : goal.returns
returns c = λ words number. (order_says words (Gen number), order_has words (Gen number))
