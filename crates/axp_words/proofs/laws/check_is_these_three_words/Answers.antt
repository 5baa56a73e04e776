use Rattle.axp_words.specs.Words.{Check}
use Rattle.axp_words.proofs.WordsLemmas.{order_says, order_has}
use Rattle.axp_words.proofs.laws.check_is_these_three_words.Goals as goal

pub returns : goal.returns
returns c = λ words image trace. (order_says words (Check image trace), order_has words (Check image trace))
