use Rattle.axp_words.specs.Words.{Listing}
use Rattle.axp_words.proofs.WordsLemmas.{order_says, order_has}
use Rattle.axp_words.proofs.laws.list_is_these_two_words.Goals as goal

pub returns : goal.returns
returns c = λ words image. (order_says words (Listing image), order_has words (Listing image))
