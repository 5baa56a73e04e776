use Rattle.axp_words.specs.Words.{Replay}
use Rattle.axp_words.proofs.WordsLemmas.{order_says, order_has}
use Rattle.axp_words.proofs.laws.replay_is_these_three_words.Goals as goal

pub returns : goal.returns
returns c = λ words image trace. (order_says words (Replay image trace), order_has words (Replay image trace))
