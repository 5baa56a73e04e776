use Rattle.axp_words.specs.Words.{Seed}
use Rattle.axp_words.proofs.WordsLemmas.{order_says, order_has}
use Rattle.axp_words.proofs.laws.seed_is_these_five_words.Goals as goal

pub returns : goal.returns
returns c = λ words image cpus budget seed. (order_says words (Seed image cpus budget seed), order_has words (Seed image cpus budget seed))
