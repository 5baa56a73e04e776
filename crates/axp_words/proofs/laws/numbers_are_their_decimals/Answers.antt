use Rattle.axp_words.proofs.NumberLemmas.{decimals}
use Rattle.axp_words.proofs.laws.numbers_are_their_decimals.Goals as goal

pub returns : goal.returns
returns c = decimals
