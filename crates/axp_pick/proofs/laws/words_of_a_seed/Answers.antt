use Rattle.std.proofs.Common.{arith}
use Rattle.axp_pick.proofs.WordLemmas.{increment_known, reference_words, state_within, word_small, worked_words}
use Rattle.axp_pick.proofs.laws.words_of_a_seed.Goals as goal

pub returns-clause-words : goal.returns-clause-words
returns-clause-words c = word_small

pub returns-clause-states : goal.returns-clause-states
returns-clause-states c = state_within

pub returns-clause-increments : goal.returns-clause-increments
returns-clause-increments c = λ seed stream n fits. increment_known seed stream n (omega (arith, fits))

pub returns-clause-reference : goal.returns-clause-reference
returns-clause-reference c = reference_words

pub returns-clause-worked : goal.returns-clause-worked
returns-clause-worked c = worked_words
