use Rattle.axp_base.proofs.SignLemmas.{extended_small, extended_keeps, extended_repeats, byte_integer_kept, word_integer_kept, longword_integer_kept}
use Rattle.axp_base.proofs.laws.sign_extension_keeps_the_integer.Goals as goal

pub returns-clause-small : goal.returns-clause-small
returns-clause-small c = extended_small

pub returns-clause-low : goal.returns-clause-low
returns-clause-low c = extended_keeps

pub returns-clause-above : goal.returns-clause-above
returns-clause-above c = extended_repeats

pub returns-clause-of_a_byte : goal.returns-clause-of_a_byte
returns-clause-of_a_byte c = byte_integer_kept

pub returns-clause-of_a_word : goal.returns-clause-of_a_word
returns-clause-of_a_word c = word_integer_kept

pub returns-clause-of_a_longword : goal.returns-clause-of_a_longword
returns-clause-of_a_longword c = longword_integer_kept
