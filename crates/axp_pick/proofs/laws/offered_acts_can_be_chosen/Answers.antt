use Rattle.std.proofs.Common.{arith}
use Rattle.axp_pick.proofs.NamingLemmas.{finished_is_drained, offered_is_chosen}
use Rattle.axp_pick.proofs.laws.offered_acts_can_be_chosen.Goals as goal

pub returns-clause-going : goal.returns-clause-going
returns-clause-going c = λ o a unspent apart drains drops legal. offered_is_chosen o a unspent apart (omega (arith, drains)) (omega (arith, drops)) legal

pub returns-clause-finished : goal.returns-clause-finished
returns-clause-finished c = λ o k spent drains less. finished_is_drained o k spent less (omega (arith, drains, less))
