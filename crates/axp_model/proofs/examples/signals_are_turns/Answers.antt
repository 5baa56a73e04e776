use Rattle.axp_model.proofs.ExamplesComputed as example
use Rattle.axp_model.proofs.examples.signals_are_turns.Goals as goal

pub returns : goal.returns
returns c = record { signal_is_a_turn = example.signal_is_a_turn; signal_behind_barrier = example.signal_behind_barrier }
