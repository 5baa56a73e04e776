use Rattle.axp_seed.proofs.LegalLemmas.{next_is_legal}
use Rattle.axp_seed.proofs.laws.seeded_events_are_legal.Goals as goal

pub returns : goal.returns
returns c = next_is_legal
