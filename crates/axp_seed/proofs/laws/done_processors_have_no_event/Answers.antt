use Rattle.axp_seed.proofs.LegalLemmas.{done_is_idle}
use Rattle.axp_seed.proofs.laws.done_processors_have_no_event.Goals as goal

pub returns : goal.returns
returns c = done_is_idle
