use Rattle.axp_lockreg.proofs.StepLemmas.{allowed_exactly}
use Rattle.axp_lockreg.proofs.laws.allowed_is_still_locked.Goals as goal

pub returns : goal.returns
returns c = allowed_exactly
