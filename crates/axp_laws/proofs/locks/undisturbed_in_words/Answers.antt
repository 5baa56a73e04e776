use Rattle.axp_laws.proofs.LockRegisters.{allowed_exactly}
use Rattle.axp_laws.proofs.locks.undisturbed_in_words.Goals as goal

pub returns : goal.returns
returns c = allowed_exactly
