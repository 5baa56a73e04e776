use Rattle.axp_branch.proofs.BranchLemmas.{goes_backward, goes_forward, high_bits_ignored, target_aligned}
use Rattle.axp_branch.proofs.laws.targets.Goals as goal

pub returns-clause-forward : goal.returns-clause-forward
returns-clause-forward c = goes_forward

pub returns-clause-backward : goal.returns-clause-backward
returns-clause-backward c = goes_backward

pub returns-clause-high_bits : goal.returns-clause-high_bits
returns-clause-high_bits c = high_bits_ignored

pub returns-clause-aligned : goal.returns-clause-aligned
returns-clause-aligned c = target_aligned
