use Rattle.std.proofs.Common.{refl}
use Rattle.axp_history.proofs.surveys.read_shown.Goals as goal

pub returns-then-admit-clause-kept : goal.returns-then-admit-clause-kept
returns-then-admit-clause-kept c = λ h tells. c.admit.ensures.kept h c.in-Some-Full.event tells refl c.if-admit.true
