use Rattle.axp_bus.proofs.ReplyLemmas.{answers_fit}
use Rattle.axp_bus.proofs.laws.answers_fit_requests.Goals as goal

pub returns : goal.returns
returns c = answers_fit
