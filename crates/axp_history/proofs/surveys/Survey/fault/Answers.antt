use Rattle.axp_history.proofs.SurveyLemmas.{fault_of_tail}
use Rattle.axp_history.proofs.surveys.Survey.fault.Goals as goal

pub returns : goal.returns
returns c = λ lines seen. fault_of_tail c.args.header.now lines c.args.self.now c.is_empty.result c.tail_fault.result seen c.if-not-self.false c.if-is_empty.false c.is_empty.ensures c.tail_fault.ensures
