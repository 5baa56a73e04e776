use Rattle.axp_check.proofs.OrderLaws.{order_fault-to, order_fault-from}
use Rattle.axp_check.proofs.laws.order_in_words.Goals as goal

pub returns : goal.returns
returns c = λ t us. (λ none. order_fault-to t us none.0 none.1, order_fault-from t us)
