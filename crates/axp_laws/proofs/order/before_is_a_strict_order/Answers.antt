use Rattle.axp_access.specs.Order.{key}
use Rattle.axp_laws.proofs.OrderKeys.{before_irreflexive, before_asymmetric, before_transitive, before_total, before_placed}
use Rattle.axp_laws.proofs.order.before_is_a_strict_order.Goals as goal

pub returns : goal.returns
returns c = record {
  irreflexive = λ t u. before_irreflexive (key t u);
  asymmetric = λ t u v e. before_asymmetric (key t u) (key t v) e;
  transitive = λ t u v w e d. before_transitive (key t u) (key t v) (key t w) e d;
  total = λ t u v placed also apart. before_total (key t u) (key t v) placed also (λ who number. apart who number);
  placed = λ t u v e. before_placed (key t u) (key t v) e;
}
