use Rattle.axp_integer.proofs.QuadwordLemmas.{whole_product}
use Rattle.axp_integer.proofs.laws.whole_product.Goals as goal

pub returns : goal.returns
returns c = whole_product
