use Rattle.std.proofs.Common.{sym, ◌∙◌}
use Rattle.axp_io.proofs.ListsLemmas.{list_under_is}
use Rattle.axp_io.proofs.lists.Lists.get.Goals as goal

pub returns : goal.returns
returns c = rw (← c.self.view_is) (c.get.ensures.value ∙ sym (list_under_is c.self.inside.table c.args.name.now))
