use Rattle.std.proofs.Common.{◌∙◌, sym}
use Rattle.axp_machine.proofs.TailLemmas.{next_is}
use Rattle.axp_machine.proofs.machine.Machine.tail_next.Goals as goal

pub returns-in-Some : goal.returns-in-Some
returns-in-Some c =
    next_is c.args.self.now c.args.at c.item_place-place.result c.behind.result c.in-Some.item c.item_place-place.ensures.place c.item_place-place.ensures.same (sym c.in-Some.is ∙ c.in_ok-item.ensures) c.behind.ensures
