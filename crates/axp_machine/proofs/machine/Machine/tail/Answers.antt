use Rattle.std.proofs.Common.{◌-◌, ◌∙◌}
use Rattle.axp_machine.proofs.TailLemmas.{numbered_is}
use Rattle.axp_machine.proofs.machine.Machine.tail.Goals as goal

pub returns : goal.returns
returns c =
    numbered_is c.args.self.now c.item_place-at.result (c.args.n - 1) c.item.result c.item_place-at.ensures.place (c.item_place-at.ensures.same ∙ c.place_of.ensures) c.item.ensures
