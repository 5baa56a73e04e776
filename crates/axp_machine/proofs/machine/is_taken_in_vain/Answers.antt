use Rattle.std.proofs.Common.{◌∙◌, sym}
use Rattle.axp_machine.proofs.VainTakeLemmas.{late_take, no_take}
use Rattle.axp_machine.proofs.machine.is_taken_in_vain.Goals as goal

pub returns-in-Some : goal.returns-in-Some
returns-in-Some c = late_take c.args.bus.now c.args.cpu c.args.ask.now c.in-Some.bank c.late.result (sym c.in-Some.is ∙ c.bank_taken.ensures) c.requires c.late.ensures

pub returns-in-None : goal.returns-in-None
returns-in-None c = no_take c.args.bus.now c.args.cpu c.args.ask.now (sym c.in-None.is ∙ c.bank_taken.ensures)
