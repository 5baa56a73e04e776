use Rattle.std.proofs.Common.{◌≡◌, subst}
use Rattle.axp_model.specs.Console.{printed}
use Rattle.axp_machine.specs.Runs.{Seen}
use Rattle.axp_machine.specs.Ties.{seen}
use Rattle.axp_machine.proofs.TailLemmas.{console_shown}
use Rattle.axp_machine.proofs.machine.Machine.console.Goals as goal
use Rattle.std.proofs.Common.{◌∙◌}

pub returns : goal.returns
returns c =
    let m = seen c.self.inside in
    subst (λ (m : Seen). c.console.result.now ≡ printed m.records) c.self.view_is
    (console_shown m c.console.result.now c.self.invariant.valid c.self.invariant.run (c.console.ensures ∙ c.self.invariant.bus.printed))
