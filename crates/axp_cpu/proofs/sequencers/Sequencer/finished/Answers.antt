use Rattle.std.proofs.Common.{ap, ◌∙◌, ◌||◌, leb}
use Rattle.axp_cpu.proofs.SeatLemmas.{finished_is}
use Rattle.axp_cpu.proofs.sequencers.Sequencer.finished.Goals as goal

pub returns-then-is_some : goal.returns-then-is_some
returns-then-is_some c = λ s stands.
    c.if-is_some.true ∙ ap (λ b. b || leb c.args.self.now.budget c.args.self.now.steps) c.if-is_some.ensures ∙ finished_is c.args.self.now s stands

pub returns-else-is_some : goal.returns-else-is_some
returns-else-is_some c = λ s stands.
    ap (λ b. b || leb c.args.self.now.budget c.args.self.now.steps) c.if-is_some.ensures ∙ finished_is c.args.self.now s stands
