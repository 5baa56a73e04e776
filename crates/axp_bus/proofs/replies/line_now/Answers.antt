use Rattle.axp_base.specs.Lines.{line_number}
use Rattle.axp_bus.proofs.LineLemmas.{line_read}
use Rattle.axp_bus.proofs.replies.line_now.Goals as goal

pub returns : goal.returns
returns c = λ m agrees. line_read c.line.result c.args.memory.now m (line_number c.args.line) c.line.ensures agrees
