use Rattle.axp_bus.proofs.LineLemmas.{line_merged}
use Rattle.axp_bus.proofs.replies.line_after.Goals as goal

pub returns : goal.returns
returns c = λ m agrees. line_merged c.merge.new.self c.line-bytes.result c.args.memory.now m c.args.write.now c.line-bytes.ensures c.merge.ensures agrees
