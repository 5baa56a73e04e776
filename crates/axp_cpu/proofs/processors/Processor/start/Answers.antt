use Rattle.axp_cpu.proofs.ActorLemmas.{first_at}
use Rattle.axp_cpu.proofs.processors.Processor.start.Goals as goal

pub returns : goal.returns
returns c = first_at c.args.image.now c.args.cpus c.args.budget c.args.cpu c.start.result c.empty.result c.start.ensures c.empty.ensures c.requires.most_budget
