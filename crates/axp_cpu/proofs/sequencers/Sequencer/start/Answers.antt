use Rattle.std.proofs.Common.{rules}
use Rattle.axp_base.specs.Cpus.{cpu_number}
use Rattle.axp_cpu.proofs.SeatLemmas.{first_stands}
use Rattle.axp_cpu.proofs.sequencers.Sequencer.start.Goals as goal

pub returns : goal.returns
returns c = first_stands c.args.image.now c.args.cpus c.args.budget (cpu_number c.args.cpu) c.size.result _ c.size.ensures.value (search rules) c.size.ensures.valid c.requires
