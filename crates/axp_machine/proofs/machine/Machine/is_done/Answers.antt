use Rattle.std.proofs.Common.{◌∙◌}
use Rattle.axp_base.specs.Cpus.{cpu_number}
use Rattle.axp_machine.proofs.RunLemmas.{done_shown}
use Rattle.axp_machine.specs.Playing.{actor_of}
use Rattle.axp_world.proofs.RunSeats.{cpu_small}
use Rattle.axp_machine.proofs.machine.Machine.is_done.Goals as goal

pub returns : goal.returns
returns c =
    c.is_done.ensures (actor_of c.args.self.now (cpu_number c.args.cpu)) c.processor.ensures.at
    ∙ done_shown c.args.self.now (cpu_number c.args.cpu) c.processor.ensures.valid c.processor.ensures.run (cpu_small c.args.cpu)
