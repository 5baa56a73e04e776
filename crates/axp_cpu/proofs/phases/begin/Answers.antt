use Rattle.axp_cpu.proofs.phases.begin.Goals as goal

pub returns-in-None-clause-fits : goal.returns-in-None-clause-fits
returns-in-None-clause-fits c = c.begin_instruction.ensures.fits c.args.cpus

pub returns-in-Some-clause-fits : goal.returns-in-Some-clause-fits
returns-in-Some-clause-fits c = c.begin_entry.ensures.fits c.args.cpus
