use Rattle.axp_cpu.proofs.rows.instruct.Goals as goal

pub returns-in-Memory-clause-fits : goal.returns-in-Memory-clause-fits
returns-in-Memory-clause-fits c = c.access.ensures.fits c.args.cpus

pub returns-in-Branch-clause-fits : goal.returns-in-Branch-clause-fits
returns-in-Branch-clause-fits c = c.branch-table.ensures.fits c.args.cpus

pub returns-in-Jump-clause-fits : goal.returns-in-Jump-clause-fits
returns-in-Jump-clause-fits c = c.jump.ensures.fits c.args.cpus

pub returns-in-Operate-clause-fits : goal.returns-in-Operate-clause-fits
returns-in-Operate-clause-fits c = c.compute.ensures.fits c.args.cpus

pub returns-in-Misc-clause-fits : goal.returns-in-Misc-clause-fits
returns-in-Misc-clause-fits c = c.misc.ensures.fits c.args.cpus c.args.table.now
