use Rattle.axp_cpu.proofs.calls.call_pal.Goals as goal

pub returns-in-Halts-clause-fits : goal.returns-in-Halts-clause-fits
returns-in-Halts-clause-fits c = c.halt.ensures.fits c.args.cpus c.args.table.now
