use Rattle.axp_cpu.proofs.walks.reach.Goals as goal

pub returns-in-Ok-Direct-clause-fits : goal.returns-in-Ok-Direct-clause-fits
returns-in-Ok-Direct-clause-fits c = λ cpus follows. c.place.ensures.fits cpus c.args.table.now follows

pub returns-in-Err-clause-fits : goal.returns-in-Err-clause-fits
returns-in-Err-clause-fits c = λ cpus follows. c.fail.ensures.fits cpus c.args.table.now
