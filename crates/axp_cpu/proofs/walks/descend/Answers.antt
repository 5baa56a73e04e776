use Rattle.axp_cpu.proofs.walks.descend.Goals as goal

pub returns-in-Err-clause-fits : goal.returns-in-Err-clause-fits
returns-in-Err-clause-fits c = λ cpus t fits. c.fail.ensures.fits cpus t
