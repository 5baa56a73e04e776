use Rattle.axp_cpu.proofs.walks.reach_ask.Goals as goal

pub returns-then-ask-clause-fits : goal.returns-then-ask-clause-fits
returns-then-ask-clause-fits c = λ cpus follows. c.place.ensures.fits cpus c.args.table.now follows
