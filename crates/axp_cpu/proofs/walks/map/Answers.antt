use Rattle.std.proofs.Common.{◌∙◌, sym}
use Rattle.axp_cpu.proofs.walks.map.Goals as goal

pub returns-in-Some-clause-fits : goal.returns-in-Some-clause-fits
returns-in-Some-clause-fits c = λ cpus follows. c.enter.ensures.fits cpus c.args.table.now follows

pub returns-in-None-clause-fits : goal.returns-in-None-clause-fits
returns-in-None-clause-fits c = λ cpus follows. c.read_entry.ensures.fits cpus c.args.table.now (record { small = c.requires; follows = follows; missing = sym c.find.ensures ∙ c.in-None.is })
