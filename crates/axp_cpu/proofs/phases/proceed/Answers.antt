use Rattle.std.proofs.Common.{◌+◌, subst, arith}
use Rattle.axp_cpu.specs.Phases.{CallFits, ContinuationFits}
use Rattle.axp_cpu.proofs.phases.proceed.Goals as goal

pub with-requires : goal.with-requires
with-requires c =
    let fits : CallFits c.args.cpus c.args.table.now.state c.in-Call.op (c.in-Call.values.len + 1) c.in-Call.left = subst (ContinuationFits c.args.cpus c.args.table.now.state) c.in-Call.is c.requires in
    omega (arith, fits.few)

pub returns-in-Save-clause-fits : goal.returns-in-Save-clause-fits
returns-in-Save-clause-fits c = c.save.ensures.fits c.args.cpus
