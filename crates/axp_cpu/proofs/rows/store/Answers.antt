use Rattle.std.proofs.Common.{◌∙◌, ap}
use Rattle.axp_base.specs.Sizes.{low_datum}
use Rattle.axp_regs.specs.declared.asks.Kind.TheVariants.{Write}
use Rattle.axp_cpu.specs.Rows.{as_made, datum_plan}
use Rattle.axp_cpu.proofs.rows.store.Goals as goal

pub returns-clause-plan : goal.returns-clause-plan
returns-clause-plan c = λ cpus.
    c.reach_datum.ensures.plan cpus ∙ ap (λ v. datum_plan c.args.size c.args.table.now c.args.op c.args.a Write c.args.what c.args.address v as_made) (c.low-value.ensures ∙ ap (low_datum c.args.what) c.get.ensures)

pub returns-clause-fits : goal.returns-clause-fits
returns-clause-fits c = λ cpus. c.reach_datum.ensures.fits cpus tt
