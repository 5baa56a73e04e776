use Rattle.std.proofs.Common.{◌∙◌, ap, false}
use Rattle.axp_base.specs.Sizes.{low_datum}
use Rattle.axp_regs.specs.declared.asks.Kind.TheVariants.{Conditional}
use Rattle.axp_cpu.specs.Rows.{as_read_with, datum_plan}
use Rattle.axp_cpu.proofs.rows.store_conditional.Goals as goal

pub returns-clause-plan : goal.returns-clause-plan
returns-clause-plan c = λ cpus.
    c.reach_datum.ensures.plan cpus ∙ ap (λ v. datum_plan c.args.size c.args.table.now c.args.op c.args.a Conditional c.args.what c.args.address v (as_read_with false c.args.a)) (c.low-value.ensures ∙ ap (low_datum c.args.what) c.get.ensures)
