use Rattle.std.proofs.Common.{◌∙◌, ◌%◌, ap, sym}
use Rattle.axp_cpu.specs.Phases.{continued}
use Rattle.axp_cpu.proofs.RowLemmas.{datum_reached}
use Rattle.axp_cpu.proofs.rows.reach_datum.Goals as goal

pub returns-then-address-from-eq0-clause-plan : goal.returns-then-address-from-eq0-clause-plan
returns-then-address-from-eq0-clause-plan c = λ cpus.
    c.reach.ensures.plan cpus
    ∙ datum_reached c.args.size c.args.table.now c.args.op c.args.a c.args.kind c.args.what c.args.address c.args.value (continued c.args.size cpus c.args.next) c.bytes.result c.bytes.ensures.value (ap (λ n. c.args.address % n) (sym c.from.ensures) ∙ c.if-address-from-eq0.true)
