use Rattle.std.proofs.Common.{sym, ◌∙◌, ap, length}
use Rattle.axp_pal.proofs.tests.finish_in.Goals as goal

pub finish-requires : goal.finish-requires
finish-requires c = record { cpus = 2; ends = sym c.plan-plan.ensures.end ∙ c.in-Ends.is; each = sym c.if-len-values.true ∙ c.len.ensures.value ∙ ap length c.plan-plan.ensures.asks }
