use Rattle.std.proofs.Common.{◌-◌, sym, arith}
use Rattle.axp_asm.proofs.EndLemmas.{end_at_last}
use Rattle.axp_asm.proofs.drafts.end_of_image.Goals as goal

pub returns-in_default-clause-value : goal.returns-in_default-clause-value
returns-in_default-clause-value c =
    sym (end_at_last c.args.image.now.segments (c.segments.result - 1) _ (omega (arith, c.segments.ensures.value, c.in_default)) c.segment-address.ensures.value)
