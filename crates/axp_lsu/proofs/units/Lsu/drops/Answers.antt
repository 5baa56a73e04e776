use Rattle.std.proofs.Common.{ap, ◌++◌, ◌∙◌}
use Rattle.axp_access.specs.Offers.{are_ascending}
use Rattle.axp_base.specs.declared.lines.Bank.TheVariants.{Even, Odd, Code}
use Rattle.axp_lsu.specs.Offering.{bank_drops}
use Rattle.axp_lsu.proofs.OfferLemmas.{drops_ascend}
use Rattle.axp_lsu.proofs.units.Lsu.drops.Goals as goal

pub returns-clause-ascending : goal.returns-clause-ascending
returns-clause-ascending c =
    ap are_ascending (c.push_drops-3.ensures.value
    ∙ ap (λ ds. ds ++ bank_drops Code c.args.self.now) (c.push_drops-2.ensures.value
    ∙ ap (λ ds. ds ++ bank_drops Odd c.args.self.now) (c.push_drops.ensures.value
    ∙ ap (λ ds. ds ++ bank_drops Even c.args.self.now) c.new-drops.ensures)))
    ∙ drops_ascend c.args.self.now c.push_drops.ensures.whole c.push_drops-2.ensures.whole c.push_drops-3.ensures.whole
