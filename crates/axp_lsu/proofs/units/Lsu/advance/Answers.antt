use Rattle.std.proofs.Common.{◌+◌, ◌≤◌, sym, subst}
use Rattle.axp_lsu.specs.Keeping.{LocalMemory}
use Rattle.axp_lsu.specs.Within.{IsKeptWithin}
use Rattle.axp_lsu.proofs.KeptRangeLemmas.{advanced_within}
use Rattle.axp_lsu.proofs.EntryCountLemmas.{advanced_few}
use Rattle.axp_lsu.proofs.units.Lsu.advance.Goals as goal

pub returns-clause-within : goal.returns-clause-within
returns-clause-within c size kept wanted =
    subst (IsKeptWithin size) (sym c.make_act.ensures.kept) (advanced_within size c.args.act c.args.intent.now c.args.reply c.args.self.now c.requires.fits wanted kept)

pub returns-clause-one_more : goal.returns-clause-one_more
returns-clause-one_more c =
    subst (λ (u : LocalMemory). u.buffer.made ≤ c.args.self.now.buffer.made + 1) (sym c.make_act.ensures.kept) (advanced_few c.args.act c.args.intent.now c.args.reply c.args.self.now)
