use Rattle.std.proofs.Common.{sym, subst}
use Rattle.axp_bank.specs.Copies.{Whole}
use Rattle.axp_bank.proofs.BankLemmas.{whole_spared}
use Rattle.axp_bank.proofs.banks.CopyBank.spare.Goals as goal

pub invariant_of-self : goal.invariant_of-self
invariant_of-self c = subst Whole (sym c.spared_copies-self-inside.ensures) (whole_spared c.args.gone c.self.inside.copies.items c.self.invariant)
