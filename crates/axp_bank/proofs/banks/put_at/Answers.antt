use Rattle.std.proofs.Common.{sym, ◌∙◌}
use Rattle.axp_bank.proofs.BankLemmas.{refreshed_at, whole_refreshed}
use Rattle.axp_bank.proofs.banks.put_at.Goals as goal

pub returns-clause-copies : goal.returns-clause-copies
returns-clause-copies c =
    c.write_at.ensures ∙ sym (refreshed_at c.args.copy c.args.copies.now.items c.args.n c.requires.whole c.requires.place)

pub returns-clause-whole : goal.returns-clause-whole
returns-clause-whole c =
    rw (c.write_at.ensures, ← refreshed_at c.args.copy c.args.copies.now.items c.args.n c.requires.whole c.requires.place)
    (whole_refreshed c.args.copy c.args.copies.now.items c.requires.whole)
