use Rattle.std.proofs.Common.{refl, sym, ◌∙◌}
use Rattle.axp_bank.proofs.BankLemmas.{whole_inserted}
use Rattle.axp_bank.proofs.banks.put_beside.Goals as goal

pub returns-clause-copies : goal.returns-clause-copies
returns-clause-copies c = c.insert.ensures.items ∙ sym (c.place_for-n.ensures.puts c.args.copy refl)

pub returns-clause-whole : goal.returns-clause-whole
returns-clause-whole c =
    rw (c.insert.ensures.items, ← c.place_for-n.ensures.puts c.args.copy refl)
    (whole_inserted c.args.copy c.args.copies.now.items c.requires.whole c.requires.new c.requires.room)
