use Rattle.std.proofs.Common.{sym, ◌∙◌}
use Rattle.axp_base.specs.Lines.{line_number}
use Rattle.axp_bank.proofs.BankLemmas.{dropped_at, whole_dropped}
use Rattle.axp_bank.proofs.banks.remove_at.Goals as goal

pub returns-clause-copies : goal.returns-clause-copies
returns-clause-copies c =
    c.remove.ensures.items ∙ sym (dropped_at (line_number c.args.line) c.args.copies.now.items c.args.n c.requires.whole c.requires.place)

pub returns-clause-whole : goal.returns-clause-whole
returns-clause-whole c =
    rw (c.remove.ensures.items, ← dropped_at (line_number c.args.line) c.args.copies.now.items c.args.n c.requires.whole c.requires.place)
    (whole_dropped (line_number c.args.line) c.args.copies.now.items c.requires.whole)
