use Rattle.axp_base.specs.Lines.{line_number}
use Rattle.axp_bank.proofs.BankLemmas.{place_for_position}
use Rattle.axp_bank.proofs.banks.place_for.Goals as goal

pub returns : goal.returns
returns c = rw (c.unwrap_or.ensures, c.first_above.ensures, c.len.ensures.value) (place_for_position (line_number c.args.line) c.args.copies.now.items)
