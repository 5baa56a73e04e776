use Rattle.axp_base.specs.Lines.{line_number}
use Rattle.axp_bank.proofs.BankLemmas.{place_of_position}
use Rattle.axp_bank.proofs.banks.place_of.Goals as goal

pub returns : goal.returns
returns c = rw c.first_of.ensures (place_of_position (line_number c.args.line) c.args.copies.now.items)
