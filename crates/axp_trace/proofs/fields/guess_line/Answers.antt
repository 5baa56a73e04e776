use Rattle.std.proofs.Common.{◌≡◌, Some, sym, ap, ◌∙◌, arith}
use Rattle.axp_trace.specs.Digits.{hex_number_of}
use Rattle.axp_trace.specs.Fields.{line_in}
use Rattle.axp_trace.proofs.MemoryLineLemmas.{line_in_at}
use Rattle.axp_trace.proofs.fields.guess_line.Goals as goal

pub returns-then-address : goal.returns-then-address
returns-then-address c =
    let number : hex_number_of 8 c.args.word.now ≡ Some c.in_ok-address.address = cc (c.in_ok-address.was, c.read_hex.ensures) in
    line_in_at c.of.result c.in_ok-address.address c.of.ensures.number (omega arith) ∙ sym (ap line_in number)
