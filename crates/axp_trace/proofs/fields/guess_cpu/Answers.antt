use Rattle.std.proofs.Common.{◌≡◌, Some, sym, ap, ◌∙◌}
use Rattle.axp_trace.specs.Digits.{number_of}
use Rattle.axp_trace.specs.Fields.{cpu_in}
use Rattle.axp_trace.proofs.ReadingLemmas.{narrowed}
use Rattle.axp_trace.proofs.fields.guess_cpu.Goals as goal

pub returns : goal.returns
returns c =
    let same : c.in_ok-number.number ≡ c.in_ok-read_number.field-0 = narrowed _ _ c.try_from.result c.try_from.ensures c.in_ok-number.ensures.value in
    let number : number_of c.args.word.now ≡ Some c.in_ok-number.number = cc (c.in_ok-read_number.was, c.read_number.ensures) in
    c.new.ensures.value ∙ sym (ap cpu_in number)
