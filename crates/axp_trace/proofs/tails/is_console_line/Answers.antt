use Rattle.std.proofs.Common.{ap, sym, ◌∙◌}
use Rattle.axp_trace.specs.Tails.{is_item, console_in}
use Rattle.axp_trace.proofs.ConsoleLemmas.{line_of_console}
use Rattle.axp_trace.proofs.tails.is_console_line.Goals as goal

pub returns-in-Some : goal.returns-in-Some
returns-in-Some c = c.is_console_parts.ensures ∙ sym (line_of_console c.args.line.now c.in-Some.verb.now c.in-Some.word.now c.in-Some.ensures.first c.in-Some.ensures.parted) ∙ ap (λ p. is_item (console_in c.args.line.now p)) c.in-Some.ensures.value
