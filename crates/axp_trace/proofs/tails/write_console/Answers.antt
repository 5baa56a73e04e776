use Rattle.std.proofs.Common.{sym, ◌∙◌}
use Rattle.axp_trace.proofs.ConsoleLemmas.{console_written}
use Rattle.axp_trace.proofs.tails.write_console.Goals as goal

pub returns : goal.returns
returns c = console_written c.append.new.self c.in_ok-line.line c.as_bytes.result.now c.args.bytes.now c.type_inv.bytes (sym c.is_empty.ensures ∙ c.if-is_empty.false) c.in_ok-append.ensures.ok c.in_ok-line.ensures (c.as_bytes.ensures.value ∙ c.in_ok-digits.ensures)
