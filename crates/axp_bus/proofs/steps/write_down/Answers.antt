use Rattle.std.proofs.Common.{◌<◌, ◌*◌, length, Some, arith, subst}
use Rattle.axp_base.specs.Lines.{line_number}
use Rattle.axp_base.specs.Masks.{mask_bits}
use Rattle.axp_base.specs.declared.lines.TheConstants.{LINE_BYTES}
use Rattle.axp_line.specs.Lines.{bytes_of_line}
use Rattle.axp_memory.specs.Bytes.{written}
use Rattle.axp_line.specs.BusCalls.{Written, overwritten}
use Rattle.axp_bus.specs.Buses.{Agrees, MayAsk}
use Rattle.axp_bus.specs.Writes.{written_of}
use Rattle.axp_bus.proofs.LineLemmas.{write_agrees}
use Rattle.axp_bus.proofs.steps.write_down.Goals as goal

pub returns-in-Drain-clause-bytes : goal.returns-in-Drain-clause-bytes
returns-in-Drain-clause-bytes c = λ m agrees.
    let w : Written = record { line = c.in-Drain.line; bits = mask_bits c.in-Drain.mask; bytes = bytes_of_line c.in-Drain.bytes } in
    let inside = subst (MayAsk (length c.args.memory.now) c.requires.asks.0) c.in-Drain.is c.requires.asks.1 in
    rw (c.in-Stored.is, c.in-Drain.is, c.write.ensures.bytes) (write_agrees c.args.memory.now m w c.requires.whole inside agrees)

pub returns-in-Conditional-clause-bytes : goal.returns-in-Conditional-clause-bytes
returns-in-Conditional-clause-bytes c = λ m agrees.
    let w = written_of c.conditional_write-write.result in
    let may = subst (MayAsk (length c.args.memory.now) c.requires.asks.0) c.in-Conditional.is c.requires.asks.1 in
    let inside : line_number w.line * LINE_BYTES < length c.args.memory.now = omega (arith, may.0, c.conditional_write-write.ensures.number) in
    let seen = write_agrees c.args.memory.now m w c.requires.whole inside agrees in
    rw (c.in-Stored.is, c.in-Conditional.is, c.write-in-Conditional.ensures.bytes)
    (subst (λ v. Agrees (written (line_number w.line) w.bits w.bytes c.args.memory.now) (overwritten (Some v) m)) c.conditional_write-write.ensures.value seen)
