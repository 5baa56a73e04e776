use Rattle.std.proofs.Common.{arith}
use Rattle.axp_asm.proofs.LengthLemmas.{bytes_written}
use Rattle.axp_asm.proofs.listings.push_bytes.Goals as goal

pub returns-clause-short : goal.returns-clause-short
returns-clause-short c =
    bytes_written c.loop-byte.out c.args.out.now c.args.bytes.now c.loop-byte.byte-index c.loop-byte.invariant (omega (arith, c.loop-byte-test.false))
