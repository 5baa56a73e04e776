use Rattle.std.proofs.Common.{◌≡◌, take}
use Rattle.axp_tb.specs.Buffers.{found}
use Rattle.axp_tb.proofs.buffers.Tb.find.Given as goal

abbrev pub invariant-loop-entry : goal.invariant-loop-entry
invariant-loop-entry l = l.found ≡ found (take l.entry-index l.entry-items) l.page l.asn
