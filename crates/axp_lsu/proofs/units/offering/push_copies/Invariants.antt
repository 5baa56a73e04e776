use Rattle.std.proofs.Common.{◌≡◌, ◌+◌, ◌++◌, length, take}
use Rattle.axp_lsu.specs.Offering.{copies_named}
use Rattle.axp_lsu.proofs.units.offering.push_copies.Given as goal

abbrev pub invariant-loop-line : goal.invariant-loop-line
invariant-loop-line l = record {
  so_far : l.drops.items ≡ l.fn.drops.items ++ copies_named l.bank (take l.line-index l.lines);
  many : length l.drops.items ≡ length l.fn.drops.items + l.line-index;
}
