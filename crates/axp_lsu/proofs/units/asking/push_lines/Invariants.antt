use Rattle.std.proofs.Common.{◌≡◌, ◌+◌, ◌++◌, length, take, drop}
use Rattle.std.specs.List.{AllByRecursion}
use Rattle.axp_lsu.specs.Keeping.{addressed}
use Rattle.axp_lsu.specs.Within.{IsSmall}
use Rattle.axp_lsu.proofs.units.asking.push_lines.Given as goal

abbrev pub invariant-loop-line : goal.invariant-loop-line
invariant-loop-line l = record {
  so_far : l.held ≡ l.fn.held ++ addressed (take l.line-index l.lines);
  many : length l.held ≡ length l.fn.held + l.line-index;
  small : AllByRecursion IsSmall (drop l.line-index l.lines);
}
