use Rattle.std.proofs.Common.{◌≡◌, false, take}
use Rattle.std.specs.List.{list_any}
use Rattle.axp_check.specs.Reached.{is_behind}
use Rattle.axp_check.proofs.loops.is_any_reached.Given as goal

abbrev pub invariant-loop-m : goal.invariant-loop-m
invariant-loop-m l = list_any (is_behind l.list l.reached) (take l.m-index l.numbers) ≡ false
