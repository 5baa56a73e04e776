use Rattle.std.proofs.Common.{◌≡◌, ◌++◌, ◌≤◌, length, drop}
use Rattle.axp_bank.specs.Copies.{spared}
use Rattle.axp_bank.proofs.banks.spared_copies.Given as goal

abbrev pub invariant-loop-copy : goal.invariant-loop-copy
invariant-loop-copy l = record {
  so_far : l.kept.items ++ spared l.bits (drop l.copy-index l.copy-items) ≡ spared l.gone l.copies.items;
  few : length l.kept.items ≤ l.copy-index;
}
