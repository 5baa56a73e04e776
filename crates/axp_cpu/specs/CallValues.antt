-- The values that a PAL call's accesses gave so far.
use Rattle.std.specs.Prelude.{ℕ, List, take}
use Rattle.axp_cpu.specs.declared.values.Values.{Values}

abbrev pub values_of : Values → List ℕ
values_of values = take values.len values.places
