-- How the parts of a memory stand for it.
use Rattle.std.specs.Prelude.{ℕ, List}
use Rattle.axp_memory.specs.declared.memories.Ram.TheInside.{Inside}
use Rattle.axp_memory.specs.Bytes.{AreLines}

abbrev pub bytes_of : Inside → List ℕ
bytes_of a = a.bytes.items

abbrev pub IsWhole : Inside → Type 0
IsWhole a = AreLines (bytes_of a)
