-- The parts of the code are seen as what is kept.
use Rattle.axp_lsu.specs.declared.units.Lsu.TheInside.{Inside}
use Rattle.axp_lsu.specs.Keeping.{LocalMemory}

abbrev pub local_memory_of : Inside → LocalMemory
local_memory_of l = record { buffer = l.buffer; even = l.even; odd = l.odd; code = l.code; barrier = l.barrier; since = l.since }
