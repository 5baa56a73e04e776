use Rattle.axp_elf.specs.Faults.{first_fault}
use Rattle.axp_elf.proofs.LoadingLemmas.{Loads}
use Rattle.axp_elf.proofs.loading.read_elf.Given as goal

abbrev pub invariant-loop-n : goal.invariant-loop-n
invariant-loop-n l = Loads l.bytes l.memory l.header.entry l.stack l.table l.header.start l.header.count l.n l.image l.from (first_fault l.bytes l.memory)
