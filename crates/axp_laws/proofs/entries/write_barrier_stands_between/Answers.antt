use Rattle.axp_laws.proofs.EntryNumbers.{parts_between, demands_between}
use Rattle.axp_laws.proofs.entries.write_barrier_stands_between.Goals as goal

pub returns-clause-parts : goal.returns-clause-parts
returns-clause-parts c = parts_between

pub returns-clause-demands : goal.returns-clause-demands
returns-clause-demands c = demands_between
