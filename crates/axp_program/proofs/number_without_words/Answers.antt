use Rattle.std.proofs.Common.{inl}
use Rattle.axp_top.specs.declared.status.Status.TheVariants as status
use Rattle.axp_program.proofs.number_without_words.Goals as goal

pub returns-in-OutOfMemory-clause-exit : goal.returns-in-OutOfMemory-clause-exit
returns-in-OutOfMemory-clause-exit c = inl (status.Memory, c.number.ensures)
