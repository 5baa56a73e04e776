use Rattle.std.proofs.Common.{inl}
use Rattle.axp_top.specs.declared.status.Status.TheVariants as status
use Rattle.axp_program.proofs.number_after.Goals as goal

pub returns-in-Err-clause-number : goal.returns-in-Err-clause-number
returns-in-Err-clause-number c = λ _. inl (status.WriteFault, c.number.ensures)
