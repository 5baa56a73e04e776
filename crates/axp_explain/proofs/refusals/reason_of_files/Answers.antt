use Rattle.std.proofs.Common.{subst}
use Rattle.axp_image.specs.Faults.{Names, first_fault}
use Rattle.axp_explain.proofs.RefusalLemmas.{no_reason}
use Rattle.axp_explain.proofs.refusals.reason_of_files.Goals as goal

pub returns-in-Err-Bad : goal.returns-in-Err-Bad
returns-in-Err-Bad c = no_reason _ _ _ (subst (Names (first_fault c.args.image.now)) c.in-Err-Bad.field-0-is c.in-Err-Bad.ensures.fault)
