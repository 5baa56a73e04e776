use Rattle.axp_source.proofs.NameLemmas.{branch_found, memory_found, misc_found, operate_found, jump_found, pal_found}
use Rattle.axp_source.proofs.laws.names_are_told_apart.Goals as goal

pub returns : goal.returns
returns c = record {
  memory = λ op. (memory_found op).1;
  branch = branch_found;
  operate = λ op. (operate_found op).3;
  misc = λ op. (misc_found op).2;
  pal = λ op. (pal_found op).3;
  jump = λ kind small. (jump_found kind small).jump;
}
