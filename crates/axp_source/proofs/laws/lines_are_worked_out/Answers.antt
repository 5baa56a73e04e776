use Rattle.axp_source.proofs.Examples as worked
use Rattle.axp_source.proofs.laws.lines_are_worked_out.Goals as goal

pub returns : goal.returns
returns c = record {
  entry = worked.entry;
  label = worked.label;
  memory = worked.memory;
  negative = worked.negative;
  branch = worked.branch;
  branch_to = worked.branch_to;
  jump = worked.jump;
  literal = worked.literal;
  operate = worked.operate;
  leading_zero = worked.leading_zero;
  minus_zero = worked.minus_zero;
  two_blanks = worked.two_blanks;
}
