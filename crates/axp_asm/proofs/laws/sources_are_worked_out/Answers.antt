use Rattle.axp_asm.proofs.Examples as worked
use Rattle.axp_asm.proofs.laws.sources_are_worked_out.Goals as goal

pub returns : goal.returns
returns c = record {
  listed = worked.listed;
  read = worked.read;
  labels = worked.labels;
  empty = worked.empty;
  no_segment = worked.no_segment;
  no_bytes = worked.no_bytes;
  no_label = worked.no_label;
  two_labels = worked.two_labels;
  no_statement = worked.no_statement;
}
