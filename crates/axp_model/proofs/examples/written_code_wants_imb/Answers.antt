use Rattle.axp_model.proofs.ExamplesComputed as example
use Rattle.axp_model.proofs.examples.written_code_wants_imb.Goals as goal

pub returns : goal.returns
returns c = record {
  code_after_mb = example.code_after_mb;
  code_after_imb = example.code_after_imb;
}
