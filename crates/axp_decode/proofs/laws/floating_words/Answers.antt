use Rattle.std.proofs.Common.{refl, sym}
use Rattle.axp_decode.specs.declared.instructions.Instr.TheVariants.{Floating}
use Rattle.axp_decode.proofs.Words.{stands_for, instr_of-stands_for}
use Rattle.axp_decode.proofs.laws.floating_words.Goals as goal

pub returns : goal.returns
returns c = record {
  exactly = λ w. (λ e. (stands_for w (Floating w) e).0, λ h. instr_of-stands_for w (Floating w) (h, refl));
  whole = λ w word e. sym (stands_for w (Floating word) e).1;
}
