use Rattle.axp_cpu.proofs.TranslationLemmas.{frame_is, user_refused}
use Rattle.axp_cpu.proofs.laws.accesses_need_their_right.Goals as goal

pub returns-clause-right : goal.returns-clause-right
returns-clause-right c = frame_is

pub returns-clause-kernel_segment : goal.returns-clause-kernel_segment
returns-clause-kernel_segment c = user_refused
