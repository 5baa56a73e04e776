use Rattle.std.proofs.Common.{map, sym, arith}
use Rattle.std.proofs.lemmas.List.{length-map}
use Rattle.axp_trace.proofs.ReadingLemmas.{step_in_long}
use Rattle.axp_trace.proofs.accesses.guess_step.Goals as goal

pub returns-in_default-2 : goal.returns-in_default-2
returns-in_default-2 c = sym (step_in_long c.args.cpu (map (λ w. w.now) c.args.words.now) (simp length-map (omega (arith, c.in_default.len_at_least))))
