use Rattle.std.proofs.Common.{arith, length-append, ap, ◌∙◌, length, refl}
use Rattle.axp_trace.proofs.ReadingLemmas.{words_turn, words_end, words_more}
use Rattle.axp_trace.proofs.fields.words.Goals as goal

pub returns-in_default-clause-value : goal.returns-in_default-clause-value
returns-in_default-clause-value c = words_end _ c.loop-taken.words.items c.push.new.self.items c.loop-taken.rest c.loop-taken.invariant.0 c.push.ensures.items (c.in_default.ensures.none refl)

pub loop-taken-preserved : goal.loop-taken-preserved
loop-taken-preserved c = (words_turn _ c.loop-taken.words.items c.push-in-loop-taken.new.self.items c.in-Some.word c.loop-taken.rest.now c.in-Some.more.now c.loop-taken.invariant.0 c.push-in-loop-taken.ensures.items c.in-Some.ensures.parted c.in-Some.ensures.first, omega arith, ap length c.push-in-loop-taken.ensures.items ∙ simp length-append (omega arith))

pub returns-clause-none : goal.returns-clause-none
returns-clause-none c h = omega (arith, words_more c.args.line.now c.loop-taken.rest.now c.loop-taken.words.items c.loop-taken.invariant.0)
