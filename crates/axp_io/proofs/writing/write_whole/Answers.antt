use Rattle.std.proofs.Common.{length, sym, arith}
use Rattle.std.proofs.lemmas.Bool.{eqb-true}
use Rattle.std.proofs.lemmas.Grind.{common_steps}
use Rattle.axp_io.proofs.WriteLemmas.{course_done, course_ended, course_left, course_fails, course_wants, wrote}
use Rattle.axp_io.proofs.writing.write_whole.Goals as goal

pub returns-then-is_empty-clause-course : goal.returns-then-is_empty-clause-course
returns-then-is_empty-clause-course g c = course_done _ _ _ _ c.loop-turn.rest.now c.loop-turn.invariant.course (eqb-true (length c.loop-turn.rest.now) 0 (sym c.if-is_empty.ensures))

pub returns-then-is_empty-clause-left : goal.returns-then-is_empty-clause-left
returns-then-is_empty-clause-left g c = course_left _ _ _ _ c.loop-turn.rest.now c.loop-turn.invariant.course (eqb-true (length c.loop-turn.rest.now) 0 (sym c.if-is_empty.ensures))

pub loop-turn-preserved : goal.loop-turn-preserved
loop-turn-preserved g c = let step = wrote _ _ _ _ _ _ _ c.loop-turn.rest.now _ _ c.loop-turn.invariant c.in-Ok.ensures.bytes c.in-Ok.ensures.course (omega arith) c.in-Ok.ensures.bound in grind (arith, common_steps)

pub returns-then-count-eq0-clause-course : goal.returns-then-count-eq0-clause-course
returns-then-count-eq0-clause-course g c = course_ended _ _ _ _ _ _ c.loop-turn.rest.now c.loop-turn.invariant.course c.in-Ok.ensures.course c.if-count-eq0.true (grind (arith, common_steps))

pub returns-in-Err-Memory-clause-course : goal.returns-in-Err-Memory-clause-course
returns-in-Err-Memory-clause-course g c = course_wants _ _ _ _ _ _ c.loop-turn.rest.now c.in-Err-Memory.field-0-is c.loop-turn.invariant.course c.in-Err-Memory.ensures.course (grind (arith, common_steps))

pub returns-in-Err-Fault-clause-course : goal.returns-in-Err-Fault-clause-course
returns-in-Err-Fault-clause-course g c = course_fails _ _ _ _ _ _ c.loop-turn.rest.now c.in-Err-Fault.field-0-is c.loop-turn.invariant.course c.in-Err-Fault.ensures.course (grind (arith, common_steps))
