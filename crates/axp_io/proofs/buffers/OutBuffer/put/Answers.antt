use Rattle.axp_io.proofs.BufferLemmas.{course_after, course_before, failed_after, failed_before}
use Rattle.axp_io.proofs.buffers.OutBuffer.put.Goals as goal

pub returns-in_err-flush-clause-failed : goal.returns-in_err-flush-clause-failed
returns-in_err-flush-clause-failed g c = failed_before _ _ _ _ _ c.flush.result _ c.if-keep.ensures.kept c.flush.ensures.taken

pub returns-clause-failed : goal.returns-clause-failed
returns-clause-failed g c = failed_after _ _ _ _ _ _ _ c.if-keep.ensures.kept c.in_ok-flush.ensures.taken c.write_whole.ensures.taken

pub returns-in_err-flush-clause-course : goal.returns-in_err-flush-clause-course
returns-in_err-flush-clause-course g c = course_before _ _ _ c.args.piece.now _ _ c.if-keep.ensures.kept c.in_err-flush.ensures.course

pub returns-clause-course : goal.returns-clause-course
returns-clause-course g c = course_after _ _ _ _ _ _ c.if-keep.ensures.kept c.in_ok-flush.ensures.left c.write_whole.ensures.course
