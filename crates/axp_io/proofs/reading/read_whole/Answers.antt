use Rattle.std.proofs.Common.{ℕ, ◌≤◌, ◌+◌, length, arith}
use Rattle.std.proofs.lemmas.List.{length-take, take-append-le}
use Rattle.axp_io.proofs.ReadLemmas.{begun, read_more, took, course_long}
use Rattle.axp_io.proofs.reading.read_whole.Goals as goal

pub loop-turn-init : goal.loop-turn-init
loop-turn-init g c = begun _ _ _ _ _ c.empty-bytes.ensures (omega arith)

pub loop-turn-preserved : goal.loop-turn-preserved
loop-turn-preserved g c =
    let within : c.in-Ok.count ≤ length c.read.new.buf = c.in-Ok.ensures.bound.0 in
    rw (c.in-Ok-append.ensures.ok, take-append-le) (read_more _ _ _ _ _ _ _ _ _ _ _ _ _ _ _ c.loop-turn.invariant c.in-Ok.ensures.bytes.0 c.in-Ok.ensures.course (omega arith) within (omega arith) c.saturating_add.ensures)

pub returns-then-count-left-clause-course : goal.returns-then-count-left-clause-course
returns-then-count-left-clause-course g c = course_long _ _ _ _ _ _ _ _ _ c.loop-turn.invariant.course c.in-Ok.ensures.course (omega arith) c.in-Ok.ensures.bound.0

pub returns-then-count-left-clause-taken : goal.returns-then-count-left-clause-taken
returns-then-count-left-clause-taken g c =
    let room : c.in-Ok.count ≤ c.loop-turn.left + 1 = omega (arith, c.in-Ok.ensures.bound.0, c.read.auto.buf, c.min.ensures, length-take {A = ℕ}) in
    took _ _ _ _ _ _ _ _ _ _ _ _ _ _ c.loop-turn.invariant c.in-Ok.ensures.bytes.0 c.in-Ok.ensures.bound.0 room c.saturating_add.ensures

pub returns-in_default-clause-taken : goal.returns-in_default-clause-taken
returns-in_default-clause-taken g c = took _ _ _ _ _ _ _ _ _ _ _ _ _ _ c.loop-turn.invariant c.in-Ok.ensures.bytes.0 c.in-Ok.ensures.bound.0 (omega arith) c.saturating_add.ensures
