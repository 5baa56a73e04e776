use Rattle.std.proofs.Common.{refl}
use Rattle.axp_seed.proofs.WalkLemmas.{next_to, walk_first, walk_left, walk_smaller}
use Rattle.axp_seed.proofs.runs.SeededRun.finish.Goals as goal

pub loop-record-init : goal.loop-record-init
loop-record-init c = walk_first c.args.self.now

pub loop-record-smaller : goal.loop-record-smaller
loop-record-smaller c = walk_smaller c.args.self.now c.loop-record.self c.next.new.self c.in-Some._record c.loop-record.invariant c.in-Some.ensures.record c.next.ensures.after c.in-Some.ensures.run c.next.ensures.few

pub loop-record-preserved : goal.loop-record-preserved
loop-record-preserved c = (next_to c.args.self.now c.loop-record.self c.next.new.self c.in-Some._record c.loop-record.invariant c.in-Some.ensures.record c.next.ensures.after c.in-Some.ensures.run c.next.ensures.few).walk

pub returns : goal.returns
returns c = walk_left c.args.self.now c.loop-record.self c.next.new.self c.loop-record.invariant (c.in_default.ensures.end.0 refl) c.next.ensures.after
