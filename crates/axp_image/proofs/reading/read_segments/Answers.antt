use Rattle.std.proofs.Common.{arith, rules}
use Rattle.std.proofs.lemmas.Bool.{leb-true}
use Rattle.axp_image.proofs.ReadingLoopLemmas.{segments_more, left_more, segments_end}
use Rattle.axp_image.proofs.reading.read_segments.Goals as goal

pub loop-extent-preserved : goal.loop-extent-preserved
loop-extent-preserved c =
    let more = segments_more c.args.bytes.now c.loop-extent.at c.loop-extent.extent-index c.args.extents.now _ c.loop-extent.segments.items c.in_ok-piece.piece.now _ c.loop-extent-test.true c.in_ok-piece.ensures.value c.in_ok-piece.ensures.length c.loop-extent.invariant.read in
    record {
      room = search rules;
      taken = grind arith;
      read = rw (c.push_reserved.ensures.items, c.new.ensures, c.in_ok-own.ensures) more;
      left = rw c.in_ok-piece.ensures.length (left_more c.loop-extent.at c.loop-extent.extent-index _ c.args.extents.now _ c.loop-extent-test.true c.loop-extent.invariant.left);
      within = omega (arith, c.in_ok-piece.ensures.length, c.in_ok-piece.ensures.within);
    }

pub returns-clause-value : goal.returns-clause-value
returns-clause-value c =
    segments_end c.args.bytes.now c.loop-extent.at c.loop-extent.extent-index c.args.extents.now c.loop-extent.segments.items _ c.loop-extent-test.false (leb-true _ _ c.in_ok-check.ensures.ok) c.loop-extent.invariant.read
