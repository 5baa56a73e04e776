use Rattle.std.proofs.Common.{length, arith}
use Rattle.axp_asm.specs.Listings.{listing}
use Rattle.axp_asm.proofs.LengthLemmas.{room_after, short_enough}
use Rattle.axp_asm.proofs.ListingLemmas.{segment_written, whole_written}
use Rattle.axp_asm.proofs.listings.listing.Goals as goal

pub loop-n-preserved : goal.loop-n-preserved
loop-n-preserved c = (
  segment_written c.loop-n.out c.push_segment.new.out (listing c.args.image.now) c.args.image.now.segments c.loop-n.n _ c.segment-address.ensures.value c.in_ok-push_segment.ensures.text c.loop-n.invariant.0,
  room_after (length c.loop-n.out) (length c.push_segment.new.out) c.loop-n.n c.args.image.now.segments _ c.segment-address.ensures.value c.in_ok-push_segment.ensures.short c.loop-n.invariant.1,
)

pub returns-clause-assembled : goal.returns-clause-assembled
returns-clause-assembled c =
    whole_written c.loop-n.out c.args.image.now c.loop-n.n (omega (arith, c.loop-n-test.false, c.segments-n-end.ensures.value)) c.segments-n-end.ensures.valid c.loop-n.invariant.0

pub returns-clause-short : goal.returns-clause-short
returns-clause-short c = short_enough (length c.loop-n.out) c.loop-n.n c.args.image.now c.segments-n-end.ensures.valid c.loop-n.invariant.1
