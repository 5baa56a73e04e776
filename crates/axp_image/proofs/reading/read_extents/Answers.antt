use Rattle.std.proofs.Common.{◌≡◌, ◌<◌, ◌∷◌, ◌++◌, [], arith, rules}
use Rattle.axp_image.proofs.ReadingLoopLemmas.{extents_more, extents_end, said_more, fault_more, end_next}
use Rattle.axp_image.proofs.reading.read_extents.Goals as goal

pub loop-n-preserved : goal.loop-n-preserved
loop-n-preserved c =
    let e = c.in_ok-extent.extent in
    let lt : c.loop-n.n < c.args.count = omega arith in
    let items : c.push_reserved.new.self.items ≡ c.loop-n.extents.items ++ e ∷ [] = c.push_reserved.ensures.items in
    record {
      room = search rules;
      taken = grind arith;
      from_is = rw c.from.ensures (end_next c.args.bytes.now c.loop-n.n e c.in_ok-extent.ensures.said);
      within = omega (arith, c.in_ok-extent.ensures.within);
      read = rw (items, c.from.ensures) (extents_more c.args.bytes.now c.args.size c.args.count c.loop-n.n c.loop-n.from c.loop-n.extents.items e _ lt c.in_ok-extent.ensures.value c.loop-n.invariant.read);
      said = rw items (said_more c.args.bytes.now c.args.count c.loop-n.n c.loop-n.extents.items _ e lt c.in_ok-extent.ensures.said c.loop-n.invariant.said);
      fault = fault_more c.args.bytes.now _ c.args.size c.args.count c.loop-n.n c.loop-n.from _ lt c.loop-n.invariant.from_is c.in_ok-extent.ensures.sound c.loop-n.invariant.fault;
    }

pub returns-clause-value : goal.returns-clause-value
returns-clause-value c =
    extents_end c.args.bytes.now c.args.size c.args.count c.loop-n.n c.loop-n.from c.loop-n.extents.items _ (omega arith) c.loop-n.invariant.read
