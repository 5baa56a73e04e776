use Rattle.std.proofs.Common.{arith, rules, Fits, w32}
use Rattle.axp_wbuf.proofs.Orders.{newest_begun, tidy_next}
use Rattle.axp_wbuf.proofs.buffers.Wbuf.close_group.Goals as goal

pub newest_after-self-inside-requires : goal.newest_after-self-inside-requires
newest_after-self-inside-requires c any =
    let below = newest_begun c.self.inside.entries.items c.as_slice.result.now c.self.inside.made c.self.inside.newest c.self.invariant c.as_slice.ensures.value any in
    let made : Fits w32 c.self.inside.made = search rules in
    omega (arith, below, made.fits)

pub invariant_of-self : goal.invariant_of-self
invariant_of-self c =
    tidy_next c.self.inside.entries.items c.as_slice.result.now c.self.inside.made c.self.inside.newest c.newest_after-self-inside.result c.self.invariant c.as_slice.ensures.value c.newest_after-self-inside.ensures
