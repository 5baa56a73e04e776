use Rattle.std.proofs.Common.{◌≡◌, ◌-◌, ◌<◌, ◌+◌, ◌∙◌, length, refl, arith, sym}
use Rattle.axp_access.specs.Lists.{times_of}
use Rattle.axp_order.specs.Pairs.{breaks_barrier}
use Rattle.axp_order.proofs.Scans.{least_more, least_found, least_all}
use Rattle.axp_check.proofs.Guards.{tops_none, tops_at, tops_more}
use Rattle.axp_check.proofs.barrier.first_barrier.Goals as goal

pub loop-n-init : goal.loop-n-init
loop-n-init c = (refl, tops_none c.args.list.now _ refl)

pub first_unless_clear-requires-clause-tops : goal.first_unless_clear-requires-clause-tops
first_unless_clear-requires-clause-tops c = tops_at c.args.list.now c.loop-n.n c.from-cpu.result c.get.result c.loop-n.tops c.get.ensures.value (c.from-cpu.ensures ∙ c.number.ensures.value) c.loop-n.invariant.1

pub raise-requires-clause-tops : goal.raise-requires-clause-tops
raise-requires-clause-tops c = tops_at c.args.list.now c.loop-n.n c.from-cpu.result c.get.result c.loop-n.tops c.get.ensures.value (c.from-cpu.ensures ∙ c.number.ensures.value) c.loop-n.invariant.1

pub returns-in-Some : goal.returns-in-Some
returns-in-Some c =
    let less : c.loop-n.n < length c.args.list.now.items = let test = c.loop-n-test.true in let len = c.len-n-end.ensures.value in omega (arith, test, len) in
    let at : c.loop-n.n + 1 + (length c.args.list.now.items - (c.loop-n.n + 1)) ≡ length c.args.list.now.items = omega (arith, less) in
    let found = least_found (breaks_barrier (times_of c.args.list.now)) c.args.list.now c.loop-n.n (length c.args.list.now.items - (c.loop-n.n + 1)) c.in-Some.i less c.loop-n.invariant.0 (rw c.in-Some.is at c.first_unless_clear.ensures) in
    rw (least_all (breaks_barrier (times_of c.args.list.now)) c.args.list.now) (sym (rw at at found))

pub loop-n-preserved : goal.loop-n-preserved
loop-n-preserved c =
    let less : c.loop-n.n < length c.args.list.now.items = let test = c.loop-n-test.true in let len = c.len-n-end.ensures.value in omega (arith, test, len) in
    let is = c.from-cpu.ensures ∙ c.number.ensures.value in
    let below = c.number.ensures.below in
    let at = c.from-cpu.ensures in (
      least_more (breaks_barrier (times_of c.args.list.now)) c.args.list.now c.loop-n.n less c.loop-n.invariant.0 (rw c.in_default.is at c.first_unless_clear.ensures),
      tops_more c.args.list.now c.loop-n.n c.from-cpu.result c.get.result c.loop-n.tops c.raise.result c.get.ensures.value is (omega (arith, below, at)) c.loop-n.invariant.1 c.raise.ensures,
    )

pub returns : goal.returns
returns c =
    let same : c.loop-n.n ≡ length c.args.list.now.items = let past = c.loop-n-test.false in let end = c.loop-n.auto.n-end in let len = c.len-n-end.ensures.value in omega (arith, past, end, len) in
    rw (least_all (breaks_barrier (times_of c.args.list.now)) c.args.list.now) (sym (rw same at c.loop-n.invariant.0))
