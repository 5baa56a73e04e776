use Rattle.std.proofs.Common.{◌-◌, ◌∙◌, arith}
use Rattle.axp_bus.specs.Buses.{port_state_of}
use Rattle.axp_bus.proofs.GoneCopyLemmas.{gone_more, gone_small, bit_is}
use Rattle.axp_bus.proofs.replies.gone.Goals as goal

pub overflow_mul-bits : goal.overflow_mul-bits
overflow_mul-bits c =
    let f = port_state_of (λ k. k) 0 c.args.port.now in
    let more = gone_more f c.args.held.now c.loop-n.n c.get-address.result c.loop-n-test.true (omega arith) c.get-address.ensures in
    let small = gone_small f c.args.held.now (c.loop-n.n - 1) (omega arith) in
    let sofar = c.loop-n.invariant (λ k. k) 0 in
    omega (arith, more, small, sofar)

pub overflow_add-bits : goal.overflow_add-bits
overflow_add-bits c =
    let f = port_state_of (λ k. k) 0 c.args.port.now in
    let more = gone_more f c.args.held.now c.loop-n.n c.get-address.result c.loop-n-test.true (omega arith) c.get-address.ensures in
    let small = gone_small f c.args.held.now (c.loop-n.n - 1) (omega arith) in
    let sofar = c.loop-n.invariant (λ k. k) 0 in
    let bit = c.from.ensures ∙ bit_is c.is_late.result _ (c.is_late.ensures (λ k. k) 0) in
    omega (arith, more, small, sofar, bit)

pub loop-n-preserved : goal.loop-n-preserved
loop-n-preserved c = λ m turns.
    let f = port_state_of m turns c.args.port.now in
    let more = gone_more f c.args.held.now c.loop-n.n c.get-address.result c.loop-n-test.true (omega arith) c.get-address.ensures in
    let sofar = c.loop-n.invariant m turns in
    let bit = c.from.ensures ∙ bit_is c.is_late.result _ (c.is_late.ensures m turns) in
    omega (arith, more, sofar, bit)
