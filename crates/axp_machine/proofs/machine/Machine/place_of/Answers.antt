use Rattle.std.proofs.Common.{◌≡◌, ◌+◌, ◌-◌, ◌∙◌, suc, ap, drop, arith}
use Rattle.axp_machine.specs.Tails.{tail_items}
use Rattle.axp_machine.proofs.TailLemmas.{behind_is, past_is}
use Rattle.axp_machine.proofs.machine.Machine.place_of.Goals as goal

pub loop-passed-init : goal.loop-passed-init
loop-passed-init c = c.start-at.ensures c.args.self.now

pub returns-in-Past : goal.returns-in-Past
returns-in-Past c =
    past_is c.args.self.now c.item_place-place.result c.loop-passed._passed (c.args.n - 1) c.in-Past.is (c.item_place-place.ensures.same ∙ c.loop-passed.invariant) c.loop-passed.auto._passed-end

pub loop-passed-preserved : goal.loop-passed-preserved
loop-passed-preserved c =
    let one : suc c.loop-passed._passed ≡ c.loop-passed._passed + 1 = omega arith in
    behind_is c.args.self.now c.item_place-place.result c.behind-at.result c.loop-passed._passed c.item_place-place.ensures.place (c.item_place-place.ensures.same ∙ c.loop-passed.invariant) c.behind-at.ensures
    ∙ ap (λ k. drop k (tail_items c.args.self.now)) one

pub returns : goal.returns
returns c =
    let last : c.loop-passed._passed ≡ c.args.n - 1 = omega (arith, c.loop-passed.auto._passed-end, c.loop-passed-test.false) in
    c.loop-passed.invariant ∙ ap (λ k. drop k (tail_items c.args.self.now)) last
