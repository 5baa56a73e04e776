use Rattle.std.proofs.Common.{ℕ, ◌≡◌, ◌-◌, ◌<◌, ◌+◌, ◌∙◌, length, refl, arith, sym}
use Rattle.std.proofs.lemmas.List.{length-replicate}
use Rattle.axp_access.specs.Lists.{times_of}
use Rattle.axp_order.specs.Pairs.{breaks_issue}
use Rattle.axp_order.proofs.Scans.{least_more, least_found, least_all}
use Rattle.axp_check.proofs.IssueGuards.{issue_none, issue_at, issue_slot_at, sound_at, issue_more}
use Rattle.axp_check.proofs.issue.first_issue.Goals as goal

pub loop-n-init : goal.loop-n-init
loop-n-init c = (refl, issue_none c.args.list.now _ _ refl (length-replicate {A = ℕ} 512 0))

pub first_unless_clear-requires-clause-sound : goal.first_unless_clear-requires-clause-sound
first_unless_clear-requires-clause-sound c = sound_at c.args.list.now c.loop-n.n c.loop-n.tops c.loop-n.slots c.loop-n.invariant.1

pub first_unless_clear-requires-clause-tops : goal.first_unless_clear-requires-clause-tops
first_unless_clear-requires-clause-tops c = issue_at c.args.list.now c.loop-n.n c.from-cpu.result c.get-access.result c.loop-n.tops c.loop-n.slots c.get-access.ensures.value (c.from-cpu.ensures ∙ c.number.ensures.value) c.loop-n.invariant.1

pub first_unless_clear-requires-clause-slot : goal.first_unless_clear-requires-clause-slot
first_unless_clear-requires-clause-slot c = issue_slot_at c.args.list.now c.loop-n.n c.slot_of-slot.result c.get-access.result c.loop-n.tops c.loop-n.slots c.get-access.ensures.value c.slot_of-slot.ensures.value c.loop-n.invariant.1

pub raise-requires-clause-tops : goal.raise-requires-clause-tops
raise-requires-clause-tops c = issue_at c.args.list.now c.loop-n.n c.from-cpu.result c.get-access.result c.loop-n.tops c.loop-n.slots c.get-access.ensures.value (c.from-cpu.ensures ∙ c.number.ensures.value) c.loop-n.invariant.1

pub raise_slot-requires-clause-slot : goal.raise_slot-requires-clause-slot
raise_slot-requires-clause-slot c = issue_slot_at c.args.list.now c.loop-n.n c.slot_of-slot.result c.get-access.result c.loop-n.tops c.loop-n.slots c.get-access.ensures.value c.slot_of-slot.ensures.value c.loop-n.invariant.1

pub returns-in-Some : goal.returns-in-Some
returns-in-Some c =
    let less : c.loop-n.n < length c.args.list.now.items = let test = c.loop-n-test.true in let len = c.len-n-end.ensures.value in omega (arith, test, len) in
    let at : c.loop-n.n + 1 + (length c.args.list.now.items - (c.loop-n.n + 1)) ≡ length c.args.list.now.items = omega (arith, less) in
    let found = least_found (breaks_issue (times_of c.args.list.now)) c.args.list.now c.loop-n.n (length c.args.list.now.items - (c.loop-n.n + 1)) c.in-Some.i less c.loop-n.invariant.0 (rw c.in-Some.is at c.first_unless_clear.ensures) in
    rw (least_all (breaks_issue (times_of c.args.list.now)) c.args.list.now) (sym (rw at at found))

pub loop-n-preserved : goal.loop-n-preserved
loop-n-preserved c =
    let less : c.loop-n.n < length c.args.list.now.items = let test = c.loop-n-test.true in let len = c.len-n-end.ensures.value in omega (arith, test, len) in
    let is = c.from-cpu.ensures ∙ c.number.ensures.value in
    let below = c.number.ensures.below in
    let at = c.from-cpu.ensures in (
      least_more (breaks_issue (times_of c.args.list.now)) c.args.list.now c.loop-n.n less c.loop-n.invariant.0 (rw c.in_default.is at c.first_unless_clear.ensures),
      issue_more c.args.list.now c.loop-n.n c.from-cpu.result c.slot_of-slot.result c.get-access.result c.loop-n.tops c.loop-n.slots c.raise.result c.raise_slot.result c.get-access.ensures.value c.get-access.ensures.sound is (omega (arith, below, at)) c.slot_of-slot.ensures.value c.slot_of-slot.ensures.below c.loop-n.invariant.1 c.raise.ensures c.raise_slot.ensures,
    )

pub returns : goal.returns
returns c =
    let same : c.loop-n.n ≡ length c.args.list.now.items = let past = c.loop-n-test.false in let end = c.loop-n.auto.n-end in let len = c.len-n-end.ensures.value in omega (arith, past, end, len) in
    rw (least_all (breaks_issue (times_of c.args.list.now)) c.args.list.now) (sym (rw same at c.loop-n.invariant.0))
