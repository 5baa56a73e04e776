use Rattle.std.proofs.Common.{◌≡◌, ◌<◌, ◌∙◌, length, arith}
use Rattle.axp_base.specs.declared.processors.TheConstants.{MAX_CPUS}
use Rattle.axp_check.proofs.LockingScans.{none_before, none_is, locked_more, unlocked_found, IsReached}
use Rattle.axp_check.proofs.locking.first_unlocked.Goals as goal

pub loop-n-init : goal.loop-n-init
loop-n-init c = none_before c.args.list.now

pub returns-in-Some : goal.returns-in-Some
returns-in-Some c =
    let below : c.from.result < MAX_CPUS = rw c.from.ensures c.number.ensures.below in
    let here : IsReached c.args.list.now c.loop-n.n c.loop-n.newest c.get-access.result c.from.result = record { found = c.get-access.ensures.value; who = c.from.ensures ∙ c.number.ensures.value; below = below; newest = c.loop-n.invariant.0; none = c.loop-n.invariant.1 } in
    unlocked_found c.args.list.now c.loop-n.n c.loop-n.newest c.get-access.result c.from.result c.fault_at.result c.in-Some.first here c.fault_at.ensures c.in-Some.is

pub loop-n-preserved : goal.loop-n-preserved
loop-n-preserved c =
    let below : c.from.result < MAX_CPUS = rw c.from.ensures c.number.ensures.below in
    let here : IsReached c.args.list.now c.loop-n.n c.loop-n.newest c.get-access.result c.from.result = record { found = c.get-access.ensures.value; who = c.from.ensures ∙ c.number.ensures.value; below = below; newest = c.loop-n.invariant.0; none = c.loop-n.invariant.1 } in
    (c.note.ensures, locked_more c.args.list.now c.loop-n.n c.loop-n.newest c.get-access.result c.from.result c.fault_at.result here c.fault_at.ensures c.in_default.is)

pub returns : goal.returns
returns c =
    let same : c.loop-n.n ≡ length c.args.list.now.items = let past = c.loop-n-test.false in let end = c.loop-n.auto.n-end in let len = c.len-n-end.ensures.value in omega (arith, past, end, len) in
    none_is c.args.list.now c.loop-n.n same c.loop-n.invariant.1
