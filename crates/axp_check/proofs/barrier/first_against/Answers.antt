use Rattle.std.proofs.Common.{◌≡◌, None, refl, arith}
use Rattle.axp_access.specs.Lists.{access_at, accesses_to, times_of}
use Rattle.axp_order.specs.Oldest.{oldest_that}
use Rattle.axp_order.specs.Pairs.{breaks_barrier}
use Rattle.axp_order.proofs.Scans.{always, none_against, some_against, none_left}
use Rattle.axp_check.proofs.barrier.first_against.Goals as goal

pub loop-i-init : goal.loop-i-init
loop-i-init c = always (λ v. oldest_that (λ u. breaks_barrier (times_of c.args.list.now) u v) (accesses_to c.args.list.now 0) ≡ None) (access_at c.args.list.now c.args.j) (λ v. refl)

pub returns-then-is_broken : goal.returns-then-is_broken
returns-then-is_broken c = some_against (breaks_barrier (times_of c.args.list.now)) c.args.list.now c.loop-i.i c.args.j (access_at c.args.list.now c.args.j) c.is_broken.result c.loop-i.auto.i c.loop-i-test.true c.requires.most c.loop-i.invariant c.is_broken.ensures c.if-is_broken.true

pub loop-i-preserved : goal.loop-i-preserved
loop-i-preserved c = none_against (breaks_barrier (times_of c.args.list.now)) c.args.list.now c.loop-i.i (access_at c.args.list.now c.args.j) c.is_broken.result c.loop-i.auto.i (let less = c.loop-i-test.true in let most = c.requires.most in omega (arith, less, most)) c.loop-i.invariant c.is_broken.ensures c.if-is_broken.false

pub returns : goal.returns
returns c = let same : c.loop-i.i ≡ c.args.j = let past = c.loop-i-test.false in let end = c.loop-i.auto.i-end c.requires.least in omega (arith, past, end) in none_left (breaks_barrier (times_of c.args.list.now)) c.args.list.now c.loop-i.i c.args.j (access_at c.args.list.now c.args.j) same c.loop-i.invariant
