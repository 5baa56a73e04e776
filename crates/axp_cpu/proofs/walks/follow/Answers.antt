use Rattle.std.proofs.Common.{◌∙◌, ap, subst, sym}
use Rattle.axp_regs.specs.declared.states.State.{State}
use Rattle.axp_cpu.specs.Phases.{ContinuationFits, continued, kept_by}
use Rattle.axp_cpu.specs.Translation.{frame_of, frame_plan, framed_by}
use Rattle.axp_cpu.proofs.WalkLemmas.{kept_at_state, kept_framed}
use Rattle.axp_cpu.proofs.walks.follow.Goals as goal

pub returns-in-First-clause-plan : goal.returns-in-First-clause-plan
returns-in-First-clause-plan c = λ cpus. rw c.in-First.is (c.descend.ensures.plan cpus c.args.table.now)

pub returns-in-First-clause-fits : goal.returns-in-First-clause-fits
returns-in-First-clause-fits c = λ cpus fits. rw c.in-First.is (c.descend.ensures.fits cpus c.args.table.now fits)

pub returns-in-Second-clause-plan : goal.returns-in-Second-clause-plan
returns-in-Second-clause-plan c = λ cpus. rw c.in-Second.is (c.descend-in-Second.ensures.plan cpus c.args.table.now)

pub returns-in-Second-clause-fits : goal.returns-in-Second-clause-fits
returns-in-Second-clause-fits c = λ cpus fits. rw c.in-Second.is (c.descend-in-Second.ensures.fits cpus c.args.table.now fits)

pub returns-in-Third-clause-plan : goal.returns-in-Third-clause-plan
returns-in-Third-clause-plan c = λ cpus.
    let t = c.args.table.now in
    let far = c.args.walk.far in
    let k = continued c.args.size cpus c.args.walk.next in
    let u = kept_by (frame_of t far c.args.word) far c.args.word t in
    rw c.in-Third.is (c.enter.ensures.plan cpus u
    ∙ ap (λ o. framed_by u far o (frame_plan c.args.size u far k)) (c.frame-found.ensures.frame ∙ ap (frame_of t far) c.of.ensures.word)
    ∙ kept_framed (frame_of t far c.args.word) c.args.size t far k c.args.word)

pub returns-in-Third-clause-fits : goal.returns-in-Third-clause-fits
returns-in-Third-clause-fits c = λ cpus fits.
    c.enter.ensures.fits cpus _ (subst (λ (s : State). ContinuationFits cpus s c.args.walk.next) (sym (kept_at_state c.args.walk.level c.args.walk.far c.args.word c.args.table.now)) fits.follows)
