use Rattle.std.proofs.Common.{subst, sym}
use Rattle.axp_base.specs.Cpus.{cpu_number}
use Rattle.axp_access.specs.Lists.{IsUndrained}
use Rattle.axp_access.specs.Spelling.{IsOutcomeOf}
use Rattle.axp_history.specs.Shown.{HasPlaceFor}
use Rattle.axp_history.proofs.ShownLemmas.{own_access}
use Rattle.axp_history.proofs.collecting.put_record.Goals as goal

pub push-requires-clause-undrained : goal.push-requires-clause-undrained
push-requires-clause-undrained c =
    let own = own_access c.args.shown.event.act c.args.shown.event c.in-Access.access (subst (IsOutcomeOf c.args.shown.event.act c.args.shown.event) c.in-Access.is c.requires.spelled.1) in
    subst (λ p. IsUndrained c.args.list.now.drains (cpu_number p) c.in-Access.access.place) (sym own.0) (subst (HasPlaceFor c.args.list.now c.args.shown.event) c.in-Access.is c.requires.place)

pub drained-requires-clause-written : goal.drained-requires-clause-written
drained-requires-clause-written c = (subst (HasPlaceFor c.args.list.now c.args.shown.event) c.in-Drained.is c.requires.place).0

pub drained-requires-clause-once : goal.drained-requires-clause-once
drained-requires-clause-once c = (subst (HasPlaceFor c.args.list.now c.args.shown.event) c.in-Drained.is c.requires.place).1
