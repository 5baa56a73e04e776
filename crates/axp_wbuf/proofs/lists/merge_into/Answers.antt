use Rattle.axp_wbuf.specs.Pending.{with_store}
use Rattle.axp_wbuf.proofs.Places.{merged_any, merged_number, merged_put, absent_any}
use Rattle.axp_wbuf.proofs.lists.merge_into.Goals as goal

pub returns-in-Some-clause-merges : goal.returns-in-Some-clause-merges
returns-in-Some-clause-merges c = rw (← c.of.ensures.number) (merged_any _ _ c.args.entries.now c.in-Some.place c.in-Some.ensures.place)

pub returns-in-Some-clause-number : goal.returns-in-Some-clause-number
returns-in-Some-clause-number c next = rw (← c.of.ensures.number) (merged_number _ _ c.args.entries.now c.in-Some.place _ c.in-Some.ensures.place c.in-Some.ensures.inside next)

pub returns-in-Some-clause-kept : goal.returns-in-Some-clause-kept
returns-in-Some-clause-kept c new =
    rw (← c.of.ensures.number) (merged_put _ _ c.args.entries.now c.in-Some.place _ _ (with_store c.args.address c.args.size c.args.value) c.in-Some.ensures.place c.in-Some.ensures.inside c.put.ensures new)

pub returns-in-None-clause-merges : goal.returns-in-None-clause-merges
returns-in-None-clause-merges c = rw (← c.of.ensures.number) (absent_any _ _ c.args.entries.now c.in-None.ensures.place)
