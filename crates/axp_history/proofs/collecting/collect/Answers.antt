use Rattle.std.proofs.Common.{◌∷◌, ◌≤◌, length, sym, ap, refl, ◌∙◌, subst}
use Rattle.axp_trace.specs.Files.{lines_of}
use Rattle.axp_history.specs.Shown.{with_record_in}
use Rattle.axp_history.specs.Surveys.{accesses_of}
use Rattle.axp_history.specs.Traces.{Front, front_of}
use Rattle.axp_history.proofs.ShownLemmas.{has_place, room_is}
use Rattle.axp_history.proofs.CollectLemmas.{ends_front, front_is, has_room, last_front, well_at}
use Rattle.axp_history.proofs.collecting.collect.Goals as goal

pub returns-in_default-read_record : goal.returns-in_default-read_record
returns-in_default-read_record c =
    front_is c.args.header.now (lines_of c.args.lines.now) c.loop-line.invariant.shown (lines_of c.loop-line.rest.now) c.loop-line.list c.args.list.now.room c.loop-line.invariant.front c.loop-line.invariant.list
    (ap (λ ls. (front_of c.args.header.now c.loop-line.invariant.shown ls).records) c.in-Some.ensures.lines
    ∙ ends_front c.args.header.now c.loop-line.invariant.shown c.in-Some.line.now (lines_of c.in-Some.more.now) (sym c.read_record.ensures.value ∙ c.in_default-read_record.is))

pub put_record-requires-clause-room : goal.put_record-requires-clause-room
put_record-requires-clause-room c =
    let well = well_at c.args.header.now (lines_of c.args.lines.now) c.loop-line.invariant.shown (lines_of c.loop-line.rest.now) c.in-Some.line.now (lines_of c.in-Some.more.now) c.in-Some-read_record.shown c.loop-line.invariant.front c.in-Some.ensures.lines c.requires.good (sym c.read_record.ensures.value ∙ c.in-Some-read_record.is) in
    let most = subst (λ (f : Front). accesses_of f.records ≤ c.args.list.now.room) (c.loop-line.invariant.front ∙ ap (front_of c.args.header.now c.loop-line.invariant.shown) c.in-Some.ensures.lines ∙ well.on) c.requires.room in
    let fits = has_room c.args.header.now c.loop-line.invariant.shown (lines_of c.in-Some.more.now) c.in-Some-read_record.shown c.args.list.now.room most in
    rw (c.loop-line.invariant.list, room_is c.args.list.now.room c.loop-line.invariant.shown) fits

pub put_record-requires-clause-place : goal.put_record-requires-clause-place
put_record-requires-clause-place c =
    let well = well_at c.args.header.now (lines_of c.args.lines.now) c.loop-line.invariant.shown (lines_of c.loop-line.rest.now) c.in-Some.line.now (lines_of c.in-Some.more.now) c.in-Some-read_record.shown c.loop-line.invariant.front c.in-Some.ensures.lines c.requires.good (sym c.read_record.ensures.value ∙ c.in-Some-read_record.is) in
    rw c.loop-line.invariant.list (has_place c.args.list.now.room c.loop-line.invariant.shown c.in-Some-read_record.shown.event c.in-Some-read_record.shown.outcome c.loop-line.invariant.spelled well.well)

pub loop-line-preserved : goal.loop-line-preserved
loop-line-preserved c =
    let well = well_at c.args.header.now (lines_of c.args.lines.now) c.loop-line.invariant.shown (lines_of c.loop-line.rest.now) c.in-Some.line.now (lines_of c.in-Some.more.now) c.in-Some-read_record.shown c.loop-line.invariant.front c.in-Some.ensures.lines c.requires.good (sym c.read_record.ensures.value ∙ c.in-Some-read_record.is) in
    record {
      shown = c.in-Some-read_record.shown ∷ c.loop-line.invariant.shown;
      front = c.loop-line.invariant.front ∙ ap (front_of c.args.header.now c.loop-line.invariant.shown) c.in-Some.ensures.lines ∙ well.on;
      list = c.put_record.ensures ∙ ap (with_record_in c.in-Some-read_record.shown.event c.in-Some-read_record.shown.outcome) c.loop-line.invariant.list;
      spelled = (rw c.in-Some-read_record.is at c.read_record.ensures.spelled, c.loop-line.invariant.spelled);
    }

pub returns : goal.returns
returns c =
    front_is c.args.header.now (lines_of c.args.lines.now) c.loop-line.invariant.shown (lines_of c.loop-line.rest.now) c.loop-line.list c.args.list.now.room c.loop-line.invariant.front c.loop-line.invariant.list
    (last_front c.args.header.now c.loop-line.invariant.shown (lines_of c.loop-line.rest.now) (length c.loop-line.rest.now) (c.in_default.ensures.last refl))
