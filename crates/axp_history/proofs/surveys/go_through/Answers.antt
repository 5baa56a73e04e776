use Rattle.std.proofs.Common.{◌∷◌, true, false, length, arith, ap, refl, ◌∙◌}
use Rattle.axp_trace.specs.Files.{lines_of}
use Rattle.axp_history.specs.Surveys.{shown_of}
use Rattle.axp_history.specs.Traces.{front_of}
use Rattle.axp_history.proofs.SurveyLemmas.{accesses_few, count_few, front_last, front_on, front_outside, front_tail, surveyed}
use Rattle.axp_history.proofs.surveys.go_through.Goals as goal

pub overflow_add-seen-in-OfRecord : goal.overflow_add-seen-in-OfRecord
overflow_add-seen-in-OfRecord c =
    let few = accesses_few c.loop-line.invariant.shown in
    let accesses = c.loop-line.invariant.accesses in
    let records = c.loop-line.invariant.records in
    let within = c.loop-line.invariant.within in
    let short = c.requires in
    let one = count_few c.in-OfRecord.outcome in
    let is = c.count_in.ensures in
    omega (arith, few, accesses, records, within, short, one, is)

pub loop-line-preserved : goal.loop-line-preserved
loop-line-preserved c =
    let means = c.read_shown.ensures.means c.loop-line.invariant.shown c.loop-line.invariant.tells ∙ ap shown_of c.in-OfRecord.is in
    record {
      shown = record { event = c.in-OfRecord.field-0; outcome = c.in-OfRecord.outcome } ∷ c.loop-line.invariant.shown;
      front = c.loop-line.invariant.front ∙ ap (front_of c.args.header.now c.loop-line.invariant.shown) c.in-Some.ensures.lines
          ∙ front_on c.args.header.now c.loop-line.invariant.shown c.in-Some.line.now (lines_of c.in-Some.more.now) _ means;
      tells = rw c.in-OfRecord.is at (c.read_shown.ensures.kept c.loop-line.invariant.shown c.loop-line.invariant.tells);
      records = let so_far = c.loop-line.invariant.records in omega (arith, so_far);
      accesses = rw (c.loop-line.invariant.accesses, c.count_in.ensures) refl;
      within = let so_far = c.loop-line.invariant.within in let less = c.in-Some.ensures.shorter in omega (arith, so_far, less);
      good = c.loop-line.invariant.good;
    }

pub returns-in-OfTail-clause-survey : goal.returns-in-OfTail-clause-survey
returns-in-OfTail-clause-survey c =
    let means = c.read_shown.ensures.means c.loop-line.invariant.shown c.loop-line.invariant.tells ∙ ap shown_of c.in-OfTail.is in
    surveyed c.args.header.now (lines_of c.args.lines.now) _ c.loop-line.states.items c.loop-line.seen c.loop-line.invariant (lines_of c.loop-line.seen.rest.now) true _
    (ap (front_of c.args.header.now c.loop-line.invariant.shown) c.in-Some.ensures.lines ∙ front_tail c.args.header.now c.loop-line.invariant.shown c.in-Some.line.now (lines_of c.in-Some.more.now) means ∙ rw c.in-Some.ensures.lines refl) refl refl refl refl

pub returns-in-Outside-clause-survey : goal.returns-in-Outside-clause-survey
returns-in-Outside-clause-survey c =
    let means = c.read_shown.ensures.means c.loop-line.invariant.shown c.loop-line.invariant.tells ∙ ap shown_of c.in-Outside.is in
    surveyed c.args.header.now (lines_of c.args.lines.now) _ c.loop-line.states.items c.loop-line.seen c.loop-line.invariant (lines_of c.loop-line.seen.rest.now) false c.loop-line.seen
    (ap (front_of c.args.header.now c.loop-line.invariant.shown) c.in-Some.ensures.lines ∙ front_outside c.args.header.now c.loop-line.invariant.shown c.in-Some.line.now (lines_of c.in-Some.more.now) means ∙ rw c.in-Some.ensures.lines refl) refl refl refl c.loop-line.invariant.good

pub returns-clause-survey : goal.returns-clause-survey
returns-clause-survey c =
    surveyed c.args.header.now (lines_of c.args.lines.now) _ c.loop-line.states.items c.loop-line.seen c.loop-line.invariant (lines_of c.loop-line.seen.rest.now) _ _
    (front_last c.args.header.now c.loop-line.invariant.shown (lines_of c.loop-line.seen.rest.now) (length c.loop-line.seen.rest.now) (c.in_default.ensures.last refl)) refl refl refl c.is_empty.ensures
