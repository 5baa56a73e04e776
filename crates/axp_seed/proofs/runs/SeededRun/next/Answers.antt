use Rattle.std.proofs.Common.{◌≡◌, true, Some, refl, ap, sym, subst, ◌∙◌, arith}
use Rattle.std.proofs.lemmas.Bool.{false≢true}
use Rattle.axp_machine.specs.Runs.{is_complete, processors_of}
use Rattle.axp_model.specs.Legal.{is_done}
use Rattle.axp_seed.proofs.AbleLemmas.{able}
use Rattle.axp_seed.proofs.NextLemmas.{behind_is, chosen_is, next_is, none_next, stays}
use Rattle.axp_seed.proofs.TurnLemmas.{IsWorking, complete_where_none, turn_told, turn_works, working_where_some}
use Rattle.axp_seed.specs.Seeds.{Seeded, behind, event_of, event_with, next_record}
use Rattle.axp_seed.proofs.runs.SeededRun.next.Goals as goal

complete : (c : goal.Then-is_empty) → is_complete c.args.self.now.machine ≡ true
complete c =
    subst (λ (s : Seeded). is_complete s.machine ≡ true) c.self.view_is
    (complete_where_none c.self.inside.machine c.working-numbers.result.items c.is_empty.result c.working-numbers.ensures.value c.is_empty.ensures c.if-is_empty.true)

pub returns-then-is_empty-clause-record : goal.returns-then-is_empty-clause-record
returns-then-is_empty-clause-record c = sym (none_next c.args.self.now (complete c))

pub returns-then-is_empty-clause-after : goal.returns-then-is_empty-clause-after
returns-then-is_empty-clause-after c = stays c.args.self.now (complete c)

pub returns-then-is_empty-clause-end : goal.returns-then-is_empty-clause-end
returns-then-is_empty-clause-end c = (λ none. complete c, λ done. refl)

pub unreachable-requires : goal.unreachable-requires
unreachable-requires c =
    let m = c.self.inside.machine in
    let works : IsWorking m m.cpus c.turn_of.result = turn_works m c.next-word.result c.turn_of.result (turn_told m _ _ c.next-word.result c.turn_of.result c.turn_of.ensures c.as_slice.ensures.value c.working-numbers.ensures.value) in
    absurd (omega (arith, works.below, c.working-numbers.ensures.few, c.in_default.ensures.none.0 refl))

pub choose-act-requires : goal.choose-act-requires
choose-act-requires c =
    let m = c.self.inside.machine in
    let works : IsWorking m m.cpus c.turn_of.result = turn_works m c.next-word.result c.turn_of.result (turn_told m _ _ c.next-word.result c.turn_of.result c.turn_of.ensures c.as_slice.ensures.value c.working-numbers.ensures.value) in
    able m c.in-Some.cpu c.offer.result c.offer.ensures.valid c.offer.ensures.run (omega (arith, c.in-Some.ensures.number, works.below)) (ap (is_done (processors_of m) m.records) c.in-Some.ensures.number ∙ works.works) c.offer.ensures.legal c.offer.ensures.spent c.offer.ensures.needs

pub returns-clause-record : goal.returns-clause-record
returns-clause-record c =
    let m = c.self.inside.machine in
    let turn = turn_told m _ _ c.next-word.result c.turn_of.result c.turn_of.ensures c.as_slice.ensures.value c.working-numbers.ensures.value in
    let chosen = chosen_is m c.next-word.result c.turn_of.result c.in-Some.cpu c.offer.result c.choose-act.result turn (sym c.new.ensures.value ∙ c.in-Some.is) c.offer.ensures.value c.choose-act.ensures.chosen in
    subst (λ (s : Seeded). Some (record { event = event_with c.in-Some.cpu c.choose-act.result; outcome = c.in-Ok.outcome }) ≡ next_record s) c.self.view_is
    (sym (next_is (record { machine = m; words = c.self.inside.words }) (event_with c.in-Some.cpu c.choose-act.result) c.in-Ok.outcome (ap (event_of m) (sym c.next-word.ensures.word) ∙ chosen) (sym c.in-Ok.ensures.answer)))

pub returns-clause-after : goal.returns-clause-after
returns-clause-after c =
    let m = c.self.inside.machine in
    let turn = turn_told m _ _ c.next-word.result c.turn_of.result c.turn_of.ensures c.as_slice.ensures.value c.working-numbers.ensures.value in
    let chosen = chosen_is m c.next-word.result c.turn_of.result c.in-Some.cpu c.offer.result c.choose-act.result turn (sym c.new.ensures.value ∙ c.in-Some.is) c.offer.ensures.value c.choose-act.ensures.chosen in
    subst (λ (s : Seeded). record { machine = c.event.new.self; words = c.next-word.new.self } ≡ behind s) c.self.view_is
    (behind_is (record { machine = m; words = c.self.inside.words }) (event_with c.in-Some.cpu c.choose-act.result) c.in-Ok.outcome c.event.new.self c.next-word.new.self (ap (event_of m) (sym c.next-word.ensures.word) ∙ chosen) (sym c.in-Ok.ensures.answer) c.event.ensures.after c.next-word.ensures.behind)

pub returns-clause-end : goal.returns-clause-end
returns-clause-end c = (
  λ none. absurd (false≢true (sym none)),
  λ done. absurd (working_where_some c.self.inside.machine c.working-numbers.result.items c.is_empty.result c.working-numbers.ensures.value c.is_empty.ensures c.if-is_empty.false (subst (λ (s : Seeded). is_complete s.machine ≡ true) (sym c.self.view_is) done)),
)
