-- Late pairs are turns of others, in turn order.
use Rattle.std.proofs.Common.{true, false, ℕ, ◌+◌, ◌≤◌, ◌≡◌, ⊎_elim, cond, List, [], ◌∷◌, ◌++◌, Option, Some, None, refl, ap, arith}
use Rattle.std.specs.List.{AllByRecursion}
use Rattle.std.proofs.lemmas.Bool.{cond_both, cases_Bool, or_left}
use Rattle.axp_base.specs.Lines.{line_number, in_bank}
use Rattle.axp_base.specs.declared.lines.Bank.{Bank}
use Rattle.axp_base.specs.declared.lines.Line.{Line}
use Rattle.axp_base.specs.LatePairs.{AreAscending, AreBefore, others, late_by_other}
use Rattle.axp_base.proofs.LatePairLemmas.{ascending_push, ascending_others}
use Rattle.axp_access.specs.declared.Outcome.{Outcome}
use Rattle.axp_access.specs.declared.Outcome.TheVariants as outcome
use Rattle.axp_access.specs.declared.Record.{Record}
use Rattle.axp_model.specs.Records.{is_of, is_turn, line_of_turn, fences}
use Rattle.axp_access.specs.Kinds.{is_success, is_signal}
use Rattle.axp_model.specs.Turns.{turns}
use Rattle.axp_model.specs.Late.{late, late_by_own, takes_from}
use Rattle.axp_laws.specs.LateLaws.{IsOthersTurn, AreTurns}
use Rattle.axp_laws.proofs.OrderCounts.{turns_grow}
use Rattle.axp_laws.proofs.RunSteps.{each_map}

-- what is kept of each pair
record Known (p : ℕ) (b : Bank) (h : List Record) (pair : Line × ℕ) : Type 0 where
  banked : in_bank b (line_number pair.0) ≡ true
  made : IsOthersTurn p pair.0 pair.1 h
  bounded : pair.1 ≤ turns h

abbrev Kept : ℕ → Bank → List Record → List (Line × ℕ) → Type 0
Kept p b h q = AllByRecursion (Known p b h) q × AreAscending q

known_more : (p : ℕ) (b : Bank) (r : Record) (h : List Record) (pair : Line × ℕ) → Known p b h pair → Known p b (r ∷ h) pair
known_more p b r h pair known = record {
  banked = known.banked;
  made = record {
    since = r ∷ known.made.since;
    making = known.made.making;
    before = known.made.before;
    split = ap (λ (rest : List Record). r ∷ rest) known.made.split;
    other = known.made.other;
    on = known.made.on;
    count = known.made.count;
  };
  bounded = omega (arith, known.bounded, turns_grow r h);
}

kept_more : (p : ℕ) (b : Bank) (r : Record) (h : List Record) (q : List (Line × ℕ)) → Kept p b h q → Kept p b (r ∷ h) q
kept_more p b r h q kept = (each_map (Known p b h) (Known p b (r ∷ h)) q (known_more p b r h) kept.0, kept.1)

others_each : (P : Line × ℕ → Type 0) (q : List (Line × ℕ)) → AllByRecursion P q → AllByRecursion P (others q)
others_each P [] each = tt
others_each P (x ∷ q) each = each.1

push_each : (P : Line × ℕ → Type 0) (x : Line × ℕ) (q : List (Line × ℕ)) → AllByRecursion P q → P x → AllByRecursion P (q ++ x ∷ [])
push_each P x [] each new = (new, tt)
push_each P x (y ∷ q) each new = (each.0, push_each P x q each.1 new)

before_next : (p : ℕ) (b : Bank) (h : List Record) (q : List (Line × ℕ)) → AllByRecursion (Known p b h) q → AreBefore (turns h + 1) q
before_next p b h [] each = tt
before_next p b h (x ∷ q) each = (omega (arith, each.0.bounded), before_next p b h q each.1)

turned_turn : (o : Outcome) (line : Line) → line_of_turn o ≡ Some line → is_turn o ≡ true
turned_turn (outcome.Access a) line e =
    ⊎_elim
    (λ (t : is_success a ≡ true). or_left (is_success a) (is_signal a.kind) t)
    (λ (f : is_success a ≡ false). let never : None ≡ Some line = rw f at e in cc)
    (cases_Bool (is_success a))
turned_turn outcome.NoAccess line e = cc
turned_turn (outcome.Filled b k t) line e = cc
turned_turn (outcome.Drained n k t) line e = refl
turned_turn (outcome.Taken k t g) line e = cc
turned_turn outcome.Done line e = cc
turned_turn (outcome.Polled x y z) line e = cc

known_new : (p : ℕ) (b : Bank) (r : Record) (h : List Record) (line : Line) → is_of p r ≡ false → line_of_turn r.outcome ≡ Some line → in_bank b (line_number line) ≡ true → Known p b (r ∷ h) (line, turns h + 1)
known_new p b r h line foreign on banked = record {
  banked = banked;
  made = record { since = []; making = r; before = h; split = refl; other = foreign; on = on; count = refl };
  bounded = rw (turned_turn r.outcome line on) (omega arith);
}

kept_own : (p : ℕ) (b : Bank) (r : Record) (h : List Record) (q : List (Line × ℕ)) → Kept p b h q → Kept p b (r ∷ h) (late_by_own b r.outcome q)
kept_own p b r h q kept =
    let more : Kept p b (r ∷ h) q = kept_more p b r h q kept in
    cond_both (fences r.outcome) [] (cond (takes_from b r.outcome) (others q) q) (Kept p b (r ∷ h)) (λ _. (tt, tt))
    (λ _. cond_both (takes_from b r.outcome) (others q) q (Kept p b (r ∷ h)) (λ _. (others_each (Known p b (r ∷ h)) q more.0, ascending_others q more.1)) (λ _. more))

kept_other : (p : ℕ) (b : Bank) (r : Record) (h : List Record) (q : List (Line × ℕ)) (turn : Option Line) → is_of p r ≡ false → line_of_turn r.outcome ≡ turn → Kept p b h q → Kept p b (r ∷ h) (late_by_other b turn (turns h + 1) q)
kept_other p b r h q None foreign on kept = kept_more p b r h q kept
kept_other p b r h q (Some line) foreign on kept =
    let more : Kept p b (r ∷ h) q = kept_more p b r h q kept in
    cond_both (in_bank b (line_number line)) (q ++ (line, turns h + 1) ∷ []) q (Kept p b (r ∷ h))
    (λ banked. (push_each (Known p b (r ∷ h)) (line, turns h + 1) q more.0 (known_new p b r h line foreign on banked), ascending_push q (line, turns h + 1) more.1 (before_next p b h q kept.0)))
    (λ _. more)

late_kept : (p : ℕ) (b : Bank) (h : List Record) → Kept p b h (late p b h)
late_kept p b [] = (tt, tt)
late_kept p b (r ∷ h) =
    cond_both (is_of p r) (late_by_own b r.outcome (late p b h)) (late_by_other b (line_of_turn r.outcome) (turns h + 1) (late p b h)) (Kept p b (r ∷ h))
    (λ _. kept_own p b r h (late p b h) (late_kept p b h))
    (λ foreign. kept_other p b r h (late p b h) (line_of_turn r.outcome) foreign refl (late_kept p b h))

pub late_turns : (p : ℕ) (b : Bank) (h : List Record) → AreTurns p b h
late_turns p b h =
    let kept = late_kept p b h in
    record {
      banked = each_map (Known p b h) (λ pair. in_bank b (line_number pair.0) ≡ true) (late p b h) (λ pair known. known.banked) kept.0;
      made = each_map (Known p b h) (λ pair. IsOthersTurn p pair.0 pair.1 h) (late p b h) (λ pair known. known.made) kept.0;
      bounded = each_map (Known p b h) (λ pair. pair.1 ≤ turns h) (late p b h) (λ pair known. known.bounded) kept.0;
      ascending = kept.1;
    }
