-- Late pairs are the turns of others since the last barrier, but for as many as were taken.
use Rattle.std.proofs.Common.{true, false, ℕ, ◌+◌, ◌<◌, ◌≤◌, ◌≡◌, ⊎_elim, List, [], ◌∷◌, ◌++◌, length, drop, Option, Some, None, refl, sym, ap, ◌∙◌, subst, arith}
use Rattle.std.proofs.lemmas.Bool.{cases_Bool, eqb-true}
use Rattle.std.proofs.lemmas.List.{drop-append-le, drop-drop, length-append, length-drop}
use Rattle.axp_base.specs.Cpus.{cpu_number}
use Rattle.axp_base.specs.Lines.{line_number, in_bank}
use Rattle.axp_base.specs.declared.lines.Bank.{Bank}
use Rattle.axp_base.specs.declared.lines.Line.{Line}
use Rattle.axp_base.specs.LatePairs.{others, late_by_other}
use Rattle.axp_access.specs.declared.Outcome.{Outcome}
use Rattle.axp_access.specs.declared.Outcome.TheVariants as outcome
use Rattle.axp_access.specs.declared.Record.{Record}
use Rattle.axp_model.specs.Records.{is_of, line_of_turn, fences}
use Rattle.axp_model.specs.Turns.{turns}
use Rattle.axp_model.specs.Late.{late, takes_from}
use Rattle.axp_laws.specs.Counts.{others_since, takes_since}
use Rattle.axp_laws.specs.LateLaws.{IsCounted}
use Rattle.axp_laws.proofs.RunFacts.{FitsOutcome, Fitting}
use Rattle.axp_laws.proofs.RunRecords.{bank_of_line}

-- what a Take takes is there
taken_is_late : (p : ℕ) (b : Bank) (o : Outcome) (h : List Record) → FitsOutcome p o h → takes_from b o ≡ true → 0 < length (late p b h)
taken_is_late p b (outcome.Taken line turn gone) h fit e =
    let shown : late p b h ≡ (line, turn) ∷ fit.0 = rw (← bank_of_line b (line_number line) e) fit.1 in
    rw shown (omega arith)
taken_is_late p b _ h fit e = cc

others_drop : (q : List (Line × ℕ)) → others q ≡ drop 1 q
others_drop [] = refl
others_drop (x ∷ q) = refl

counted_other : (b : Bank) (n t : ℕ) (o : Option Line) (q xs : List (Line × ℕ)) → q ≡ drop n xs → n ≤ length xs
    → (late_by_other b o t q ≡ drop n (late_by_other b o t xs)) × (n ≤ length (late_by_other b o t xs))
counted_other b n t None q xs is within = (is, within)
counted_other b n t (Some line) q xs is within =
    ⊎_elim
    (λ (mine : in_bank b (line_number line) ≡ true). rw mine (ap (λ z. z ++ (line, t) ∷ []) is ∙ sym (drop-append-le n xs ((line, t) ∷ []) within), omega (arith, within, length-append xs ((line, t) ∷ []))))
    (λ (elsewhere : in_bank b (line_number line) ≡ false). rw elsewhere (is, within))
    (cases_Bool (in_bank b (line_number line)))

counted_take : (n : ℕ) (q xs : List (Line × ℕ)) → q ≡ drop n xs → n ≤ length xs → 0 < length q → (others q ≡ drop (n + 1) xs) × (n + 1 ≤ length xs)
counted_take n q xs is within some =
    let long : length q ≡ length (drop n xs) = ap length is in
    (others_drop q ∙ ap (λ z. drop 1 z) is ∙ drop-drop 1 n xs, omega (arith, long, length-drop n xs))

pub counted : (p : ℕ) (b : Bank) (h : List Record) → Fitting h → IsCounted p b h
counted p b [] fit = record { rest = refl; within = omega arith }
counted p b (r ∷ h) fit =
    let was = counted p b h fit.1 in
    ⊎_elim
    (λ (own : is_of p r ≡ true).
    let its : FitsOutcome p r.outcome h = subst (λ q. FitsOutcome q r.outcome h) (eqb-true (cpu_number r.event.cpu) p own) fit.0 in
    ⊎_elim
    (λ (fence : fences r.outcome ≡ true). record { rest = rw own (rw fence refl); within = rw own (rw fence (omega arith)) })
    (λ (none : fences r.outcome ≡ false).
    ⊎_elim
    (λ (t : takes_from b r.outcome ≡ true).
    let now = counted_take (takes_since p b h) (late p b h) (others_since p b h) was.rest was.within (taken_is_late p b r.outcome h its t) in
    record { rest = rw own (rw none (rw t now.0)); within = rw own (rw none (rw t now.1)) })
    (λ (t : takes_from b r.outcome ≡ false). record { rest = rw own (rw none (rw t was.rest)); within = rw own (rw none (rw t was.within)) })
    (cases_Bool (takes_from b r.outcome)))
    (cases_Bool (fences r.outcome)))
    (λ (foreign : is_of p r ≡ false).
    let now = counted_other b (takes_since p b h) (turns h + 1) (line_of_turn r.outcome) (late p b h) (others_since p b h) was.rest was.within in
    record { rest = rw foreign now.0; within = rw foreign now.1 })
    (cases_Bool (is_of p r))
