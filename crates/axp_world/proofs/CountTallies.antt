-- How many acts of each sort a processor made.
use Rattle.std.proofs.Common.{◌≡◌, ℕ, ◌+◌, true, false, cond, List, [], ◌∷◌, refl, ap, ⊎_elim, arith}
use Rattle.std.proofs.lemmas.Bool.{cases_Bool}
use Rattle.axp_base.specs.declared.lines.Bank.{Bank}
use Rattle.axp_base.specs.declared.lines.Bank.TheVariants.{Even, Odd, Code}
use Rattle.axp_access.specs.declared.Act.{Act}
use Rattle.axp_access.specs.declared.Act.TheVariants as act
use Rattle.axp_access.specs.declared.Record.{Record}
use Rattle.axp_access.specs.Acts.{is_step}
use Rattle.axp_model.specs.Records.{is_of}
use Rattle.axp_world.specs.Lengths.{steps_of}

pub record Tally : Type 0 where
  pub steps : ℕ
  pub fills : ℕ
  pub even_drops : ℕ
  pub odd_drops : ℕ
  pub code_drops : ℕ
  pub polls : ℕ
  pub ticks : ℕ
  pub drains : ℕ
  pub takes : ℕ

abbrev pub no_acts : Tally
no_acts = record { steps = 0; fills = 0; even_drops = 0; odd_drops = 0; code_drops = 0; polls = 0; ticks = 0; drains = 0; takes = 0 }

abbrev pub total : Tally → ℕ
total t = t.steps + t.fills + t.even_drops + t.odd_drops + t.code_drops + t.polls + t.ticks + t.drains + t.takes

abbrev pub with_dropped : Bank → Tally → Tally
with_dropped Even t = record t { even_drops = t.even_drops + 1 }
with_dropped Odd t = record t { odd_drops = t.odd_drops + 1 }
with_dropped Code t = record t { code_drops = t.code_drops + 1 }

abbrev pub counted : Act → Tally → Tally
counted act.Step t = record t { steps = t.steps + 1 }
counted act.Fill t = record t { fills = t.fills + 1 }
counted (act.Drain k) t = record t { drains = t.drains + 1 }
counted (act.Take b) t = record t { takes = t.takes + 1 }
counted (act.Drop b line) t = with_dropped b t
counted act.Poll t = record t { polls = t.polls + 1 }
counted act.Tick t = record t { ticks = t.ticks + 1 }

abbrev pub tally : ℕ → List Record → Tally
tally p [] = no_acts
tally p (r ∷ h) = cond (is_of p r) (counted r.event.act (tally p h)) (tally p h)

pub tally_own : (p : ℕ) (r : Record) (h : List Record) → is_of p r ≡ true → tally p (r ∷ h) ≡ counted r.event.act (tally p h)
tally_own p r h own = rw own refl

pub tally_other : (p : ℕ) (r : Record) (h : List Record) → is_of p r ≡ false → tally p (r ∷ h) ≡ tally p h
tally_other p r h other = rw other refl

drop_totals : (b : Bank) (t : Tally) → total (with_dropped b t) ≡ total t + 1
drop_totals Even t = omega arith
drop_totals Odd t = omega arith
drop_totals Code t = omega arith

-- each act is counted once
pub counts_once : (a : Act) (t : Tally) → total (counted a t) ≡ total t + 1
counts_once act.Step t = omega arith
counts_once act.Fill t = omega arith
counts_once (act.Drain k) t = omega arith
counts_once (act.Take b) t = omega arith
counts_once (act.Drop b line) t = drop_totals b t
counts_once act.Poll t = omega arith
counts_once act.Tick t = omega arith

drop_steps : (b : Bank) (t : Tally) → (with_dropped b t).steps ≡ t.steps
drop_steps Even t = refl
drop_steps Odd t = refl
drop_steps Code t = refl

-- and raises the count of Steps where it is one
pub counts_steps : (a : Act) (t : Tally) → (counted a t).steps ≡ t.steps + cond (is_step a) 1 0
counts_steps act.Step t = refl
counts_steps act.Fill t = omega arith
counts_steps (act.Drain k) t = omega arith
counts_steps (act.Take b) t = omega arith
counts_steps (act.Drop b line) t = omega (arith, drop_steps b t)
counts_steps act.Poll t = omega arith
counts_steps act.Tick t = omega arith

steps_by : (p n m : ℕ) (a : Act) → n ≡ m → cond (is_step a) (n + 1) n ≡ m + cond (is_step a) 1 0
steps_by p n m a is =
    ⊎_elim
    (λ (step : is_step a ≡ true). rw step (ap (λ k. k + 1) is))
    (λ (none : is_step a ≡ false). rw none (omega (arith, is)))
    (cases_Bool (is_step a))

pub steps_tallied : (p : ℕ) (h : List Record) → steps_of p h ≡ (tally p h).steps
steps_tallied p [] = refl
steps_tallied p (r ∷ h) =
    ⊎_elim
    (λ (own : is_of p r ≡ true). rw own (omega (arith, steps_by p (steps_of p h) (tally p h).steps r.event.act (steps_tallied p h), counts_steps r.event.act (tally p h))))
    (λ (other : is_of p r ≡ false). rw other (steps_tallied p h))
    (cases_Bool (is_of p r))
