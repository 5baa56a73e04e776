-- Counts only grow, and no place is above the turn count.
use Rattle.std.proofs.Common.{true, false, ℕ, ◌+◌, ◌≤◌, ◌≡◌, Bool, ◌&&◌, List, [], ◌∷◌, Option, Some, None, refl, arith}
use Rattle.std.proofs.lemmas.Bool.{cond_both}
use Rattle.axp_access.specs.declared.Outcome.{Outcome}
use Rattle.axp_access.specs.declared.Outcome.TheVariants as outcome
use Rattle.axp_access.specs.declared.Record.{Record}
use Rattle.axp_model.specs.Records.{is_of, is_turn, fences, code_fences, fills_code, drains}
use Rattle.axp_model.specs.Turns.{turns, stamps, stamp, barrier, code_barrier, code_stamp, read_place, drained}

pub turns_grow : (r : Record) (h : List Record) → turns h ≤ turns (r ∷ h)
turns_grow r h = cond_both (is_turn r.outcome) (turns h + 1) (turns h) (λ x. turns h ≤ x) (λ e. omega arith) (λ e. omega arith)

pub stamp_most : (p l : ℕ) (h : List Record) → stamp p l h ≤ turns h
stamp_most p l [] = omega arith
stamp_most p l (r ∷ h) = cond_both (stamps p l r) (turns (r ∷ h)) (stamp p l h) (λ x. x ≤ turns (r ∷ h)) (λ e. omega arith) (λ e. omega (arith, stamp_most p l h, turns_grow r h))

pub stamp_grows : (p l : ℕ) (r : Record) (h : List Record) → stamp p l h ≤ stamp p l (r ∷ h)
stamp_grows p l r h = cond_both (stamps p l r) (turns (r ∷ h)) (stamp p l h) (λ x. stamp p l h ≤ x) (λ e. omega (arith, stamp_most p l h, turns_grow r h)) (λ e. omega arith)

pub barrier_most : (p : ℕ) (h : List Record) → barrier p h ≤ turns h
barrier_most p [] = omega arith
barrier_most p (r ∷ h) = cond_both (is_of p r && fences r.outcome) (turns h) (barrier p h) (λ x. x ≤ turns (r ∷ h)) (λ e. turns_grow r h) (λ e. omega (arith, barrier_most p h, turns_grow r h))

pub barrier_grows : (p : ℕ) (r : Record) (h : List Record) → barrier p h ≤ barrier p (r ∷ h)
barrier_grows p r h = cond_both (is_of p r && fences r.outcome) (turns h) (barrier p h) (λ x. barrier p h ≤ x) (λ e. barrier_most p h) (λ e. omega arith)

pub code_barrier_most : (p : ℕ) (h : List Record) → code_barrier p h ≤ turns h
code_barrier_most p [] = omega arith
code_barrier_most p (r ∷ h) = cond_both (is_of p r && code_fences r.outcome) (turns h) (code_barrier p h) (λ x. x ≤ turns (r ∷ h)) (λ e. turns_grow r h) (λ e. omega (arith, code_barrier_most p h, turns_grow r h))

pub code_barrier_grows : (p : ℕ) (r : Record) (h : List Record) → code_barrier p h ≤ code_barrier p (r ∷ h)
code_barrier_grows p r h = cond_both (is_of p r && code_fences r.outcome) (turns h) (code_barrier p h) (λ x. code_barrier p h ≤ x) (λ e. code_barrier_most p h) (λ e. omega arith)

pub code_stamp_most : (p l : ℕ) (h : List Record) → code_stamp p l h ≤ turns h
code_stamp_most p l [] = omega arith
code_stamp_most p l (r ∷ h) = cond_both (is_of p r && fills_code l r.outcome) (turns h) (code_stamp p l h) (λ x. x ≤ turns (r ∷ h)) (λ e. turns_grow r h) (λ e. omega (arith, code_stamp_most p l h, turns_grow r h))

pub code_stamp_grows : (p l : ℕ) (r : Record) (h : List Record) → code_stamp p l h ≤ code_stamp p l (r ∷ h)
code_stamp_grows p l r h = cond_both (is_of p r && fills_code l r.outcome) (turns h) (code_stamp p l h) (λ x. code_stamp p l h ≤ x) (λ e. code_stamp_most p l h) (λ e. omega arith)

pub read_place_most : (p l : ℕ) (h : List Record) → read_place p l h ≤ turns h
read_place_most p l h = omega (arith, stamp_most p l h, barrier_most p h)

pub read_place_grows : (p l : ℕ) (r : Record) (h : List Record) → read_place p l h ≤ read_place p l (r ∷ h)
read_place_grows p l r h = omega (arith, stamp_grows p l r h, barrier_grows p r h)

-- the turn of a drain, once it is there, is no more than the turn count
abbrev pub AtMostO : ℕ → Option ℕ → Type 0
AtMostO n None = Unit {0}
AtMostO n (Some t) = t ≤ n

at_most_more : (o : Option ℕ) (m n : ℕ) → m ≤ n → AtMostO m o → AtMostO n o
at_most_more None m n less below = tt
at_most_more (Some t) m n less below = omega arith

drain_turns : (n : ℕ) (o : Outcome) → drains n o ≡ true → is_turn o ≡ true
drain_turns n (outcome.Access a) e = cc
drain_turns n outcome.NoAccess e = cc
drain_turns n (outcome.Filled b l t) e = cc
drain_turns n (outcome.Drained m l t) e = refl
drain_turns n (outcome.Taken l t g) e = cc
drain_turns n outcome.Done e = cc
drain_turns n (outcome.Polled a b c) e = cc

and_right_true : (a b : Bool) → (a && b) ≡ true → b ≡ true
and_right_true true b e = e
and_right_true false b e = cc

pub drained_most : (p n : ℕ) (h : List Record) → AtMostO (turns h) (drained h p n)
drained_most p n [] = tt
drained_most p n (r ∷ h) =
    cond_both (is_of p r && drains n r.outcome) (Some (turns h + 1)) (drained h p n) (λ o. AtMostO (turns (r ∷ h)) o)
    (λ e. rw (drain_turns n r.outcome (and_right_true (is_of p r) (drains n r.outcome) e)) (omega arith))
    (λ e. at_most_more (drained h p n) (turns h) (turns (r ∷ h)) (turns_grow r h) (drained_most p n h))
