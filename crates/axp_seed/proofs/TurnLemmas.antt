-- The processors that are not done.
use Rattle.std.proofs.Common.{◌≡◌, ◌<◌, ◌⊎◌, ℕ, zero, suc, Bool, true, false, cond, eqb, ◌&&◌, ◌%◌, List, [], ◌∷◌, ◌++◌, length, slice_get, Some, None, inl, inr, refl, ap, sym, ◌∙◌, ⊎_elim, arith}
use Rattle.std.proofs.lemmas.Bool.{false≢true, ne_eqb}
use Rattle.axp_machine.specs.Runs.{Seen, is_complete, processors_of}
use Rattle.axp_model.specs.Legal.{are_done, is_done}
use Rattle.axp_pick.specs.Choices.{turn_field}
use Rattle.axp_seed.specs.Seeds.{event_of, turn_among, working, working_below}

-- one of the numbers up to n, of those below it and n itself
last_or_before : (xs : List ℕ) (n i p : ℕ) → slice_get (xs ++ n ∷ []) i ≡ Some p → (slice_get xs i ≡ Some p) ⊎ (p ≡ n)
last_or_before [] n zero p is = inr cc
last_or_before [] n (suc i) p is = cc
last_or_before (x ∷ xs) n zero p is = inl is
last_or_before (x ∷ xs) n (suc i) p is = last_or_before xs n i p is

-- each is a processor that is not done
pub record IsWorking (m : Seen) (n p : ℕ) : Type 0 where
  pub below : p < n
  pub works : is_done (processors_of m) m.records p ≡ false

pub working_is : (m : Seen) (n i p : ℕ) → slice_get (working_below m n) i ≡ Some p → IsWorking m n p
working_is m zero i p is = cc
working_is m (suc n) i p is = by_done (λ j found. working_is m n j p found) (is_done (processors_of m) m.records n) refl is where
  later : IsWorking m n p → IsWorking m (suc n) p
  later w = record { below = omega (arith, w.below); works = w.works }

  by_done : ((j : ℕ) → slice_get (working_below m n) j ≡ Some p → IsWorking m n p) → (done : Bool) → is_done (processors_of m) m.records n ≡ done → slice_get (cond done (working_below m n) (working_below m n ++ n ∷ [])) i ≡ Some p → IsWorking m (suc n) p
  by_done before true same found = later (before i found)
  by_done before false same found =
      ⊎_elim
      (λ (there : slice_get (working_below m n) i ≡ Some p). later (before i there))
      (λ (last : p ≡ n). record { below = omega (arith, last); works = ap (is_done (processors_of m) m.records) last ∙ same })
      (last_or_before (working_below m n) n i p found)

-- there is none exactly where all are done
not_none : (xs : List ℕ) (n : ℕ) → xs ++ n ∷ [] ≡ [] → ⊥
not_none [] n is = cc
not_none (x ∷ xs) n is = cc

none_works : (m : Seen) (n : ℕ) → working_below m n ≡ [] → are_done (processors_of m) m.records n ≡ true
none_works m zero is = refl
none_works m (suc n) is = by_done (none_works m n) (is_done (processors_of m) m.records n) is where
  by_done : (working_below m n ≡ [] → are_done (processors_of m) m.records n ≡ true) → (done : Bool) → cond done (working_below m n) (working_below m n ++ n ∷ []) ≡ [] → (are_done (processors_of m) m.records n && done) ≡ true
  by_done before true none = rw (before none) refl
  by_done before false none = absurd (not_none (working_below m n) n none)

all_done : (m : Seen) (n : ℕ) → are_done (processors_of m) m.records n ≡ true → working_below m n ≡ []
all_done m zero is = refl
all_done m (suc n) is = by_done (all_done m n) (are_done (processors_of m) m.records n) (is_done (processors_of m) m.records n) refl is where
  by_done : (are_done (processors_of m) m.records n ≡ true → working_below m n ≡ []) → (before done : Bool) → are_done (processors_of m) m.records n ≡ before → (before && done) ≡ true → cond done (working_below m n) (working_below m n ++ n ∷ []) ≡ []
  by_done none true true same is = none same
  by_done none true false same is = cc
  by_done none false done same is = cc

no_items : (xs : List ℕ) → eqb (length xs) 0 ≡ true → xs ≡ []
no_items [] none = refl
no_items (x ∷ xs) none = absurd (false≢true (sym (ne_eqb (length (x ∷ xs)) 0 (λ zero_long. absurd (omega (arith, zero_long)))) ∙ none))

-- where the list that is told is empty the machine is complete, and no event follows
pub complete_where_none : (m : Seen) (xs : List ℕ) (b : Bool) → xs ≡ working m → b ≡ eqb (length xs) 0 → b ≡ true → is_complete m ≡ true
complete_where_none m xs b is tests none = none_works m m.cpus (sym is ∙ no_items xs (sym tests ∙ none))

pub working_where_some : (m : Seen) (xs : List ℕ) (b : Bool) → xs ≡ working m → b ≡ eqb (length xs) 0 → b ≡ false → is_complete m ≡ true → ⊥
working_where_some m xs b is tests some complete =
    let empty : xs ≡ [] = is ∙ all_done m m.cpus complete in
    false≢true (sym some ∙ tests ∙ rw empty refl)

pub no_event : (m : Seen) (word : ℕ) → is_complete m ≡ true → event_of m word ≡ None
unfolding event_of
no_event m word complete = rw (all_done m m.cpus complete) refl

-- the processor whose turn it is
pub turn_told : (m : Seen) (slice items : List ℕ) (word p : ℕ) → Some p ≡ turn_among slice word → slice ≡ items → items ≡ working m → Some p ≡ turn_among (working m) word
turn_told m slice items word p turn same is = turn ∙ ap (λ (xs : List ℕ). turn_among xs word) (same ∙ is)

pub turn_works : (m : Seen) (word p : ℕ) → Some p ≡ turn_among (working m) word → IsWorking m m.cpus p
turn_works m word p turn = working_is m m.cpus (turn_field word % length (working m)) p (sym turn)
