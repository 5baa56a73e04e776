-- The front of a list of entries, one entry more.
use Rattle.std.proofs.Common.{◌≡◌, ◌≢◌, ℕ, add-one, zero, suc, ◌+◌, ◌<◌, ◌≤◌, Bool, true, false, cond, eqb, List, [], ◌∷◌, length, get_or, drop, arith, refl, ap, sym, ◌∙◌, Some}
use Rattle.std.specs.Prelude.{slice_get}
use Rattle.std.proofs.lemmas.Bool.{eq-eqb, ne_eqb}
use Rattle.std.proofs.lemmas.List.{at_drop_more, drop_all, length-map}
use Rattle.axp_wbuf.specs.Drains.{in_front, first_group, oldest_group, told}
use Rattle.axp_wbuf.specs.Pending.{Pending}
use Rattle.axp_wbuf.specs.Views.{pending, all_pending}
use Rattle.axp_wbuf.specs.declared.entries.Entry.{Entry}

pub front_more : (group : ℕ) (es : List Entry) (n : ℕ) (d : Entry) → n < length es → (get_or es n d).group ≡ group → length (in_front group (all_pending (drop n es))) ≡ length (in_front group (all_pending (drop (n + 1) es))) + 1
unfolding in_front
front_more group es n d inside is =
    at_drop_more (λ xs. length (in_front group (all_pending xs))) es n d inside
    ∙ ap (λ b. length (cond b (pending (get_or es n d) ∷ in_front group (all_pending (drop (n + 1) es))) [])) (eq-eqb _ _ is)
    ∙ sym (add-one _)

pub front_stop : (group : ℕ) (es : List Entry) (n : ℕ) (d : Entry) → n < length es → (get_or es n d).group ≢ group → length (in_front group (all_pending (drop n es))) ≡ 0
unfolding in_front
front_stop group es n d inside other =
    at_drop_more (λ xs. length (in_front group (all_pending xs))) es n d inside
    ∙ ap (λ b. length (cond b (pending (get_or es n d) ∷ in_front group (all_pending (drop (n + 1) es))) [])) (ne_eqb _ _ other)

pub front_end : (group : ℕ) (es : List Entry) (n : ℕ) → length es ≤ n → length (in_front group (all_pending (drop n es))) ≡ 0
unfolding in_front
front_end group es n past = ap (λ xs. length (in_front group (all_pending xs))) (drop_all n es past)

inside_step : (b : Bool) (e : Pending) (es fs : List Pending) → length es ≤ length fs → length (cond b (e ∷ es) []) ≤ length fs + 1
inside_step true e es fs h = omega arith
inside_step false e es fs h = omega arith

pub front_inside : (group : ℕ) (es : List Pending) → length (in_front group es) ≤ length es
unfolding in_front
front_inside group [] = omega arith
front_inside group (e ∷ es) = omega (arith, inside_step (eqb e.group group) e (in_front group es) es (front_inside group es))

pub oldest_inside : (es : List Pending) → length (oldest_group es) ≤ length es
oldest_inside es = front_inside (first_group es) es

at_step : (b : Bool) (e : Pending) (es fs : List Pending) (k : ℕ) → ((j : ℕ) → j < length es → slice_get es j ≡ slice_get fs j) → k < length (cond b (e ∷ es) []) → slice_get (cond b (e ∷ es) []) k ≡ slice_get (e ∷ fs) k
at_step true e es fs zero rest inside = refl
at_step true e es fs (suc k) rest inside = rest k (omega arith)
at_step false e es fs k rest inside = absurd (omega (arith, inside))

pub front_at : (group : ℕ) (es : List Pending) (k : ℕ) → k < length (in_front group es) → slice_get (in_front group es) k ≡ slice_get es k
unfolding in_front
front_at group [] k inside = refl
front_at group (e ∷ es) k inside = at_step (eqb e.group group) e (in_front group es) es k (λ j h. front_at group es j h) inside

pub oldest_at : (es : List Pending) (k : ℕ) → k < length (oldest_group es) → slice_get (oldest_group es) k ≡ slice_get es k
oldest_at es = front_at (first_group es) es

pub pending_at : (es : List Entry) (k : ℕ) (d : Entry) → k < length es → slice_get (all_pending es) k ≡ Some (pending (get_or es k d))
pending_at [] k d inside = absurd (omega (arith, inside))
pending_at (e ∷ es) zero d inside = refl
pending_at (e ∷ es) (suc k) d inside = pending_at es k d (omega arith)

-- a place of the oldest group is one of the entries of the code
pub oldest_place : (es : List Entry) (k : ℕ) → k < length (oldest_group (all_pending es)) → k < length es
oldest_place es k inside = omega (arith, inside, oldest_inside (all_pending es), length-map es pending)

pub told_at : (es : List Entry) (k : ℕ) (d : Entry) → k < length (oldest_group (all_pending es)) → told (slice_get (oldest_group (all_pending es)) k) ≡ told (Some (pending (get_or es k d)))
told_at es k d inside = ap told (oldest_at (all_pending es) k inside ∙ pending_at es k d (oldest_place es k inside))
