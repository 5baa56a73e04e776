-- Where a store's bytes go.
use Rattle.std.proofs.Common.{◌≡◌, ℕ, suc, ◌+◌, ◌<◌, Bool, true, false, cond, List, [], ◌∷◌, ◌++◌, ◌||◌, length, get_or, set, arith, refl, ap, sym, subst, ◌∙◌, Some, None, Option}
use Rattle.std.specs.List.{list_any, position_from}
use Rattle.std.proofs.lemmas.Bool.{or_parts}
use Rattle.std.proofs.lemmas.List.{map-set, get_or-map}
use Rattle.axp_wbuf.specs.Views.{pending, all_pending}
use Rattle.axp_wbuf.specs.declared.entries.Entry.{Entry}
use Rattle.axp_wbuf.specs.Pending.{Pending, is_at, number_at_line, put_into}

-- the entry at place k is the first of this group and line
pub record Found (group line : ℕ) (es : List Pending) (k : ℕ) : Type 0 where
  pub inside : k < length es
  pub any : list_any (is_at group line) es ≡ true
  pub number : (next : ℕ) (d : Pending) → number_at_line group line next es ≡ (get_or es k d).number
  pub put : (change : Pending → Pending) (new d : Pending) → put_into group line change new es ≡ set es k (change (get_or es k d))

found_here : (group line : ℕ) (e : Pending) (es : List Pending) → is_at group line e ≡ true → Found group line (e ∷ es) 0
unfolding number_at_line put_into
found_here group line e es is =
    record {
      inside = omega arith;
      any = ap (λ b. b || list_any (is_at group line) es) is;
      number = λ next d. ap (λ b. cond b e.number (number_at_line group line next es)) is;
      put = λ change new d. ap (λ b. cond b (change e ∷ es) (e ∷ put_into group line change new es)) is;
    }

found_later : (group line : ℕ) (e : Pending) (es : List Pending) (k : ℕ) → is_at group line e ≡ false → Found group line es k → Found group line (e ∷ es) (suc k)
unfolding number_at_line put_into
found_later group line e es k is later =
    record {
      inside = omega (arith, later.inside);
      any = ap (λ b. b || list_any (is_at group line) es) is ∙ later.any;
      number = λ next d. ap (λ b. cond b e.number (number_at_line group line next es)) is ∙ later.number next d;
      put = λ change new d. ap (λ b. cond b (change e ∷ es) (e ∷ put_into group line change new es)) is ∙ ap (λ fs. e ∷ fs) (later.put change new d);
    }

abbrev pub PlaceFrom : ℕ → ℕ → List Pending → ℕ → Option ℕ → Type 0
PlaceFrom group line es i None = list_any (is_at group line) es ≡ false
PlaceFrom group line es i (Some n) = (k : ℕ) × (n ≡ i + k) × Found group line es k

place_later : (group line : ℕ) (e : Pending) (es : List Pending) (i : ℕ) → is_at group line e ≡ false → (o : Option ℕ) → PlaceFrom group line es (i + 1) o → PlaceFrom group line (e ∷ es) i o
place_later group line e es i is None h = ap (λ b. b || list_any (is_at group line) es) is ∙ h
place_later group line e es i is (Some n) h = (suc h.0, omega (arith, h.1), found_later group line e es h.0 is h.2)

place_by : (group line : ℕ) (e : Pending) (es : List Pending) (i : ℕ) (b : Bool) → is_at group line e ≡ b → (o : Option ℕ) → PlaceFrom group line es (i + 1) o → PlaceFrom group line (e ∷ es) i (cond b (Some i) o)
place_by group line e es i true is o h = (0, omega arith, found_here group line e es is)
place_by group line e es i false is o h = place_later group line e es i is o h

pub place_from : (group line : ℕ) (es : List Pending) (i : ℕ) → PlaceFrom group line es i (position_from (is_at group line) i es)
unfolding number_at_line put_into
place_from group line [] i = refl
place_from group line (e ∷ es) i = place_by group line e es i (is_at group line e) refl _ (place_from group line es (i + 1))

-- where the search from the front gave place n
pub found : (group line : ℕ) (es : List Pending) (n : ℕ) → Some n ≡ position_from (is_at group line) 0 es → Found group line es n
found group line es n is =
    let at : PlaceFrom group line es 0 (Some n) = subst (PlaceFrom group line es 0) (sym is) (place_from group line es 0) in
    let same : at.0 ≡ n = omega (arith, at.1) in
    subst (Found group line es) same at.2

-- the entries of the code, where the search from the front gave place n
pub merged_any : (group line : ℕ) (es : List Entry) (n : ℕ) → Some n ≡ position_from (is_at group line) 0 (all_pending es) → true ≡ list_any (is_at group line) (all_pending es)
merged_any group line es n is = sym (found group line (all_pending es) n is).any

pub merged_number : (group line : ℕ) (es : List Entry) (n : ℕ) (d : Entry) → Some n ≡ position_from (is_at group line) 0 (all_pending es) → n < length es → (next : ℕ) → (get_or es n d).number ≡ number_at_line group line next (all_pending es)
merged_number group line es n d is inside next =
    sym ((found group line (all_pending es) n is).number next (pending d) ∙ ap (λ e. e.number) (get_or-map pending es n d (pending d) inside))

pub merged_put : (group line : ℕ) (es : List Entry) (n : ℕ) (d after : Entry) (change : Pending → Pending) → Some n ≡ position_from (is_at group line) 0 (all_pending es) → n < length es → pending after ≡ change (pending (get_or es n d)) → (new : Pending) → all_pending (set es n after) ≡ put_into group line change new (all_pending es)
merged_put group line es n d after change is inside changed new =
    map-set pending es n after
    ∙ ap (λ e. set (all_pending es) n e) (changed ∙ ap change (sym (get_or-map pending es n d (pending d) inside)))
    ∙ sym ((found group line (all_pending es) n is).put change new (pending d))

pub absent_any : (group line : ℕ) (es : List Entry) → None ≡ position_from (is_at group line) 0 (all_pending es) → false ≡ list_any (is_at group line) (all_pending es)
absent_any group line es is = sym (subst (PlaceFrom group line (all_pending es) 0) (sym is) (place_from group line (all_pending es) 0))

-- no entry is of this group and line
pub absent_number : (group line next : ℕ) (es : List Pending) → list_any (is_at group line) es ≡ false → number_at_line group line next es ≡ next
unfolding number_at_line
absent_number group line next [] none = refl
absent_number group line next (e ∷ es) none =
    let parts = or_parts (is_at group line e) (list_any (is_at group line) es) none in
    ap (λ b. cond b e.number (number_at_line group line next es)) parts.0 ∙ absent_number group line next es parts.1

pub absent_put : (group line : ℕ) (change : Pending → Pending) (new : Pending) (es : List Pending) → list_any (is_at group line) es ≡ false → put_into group line change new es ≡ es ++ new ∷ []
unfolding put_into
absent_put group line change new [] none = refl
absent_put group line change new (e ∷ es) none =
    let parts = or_parts (is_at group line e) (list_any (is_at group line) es) none in
    ap (λ b. cond b (change e ∷ es) (e ∷ put_into group line change new es)) parts.0 ∙ ap (λ fs. e ∷ fs) (absent_put group line change new es parts.1)
