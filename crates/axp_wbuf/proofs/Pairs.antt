-- Two entries that are kept, and the front of the entries.
use Rattle.std.proofs.Common.{◌≡◌, ◌≢◌, ℕ, zero, suc, ◌+◌, ◌/◌, ◌<◌, ◌≤◌, Bool, true, false, cond, eqb, List, [], ◌∷◌, ◌⊎◌, arith, refl, ap, sym, subst, ◌∙◌, Some, None, Option, ⊎_elim}
use Rattle.std.specs.Prelude.{slice_get}
use Rattle.std.proofs.lemmas.Bool.{and_left, and_parts, and_right, cases_lt, cases_order, eq-eqb, eqb-true, ne_eqb, true≢false}
use Rattle.axp_base.specs.declared.lines.TheConstants.{LINE_BYTES}
use Rattle.axp_wbuf.specs.Pending.{AreInOrder, Buffer, IsMade, IsTidy, Pending, Precedes, PrecedesAll, has_byte, is_at, made_by, put_into, stored, with_store}
use Rattle.axp_wbuf.specs.Drains.{first_group, in_front, oldest_group}

-- an entry that is there is the one that was asked for
pub same_entry : (e f : Pending) → Some e ≡ Some f → e ≡ f
same_entry e f h = cc

pub no_entry : (e : Pending) → ◌≡◌ {A = Option Pending} None (Some e) → ⊥
no_entry e h = cc

pub precedes_at : (e : Pending) (es : List Pending) (j : ℕ) (f : Pending) → PrecedesAll e es → slice_get es j ≡ Some f → Precedes e f
precedes_at e [] j f h is = absurd (no_entry f is)
precedes_at e (g ∷ gs) zero f h is = subst (Precedes e) (same_entry g f is) h.0
precedes_at e (g ∷ gs) (suc j) f h is = precedes_at e gs j f h.1 is

pub made_at : (made newest : ℕ) (es : List Pending) (j : ℕ) (f : Pending) → AreInOrder made newest es → slice_get es j ≡ Some f → IsMade made newest f
made_at made newest [] j f h is = absurd (no_entry f is)
made_at made newest (g ∷ gs) zero f h is = subst (IsMade made newest) (same_entry g f is) h.0
made_at made newest (g ∷ gs) (suc j) f h is = made_at made newest gs j f h.1.1 is

pub in_turn : (made newest : ℕ) (es : List Pending) (i j : ℕ) (e f : Pending) → AreInOrder made newest es → i < j → slice_get es i ≡ Some e → slice_get es j ≡ Some f → Precedes e f
in_turn made newest [] i j e f h less at_i at_j = absurd (no_entry e at_i)
in_turn made newest (g ∷ gs) zero zero e f h less at_i at_j = absurd (omega (arith, less))
in_turn made newest (g ∷ gs) zero (suc j) e f h less at_i at_j = subst (λ x. Precedes x f) (same_entry g e at_i) (precedes_at g gs j f h.1.0 at_j)
in_turn made newest (g ∷ gs) (suc i) zero e f h less at_i at_j = absurd (omega (arith, less))
in_turn made newest (g ∷ gs) (suc i) (suc j) e f h less at_i at_j = in_turn made newest gs i j e f h.1.1 (omega (arith, less)) at_i at_j

-- of two entries, the one with the smaller number precedes the other
pub by_number : (made newest : ℕ) (es : List Pending) (i j : ℕ) (e f : Pending) → AreInOrder made newest es → slice_get es i ≡ Some e → slice_get es j ≡ Some f → e.number < f.number → Precedes e f
by_number made newest es i j e f h at_i at_j less =
    ⊎_elim
    (λ (same : i ≡ j). let one : e ≡ f = same_entry e f (sym at_i ∙ ap (slice_get es) same ∙ at_j) in absurd (omega (arith, less, ap (λ x. x.number) one)))
    (⊎_elim
    (λ (before : i < j). in_turn made newest es i j e f h before at_i at_j)
    (λ (after : j < i). let other = in_turn made newest es j i f e h after at_j at_i in absurd (omega (arith, less, other.number))))
    (cases_order i j)

pub line_of : (line n : ℕ) (e : Pending) → has_byte line n e ≡ true → e.line ≡ line
line_of line n e h = eqb-true _ _ (and_parts _ _ h).0

pub older_group : (b : Buffer) (i j line n : ℕ) (e f : Pending) → IsTidy b → slice_get b.kept i ≡ Some e → slice_get b.kept j ≡ Some f → has_byte line n e ≡ true → has_byte line n f ≡ true → e.number < f.number → e.group < f.group
older_group b i j line n e f tidy at_i at_j has_e has_f less =
    let p = by_number b.made b.newest b.kept i j e f tidy.order at_i at_j less in
    let one_line : e.line ≡ f.line = line_of line n e has_e ∙ sym (line_of line n f has_f) in
    ⊎_elim
    (λ (lower : e.group < f.group). lower)
    (λ (not_lower : f.group ≤ e.group). absurd (p.apart (omega (arith, p.group, not_lower)) one_line))
    (cases_lt e.group f.group)

-- the front's entries are of its group, at their places
front_by : (b : Bool) (group : ℕ) (g : Pending) (gs fs : List Pending) (k : ℕ) (e : Pending) → eqb g.group group ≡ b → ((j : ℕ) → slice_get fs j ≡ Some e → (slice_get gs j ≡ Some e) × (e.group ≡ group)) → slice_get (cond b (g ∷ fs) []) k ≡ Some e → (slice_get (g ∷ gs) k ≡ Some e) × (e.group ≡ group)
front_by true group g gs fs zero e is rest h = (h, sym (ap (λ x. x.group) (same_entry g e h)) ∙ eqb-true _ _ is)
front_by true group g gs fs (suc k) e is rest h = rest k h
front_by false group g gs fs k e is rest h = absurd (no_entry e h)

pub front_entry : (group : ℕ) (es : List Pending) (k : ℕ) (e : Pending) → slice_get (in_front group es) k ≡ Some e → (slice_get es k ≡ Some e) × (e.group ≡ group)
unfolding in_front
front_entry group [] k e h = absurd (no_entry e h)
front_entry group (g ∷ gs) k e h = front_by (eqb g.group group) group g gs (in_front group gs) k e refl (λ j is. front_entry group gs j e is) h

pub oldest_entry : (kept : List Pending) (k : ℕ) (e : Pending) → slice_get (oldest_group kept) k ≡ Some e → (slice_get kept k ≡ Some e) × (e.group ≡ first_group kept)
oldest_entry kept = front_entry (first_group kept) kept

pub first_oldest : (made newest : ℕ) (es : List Pending) (k : ℕ) (e : Pending) → AreInOrder made newest es → slice_get es k ≡ Some e → first_group es ≤ e.group
first_oldest made newest [] k e h is = omega arith
first_oldest made newest (g ∷ gs) zero e h is = omega (arith, ap (λ x. x.group) (same_entry g e is))
first_oldest made newest (g ∷ gs) (suc k) e h is = let p = precedes_at g gs k e h.1.0 is in p.group

pub front_all : (made newest group : ℕ) (es : List Pending) (k : ℕ) (e : Pending) → AreInOrder made newest es → ((j : ℕ) (f : Pending) → slice_get es j ≡ Some f → group ≤ f.group) → slice_get es k ≡ Some e → e.group ≡ group → slice_get (in_front group es) k ≡ Some e
unfolding in_front
front_all made newest group [] k e h least is same = absurd (no_entry e is)
front_all made newest group (g ∷ gs) zero e h least is same =
    ap (λ b. slice_get (cond b (g ∷ in_front group gs) []) 0) (eq-eqb g.group group (ap (λ x. x.group) (same_entry g e is) ∙ same)) ∙ is
front_all made newest group (g ∷ gs) (suc k) e h least is same =
    let p = precedes_at g gs k e h.1.0 is in
    let lowest = least 0 g refl in
    let of_group : g.group ≡ group = omega (arith, p.group, same, lowest) in
    ap (λ b. slice_get (cond b (g ∷ in_front group gs) []) (suc k)) (eq-eqb g.group group of_group) ∙ front_all made newest group gs k e h.1.1 (λ j f at. least (suc j) f at) is same

pub oldest_all : (b : Buffer) (k : ℕ) (e : Pending) → IsTidy b → slice_get b.kept k ≡ Some e → e.group ≡ first_group b.kept → slice_get (oldest_group b.kept) k ≡ Some e
oldest_all b k e tidy is same = front_all b.made b.newest (first_group b.kept) b.kept k e tidy.order (λ j f at. first_oldest b.made b.newest b.kept j f tidy.order at) is same

pub first_leaves_first : (b : Buffer) (i k line n : ℕ) (e f : Pending) → IsTidy b → slice_get b.kept i ≡ Some e → slice_get (oldest_group b.kept) k ≡ Some f → has_byte line n e ≡ true → has_byte line n f ≡ true → f.number ≤ e.number
first_leaves_first b i k line n e f tidy at_i at_k has_e has_f =
    let front = oldest_entry b.kept k f at_k in
    ⊎_elim
    (λ (less : e.number < f.number). absurd (omega (arith, older_group b i k line n e f tidy at_i front.0 has_e has_f less, first_oldest b.made b.newest b.kept i e tidy.order at_i, front.1)))
    (λ (more : f.number ≤ e.number). more)
    (cases_lt e.number f.number)

-- a store leaves an entry of another group or line
keeps_by : (b : Bool) (group line k : ℕ) (change : Pending → Pending) (g e : Pending) (gs fs : List Pending) → is_at group line g ≡ b → is_at group line e ≡ false → ((j : ℕ) → slice_get gs j ≡ Some e → slice_get fs j ≡ Some e) → slice_get (g ∷ gs) k ≡ Some e → slice_get (cond b (change g ∷ gs) (g ∷ fs)) k ≡ Some e
keeps_by true group line zero change g e gs fs is other rest h = absurd (true≢false (sym is ∙ ap (is_at group line) (same_entry g e h) ∙ other))
keeps_by true group line (suc k) change g e gs fs is other rest h = h
keeps_by false group line zero change g e gs fs is other rest h = h
keeps_by false group line (suc k) change g e gs fs is other rest h = rest k h

pub put_keeps : (group line k : ℕ) (change : Pending → Pending) (new e : Pending) (es : List Pending) → is_at group line e ≡ false → slice_get es k ≡ Some e → slice_get (put_into group line change new es) k ≡ Some e
unfolding put_into
put_keeps group line k change new e [] other h = absurd (no_entry e h)
put_keeps group line k change new e (g ∷ gs) other h =
    keeps_by (is_at group line g) group line k change g e gs (put_into group line change new gs) refl other (λ j is. put_keeps group line j change new e gs other is) h

pub store_keeps : (b : Buffer) (address size value k : ℕ) (e : Pending) → slice_get b.kept k ≡ Some e → (e.group ≢ b.newest) ⊎ (e.line ≢ address / LINE_BYTES) → slice_get (stored address size value b).kept k ≡ Some e
store_keeps b address size value k e h other =
    put_keeps b.newest (address / LINE_BYTES) k (with_store address size value) (made_by (b.made + 1) b.newest address size value) e b.kept
    (⊎_elim
    (λ (group : e.group ≢ b.newest). and_left _ _ (ne_eqb _ _ group))
    (λ (line : e.line ≢ address / LINE_BYTES). and_right _ _ (ne_eqb _ _ line))
    other)
    h
