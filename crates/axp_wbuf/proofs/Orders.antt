-- The rules of a buffer's entries hold after each change.
use Rattle.std.proofs.Common.{◌≡◌, ℕ, zero, suc, ◌+◌, ◌/◌, ◌%◌, ◌<◌, ◌≤◌, Bool, true, false, cond, eqb, List, [], ◌∷◌, ◌||◌, ◌&&◌, length, nat_lt, arith, refl, ap, sym, subst, ◌∙◌, replicate}
use Rattle.std.specs.List.{list_any, remove}
use Rattle.std.proofs.lemmas.Bool.{eqb-true, eq-eqb, and_from, ltb-true, true≢false, false≢true}
use Rattle.std.proofs.lemmas.List.{length-replicate}
use Rattle.axp_base.specs.declared.lines.TheConstants.{LINE_BYTES}
use Rattle.axp_base.proofs.PartLemmas.{length-with_part}
use Rattle.axp_wbuf.specs.Pending.{Pending, Buffer, AreInOrder, IsMade, IsTidy, Precedes, PrecedesAll, closed, is_at, is_of_group, made_by, merges, no_entries, put_into, stored, takes, with_store}
use Rattle.axp_wbuf.specs.Drains.{without}
use Rattle.axp_wbuf.specs.Views.{pending, all_pending, buffer_of}
use Rattle.axp_wbuf.specs.declared.entries.Entry.{Entry}
use Rattle.axp_base.specs.declared.limits.TheConstants.{WBUF_ENTRIES}

pub length-put_into : (group line : ℕ) (change : Pending → Pending) (new : Pending) (es : List Pending) → length (put_into group line change new es) ≡ cond (list_any (is_at group line) es) (length es) (length es + 1)
unfolding put_into
length-put_into group line change new [] = refl
length-put_into group line change new (e ∷ es) = by (is_at group line e) (list_any (is_at group line) es) (length-put_into group line change new es) where
  by : (b any : Bool) → length (put_into group line change new es) ≡ cond any (length es) (length es + 1) → length (cond b (change e ∷ es) (e ∷ put_into group line change new es)) ≡ cond (b || any) (suc (length es)) (suc (length es) + 1)
  by true any h = refl
  by false true h = ap suc h
  by false false h = omega (arith, h)

made_longer : (made next newest later : ℕ) (e : Pending) → made ≤ next → newest ≤ later → IsMade made newest e → IsMade next later e
made_longer made next newest later e more up m = record { number = omega (arith, m.number); group = omega (arith, m.group); begun = m.begun; whole = m.whole }

pub order_longer : (made next newest later : ℕ) (es : List Pending) → made ≤ next → newest ≤ later → AreInOrder made newest es → AreInOrder next later es
order_longer made next newest later [] more up h = tt
order_longer made next newest later (e ∷ es) more up h = (made_longer made next newest later e more up h.0, (h.1.0, order_longer made next newest later es more up h.1.1))

made_merged : (made newest address size value : ℕ) (e : Pending) → IsMade made newest e → IsMade made newest (with_store address size value e)
made_merged made newest address size value e m =
    record { number = m.number; group = m.group; begun = m.begun; whole = length-with_part e.bytes (address % LINE_BYTES) size value ∙ m.whole }

precedes_merged_first : (address size value : ℕ) (e f : Pending) → Precedes e f → Precedes (with_store address size value e) f
precedes_merged_first address size value e f p = record { number = p.number; group = p.group; apart = p.apart }

precedes_merged_second : (address size value : ℕ) (e f : Pending) → Precedes e f → Precedes e (with_store address size value f)
precedes_merged_second address size value e f p = record { number = p.number; group = p.group; apart = p.apart }

all_merged_first : (address size value : ℕ) (e : Pending) (es : List Pending) → PrecedesAll e es → PrecedesAll (with_store address size value e) es
all_merged_first address size value e [] h = tt
all_merged_first address size value e (f ∷ fs) h = (precedes_merged_first address size value e f h.0, all_merged_first address size value e fs h.1)

-- an entry that precedes all, and a new one too where none merges
all_put : (group line address size value : ℕ) (new e : Pending) (es : List Pending) → (list_any (is_at group line) es ≡ false → Precedes e new) → PrecedesAll e es → PrecedesAll e (put_into group line (with_store address size value) new es)
unfolding put_into
all_put group line address size value new e [] fresh h = (fresh refl, tt)
all_put group line address size value new e (f ∷ fs) fresh h =
    by (is_at group line f) fresh (λ k. all_put group line address size value new e fs k h.1) where
      by : (b : Bool) → ((b || list_any (is_at group line) fs) ≡ false → Precedes e new) → ((list_any (is_at group line) fs ≡ false → Precedes e new) → PrecedesAll e (put_into group line (with_store address size value) new fs)) → PrecedesAll e (cond b (with_store address size value f ∷ fs) (f ∷ put_into group line (with_store address size value) new fs))
      by true k rest = (precedes_merged_second address size value e f h.0, h.1)
      by false k rest = (h.0, rest k)

-- an entry that is not of the newest group and the line precedes a new one of them
precedes_new : (made newest address size value : ℕ) (e : Pending) → IsMade made newest e → is_at newest (address / LINE_BYTES) e ≡ false → Precedes e (made_by (made + 1) newest address size value)
precedes_new made newest address size value e m is =
    record {
      number = omega (arith, m.number);
      group = m.group;
      apart = λ group line. (by (eqb e.group newest) (eqb e.line (address / LINE_BYTES)) (eq-eqb _ _ group) (eq-eqb _ _ line) is);
    } where
      by : (b c : Bool) → b ≡ true → c ≡ true → (b && c) ≡ false → ⊥
      by b c hb hc h = true≢false (sym (and_from b c hb hc) ∙ h)

pub order_put : (made next newest address size value : ℕ) (es : List Pending) → made ≤ next → newest ≤ made → (list_any (is_at newest (address / LINE_BYTES)) es ≡ false → made + 1 ≤ next) → AreInOrder made newest es → AreInOrder next newest (put_into newest (address / LINE_BYTES) (with_store address size value) (made_by (made + 1) newest address size value) es)
unfolding put_into
order_put made next newest address size value [] more up room h = (
  record {
    number = room refl;
    group = omega arith;
    begun = omega arith;
    whole = length-with_part (replicate LINE_BYTES 0) (address % LINE_BYTES) size value ∙ length-replicate {A = ℕ} LINE_BYTES 0;
  },
  (tt, tt),
)
order_put made next newest address size value (e ∷ es) more up room h =
    by (is_at newest (address / LINE_BYTES) e) refl room (λ k. order_put made next newest address size value es more up k h.1.1) where
      by : (b : Bool) → is_at newest (address / LINE_BYTES) e ≡ b → ((b || list_any (is_at newest (address / LINE_BYTES)) es) ≡ false → made + 1 ≤ next) → ((list_any (is_at newest (address / LINE_BYTES)) es ≡ false → made + 1 ≤ next) → AreInOrder next newest (put_into newest (address / LINE_BYTES) (with_store address size value) (made_by (made + 1) newest address size value) es)) → AreInOrder next newest (cond b (with_store address size value e ∷ es) (e ∷ put_into newest (address / LINE_BYTES) (with_store address size value) (made_by (made + 1) newest address size value) es))
      by true is k rest = (
        made_merged next newest address size value e (made_longer made next newest newest e more (omega arith) h.0),
        (all_merged_first address size value e es h.1.0, order_longer made next newest newest es more (omega arith) h.1.1),
      )
      by false is k rest = (
        made_longer made next newest newest e more (omega arith) h.0,
        (all_put newest (address / LINE_BYTES) address size value (made_by (made + 1) newest address size value) e es (λ _. precedes_new made newest address size value e h.0 is) h.1.0, rest k),
      )

few_by : (any : Bool) (n most : ℕ) → (any || nat_lt n most) ≡ true → n ≤ most → cond any n (n + 1) ≤ most
few_by true n most room few = few
few_by false n most room few = let less = ltb-true n most room in omega (arith, less)

pub few_put : (group line : ℕ) (change : Pending → Pending) (new : Pending) (es : List Pending) (most : ℕ) → (list_any (is_at group line) es || nat_lt (length es) most) ≡ true → length es ≤ most → length (put_into group line change new es) ≤ most
few_put group line change new es most room few = rw length-put_into (few_by (list_any (is_at group line) es) (length es) most room few)

pub next_more : (any : Bool) (n : ℕ) → n ≤ cond any n (n + 1)
next_more true n = omega arith
next_more false n = omega arith

next_room : (any : Bool) (n : ℕ) → any ≡ false → n + 1 ≤ cond any n (n + 1)
next_room true n h = absurd (true≢false h)
next_room false n h = omega arith

-- a store keeps the rules
pub tidy_stored : (address size value : ℕ) (b : Buffer) → takes (address / LINE_BYTES) b ≡ true → IsTidy b → IsTidy (stored address size value b)
tidy_stored address size value b room h =
    let more = next_more (merges (address / LINE_BYTES) b) b.made in
    record {
      few = few_put b.newest (address / LINE_BYTES) (with_store address size value) (made_by (b.made + 1) b.newest address size value) b.kept WBUF_ENTRIES room h.few;
      groups = omega (arith, more, h.groups);
      order = order_put b.made _ b.newest address size value b.kept more h.groups (next_room (merges (address / LINE_BYTES) b) b.made) h.order;
    }

-- an empty buffer keeps the rules
pub tidy_none : IsTidy no_entries
tidy_none = record { few = omega arith; groups = omega arith; order = tt }

-- a group is begun by an entry
pub group_begun : (made newest group : ℕ) (es : List Pending) → AreInOrder made newest es → list_any (is_of_group group) es ≡ true → group < made
group_begun made newest group [] h any = absurd (false≢true any)
group_begun made newest group (e ∷ es) h any = by (eqb e.group group) refl (λ k. group_begun made newest group es h.1.1 k) any where
  by : (b : Bool) → eqb e.group group ≡ b → (list_any (is_of_group group) es ≡ true → group < made) → (b || list_any (is_of_group group) es) ≡ true → group < made
  by true is rest k = let same = eqb-true _ _ is in omega (arith, same, h.0.number, h.0.begun)
  by false is rest k = rest k

all_without : (e : Pending) (es : List Pending) (k : ℕ) → PrecedesAll e es → PrecedesAll e (remove es k)
all_without e [] zero h = tt
all_without e [] (suc k) h = tt
all_without e (f ∷ fs) zero h = h.1
all_without e (f ∷ fs) (suc k) h = (h.0, all_without e fs k h.1)

pub order_without : (made newest : ℕ) (es : List Pending) (k : ℕ) → AreInOrder made newest es → AreInOrder made newest (remove es k)
order_without made newest [] zero h = tt
order_without made newest [] (suc k) h = tt
order_without made newest (e ∷ es) zero h = h.1.1
order_without made newest (e ∷ es) (suc k) h = (h.0, (all_without e es k h.1.0, order_without made newest es k h.1.1))

length-remove : (es : List Pending) (k : ℕ) → length (remove es k) ≤ length es
length-remove [] zero = omega arith
length-remove [] (suc k) = omega arith
length-remove (e ∷ es) zero = omega arith
length-remove (e ∷ es) (suc k) = omega (arith, length-remove es k)

-- removing an entry keeps the rules
pub tidy_without : (k : ℕ) (b : Buffer) → IsTidy b → IsTidy (without k b)
tidy_without k b h = record { few = omega (arith, length-remove b.kept k, h.few); groups = h.groups; order = order_without b.made b.newest b.kept k h.order }

closed_up : (any : Bool) (n made : ℕ) → (any ≡ true → n < made) → n ≤ made → (n ≤ cond any (n + 1) n) × (cond any (n + 1) n ≤ made)
closed_up true n made below h = (omega arith, omega (arith, below refl))
closed_up false n made below h = (omega arith, h)

-- closing a group keeps the rules
pub tidy_closed : (b : Buffer) → IsTidy b → IsTidy (closed b)
tidy_closed b h =
    let up = closed_up (list_any (is_of_group b.newest) b.kept) b.newest b.made (group_begun b.made b.newest b.newest b.kept h.order) h.groups in
    record { few = h.few; groups = up.1; order = order_longer b.made b.made b.newest _ b.kept (omega arith) up.0 h.order }

pub removed_pending : (es : List Entry) (k : ℕ) → all_pending (remove es k) ≡ remove (all_pending es) k
removed_pending [] zero = refl
removed_pending [] (suc k) = refl
removed_pending (e ∷ es) zero = refl
removed_pending (e ∷ es) (suc k) = ap (λ fs. pending e ∷ fs) (removed_pending es k)

-- the same over the entries of the code
pub newest_begun : (es ds : List Entry) (made newest : ℕ) → IsTidy (buffer_of es made newest) → ds ≡ es → list_any (is_of_group newest) (all_pending ds) ≡ true → newest < made
newest_begun es ds made newest h begins any =
    group_begun made newest newest (all_pending es) h.order (subst (λ xs. list_any (is_of_group newest) (all_pending xs) ≡ true) begins any)

pub closed_is : (es ds : List Entry) (made newest next : ℕ) → ds ≡ es → next ≡ cond (list_any (is_of_group newest) (all_pending ds)) (newest + 1) newest → buffer_of es made next ≡ closed (buffer_of es made newest)
closed_is es ds made newest next begins is =
    ap (buffer_of es made) (is ∙ ap (λ xs. cond (list_any (is_of_group newest) (all_pending xs)) (newest + 1) newest) begins)

pub tidy_next : (es ds : List Entry) (made newest next : ℕ) → IsTidy (buffer_of es made newest) → ds ≡ es → next ≡ cond (list_any (is_of_group newest) (all_pending ds)) (newest + 1) newest → IsTidy (buffer_of es made next)
tidy_next es ds made newest next h begins is = subst IsTidy (sym (closed_is es ds made newest next begins is)) (tidy_closed (buffer_of es made newest) h)

abbrev with_kept : ℕ → ℕ → List Pending → Buffer
with_kept made newest xs = record { kept = xs; made = made; newest = newest }

pub removed_is : (es gs : List Entry) (k made newest : ℕ) → all_pending gs ≡ remove (all_pending es) k → buffer_of gs made newest ≡ without k (buffer_of es made newest)
removed_is es gs k made newest is = ap (with_kept made newest) is

pub tidy_removed : (es gs : List Entry) (k made newest : ℕ) → IsTidy (buffer_of es made newest) → all_pending gs ≡ remove (all_pending es) k → IsTidy (buffer_of gs made newest)
tidy_removed es gs k made newest h is = subst IsTidy (sym (removed_is es gs k made newest is)) (tidy_without k (buffer_of es made newest) h)
