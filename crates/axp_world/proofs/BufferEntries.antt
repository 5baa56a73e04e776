-- The write buffer's entries and the entries that wait: in one order, under equal numbers, of equal lines,
-- and in groups that rank as their ages.
use Rattle.std.proofs.Common.{◌≡◌, ℕ, zero, suc, ◌+◌, ◌-◌, ◌/◌, ◌<◌, ◌≤◌, ◌≢◌, ⊎_elim, Bool, true, false, cond, eqb, ltb, ◌&&◌, ◌||◌, List, [], ◌∷◌, ◌++◌, length, Option, Some, None, arith, refl, ap, sym, subst, ◌∙◌}
use Rattle.std.specs.Prelude.{slice_get, nat_lt, is_some}
use Rattle.std.specs.List.{AllByRecursion, list_any, remove}
use Rattle.std.proofs.lemmas.Bool.{cases_Bool, cases_lt, cases_order, and_parts, and_from, or_cases, or_left, or_right, or_parts, eqb-true, eqb-false, eq-eqb, ne_eqb, lt-ltb, le-ltb, false≢true}
use Rattle.axp_base.specs.Lines.{line_number, is_line}
use Rattle.axp_base.specs.declared.lines.Line.{Line}
use Rattle.axp_base.specs.declared.lines.TheConstants.{LINE_BYTES}
use Rattle.axp_wbuf.specs.Drains.{in_front, oldest_group}
use Rattle.axp_wbuf.specs.Drains as drains
use Rattle.axp_wbuf.specs.Pending as pending
use Rattle.axp_wbuf.specs.Pending.{Pending, AreInOrder, IsTidy, PrecedesAll, closed, is_at, is_before, is_of_group, is_of_line, made_by, merges, no_entries, number_at_line, put_into, store_number, stored, with_store}
use Rattle.axp_base.specs.declared.limits.TheConstants.{WBUF_ENTRIES}
use Rattle.axp_wbuf.proofs.Orders.{tidy_closed, tidy_none, tidy_stored, tidy_without}
use Rattle.axp_wbuf.proofs.Pairs.{same_entry, no_entry, precedes_at, oldest_entry}
use Rattle.axp_wbuf.proofs.Places.{absent_put}
use Rattle.axp_model.specs.Entries.{Waiting, Buffer, entry_for, entry_or, has_closed, has_line, entries_after_write, entry_joined, least_age, of_age, oldest, one_if_none, without_entry}
use Rattle.axp_model.specs.Legal.{takes_write}
use Rattle.axp_base.specs.Lists.{is_empty}
use Rattle.axp_laws.proofs.RunFacts.{waits}
use Rattle.axp_world.proofs.Agreement.{IsEntryOf, AreEntriesOf}

-- an entry of the buffer is the one that waits under its number, and its group ranks as the age
pub record IsAlike (rank : ℕ → ℕ) (e : Pending) (w : Waiting) : Type 0 where
  pub entry : IsEntryOf e w
  pub age : w.age ≡ rank e.group

abbrev pub AreAlike : (ℕ → ℕ) → List Pending → List Waiting → Type 0
AreAlike rank [] [] = Unit {0}
AreAlike rank (e ∷ es) (w ∷ ws) = IsAlike rank e w × AreAlike rank es ws
AreAlike rank [] (w ∷ ws) = ⊥
AreAlike rank (e ∷ es) [] = ⊥

-- groups rank in order
abbrev pub Rises : (ℕ → ℕ) → Type 0
Rises rank = (g k : ℕ) → g < k → rank g < rank k

-- the buffer keeps what waits: entry by entry, with groups that rank as ages
pub record KeepsWaiting (b : pending.Buffer) (m : Buffer) : Type 0 where
  pub tidy : IsTidy b
  pub rank : ℕ → ℕ
  pub rises : Rises rank
  pub newest : rank b.newest ≡ m.age
  pub made : b.made ≡ m.made
  pub entries : AreAlike rank b.kept m.waiting

-- tests of groups are those of their ranks
rank_eqb : (rank : ℕ → ℕ) (g k : ℕ) → Rises rank → eqb (rank g) (rank k) ≡ eqb g k
rank_eqb rank g k rises =
    ⊎_elim
    (λ (same : g ≡ k). eq-eqb (rank g) (rank k) (ap rank same) ∙ sym (eq-eqb g k same))
    (λ either. ⊎_elim
    (λ (less : g < k). let up = rises g k less in ne_eqb (rank g) (rank k) (λ same. absurd (omega (arith, up, same))) ∙ sym (ne_eqb g k (λ same. absurd (omega (arith, less, same)))))
    (λ (more : k < g). let down = rises k g more in ne_eqb (rank g) (rank k) (λ same. absurd (omega (arith, down, same))) ∙ sym (ne_eqb g k (λ same. absurd (omega (arith, more, same)))))
    either)
    (cases_order g k)

rank_ltb : (rank : ℕ → ℕ) (g k : ℕ) → Rises rank → ltb (rank g) (rank k) ≡ ltb g k
rank_ltb rank g k rises =
    ⊎_elim
    (λ (same : g ≡ k). le-ltb (rank g) (rank k) (omega (arith, ap rank same)) ∙ sym (le-ltb g k (omega (arith, same))))
    (λ either. ⊎_elim
    (λ (less : g < k). lt-ltb (rank g) (rank k) (rises g k less) ∙ sym (lt-ltb g k less))
    (λ (more : k < g). let down = rises k g more in le-ltb (rank g) (rank k) (omega (arith, down)) ∙ sym (le-ltb g k (omega (arith, more))))
    either)
    (cases_order g k)

rank_up : (rank : ℕ → ℕ) (g k : ℕ) → Rises rank → g ≤ k → rank g ≤ rank k
rank_up rank g k rises most =
    ⊎_elim (λ (less : g < k). let up = rises g k less in omega (arith, up)) (λ (more : k ≤ g). let same : g ≡ k = omega (arith, most, more) in omega (arith, ap rank same)) (cases_lt g k)

and_turned : (a b : Bool) → (a && b) ≡ (b && a)
and_turned true true = refl
and_turned true false = refl
and_turned false true = refl
and_turned false false = refl

-- the same entry is joined
test_same : (rank : ℕ → ℕ) (newest age l : ℕ) (e : Pending) (w : Waiting) → Rises rank → rank newest ≡ age → IsAlike rank e w → (is_line l w.line && eqb w.age age) ≡ is_at newest l e
test_same rank newest age l e w rises is alike =
    let first : (eqb (line_number w.line) l && eqb w.age age) ≡ (eqb e.line l && eqb w.age age) = ap (λ n. eqb n l && eqb w.age age) (sym alike.entry.line) in
    let second : (eqb e.line l && eqb w.age age) ≡ (eqb e.line l && eqb (rank e.group) (rank newest)) = rw (alike.age, is) refl in
    let third : (eqb e.line l && eqb (rank e.group) (rank newest)) ≡ (eqb e.line l && eqb e.group newest) = ap (λ x. eqb e.line l && x) (rank_eqb rank e.group newest rises) in
    first ∙ second ∙ third ∙ and_turned (eqb e.line l) (eqb e.group newest)

number_same : (rank : ℕ → ℕ) (newest age l next : ℕ) (es : List Pending) (ws : List Waiting) → Rises rank → rank newest ≡ age → AreAlike rank es ws → number_at_line newest l next es ≡ entry_or (entry_joined l age ws) next
unfolding number_at_line
number_same rank newest age l next [] [] rises is alike = refl
number_same rank newest age l next [] (w ∷ ws) rises is alike = absurd alike
number_same rank newest age l next (e ∷ es) [] rises is alike = absurd alike
number_same rank newest age l next (e ∷ es) (w ∷ ws) rises is alike =
    let same : (is_line l w.line && eqb w.age age) ≡ is_at newest l e = test_same rank newest age l e w rises is alike.0 in
    ⊎_elim
    (λ (here : is_at newest l e ≡ true). rw (same ∙ here, here) alike.0.entry.number)
    (λ (other : is_at newest l e ≡ false). rw (same ∙ other, other) (number_same rank newest age l next es ws rises is alike.1))
    (cases_Bool (is_at newest l e))

joins_same : (rank : ℕ → ℕ) (newest age l : ℕ) (es : List Pending) (ws : List Waiting) → Rises rank → rank newest ≡ age → AreAlike rank es ws → list_any (is_at newest l) es ≡ is_some (entry_joined l age ws)
joins_same rank newest age l [] [] rises is alike = refl
joins_same rank newest age l [] (w ∷ ws) rises is alike = absurd alike
joins_same rank newest age l (e ∷ es) [] rises is alike = absurd alike
joins_same rank newest age l (e ∷ es) (w ∷ ws) rises is alike =
    let same : (is_line l w.line && eqb w.age age) ≡ is_at newest l e = test_same rank newest age l e w rises is alike.0 in
    ⊎_elim
    (λ (here : is_at newest l e ≡ true). rw (same ∙ here, here) refl)
    (λ (other : is_at newest l e ≡ false). rw (same ∙ other, other) (joins_same rank newest age l es ws rises is alike.1))
    (cases_Bool (is_at newest l e))

pub length_same : (rank : ℕ → ℕ) (es : List Pending) (ws : List Waiting) → AreAlike rank es ws → length es ≡ length ws
length_same rank [] [] alike = refl
length_same rank [] (w ∷ ws) alike = absurd alike
length_same rank (e ∷ es) [] alike = absurd alike
length_same rank (e ∷ es) (w ∷ ws) alike = ap suc (length_same rank es ws alike.1)

-- what is asked of both
pub number_alike : (b : pending.Buffer) (m : Buffer) → KeepsWaiting b m → (l : ℕ) → store_number l b ≡ entry_for l m
number_alike b m a l = number_same a.rank b.newest m.age l (b.made + 1) b.kept m.waiting a.rises a.newest a.entries ∙ ap (λ n. entry_or (entry_joined l m.age m.waiting) (n + 1)) a.made

pub merges_alike : (b : pending.Buffer) (m : Buffer) → KeepsWaiting b m → (l : ℕ) → merges l b ≡ is_some (entry_joined l m.age m.waiting)
merges_alike b m a l = joins_same a.rank b.newest m.age l b.kept m.waiting a.rises a.newest a.entries

pub takes_alike : (b : pending.Buffer) (m : Buffer) → KeepsWaiting b m → (l : ℕ) → pending.takes l b ≡ takes_write l m
takes_alike b m a l =
    ap (λ x. x || nat_lt (length b.kept) WBUF_ENTRIES) (merges_alike b m a l)
    ∙ ap (λ n. is_some (entry_joined l m.age m.waiting) || nat_lt n WBUF_ENTRIES) (length_same a.rank b.kept m.waiting a.entries)

line_same : (rank : ℕ → ℕ) (l : ℕ) (es : List Pending) (ws : List Waiting) → AreAlike rank es ws → list_any (is_of_line l) es ≡ has_line l ws
line_same rank l [] [] alike = refl
line_same rank l [] (w ∷ ws) alike = absurd alike
line_same rank l (e ∷ es) [] alike = absurd alike
line_same rank l (e ∷ es) (w ∷ ws) alike = ap (λ n. eqb n l || list_any (is_of_line l) es) alike.0.entry.line ∙ ap (λ x. is_line l w.line || x) (line_same rank l es ws alike.1)

pub line_alike : (b : pending.Buffer) (m : Buffer) → KeepsWaiting b m → (l : ℕ) → list_any (is_of_line l) b.kept ≡ has_line l m.waiting
line_alike b m a l = line_same a.rank l b.kept m.waiting a.entries

closed_same : (rank : ℕ → ℕ) (newest age : ℕ) (es : List Pending) (ws : List Waiting) → Rises rank → rank newest ≡ age → AreAlike rank es ws → list_any (is_before newest) es ≡ has_closed age ws
closed_same rank newest age [] [] rises is alike = refl
closed_same rank newest age [] (w ∷ ws) rises is alike = absurd alike
closed_same rank newest age (e ∷ es) [] rises is alike = absurd alike
closed_same rank newest age (e ∷ es) (w ∷ ws) rises is alike =
    let here : ltb e.group newest ≡ ltb w.age age = sym (rank_ltb rank e.group newest rises) ∙ ap (λ g. ltb g (rank newest)) (sym alike.0.age) ∙ ap (λ n. ltb w.age n) is in
    ap (λ x. x || list_any (is_before newest) es) here ∙ ap (λ x. ltb w.age age || x) (closed_same rank newest age es ws rises is alike.1)

pub closed_alike : (b : pending.Buffer) (m : Buffer) → KeepsWaiting b m → list_any (is_before b.newest) b.kept ≡ has_closed m.age m.waiting
closed_alike b m a = closed_same a.rank b.newest m.age b.kept m.waiting a.rises a.newest a.entries

none_same : (rank : ℕ → ℕ) (es : List Pending) (ws : List Waiting) → AreAlike rank es ws → eqb (length es) 0 ≡ is_empty ws
none_same rank [] [] alike = refl
none_same rank [] (w ∷ ws) alike = absurd alike
none_same rank (e ∷ es) [] alike = absurd alike
none_same rank (e ∷ es) (w ∷ ws) alike = ne_eqb (length (e ∷ es)) 0 (λ same. absurd (omega (arith, same)))

pub none_alike : (b : pending.Buffer) (m : Buffer) → KeepsWaiting b m → eqb (length b.kept) 0 ≡ is_empty m.waiting
none_alike b m a = none_same a.rank b.kept m.waiting a.entries

-- the oldest group
none_front : (rank : ℕ → ℕ) (g : ℕ) (e : Pending) (es : List Pending) (ws : List Waiting) → Rises rank → g < e.group → PrecedesAll e es → AreAlike rank es ws → of_age (rank g) ws ≡ []
none_front rank g e [] [] rises above all alike = refl
none_front rank g e [] (w ∷ ws) rises above all alike = absurd alike
none_front rank g e (f ∷ es) [] rises above all alike = absurd alike
none_front rank g e (f ∷ es) (w ∷ ws) rises above all alike =
    let up = rises g f.group (omega (arith, above, all.0.group)) in
    let other : eqb w.age (rank g) ≡ false = ne_eqb w.age (rank g) (λ same. absurd (omega (arith, same, up, alike.0.age))) in
    rw other (none_front rank g e es ws rises above all.1 alike.1)

front_same : (rank : ℕ → ℕ) (made newest g : ℕ) (es : List Pending) (ws : List Waiting) → Rises rank → AreInOrder made newest es → AllByRecursion (λ e. g ≤ e.group) es → AreAlike rank es ws → AreEntriesOf (in_front g es) (of_age (rank g) ws)
unfolding in_front
front_same rank made newest g [] [] rises order least alike = tt
front_same rank made newest g [] (w ∷ ws) rises order least alike = absurd alike
front_same rank made newest g (e ∷ es) [] rises order least alike = absurd alike
front_same rank made newest g (e ∷ es) (w ∷ ws) rises order least alike =
    let test : eqb w.age (rank g) ≡ eqb e.group g = ap (λ n. eqb n (rank g)) alike.0.age ∙ rank_eqb rank e.group g rises in
    ⊎_elim
    (λ (here : eqb e.group g ≡ true). rw (test ∙ here, here) (alike.0.entry, front_same rank made newest g es ws rises order.1.1 least.1 alike.1))
    (λ (other : eqb e.group g ≡ false).
    let above : g < e.group = greater e.group g other least.0 in
    rw (test ∙ other, other, none_front rank g e es ws rises above order.1.0 alike.1) tt)
    (cases_Bool (eqb e.group g))
  where
    greater : (a g : ℕ) → eqb a g ≡ false → g ≤ a → g < a
    greater a g other least = ⊎_elim (λ less. less) (λ most. absurd (eqb-false a g other (omega arith))) (cases_lt g a)

least_same : (rank : ℕ → ℕ) (made newest : ℕ) (e : Pending) (es : List Pending) (w : Waiting) (ws : List Waiting) → Rises rank → AreInOrder made newest (e ∷ es) → AreAlike rank (e ∷ es) (w ∷ ws) → least_age (w ∷ ws) ≡ rank e.group
least_same rank made newest e [] w [] rises order alike = alike.0.age
least_same rank made newest e [] w (x ∷ ws) rises order alike = absurd alike.1
least_same rank made newest e (f ∷ es) w [] rises order alike = absurd alike.1
least_same rank made newest e (f ∷ es) w (x ∷ ws) rises order alike =
    let rest = least_same rank made newest f es x ws rises order.1.1 alike.1 in
    let up = rank_up rank e.group f.group rises order.1.0.0.group in
    omega (arith, rest, up, alike.0.age)

least_of_all : (e : Pending) (es : List Pending) → PrecedesAll e es → AllByRecursion (λ f. e.group ≤ f.group) es
least_of_all e [] all = tt
least_of_all e (f ∷ es) all = (all.0.group, least_of_all e es all.1)

oldest_same : (rank : ℕ → ℕ) (made newest : ℕ) (es : List Pending) (ws : List Waiting) → Rises rank → AreInOrder made newest es → AreAlike rank es ws → AreEntriesOf (oldest_group es) (oldest ws)
unfolding in_front
oldest_same rank made newest [] [] rises order alike = tt
oldest_same rank made newest [] (w ∷ ws) rises order alike = absurd alike
oldest_same rank made newest (e ∷ es) [] rises order alike = absurd alike
oldest_same rank made newest (e ∷ es) (w ∷ ws) rises order alike =
    let least : least_age (w ∷ ws) ≡ rank e.group = least_same rank made newest e es w ws rises order alike in
    let front = front_same rank made newest e.group (e ∷ es) (w ∷ ws) rises order (omega arith, least_of_all e es order.1.0) alike in
    subst (λ n. AreEntriesOf (oldest_group (e ∷ es)) (of_age n (w ∷ ws))) (sym least) front

pub oldest_alike : (b : pending.Buffer) (m : Buffer) → KeepsWaiting b m → AreEntriesOf (oldest_group b.kept) (oldest m.waiting)
oldest_alike b m a = oldest_same a.rank b.made b.newest b.kept m.waiting a.rises a.tidy.order a.entries

-- the same at the start
pub alike_none : KeepsWaiting no_entries (record { made = 0; age = 0; waiting = [] })
alike_none = record { tidy = tidy_none; rank = λ g. g; rises = λ g k less. less; newest = refl; made = refl; entries = tt }

-- a write
put_same : (rank : ℕ → ℕ) (newest l : ℕ) (change : Pending → Pending) (new : Pending) (es : List Pending) (ws : List Waiting) → ((e : Pending) (w : Waiting) → IsAlike rank e w → IsAlike rank (change e) w) → list_any (is_at newest l) es ≡ true → AreAlike rank es ws → AreAlike rank (put_into newest l change new es) ws
unfolding put_into
put_same rank newest l change new [] [] keeps any alike = absurd (false≢true any)
put_same rank newest l change new [] (w ∷ ws) keeps any alike = absurd alike
put_same rank newest l change new (e ∷ es) [] keeps any alike = absurd alike
put_same rank newest l change new (e ∷ es) (w ∷ ws) keeps any alike =
    ⊎_elim
    (λ (here : is_at newest l e ≡ true). rw here (keeps e w alike.0, alike.1))
    (λ (other : is_at newest l e ≡ false). rw other (alike.0, put_same rank newest l change new es ws keeps (rw other at any) alike.1))
    (cases_Bool (is_at newest l e))

push_same : (rank : ℕ → ℕ) (e : Pending) (w : Waiting) (es : List Pending) (ws : List Waiting) → IsAlike rank e w → AreAlike rank es ws → AreAlike rank (es ++ e ∷ []) (ws ++ w ∷ [])
push_same rank e w [] [] new alike = (new, tt)
push_same rank e w [] (x ∷ ws) new alike = absurd alike
push_same rank e w (f ∷ es) [] new alike = absurd alike
push_same rank e w (f ∷ es) (x ∷ ws) new alike = (alike.0, push_same rank e w es ws new alike.1)

joined_same : (rank : ℕ → ℕ) (newest l : ℕ) (change : Pending → Pending) (new : Pending) (x : Waiting) (o : Option ℕ) (es : List Pending) (ws : List Waiting) → ((e : Pending) (w : Waiting) → IsAlike rank e w → IsAlike rank (change e) w) → IsAlike rank new x → list_any (is_at newest l) es ≡ is_some o → AreAlike rank es ws → AreAlike rank (put_into newest l change new es) (entries_after_write o x ws)
joined_same rank newest l change new x (Some n) es ws keeps fresh any alike = put_same rank newest l change new es ws keeps any alike
joined_same rank newest l change new x None es ws keeps fresh any alike = subst (λ fs. AreAlike rank fs (ws ++ x ∷ [])) (sym (absent_put newest l change new es any)) (push_same rank new x es ws fresh alike)

made_same : (any : Bool) (o : Option ℕ) (n m : ℕ) → any ≡ is_some o → n ≡ m → cond any n (n + 1) ≡ m + one_if_none o
made_same any (Some k) n m is same = rw is (omega (arith, same))
made_same any None n m is same = rw is (omega (arith, same))

-- the entry that a write would make
abbrev pub next_waiting : Line → Buffer → Waiting
next_waiting line m = record { number = m.made + 1; line = line; age = m.age }

abbrev pub written : Line → ℕ → Buffer → Buffer
written line l m = record { made = m.made + one_if_none (entry_joined l m.age m.waiting); age = m.age; waiting = entries_after_write (entry_joined l m.age m.waiting) (next_waiting line m) m.waiting }

pub alike_stored : (address size value : ℕ) (line : Line) (b : pending.Buffer) (m : Buffer) → line_number line ≡ address / LINE_BYTES → pending.takes (address / LINE_BYTES) b ≡ true → KeepsWaiting b m → KeepsWaiting (stored address size value b) (written line (address / LINE_BYTES) m)
alike_stored address size value line b m at takes a = record {
  tidy = tidy_stored address size value b takes a.tidy;
  rank = a.rank;
  rises = a.rises;
  newest = a.newest;
  made = made_same (merges (address / LINE_BYTES) b) (entry_joined (address / LINE_BYTES) m.age m.waiting) b.made m.made (merges_alike b m a (address / LINE_BYTES)) a.made;
  entries = joined_same a.rank b.newest (address / LINE_BYTES) (with_store address size value) (made_by (b.made + 1) b.newest address size value) (next_waiting line m) (entry_joined (address / LINE_BYTES) m.age m.waiting) b.kept m.waiting
      (λ e w is. record { entry = record { number = is.entry.number; line = is.entry.line }; age = is.age })
      (record { entry = record { number = ap (λ n. n + 1) a.made; line = sym at }; age = sym a.newest })
      (merges_alike b m a (address / LINE_BYTES))
      a.entries;
}

-- a write barrier
abbrev raised : (ℕ → ℕ) → ℕ → ℕ → ℕ → ℕ
raised rank start age g = cond (ltb g start) (rank g) (age + (g - start))

raised_low : (rank : ℕ → ℕ) (start age g : ℕ) → g < start → raised rank start age g ≡ rank g
raised_low rank start age g less = rw (lt-ltb g start less) refl

raised_high : (rank : ℕ → ℕ) (start age g : ℕ) → start ≤ g → raised rank start age g ≡ age + (g - start)
raised_high rank start age g more = rw (le-ltb g start more) refl

raised_rises : (rank : ℕ → ℕ) (start age : ℕ) → Rises rank → ((g : ℕ) → g < start → rank g < age) → Rises (raised rank start age)
raised_rises rank start age rises below g k less =
    ⊎_elim
    (λ (high : k < start). let up = rises g k less in omega (arith, raised_low rank start age g (omega (arith, less, high)), raised_low rank start age k high, up))
    (λ (high : start ≤ k). ⊎_elim
    (λ (low : g < start). let under = below g low in omega (arith, raised_low rank start age g low, raised_high rank start age k high, under))
    (λ (also : start ≤ g). omega (arith, less, also, raised_high rank start age g also, raised_high rank start age k high))
    (cases_lt g start))
    (cases_lt k start)

raised_same : (rank : ℕ → ℕ) (start age : ℕ) (es : List Pending) (ws : List Waiting) → AllByRecursion (λ e. e.group < start) es → AreAlike rank es ws → AreAlike (raised rank start age) es ws
raised_same rank start age [] [] under alike = tt
raised_same rank start age [] (w ∷ ws) under alike = absurd alike
raised_same rank start age (e ∷ es) [] under alike = absurd alike
raised_same rank start age (e ∷ es) (w ∷ ws) under alike = (record { entry = alike.0.entry; age = alike.0.age ∙ sym (raised_low rank start age e.group under.0) }, raised_same rank start age es ws under.1 alike.1)

all_below : (made newest next : ℕ) (es : List Pending) → newest < next → AreInOrder made newest es → AllByRecursion (λ e. e.group < next) es
all_below made newest next [] less order = tt
all_below made newest next (e ∷ es) less order = (omega (arith, order.0.group, less), all_below made newest next es less order.1.1)

all_before : (made newest : ℕ) (es : List Pending) → list_any (is_of_group newest) es ≡ false → AreInOrder made newest es → AllByRecursion (λ e. e.group < newest) es
all_before made newest [] none order = tt
all_before made newest (e ∷ es) none order =
    let parts = or_parts (eqb e.group newest) (list_any (is_of_group newest) es) none in
    let apart : e.group ≢ newest = eqb-false e.group newest parts.0 in
    (omega (arith, order.0.group, apart), all_before made newest es parts.1 order.1.1)

-- the next group's number, and the groups below it
record IsNext (b : pending.Buffer) (rank : ℕ → ℕ) (next : ℕ) : Type 0 where
  under : AllByRecursion (λ e. e.group < next) b.kept
  low : (g : ℕ) → g < next → rank g < rank b.newest + 1

next_by : (b : pending.Buffer) (rank : ℕ → ℕ) (any : Bool) → IsTidy b → Rises rank → list_any (is_of_group b.newest) b.kept ≡ any → IsNext b rank (cond any (b.newest + 1) b.newest)
next_by b rank true tidy rises is = record { under = all_below b.made b.newest (b.newest + 1) b.kept (omega arith) tidy.order; low = λ g less. let up = rank_up rank g b.newest rises (omega (arith, less)) in omega (arith, up) }
next_by b rank false tidy rises is = record { under = all_before b.made b.newest b.kept is tidy.order; low = λ g less. let up = rises g b.newest less in omega (arith, up) }

abbrev pub aged : Buffer → Buffer
aged m = record { made = m.made; age = m.age + 1; waiting = m.waiting }

pub alike_closed : (b : pending.Buffer) (m : Buffer) → KeepsWaiting b m → KeepsWaiting (closed b) (aged m)
alike_closed b m a =
    let next = next_by b a.rank (list_any (is_of_group b.newest) b.kept) a.tidy a.rises refl in
    let start : ℕ = (closed b).newest in
    record {
      tidy = tidy_closed b a.tidy;
      rank = raised a.rank start (m.age + 1);
      rises = raised_rises a.rank start (m.age + 1) a.rises (λ g less. let low = next.low g less in omega (arith, low, a.newest));
      newest = raised_high a.rank start (m.age + 1) start (omega arith) ∙ omega arith;
      made = a.made;
      entries = raised_same a.rank start (m.age + 1) b.kept m.waiting next.under a.entries;
    }

-- a drain
none_without : (rank : ℕ → ℕ) (n : ℕ) (e : Pending) (es : List Pending) (ws : List Waiting) → n ≡ e.number → PrecedesAll e es → AreAlike rank es ws → without_entry n ws ≡ ws
none_without rank n e [] [] is all alike = refl
none_without rank n e [] (w ∷ ws) is all alike = absurd alike
none_without rank n e (f ∷ es) [] is all alike = absurd alike
none_without rank n e (f ∷ es) (w ∷ ws) is all alike =
    let other : eqb w.number n ≡ false = ne_eqb w.number n (λ same. absurd (omega (arith, same, is, alike.0.entry.number, all.0.number))) in
    rw other (ap (λ xs. w ∷ xs) (none_without rank n e es ws is all.1 alike.1))

remove_same : (rank : ℕ → ℕ) (made newest k : ℕ) (e : Pending) (es : List Pending) (ws : List Waiting) → AreInOrder made newest es → slice_get es k ≡ Some e → AreAlike rank es ws → AreAlike rank (remove es k) (without_entry e.number ws)
remove_same rank made newest k e [] ws order at alike = absurd (no_entry e at)
remove_same rank made newest k e (f ∷ es) [] order at alike = absurd alike
remove_same rank made newest zero e (f ∷ es) (w ∷ ws) order at alike =
    let same : f ≡ e = same_entry f e at in
    let number : w.number ≡ e.number = sym alike.0.entry.number ∙ ap (λ x. x.number) same in
    rw (eq-eqb w.number e.number number, none_without rank e.number f es ws (sym (ap (λ x. x.number) same)) order.1.0 alike.1) alike.1
remove_same rank made newest (suc k) e (f ∷ es) (w ∷ ws) order at alike =
    let before = precedes_at f es k e order.1.0 at in
    let other : eqb w.number e.number ≡ false = ne_eqb w.number e.number (λ same. absurd (omega (arith, same, alike.0.entry.number, before.number))) in
    rw other (alike.0, remove_same rank made newest k e es ws order.1.1 at alike.1)

abbrev pub left_by : ℕ → Buffer → Buffer
left_by n m = record { made = m.made; age = m.age; waiting = without_entry n m.waiting }

pub alike_drained : (k : ℕ) (e : Pending) (b : pending.Buffer) (m : Buffer) → slice_get (oldest_group b.kept) k ≡ Some e → KeepsWaiting b m → KeepsWaiting (drains.without k b) (left_by e.number m)
alike_drained k e b m at a = record {
  tidy = tidy_without k b a.tidy;
  rank = a.rank;
  rises = a.rises;
  newest = a.newest;
  made = a.made;
  entries = remove_same a.rank b.made b.newest k e b.kept m.waiting a.tidy.order (oldest_entry b.kept k e at).0 a.entries;
}

-- a kept entry waits, and what waits is kept
pub waits_same : (rank : ℕ → ℕ) (j : ℕ) (e : Pending) (es : List Pending) (ws : List Waiting) → slice_get es j ≡ Some e → AreAlike rank es ws → waits e.number e.line (rank e.group) ws ≡ true
waits_same rank j e [] ws at alike = absurd (no_entry e at)
waits_same rank j e (f ∷ es) [] at alike = absurd alike
waits_same rank zero e (f ∷ es) (w ∷ ws) at alike =
    let same : f ≡ e = same_entry f e at in
    let number : w.number ≡ e.number = sym alike.0.entry.number ∙ ap (λ x. x.number) same in
    let line : line_number w.line ≡ e.line = sym alike.0.entry.line ∙ ap (λ x. x.line) same in
    let age : w.age ≡ rank e.group = alike.0.age ∙ ap (λ x. rank x.group) same in
    or_left (eqb w.number e.number && (is_line e.line w.line && eqb w.age (rank e.group))) (waits e.number e.line (rank e.group) ws)
    (and_from (eqb w.number e.number) (is_line e.line w.line && eqb w.age (rank e.group)) (eq-eqb w.number e.number number)
    (and_from (is_line e.line w.line) (eqb w.age (rank e.group)) (eq-eqb (line_number w.line) e.line line) (eq-eqb w.age (rank e.group) age)))
waits_same rank (suc j) e (f ∷ es) (w ∷ ws) at alike = or_right (eqb w.number e.number && (is_line e.line w.line && eqb w.age (rank e.group))) (waits e.number e.line (rank e.group) ws) (waits_same rank j e es ws at alike.1)

pub record IsKeptAs (rank : ℕ → ℕ) (es : List Pending) (n l g : ℕ) : Type 0 where
  pub place : ℕ
  pub entry : Pending
  pub kept : slice_get es place ≡ Some entry
  pub number : entry.number ≡ n
  pub line : entry.line ≡ l
  pub age : rank entry.group ≡ g

pub kept_same : (rank : ℕ → ℕ) (n l g : ℕ) (es : List Pending) (ws : List Waiting) → waits n l g ws ≡ true → AreAlike rank es ws → IsKeptAs rank es n l g
kept_same rank n l g [] [] wait alike = absurd (false≢true wait)
kept_same rank n l g [] (w ∷ ws) wait alike = absurd alike
kept_same rank n l g (e ∷ es) [] wait alike = absurd alike
kept_same rank n l g (e ∷ es) (w ∷ ws) wait alike =
    ⊎_elim
    (λ (here : (eqb w.number n && (is_line l w.line && eqb w.age g)) ≡ true).
    let parts = and_parts (eqb w.number n) (is_line l w.line && eqb w.age g) here in
    let more = and_parts (is_line l w.line) (eqb w.age g) parts.1 in
    record {
      place = 0;
      entry = e;
      kept = refl;
      number = alike.0.entry.number ∙ eqb-true w.number n parts.0;
      line = alike.0.entry.line ∙ eqb-true (line_number w.line) l more.0;
      age = sym alike.0.age ∙ eqb-true w.age g more.1;
    })
    (λ (there : waits n l g ws ≡ true).
    let rest = kept_same rank n l g es ws there alike.1 in
    record { place = suc rest.place; entry = rest.entry; kept = rest.kept; number = rest.number; line = rest.line; age = rest.age })
    (or_cases (eqb w.number n && (is_line l w.line && eqb w.age g)) (waits n l g ws) wait)
