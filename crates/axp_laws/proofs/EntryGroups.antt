-- How entries wait.
use Rattle.std.proofs.Common.{true, false, ℕ, ◌+◌, ◌<◌, ◌≤◌, ◌≡◌, ◌↔◌, ◌⊎◌, inl, inr, ⊎_elim, eqb, cond, Bool, ◌&&◌, List, [], ◌∷◌, ◌++◌, Option, Some, None, refl, sym, ap, ◌∙◌, subst, arith}
use Rattle.std.specs.List.{AllByRecursion, Contains}
use Rattle.std.proofs.lemmas.Bool.{cond_both, cases_Bool, or_cases, or_left, or_right, eqb-true, eqb-false, eq-eqb, ne_eqb, cases_lt, false≢true}
use Rattle.axp_base.specs.declared.lines.Line.{Line}
use Rattle.axp_access.specs.declared.Access.{Access}
use Rattle.axp_access.specs.declared.Event.{Event}
use Rattle.axp_access.specs.declared.Outcome.{Outcome}
use Rattle.axp_access.specs.declared.Outcome.TheVariants as outcome
use Rattle.axp_access.specs.declared.Record.{Record}
use Rattle.axp_model.specs.Records.{is_of, makes_access, drains}
use Rattle.axp_access.specs.Kinds.{is_plain_write, is_write_barrier}
use Rattle.axp_base.specs.Lines.{line_of, line_at}
use Rattle.axp_model.specs.Turns.{turns, drained}
use Rattle.axp_model.specs.Entries.{Waiting, Buffer, buffer, buffer_after, entry_joined, entries_after_write, without_entry, has_number, one_if_none, of_age, least_age, oldest}
use Rattle.axp_model.specs.Accesses.{accesses}
use Rattle.axp_access.specs.Numbering.{write_barriers_in}
use Rattle.axp_model.specs.Issue.{AllPairs}
use Rattle.axp_model.specs.Processors.{AreInLine, Processors}
use Rattle.axp_model.specs.Outcomes.{IsRun}
use Rattle.axp_laws.specs.EntryLaws.{IsUndrained, IsBehind, IsOldestInFront, WasMade, write_barriers}
use Rattle.axp_laws.proofs.RunFacts.{waits, FitsOutcome, Fitting}
use Rattle.axp_laws.proofs.RunRecords.{run_fits, line_at-number}
use Rattle.axp_laws.proofs.RunKnown.{next_entry, IsAddressed}
use Rattle.axp_laws.proofs.RunSteps.{each_map, kept}
use Rattle.axp_laws.proofs.CauseMoments.{Among, among_of, among_all, among_pair}

-- an entry of a buffer has a number and an age of those so far
record Within (top old : ℕ) (e : Waiting) : Type 0 where
  counted : 1 ≤ e.number
  made : e.number ≤ top
  age : e.age ≤ old

-- the entries stand in order
record InRow (b : Buffer) : Type 0 where
  each : AllByRecursion (Within b.made b.age) b.waiting
  pairs : AllPairs IsBehind b.waiting

each_push : (P : Waiting → Type 0) (es : List Waiting) (x : Waiting) → AllByRecursion P es → P x → AllByRecursion P (es ++ x ∷ [])
each_push P [] x all last = (last, tt)
each_push P (e ∷ es) x all last = (all.0, each_push P es x all.1 last)

pairs_push : (P : Waiting → Waiting → Type 0) (es : List Waiting) (x : Waiting) → AllPairs P es → AllByRecursion (λ e. P x e) es → AllPairs P (es ++ x ∷ [])
pairs_push P [] x pairs each = (tt, tt)
pairs_push P (e ∷ es) x pairs each = (each_push (λ f. P f e) es x pairs.0 each.0, pairs_push P es x pairs.1 each.1)

each_without : (P : Waiting → Type 0) (n : ℕ) (es : List Waiting) → AllByRecursion P es → AllByRecursion P (without_entry n es)
each_without P n [] all = tt
each_without P n (e ∷ es) all = cond_both (eqb e.number n) (without_entry n es) (e ∷ without_entry n es) (λ fs. AllByRecursion P fs) (λ _. each_without P n es all.1) (λ _. (all.0, each_without P n es all.1))

pairs_without : (P : Waiting → Waiting → Type 0) (n : ℕ) (es : List Waiting) → AllPairs P es → AllPairs P (without_entry n es)
pairs_without P n [] pairs = tt
pairs_without P n (e ∷ es) pairs = cond_both (eqb e.number n) (without_entry n es) (e ∷ without_entry n es) (λ fs. AllPairs P fs) (λ _. pairs_without P n es pairs.1) (λ _. (each_without (λ f. P f e) n es pairs.0, pairs_without P n es pairs.1))

row_joined : (o : Option ℕ) (line : Line) (b : Buffer) → InRow b → InRow (record { made = b.made + one_if_none o; age = b.age; waiting = entries_after_write o (next_entry line b) b.waiting })
row_joined (Some m) line b row = record { each = each_map (Within b.made b.age) (Within (b.made + 0) b.age) b.waiting (λ e w. record { counted = w.counted; made = omega (arith, w.made); age = w.age }) row.each; pairs = row.pairs }
row_joined None line b row =
    let x : Waiting = next_entry line b in
    record {
      each = each_push (Within (b.made + 1) b.age) b.waiting x (each_map (Within b.made b.age) (Within (b.made + 1) b.age) b.waiting (λ e w. record { counted = w.counted; made = omega (arith, w.made); age = w.age }) row.each) (record { counted = omega arith; made = omega arith; age = omega arith });
      pairs = pairs_push IsBehind b.waiting x row.pairs (each_map (Within b.made b.age) (λ e. IsBehind x e) b.waiting (λ e w. record { number = omega (arith, w.made); age = w.age }) row.each);
    }

-- the same entries, under an age that is no less
row_older : (b : Buffer) (age : ℕ) → b.age ≤ age → InRow b → InRow (record { made = b.made; age = age; waiting = b.waiting })
row_older b age more row = record { each = each_map (Within b.made b.age) (Within b.made age) b.waiting (λ e w. record { counted = w.counted; made = w.made; age = omega (arith, more, w.age) }) row.each; pairs = row.pairs }

row_write : (line : Line) (l : ℕ) (plain : Bool) (b : Buffer) → InRow b
    → InRow (record { made = cond plain (b.made + one_if_none (entry_joined l b.age b.waiting)) b.made; age = b.age; waiting = cond plain (entries_after_write (entry_joined l b.age b.waiting) (next_entry line b) b.waiting) b.waiting })
row_write line l true b row = row_joined (entry_joined l b.age b.waiting) line b row
row_write line l false b row = record { each = row.each; pairs = row.pairs }

row_access : (a : Access) (b : Buffer) → InRow b → InRow (buffer_after (outcome.Access a) b)
row_access a b row =
    let now : Buffer = record { made = cond (is_plain_write a.kind) (b.made + one_if_none (entry_joined (line_of a.address) b.age b.waiting)) b.made; age = b.age; waiting = cond (is_plain_write a.kind) (entries_after_write (entry_joined (line_of a.address) b.age b.waiting) (next_entry (line_at a.address) b) b.waiting) b.waiting } in
    row_older now (cond (is_write_barrier a.kind) (b.age + 1) b.age) (cond_both (is_write_barrier a.kind) (b.age + 1) b.age (λ n. b.age ≤ n) (λ _. omega arith) (λ _. omega arith)) (row_write (line_at a.address) (line_of a.address) (is_plain_write a.kind) b row)

row_own : (o : Outcome) (b : Buffer) → InRow b → InRow (buffer_after o b)
row_own (outcome.Access a) b row = row_access a b row
row_own (outcome.Drained n k t) b row = record { each = each_without (Within b.made b.age) n b.waiting row.each; pairs = pairs_without IsBehind n b.waiting row.pairs }
row_own outcome.NoAccess b row = record { each = row.each; pairs = row.pairs }
row_own (outcome.Filled x y z) b row = record { each = row.each; pairs = row.pairs }
row_own (outcome.Taken x y z) b row = record { each = row.each; pairs = row.pairs }
row_own outcome.Done b row = record { each = row.each; pairs = row.pairs }
row_own (outcome.Polled x y z) b row = record { each = row.each; pairs = row.pairs }

in_row : (p : ℕ) (h : List Record) → InRow (buffer p h)
in_row p [] = record { each = tt; pairs = tt }
in_row p (r ∷ h) = cond_both (is_of p r) (buffer_after r.outcome (buffer p h)) (buffer p h) (λ b. InRow b) (λ _. row_own r.outcome (buffer p h) (in_row p h)) (λ _. in_row p h)

-- what was made and not drained waits
has_push : (n : ℕ) (es fs : List Waiting) → has_number n es ≡ true → has_number n (es ++ fs) ≡ true
has_push n [] fs e = absurd (false≢true e)
has_push n (x ∷ es) fs e = ⊎_elim (λ here. or_left (eqb x.number n) (has_number n (es ++ fs)) here) (λ there. or_right (eqb x.number n) (has_number n (es ++ fs)) (has_push n es fs there)) (or_cases (eqb x.number n) (has_number n es) e)

has_last : (n : ℕ) (es : List Waiting) (x : Waiting) → x.number ≡ n → has_number n (es ++ x ∷ []) ≡ true
has_last n [] x same = rw (eq-eqb x.number n same) refl
has_last n (e ∷ es) x same = or_right (eqb e.number n) (has_number n (es ++ x ∷ [])) (has_last n es x same)

has_without : (m n : ℕ) (es : List Waiting) → eqb m n ≡ false → has_number n es ≡ true → has_number n (without_entry m es) ≡ true
has_without m n [] differs e = e
has_without m n (x ∷ es) differs e =
    ⊎_elim
    (λ (gone : eqb x.number m ≡ true).
    let other : eqb x.number n ≡ false = ne_eqb x.number n (λ same. eqb-false m n differs (sym (eqb-true x.number m gone) ∙ same)) in
    rw gone (has_without m n es differs (rw other at e)))
    (λ (stays : eqb x.number m ≡ false).
    rw stays (⊎_elim (λ here. or_left (eqb x.number n) (has_number n (without_entry m es)) here) (λ there. or_right (eqb x.number n) (has_number n (without_entry m es)) (has_without m n es differs there)) (or_cases (eqb x.number n) (has_number n es) e)))
    (cases_Bool (eqb x.number m))

-- each number so far, unless it is drained
abbrev Remains : Buffer → Option ℕ → ℕ → Type 0
Remains b turn n = 1 ≤ n → n ≤ b.made → turn ≡ None → has_number n b.waiting ≡ true

remains_joined : (o : Option ℕ) (line : Line) (b : Buffer) (turn : Option ℕ) (n : ℕ) → Remains b turn n → Remains (record { made = b.made + one_if_none o; age = b.age; waiting = entries_after_write o (next_entry line b) b.waiting }) turn n
remains_joined (Some m) line b turn n was = λ low high none. was low (omega arith) none
remains_joined None line b turn n was = λ low high none.
    ⊎_elim
    (λ (less : b.made < n). has_last n b.waiting (next_entry line b) (omega arith))
    (λ (most : n ≤ b.made). has_push n b.waiting (next_entry line b ∷ []) (was low most none))
    (cases_lt b.made n)

remains_write : (line : Line) (l : ℕ) (plain : Bool) (b : Buffer) (age : ℕ) (turn : Option ℕ) (n : ℕ) → Remains b turn n
    → Remains (record { made = cond plain (b.made + one_if_none (entry_joined l b.age b.waiting)) b.made; age = age; waiting = cond plain (entries_after_write (entry_joined l b.age b.waiting) (next_entry line b) b.waiting) b.waiting }) turn n
remains_write line l true b age turn n was = remains_joined (entry_joined l b.age b.waiting) line b turn n was
remains_write line l false b age turn n was = was

remains_own : (o : Outcome) (b : Buffer) (t n : ℕ) (turn : Option ℕ) → Remains b turn n → Remains (buffer_after o b) (cond (drains n o) (Some t) turn) n
remains_own (outcome.Access a) b t n turn was = remains_write (line_at a.address) (line_of a.address) (is_plain_write a.kind) b (buffer_after (outcome.Access a) b).age turn n was
remains_own (outcome.Drained m k z) b t n turn was = λ low high none.
    ⊎_elim
    (λ (same : eqb m n ≡ true). let never : Some t ≡ None = rw same at none in cc)
    (λ (other : eqb m n ≡ false). has_without m n b.waiting other (was low high (rw other at none)))
    (cases_Bool (eqb m n))
remains_own outcome.NoAccess b t n turn was = was
remains_own (outcome.Filled x y z) b t n turn was = was
remains_own (outcome.Taken x y z) b t n turn was = was
remains_own outcome.Done b t n turn was = was
remains_own (outcome.Polled x y z) b t n turn was = was

pub remains : (p n : ℕ) (h : List Record) → Remains (buffer p h) (drained h p n) n
remains p n [] = λ low high none. absurd (omega (arith, low, high))
remains p n (r ∷ h) =
    ⊎_elim
    (λ (own : is_of p r ≡ true). λ low high none. rw own (remains_own r.outcome (buffer p h) (turns h + 1) n (drained h p n) (remains p n h) low (rw own at high) (rw own at none)))
    (λ (foreign : is_of p r ≡ false). λ low high none. rw foreign (remains p n h low (rw foreign at high) (rw foreign at none)))
    (cases_Bool (is_of p r))

-- the entry of a number that waits
has_among : (n : ℕ) (es : List Waiting) → has_number n es ≡ true → (e : Waiting) × Among e es × (e.number ≡ n)
has_among n [] e = absurd (false≢true e)
has_among n (x ∷ es) e =
    ⊎_elim
    (λ here. (x, inl refl, eqb-true x.number n here))
    (λ there. let rest = has_among n es there in (rest.0, inr rest.1, rest.2))
    (or_cases (eqb x.number n) (has_number n es) e)

-- a number that waits is one of those so far
pub has_counted : (p n : ℕ) (h : List Record) → has_number n (buffer p h).waiting ≡ true → (1 ≤ n) × (n ≤ (buffer p h).made)
has_counted p n h has =
    let found = has_among n (buffer p h).waiting has in
    let within = among_all (Within (buffer p h).made (buffer p h).age) (buffer p h).waiting found.0 (in_row p h).each found.1 in
    (omega (arith, found.2, within.counted), omega (arith, found.2, within.made))

pub waits_exactly : (image : ℕ → ℕ) (ps : Processors) (h : List Record) → AreInLine ps → IsRun image ps h → (p n : ℕ) → (has_number n (buffer p h).waiting ≡ true) ↔ IsUndrained h p n
waits_exactly image ps h inside run p n = (
  λ has.
      let counted = has_counted p n h has in
      let old = ((kept h (run_fits image ps h inside run)).sound p).waiting n has in
      record { counted = counted.0; made = counted.1; kept = old.0 },
  λ is. remains p n h is.counted is.made is.kept,
)

-- of one number there is one
pub one_number : (h : List Record) (p : ℕ) (e f : Waiting) → Contains (buffer p h).waiting e → Contains (buffer p h).waiting f → e.number ≡ f.number → e ≡ f
one_number h p e f a b same =
    let es : List Waiting = (buffer p h).waiting in
    ⊎_elim
    (λ (is : e ≡ f). is)
    (λ either. ⊎_elim
    (λ (behind : IsBehind e f). absurd (omega (arith, same, behind.number)))
    (λ (behind : IsBehind f e). absurd (omega (arith, same, behind.number)))
    either)
    (among_pair IsBehind es e f (in_row p h).pairs (among_of es e a) (among_of es f b))

waits_among : (e : Waiting) (es : List Waiting) → Among e es → waits e.number e.line.number e.age es ≡ true
waits_among e [] a = absurd a
waits_among e (x ∷ es) a =
    ⊎_elim
    (λ (same : x ≡ e). subst (λ (z : Waiting). waits e.number e.line.number e.age (z ∷ es) ≡ true) (sym same) (or_left (eqb e.number e.number && (eqb e.line.number e.line.number && eqb e.age e.age)) (waits e.number e.line.number e.age es) (rw (eq-eqb e.number e.number refl, eq-eqb e.line.number e.line.number refl, eq-eqb e.age e.age refl) refl)))
    (λ rest. or_right (eqb x.number e.number && (eqb x.line.number e.line.number && eqb x.age e.age)) (waits e.number e.line.number e.age es) (waits_among e es rest))
    a

-- of one line and one age there is one
pub one_line_and_age : (image : ℕ → ℕ) (ps : Processors) (h : List Record) → AreInLine ps → IsRun image ps h → (p : ℕ) (e f : Waiting) → Contains (buffer p h).waiting e → Contains (buffer p h).waiting f → e.line.number ≡ f.line.number → e.age ≡ f.age → e ≡ f
one_line_and_age image ps h inside run p e f a b line age =
    let es : List Waiting = (buffer p h).waiting in
    let we = waits_among e es (among_of es e a) in
    let wf = waits_among f es (among_of es f b) in
    one_number h p e f a b (((kept h (run_fits image ps h inside run)).sound p).unique e.number f.number f.line.number f.age (rw (← line, ← age) we) wf)

-- ages are counts of WMBs
age_own : (o : Outcome) (b : Buffer) → (buffer_after o b).age ≡ cond (makes_access (λ a. is_write_barrier a.kind) o) (b.age + 1) b.age
age_own o b = refl

pub age_counts : (h : List Record) (p : ℕ) → (buffer p h).age ≡ write_barriers p h
age_counts [] p = refl
age_counts (r ∷ h) p =
    ⊎_elim
    (λ (own : is_of p r ≡ true). ⊎_elim
    (λ (parts : makes_access (λ a. is_write_barrier a.kind) r.outcome ≡ true). rw own (rw parts (rw (age_counts h p) refl)))
    (λ (other : makes_access (λ a. is_write_barrier a.kind) r.outcome ≡ false). rw own (rw other (age_counts h p)))
    (cases_Bool (makes_access (λ a. is_write_barrier a.kind) r.outcome)))
    (λ (foreign : is_of p r ≡ false). rw foreign (age_counts h p))
    (cases_Bool (is_of p r))

pub parts_count : (image : ℕ → ℕ) (ps : Processors) (h : List Record) → AreInLine ps → IsRun image ps h → (p : ℕ) → write_barriers_in p (accesses h) ≡ write_barriers p h
parts_count image ps h inside run p = (kept h (run_fits image ps h inside run)).age p ∙ age_counts h p

-- where an entry was made
made_later : (p : ℕ) (r : Record) (h : List Record) (e : Waiting) → WasMade h p e → WasMade (r ∷ h) p e
made_later p r h e was = record { later = r ∷ was.later; event = was.event; write = was.write; earlier = was.earlier; split = ap (λ g. r ∷ g) was.split; own = was.own; writes = was.writes; number = was.number; line = was.line; age = was.age }

among_push : (e x : Waiting) (es : List Waiting) → Among e (es ++ x ∷ []) → Among e es ⊎ (x ≡ e)
among_push e x [] a = ⊎_elim (λ same. inr same) (λ b. absurd b) a
among_push e x (y ∷ es) a = ⊎_elim (λ here. inl (inl here)) (λ back. ⊎_elim (λ was. inl (inr was)) (λ same. inr same) (among_push e x es back)) a

among_joined : (o : Option ℕ) (e x : Waiting) (es : List Waiting) → Among e (entries_after_write o x es) → Among e es ⊎ (x ≡ e)
among_joined None e x es a = among_push e x es a
among_joined (Some m) e x es a = inl a

among_without : (n : ℕ) (e : Waiting) (es : List Waiting) → Among e (without_entry n es) → Among e es
among_without n e [] a = a
among_without n e (x ∷ es) a =
    ⊎_elim
    (λ (gone : eqb x.number n ≡ true). inr (among_without n e es (rw gone at a)))
    (λ (stays : eqb x.number n ≡ false). let b : Among e (x ∷ without_entry n es) = rw stays at a in ⊎_elim (λ here. inl here) (λ back. inr (among_without n e es back)) b)
    (cases_Bool (eqb x.number n))

-- by a plain write now, or by one before
made_own : (p : ℕ) (v : Event) (o : Outcome) (h : List Record) (e : Waiting) → IsAddressed o → v.cpu.number ≡ p → Among e (buffer_after o (buffer p h)).waiting → (Among e (buffer p h).waiting → WasMade h p e) → WasMade (record { event = v; outcome = o } ∷ h) p e
made_own p v (outcome.Access a) h e low own inside was =
    ⊎_elim
    (λ (plain : is_plain_write a.kind ≡ true). ⊎_elim
    (λ old. made_later p (record { event = v; outcome = outcome.Access a }) h e (was old))
    (λ (new : next_entry (line_at a.address) (buffer p h) ≡ e).
    record {
      later = [];
      event = v;
      write = a;
      earlier = h;
      split = refl;
      own = own;
      writes = plain;
      number = sym (ap (λ (z : Waiting). z.number) new);
      line = sym (ap (λ (z : Waiting). z.line.number) new) ∙ line_at-number a.address low;
      age = sym (ap (λ (z : Waiting). z.age) new) ∙ age_counts h p;
    })
    (among_joined (entry_joined (line_of a.address) (buffer p h).age (buffer p h).waiting) e (next_entry (line_at a.address) (buffer p h)) (buffer p h).waiting (rw plain at inside)))
    (λ (other : is_plain_write a.kind ≡ false). made_later p (record { event = v; outcome = outcome.Access a }) h e (was (rw other at inside)))
    (cases_Bool (is_plain_write a.kind))
made_own p v (outcome.Drained n l t) h e low own inside was = made_later p (record { event = v; outcome = outcome.Drained n l t }) h e (was (among_without n e (buffer p h).waiting inside))
made_own p v outcome.NoAccess h e low own inside was = made_later p (record { event = v; outcome = outcome.NoAccess }) h e (was inside)
made_own p v (outcome.Filled b l t) h e low own inside was = made_later p (record { event = v; outcome = outcome.Filled b l t }) h e (was inside)
made_own p v (outcome.Taken l t g) h e low own inside was = made_later p (record { event = v; outcome = outcome.Taken l t g }) h e (was inside)
made_own p v outcome.Done h e low own inside was = made_later p (record { event = v; outcome = outcome.Done }) h e (was inside)
made_own p v (outcome.Polled x y t) h e low own inside was = made_later p (record { event = v; outcome = outcome.Polled x y t }) h e (was inside)

addressed_of : (p : ℕ) (o : Outcome) (h : List Record) → FitsOutcome p o h → IsAddressed o
addressed_of p (outcome.Access a) h fit = fit.1.addressed
addressed_of p outcome.NoAccess h fit = tt
addressed_of p (outcome.Filled b l t) h fit = tt
addressed_of p (outcome.Drained n l t) h fit = tt
addressed_of p (outcome.Taken l t g) h fit = tt
addressed_of p outcome.Done h fit = tt
addressed_of p (outcome.Polled x y t) h fit = tt

was_made : (p : ℕ) (h : List Record) (e : Waiting) → Fitting h → Among e (buffer p h).waiting → WasMade h p e
was_made p [] e fit inside = absurd inside
was_made p (r ∷ h) e fit inside =
    ⊎_elim
    (λ (own : is_of p r ≡ true). made_own p r.event r.outcome h e (addressed_of r.event.cpu.number r.outcome h fit.0) (eqb-true r.event.cpu.number p own) (rw own at inside) (λ old. was_made p h e fit.1 old))
    (λ (foreign : is_of p r ≡ false). made_later p r h e (was_made p h e fit.1 (rw foreign at inside)))
    (cases_Bool (is_of p r))

pub entry_was_made : (image : ℕ → ℕ) (ps : Processors) (h : List Record) → AreInLine ps → IsRun image ps h → (p : ℕ) (e : Waiting) → Contains (buffer p h).waiting e → WasMade h p e
entry_was_made image ps h inside run p e a = was_made p h e (run_fits image ps h inside run) (among_of (buffer p h).waiting e a)

-- the oldest group
none_of_age : (g : ℕ) (es : List Waiting) → AllByRecursion (λ e. g < e.age) es → of_age g es ≡ []
none_of_age g [] above = refl
none_of_age g (e ∷ es) above = let differs : eqb e.age g ≡ false = ne_eqb e.age g (λ same. absurd (omega (arith, same, above.0))) in rw differs (none_of_age g es above.1)

-- those of an age that none is below
front_of : (g : ℕ) (es : List Waiting) → AllPairs IsBehind es → AllByRecursion (λ e. g ≤ e.age) es → (rest : List Waiting) × (of_age g es ++ rest ≡ es) × AllByRecursion (λ e. g < e.age) rest
front_of g [] pairs least = ([], refl, tt)
front_of g (e ∷ es) pairs least =
    ⊎_elim
    (λ (here : eqb e.age g ≡ true).
    let back = front_of g es pairs.1 least.1 in
    (back.0, rw here (ap (λ fs. e ∷ fs) back.1), back.2))
    (λ (other : eqb e.age g ≡ false).
    let more : g < e.age = greater e.age g other least.0 in
    let all : AllByRecursion (λ f. g < f.age) es = each_map (λ f. IsBehind f e) (λ f. g < f.age) es (λ f behind. omega (arith, more, behind.age)) pairs.0 in
    (e ∷ es, rw other (rw (none_of_age g es all) refl), (more, all)))
    (cases_Bool (eqb e.age g))
  where
    greater : (a g : ℕ) → eqb a g ≡ false → g ≤ a → g < a
    greater a g other least = ⊎_elim (λ less. less) (λ most. absurd (eqb-false a g other (omega arith))) (cases_lt g a)

least_first : (e : Waiting) (es : List Waiting) → AllPairs IsBehind (e ∷ es) → least_age (e ∷ es) ≡ e.age
least_first e [] pairs = refl
least_first e (f ∷ es) pairs = let rest = least_first f es pairs.1 in omega (arith, rest, pairs.0.0.age)

least_of : (es : List Waiting) → AllPairs IsBehind es → AllByRecursion (λ e. least_age es ≤ e.age) es
least_of [] pairs = tt
least_of (e ∷ es) pairs =
    let least = least_first e es pairs in
    (omega (arith, least), each_map (λ f. IsBehind f e) (λ f. least_age (e ∷ es) ≤ f.age) es (λ f behind. omega (arith, least, behind.age)) pairs.0)

each_of_age : (g : ℕ) (es : List Waiting) → AllByRecursion (λ e. e.age ≡ g) (of_age g es)
each_of_age g [] = tt
each_of_age g (e ∷ es) = cond_both (eqb e.age g) (e ∷ of_age g es) (of_age g es) (λ fs. AllByRecursion (λ f. f.age ≡ g) fs) (λ here. (eqb-true e.age g here, each_of_age g es)) (λ _. each_of_age g es)

pub in_order : (h : List Record) (p : ℕ) → AllPairs IsBehind (buffer p h).waiting
in_order h p = (in_row p h).pairs

oldest_first : (es : List Waiting) → AllPairs IsBehind es → IsOldestInFront es
oldest_first es pairs =
    let front = front_of (least_age es) es pairs (least_of es pairs) in
    record { rest = front.0; split = front.1; least = each_of_age (least_age es) es; greater = front.2 }

pub oldest_in_front : (h : List Record) (p : ℕ) → IsOldestInFront (buffer p h).waiting
oldest_in_front h p = oldest_first (buffer p h).waiting (in_order h p)

none_oldest : (es : List Waiting) → AllPairs IsBehind es → oldest es ≡ [] → es ≡ []
none_oldest [] pairs none = refl
none_oldest (e ∷ es) pairs none =
    let least = least_first e es pairs in
    let shown : oldest (e ∷ es) ≡ e ∷ of_age (least_age (e ∷ es)) es = rw (eq-eqb e.age (least_age (e ∷ es)) (sym least)) refl in
    let never : e ∷ of_age (least_age (e ∷ es)) es ≡ [] = sym shown ∙ none in
    cc

pub some_oldest : (h : List Record) (p : ℕ) → oldest (buffer p h).waiting ≡ [] → (buffer p h).waiting ≡ []
some_oldest h p none = none_oldest (buffer p h).waiting (in_order h p) none
