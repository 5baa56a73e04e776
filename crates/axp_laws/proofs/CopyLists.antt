-- The lists of copies are those of the held lines, and stay within the banks.
use Rattle.std.proofs.Common.{true, false, ℕ, ◌+◌, ◌^◌, ◌%◌, ◌<◌, ◌≤◌, ◌≡◌, ◌≢◌, ◌⊎◌, inl, inr, ⊎_elim, eqb, Bool, not, ◌&&◌, ◌||◌, List, [], ◌∷◌, length, slice_get, Option, Some, None, refl, sym, ap, ◌∙◌, subst, arith}
use Rattle.std.proofs.lemmas.Bool.{cond_both, cases_Bool, and_parts, and_from, or_cases, or_left, or_right, eqb-true, eq-eqb, ltb-true, false≢true}
use Rattle.axp_base.specs.Cpus.{cpu_number}
use Rattle.axp_base.specs.Lines.{line_number, data_bank, line_of, line_at, in_bank}
use Rattle.axp_base.specs.declared.lines.Bank.{Bank}
use Rattle.axp_base.specs.declared.lines.Bank.TheVariants.{Even, Odd, Code}
use Rattle.axp_base.specs.declared.lines.Line.{Line}
use Rattle.axp_base.specs.declared.processors.Cpu.{Cpu}
use Rattle.axp_base.specs.declared.limits.TheConstants.{BANK_COPIES}
use Rattle.axp_regs.specs.declared.asks.Kind.{Kind}
use Rattle.axp_regs.specs.declared.asks.Kind.TheVariants as kind
use Rattle.axp_access.specs.declared.Act.{Act}
use Rattle.axp_access.specs.declared.Act.TheVariants as act
use Rattle.axp_access.specs.declared.Event.{Event}
use Rattle.axp_access.specs.declared.Outcome.{Outcome}
use Rattle.axp_access.specs.declared.Outcome.TheVariants as outcome
use Rattle.axp_access.specs.declared.Record.{Record}
use Rattle.axp_access.specs.declared.Wanted.{Wanted}
use Rattle.axp_model.specs.Records.{is_of, fills, fills_code, locks, code_fences, drops_code}
use Rattle.axp_access.specs.Kinds.{is_locked}
use Rattle.axp_model.specs.Turns.{turns, stamp}
use Rattle.axp_model.specs.Entries.{Waiting, buffer, oldest, has_line}
use Rattle.axp_model.specs.Late.{late, held, code_held, loses_copy, insert, inserted, line_brought, code_line_brought, lines_ever, code_lines_ever, copies, code_copies}
use Rattle.axp_access.specs.declared.Intent.{Intent}
use Rattle.axp_model.specs.Legal.{is_ready, is_fill_enabled_for, has_room, code_has_room, is_enabled, is_legal_act, is_timely, since_step}
use Rattle.axp_access.specs.Acts.{is_fill}
use Rattle.axp_model.specs.Outcomes.{outcome_of, step_outcome_by, outcome_by, drain_outcome, take_outcome, fill_outcome, IsRun}
use Rattle.axp_model.specs.Processors.{Processors, WantsInLine, AreInLine}
use Rattle.axp_laws.specs.LateLaws.{is_among, IsAscending, ListsExactly}
use Rattle.axp_laws.proofs.CopyNumbers.{among_insert, ascending_insert, length_insert, length_sub, lists_filter}
use Rattle.axp_laws.proofs.RunRecords.{legal_parts, line_at-number, bank_of_line}

-- lines that were ever brought in
ascending_inserted : (o : Option ℕ) (ks : List ℕ) → IsAscending ks → IsAscending (inserted o ks)
ascending_inserted None ks asc = asc
ascending_inserted (Some l) ks asc = ascending_insert l ks asc

ascending_ever : (p : ℕ) (h : List Record) → IsAscending (lines_ever p h)
ascending_ever p [] = tt
ascending_ever p (r ∷ h) = cond_both (is_of p r) (inserted (line_brought r.outcome) (lines_ever p h)) (lines_ever p h) IsAscending (λ _. ascending_inserted (line_brought r.outcome) (lines_ever p h) (ascending_ever p h)) (λ _. ascending_ever p h)

ascending_code_ever : (p : ℕ) (h : List Record) → IsAscending (code_lines_ever p h)
ascending_code_ever p [] = tt
ascending_code_ever p (r ∷ h) = cond_both (is_of p r) (inserted (code_line_brought r.outcome) (code_lines_ever p h)) (code_lines_ever p h) IsAscending (λ _. ascending_inserted (code_line_brought r.outcome) (code_lines_ever p h) (ascending_code_ever p h)) (λ _. ascending_code_ever p h)

among_new : (l : ℕ) (o : Option ℕ) (ks : List ℕ) → o ≡ Some l → is_among l (inserted o ks) ≡ true
among_new l o ks is = rw is (among_insert l l ks ∙ (rw (eq-eqb l l refl) refl))

among_still : (l : ℕ) (o : Option ℕ) (ks : List ℕ) → is_among l ks ≡ true → is_among l (inserted o ks) ≡ true
among_still l None ks among = among
among_still l (Some k) ks among = among_insert l k ks ∙ or_right (eqb k l) (is_among l ks) among

-- what brings a line in
fills_brings : (l : ℕ) (o : Outcome) → fills l o ≡ true → line_brought o ≡ Some l
fills_brings l (outcome.Filled Even line t) e = ap (λ n. Some n) (eqb-true (line_number line) l e)
fills_brings l (outcome.Filled Odd line t) e = ap (λ n. Some n) (eqb-true (line_number line) l e)
fills_brings l (outcome.Filled Code line t) e = cc
fills_brings l _ e = cc

locks_brings : (l : ℕ) (o : Outcome) → locks l o ≡ true → line_brought o ≡ Some l
locks_brings l (outcome.Access a) e =
    let both = and_parts (is_locked a.kind) (eqb (line_of a.address) l) e in
    rw both.0 (ap (λ n. Some n) (eqb-true (line_of a.address) l both.1))
locks_brings l _ e = cc

code_fills_brings : (l : ℕ) (o : Outcome) → fills_code l o ≡ true → code_line_brought o ≡ Some l
code_fills_brings l (outcome.Filled Code line t) e = ap (λ n. Some n) (eqb-true (line_number line) l e)
code_fills_brings l (outcome.Filled Even line t) e = cc
code_fills_brings l (outcome.Filled Odd line t) e = cc
code_fills_brings l _ e = cc

-- an own record after which a line is held brought it in, or left it
held_own : (p l : ℕ) (r : Record) (h : List Record) → is_of p r ≡ true → held p l (r ∷ h) ≡ true → (line_brought r.outcome ≡ Some l) ⊎ (held p l h ≡ true)
held_own p l r h own e =
    ⊎_elim
    (λ (new : (fills l r.outcome || locks l r.outcome) ≡ true).
    inl (⊎_elim (λ f. fills_brings l r.outcome f) (λ k. locks_brings l r.outcome k) (or_cases (fills l r.outcome) (locks l r.outcome) new)))
    (λ (old : (fills l r.outcome || locks l r.outcome) ≡ false).
    let kept : (held p l h && not (loses_copy l (stamp p l h) (late p (data_bank l) h) r)) ≡ true = rw old at (rw own at e) in
    inr (and_parts (held p l h) (not (loses_copy l (stamp p l h) (late p (data_bank l) h) r)) kept).0)
    (cases_Bool (fills l r.outcome || locks l r.outcome))

code_held_own : (p l : ℕ) (r : Record) (h : List Record) → is_of p r ≡ true → code_held p l (r ∷ h) ≡ true → (code_line_brought r.outcome ≡ Some l) ⊎ (code_held p l h ≡ true)
code_held_own p l r h own e =
    ⊎_elim
    (λ (new : fills_code l r.outcome ≡ true). inl (code_fills_brings l r.outcome new))
    (λ (old : fills_code l r.outcome ≡ false).
    let kept : (code_held p l h && not (drops_code l r.event.act || code_fences r.outcome)) ≡ true = rw old at (rw own at e) in
    inr (and_parts (code_held p l h) (not (drops_code l r.event.act || code_fences r.outcome)) kept).0)
    (cases_Bool (fills_code l r.outcome))

-- a held line was brought in
held_ever : (p l : ℕ) (h : List Record) → held p l h ≡ true → is_among l (lines_ever p h) ≡ true
held_ever p l [] e = cc
held_ever p l (r ∷ h) e =
    ⊎_elim
    (λ (own : is_of p r ≡ true).
    rw own (⊎_elim
    (λ new. among_new l (line_brought r.outcome) (lines_ever p h) new)
    (λ old. among_still l (line_brought r.outcome) (lines_ever p h) (held_ever p l h old))
    (held_own p l r h own e)))
    (λ (foreign : is_of p r ≡ false). rw foreign (held_ever p l h (rw foreign at e)))
    (cases_Bool (is_of p r))

code_held_ever : (p l : ℕ) (h : List Record) → code_held p l h ≡ true → is_among l (code_lines_ever p h) ≡ true
code_held_ever p l [] e = cc
code_held_ever p l (r ∷ h) e =
    ⊎_elim
    (λ (own : is_of p r ≡ true).
    rw own (⊎_elim
    (λ new. among_new l (code_line_brought r.outcome) (code_lines_ever p h) new)
    (λ old. among_still l (code_line_brought r.outcome) (code_lines_ever p h) (code_held_ever p l h old))
    (code_held_own p l r h own e)))
    (λ (foreign : is_of p r ≡ false). rw foreign (code_held_ever p l h (rw foreign at e)))
    (cases_Bool (is_of p r))

pub copies_exactly : (p : ℕ) (b : Bank) (h : List Record) → ListsExactly (λ l. in_bank b l && held p l h) (copies p b h)
copies_exactly p b h = lists_filter (λ l. in_bank b l && held p l h) (lines_ever p h) (ascending_ever p h) (λ l e. held_ever p l h (and_parts (in_bank b l) (held p l h) e).1)

pub code_copies_exactly : (p : ℕ) (h : List Record) → ListsExactly (λ l. code_held p l h) (code_copies p h)
code_copies_exactly p h = lists_filter (λ l. code_held p l h) (code_lines_ever p h) (ascending_code_ever p h) (λ l e. code_held_ever p l h e)

-- lists of which one has no line more, or one line more
fewer : (test was : ℕ → Bool) (xs ys : List ℕ) → ListsExactly test xs → ListsExactly was ys → ((l : ℕ) → test l ≡ true → was l ≡ true) → length xs ≤ length ys
fewer test was xs ys x y sub = length_sub ys xs y.ascending x.ascending (λ l among. y.members l ∙ sub l (sym (x.members l) ∙ among))

one_more : (test was : ℕ → Bool) (k : ℕ) (xs ys : List ℕ) → ListsExactly test xs → ListsExactly was ys → ((l : ℕ) → test l ≡ true → (k ≡ l) ⊎ (was l ≡ true)) → length xs ≤ length ys + 1
one_more test was k xs ys x y sub =
    omega (
      arith,
      length_insert k ys,
      length_sub (insert k ys) xs (ascending_insert k ys y.ascending) x.ascending (λ l among.
          among_insert l k ys ∙ ⊎_elim (λ new. or_left (eqb k l) (is_among l ys) (eq-eqb k l new)) (λ old. or_right (eqb k l) (is_among l ys) (y.members l ∙ old)) (sub l (sym (x.members l) ∙ among))),
    )

-- there is room for what a legal record brings in
abbrev HasRoom : ℕ → Outcome → List Record → Type 0
HasRoom p o h = (l : ℕ) → line_brought o ≡ Some l → (held p l h || has_room l p h) ≡ true

abbrev CodeHasRoom : ℕ → Outcome → List Record → Type 0
CodeHasRoom p o h = (l : ℕ) → code_line_brought o ≡ Some l → code_has_room p h ≡ true

abbrev HaveRoom : ℕ → Outcome → List Record → Type 0
HaveRoom p o h = HasRoom p o h × CodeHasRoom p o h

step_room : (k : Kind) (image : ℕ → ℕ) (armed : Bool) (c : Cpu) (a s v : ℕ) (h : List Record) → is_ready k (line_of a) (cpu_number c) h ≡ true → HaveRoom (cpu_number c) (step_outcome_by k image armed c (record { kind = k; address = a; size = s; value = v }) h) h
step_room kind.Locked image armed c a s v h r =
    let room = (and_parts (not (has_line (line_of a) (buffer (cpu_number c) h).waiting)) (held (cpu_number c) (line_of a) h || has_room (line_of a) (cpu_number c) h) r).1 in
    (λ l e. let same : line_of a ≡ l = cc in rw (← same) room, λ l e. cc)
step_room _ image armed c a s v h r = (λ l e. cc, λ l e. cc)

drain_room : (p : ℕ) (h : List Record) (o : Option Waiting) → HaveRoom p (drain_outcome o h) h
drain_room p h None = (λ l e. cc, λ l e. cc)
drain_room p h (Some w) = (λ l e. cc, λ l e. cc)

take_room : (p : ℕ) (h : List Record) (q : List (Line × ℕ)) → HaveRoom p (take_outcome p q h) h
take_room p h [] = (λ l e. cc, λ l e. cc)
take_room p h ((line, turn) ∷ q) = (λ l e. cc, λ l e. cc)

-- the bank of a line is no code bank
data_fill_room : (p t : ℕ) (line : Line) (b : Bank) (h : List Record) → b ≢ Code → has_room (line_number line) p h ≡ true → HaveRoom p (outcome.Filled b line t) h
data_fill_room p t line Even h apart room = (λ l e. let same : line_number line ≡ l = cc in or_right (held p l h) (has_room l p h) (rw (← same) room), λ l e. cc)
data_fill_room p t line Odd h apart room = (λ l e. let same : line_number line ≡ l = cc in or_right (held p l h) (has_room l p h) (rw (← same) room), λ l e. cc)
data_fill_room p t line Code h apart room = absurd (apart refl)

not_code : (l : ℕ) → data_bank l ≢ Code
not_code l = cond_both (eqb (l % 2) 0) Even Odd (λ b. b ≢ Code) (λ _ e. cc) (λ _ e. cc)

fill_room : (k : Kind) (p a s v : ℕ) (h : List Record) → a < 2 ^ 64 → is_fill_enabled_for k (line_of a) p h ≡ true → HaveRoom p (fill_outcome (Some (record { kind = k; address = a; size = s; value = v })) h) h
fill_room kind.Fetch p a s v h low e = (λ l e. cc, λ l _. (and_parts (not (code_held p (line_of a) h)) (code_has_room p h) e).1)
fill_room kind.Read p a s v h low e =
    data_fill_room p (turns h) (line_at a) (data_bank (line_of a)) h (not_code (line_of a)) (rw (line_at-number a low) (and_parts (not (held p (line_of a) h)) (has_room (line_of a) p h) e).1)
fill_room _ p a s v h low e = absurd (false≢true e)

by_room : (a : Act) (image : ℕ → ℕ) (i : Intent) (o : Option Wanted) (c : Cpu) (h : List Record) → i.wanted ≡ o → WantsInLine o → is_enabled a i (cpu_number c) h ≡ true → HaveRoom (cpu_number c) (outcome_by a image i c h) h
by_room act.Step image i None c h is inside e = rw is (λ l e. cc, λ l e. cc)
by_room act.Step image i (Some w) c h is inside e = rw is (step_room w.kind image i.lock_flag c w.address w.size w.value h (rw is at e))
by_room act.Fill image i None c h is inside e = rw is (λ l e. cc, λ l e. cc)
by_room act.Fill image i (Some w) c h is inside e = rw is (fill_room w.kind (cpu_number c) w.address w.size w.value h inside.addressed (rw is at e))
by_room (act.Drain k) image i o c h is inside e = drain_room (cpu_number c) h (slice_get (oldest (buffer (cpu_number c) h).waiting) k)
by_room (act.Take b) image i o c h is inside e = take_room (cpu_number c) h (late (cpu_number c) b h)
by_room (act.Drop b l) image i o c h is inside e = (λ l e. cc, λ l e. cc)
by_room act.Poll image i o c h is inside e = (λ l e. cc, λ l e. cc)
by_room act.Tick image i o c h is inside e = (λ l e. cc, λ l e. cc)

legal_room : (image : ℕ → ℕ) (i : Intent) (h : List Record) (e : Event) → WantsInLine i.wanted → is_legal_act e.act i (cpu_number e.cpu) h ≡ true → HaveRoom (cpu_number e.cpu) (outcome_by e.act image i e.cpu h) h
legal_room image i h e inside l =
    by_room e.act image i i.wanted e.cpu h refl inside (and_parts (is_enabled e.act i (cpu_number e.cpu) h) (is_timely e.act i.finished (since_step is_fill (cpu_number e.cpu) h)) l).0

abbrev Roomy : List Record → Type 0
Roomy [] = Unit {0}
Roomy (r ∷ h) = HaveRoom (cpu_number r.event.cpu) r.outcome h × Roomy h

run_room : (image : ℕ → ℕ) (ps : Processors) (h : List Record) → AreInLine ps → IsRun image ps h → Roomy h
unfolding outcome_of
run_room image ps [] inside run = tt
run_room image ps (r ∷ h) inside run =
    (subst (λ o. HaveRoom (cpu_number r.event.cpu) o h) (sym run.1) (legal_room image (ps.intent (cpu_number r.event.cpu) h) h r.event (inside (cpu_number r.event.cpu) h) (legal_parts ps h r.event run.0).1), run_room image ps h inside run.2)

abbrev IsHeldIn : ℕ → Bank → List Record → ℕ → Bool
IsHeldIn p b h l = in_bank b l && held p l h

-- no line more is held
same_copies : (p : ℕ) (b : Bank) (r : Record) (h : List Record) → ((l : ℕ) → in_bank b l ≡ true → held p l (r ∷ h) ≡ true → held p l h ≡ true) → length (copies p b (r ∷ h)) ≤ length (copies p b h)
same_copies p b r h sub =
    fewer (IsHeldIn p b (r ∷ h)) (IsHeldIn p b h) (copies p b (r ∷ h)) (copies p b h) (copies_exactly p b (r ∷ h)) (copies_exactly p b h)
    (λ l e. let both = and_parts (in_bank b l) (held p l (r ∷ h)) e in and_from (in_bank b l) (held p l h) both.0 (sub l both.0 both.1))

one_copy : (p k : ℕ) (b : Bank) (r : Record) (h : List Record) → ((l : ℕ) → held p l (r ∷ h) ≡ true → (k ≡ l) ⊎ (held p l h ≡ true)) → length (copies p b (r ∷ h)) ≤ length (copies p b h) + 1
one_copy p k b r h sub =
    one_more (IsHeldIn p b (r ∷ h)) (IsHeldIn p b h) k (copies p b (r ∷ h)) (copies p b h) (copies_exactly p b (r ∷ h)) (copies_exactly p b h)
    (λ l e. let both = and_parts (in_bank b l) (held p l (r ∷ h)) e in ⊎_elim (λ new. inl new) (λ old. inr (and_from (in_bank b l) (held p l h) both.0 old)) (sub l both.1))

some_same : (k l : ℕ) (o : Option ℕ) → o ≡ Some k → o ≡ Some l → k ≡ l
some_same k l o x y = let both : Some k ≡ Some l = sym x ∙ y in cc

-- a record that brings line k in
copies_brought : (p k : ℕ) (b : Bank) (r : Record) (h : List Record) → is_of p r ≡ true → HasRoom p r.outcome h → line_brought r.outcome ≡ Some k → length (copies p b h) ≤ BANK_COPIES → length (copies p b (r ∷ h)) ≤ BANK_COPIES
copies_brought p k b r h own room new within =
    ⊎_elim
    (λ (mine : in_bank b k ≡ true).
    ⊎_elim
    (λ (was : held p k h ≡ true).
    let less : length (copies p b (r ∷ h)) ≤ length (copies p b h) = same_copies p b r h (λ l _ e.
    ⊎_elim (λ brings. rw (← some_same k l (line_brought r.outcome) new brings) was) (λ old. old) (held_own p l r h own e)) in
    omega (arith, less, within))
    (λ (free : has_room k p h ≡ true).
    let below : length (copies p (data_bank k) h) < BANK_COPIES = ltb-true (length (copies p (data_bank k) h)) BANK_COPIES free in
    let here : length (copies p b h) < BANK_COPIES = rw (← bank_of_line b k mine) below in
    let more : length (copies p b (r ∷ h)) ≤ length (copies p b h) + 1 = one_copy p k b r h (λ l e. ⊎_elim (λ brings. inl (some_same k l (line_brought r.outcome) new brings)) (λ old. inr old) (held_own p l r h own e)) in
    omega (arith, more, here))
    (or_cases (held p k h) (has_room k p h) (room k new)))
    (λ (elsewhere : in_bank b k ≡ false).
    let less : length (copies p b (r ∷ h)) ≤ length (copies p b h) = same_copies p b r h (λ l inside e.
    ⊎_elim (λ brings. let there : in_bank b k ≡ true = rw (some_same k l (line_brought r.outcome) new brings) inside in absurd (false≢true (sym elsewhere ∙ there))) (λ old. old) (held_own p l r h own e)) in
    omega (arith, less, within))
    (cases_Bool (in_bank b k))

copies_own : (p : ℕ) (b : Bank) (r : Record) (h : List Record) (o : Option ℕ) → is_of p r ≡ true → HasRoom p r.outcome h → line_brought r.outcome ≡ o → length (copies p b h) ≤ BANK_COPIES → length (copies p b (r ∷ h)) ≤ BANK_COPIES
copies_own p b r h None own room none within =
    let less : length (copies p b (r ∷ h)) ≤ length (copies p b h) = same_copies p b r h (λ l _ e.
    ⊎_elim (λ brings. let never : None ≡ Some l = sym none ∙ brings in cc) (λ old. old) (held_own p l r h own e)) in
    omega (arith, less, within)
copies_own p b r h (Some k) own room new within = copies_brought p k b r h own room new within

copies_fit : (p : ℕ) (b : Bank) (h : List Record) → Roomy h → length (copies p b h) ≤ BANK_COPIES
copies_fit p b [] roomy = omega arith
copies_fit p b (r ∷ h) roomy =
    ⊎_elim
    (λ (own : is_of p r ≡ true).
    let room : HaveRoom p r.outcome h = subst (λ q. HaveRoom q r.outcome h) (eqb-true (cpu_number r.event.cpu) p own) roomy.0 in
    copies_own p b r h (line_brought r.outcome) own room.0 refl (copies_fit p b h roomy.1))
    (λ (foreign : is_of p r ≡ false).
    let less : length (copies p b (r ∷ h)) ≤ length (copies p b h) = same_copies p b r h (λ l _ e. rw foreign at e) in
    omega (arith, less, copies_fit p b h roomy.1))
    (cases_Bool (is_of p r))

-- the code bank
same_code : (p : ℕ) (r : Record) (h : List Record) → ((l : ℕ) → code_held p l (r ∷ h) ≡ true → code_held p l h ≡ true) → length (code_copies p (r ∷ h)) ≤ length (code_copies p h)
same_code p r h sub = fewer (λ l. code_held p l (r ∷ h)) (λ l. code_held p l h) (code_copies p (r ∷ h)) (code_copies p h) (code_copies_exactly p (r ∷ h)) (code_copies_exactly p h) sub

code_own : (p : ℕ) (r : Record) (h : List Record) (o : Option ℕ) → is_of p r ≡ true → CodeHasRoom p r.outcome h → code_line_brought r.outcome ≡ o → length (code_copies p h) ≤ BANK_COPIES → length (code_copies p (r ∷ h)) ≤ BANK_COPIES
code_own p r h None own room none within =
    let less : length (code_copies p (r ∷ h)) ≤ length (code_copies p h) = same_code p r h (λ l e.
    ⊎_elim (λ brings. let never : None ≡ Some l = sym none ∙ brings in cc) (λ old. old) (code_held_own p l r h own e)) in
    omega (arith, less, within)
code_own p r h (Some k) own room new within =
    let below : length (code_copies p h) < BANK_COPIES = ltb-true (length (code_copies p h)) BANK_COPIES (room k new) in
    let more : length (code_copies p (r ∷ h)) ≤ length (code_copies p h) + 1 =
    one_more (λ l. code_held p l (r ∷ h)) (λ l. code_held p l h) k (code_copies p (r ∷ h)) (code_copies p h) (code_copies_exactly p (r ∷ h)) (code_copies_exactly p h)
    (λ l e. ⊎_elim (λ brings. inl (some_same k l (code_line_brought r.outcome) new brings)) (λ old. inr old) (code_held_own p l r h own e)) in
    omega (arith, more, below)

code_fit : (p : ℕ) (h : List Record) → Roomy h → length (code_copies p h) ≤ BANK_COPIES
code_fit p [] roomy = omega arith
code_fit p (r ∷ h) roomy =
    ⊎_elim
    (λ (own : is_of p r ≡ true).
    let room : HaveRoom p r.outcome h = subst (λ q. HaveRoom q r.outcome h) (eqb-true (cpu_number r.event.cpu) p own) roomy.0 in
    code_own p r h (code_line_brought r.outcome) own room.1 refl (code_fit p h roomy.1))
    (λ (foreign : is_of p r ≡ false).
    let less : length (code_copies p (r ∷ h)) ≤ length (code_copies p h) = same_code p r h (λ l e. rw foreign at e) in
    omega (arith, less, code_fit p h roomy.1))
    (cases_Bool (is_of p r))

pub run_copies : (image : ℕ → ℕ) (ps : Processors) (h : List Record) → AreInLine ps → IsRun image ps h → (p : ℕ) (b : Bank) → length (copies p b h) ≤ BANK_COPIES
run_copies image ps h inside run p b = copies_fit p b h (run_room image ps h inside run)

pub run_code_copies : (image : ℕ → ℕ) (ps : Processors) (h : List Record) → AreInLine ps → IsRun image ps h → (p : ℕ) → length (code_copies p h) ≤ BANK_COPIES
run_code_copies image ps h inside run p = code_fit p h (run_room image ps h inside run)
