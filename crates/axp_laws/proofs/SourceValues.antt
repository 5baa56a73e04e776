-- AllByRecursion read and fetch keeps the bytes of its sources.
use Rattle.std.proofs.Common.{true, false, zero, suc, ℕ, ◌+◌, ◌<◌, ◌≤◌, ◌≡◌, eqb, ltb, Bool, not, ◌&&◌, ◌||◌, List, [], ◌∷◌, length, slice_get, Option, Some, None, refl, sym, ap, ◌∙◌, subst, arith}
use Rattle.std.proofs.lemmas.Bool.{and_left, le-ltb, false≢true}
use Rattle.axp_base.specs.declared.processors.Cpu.{Cpu}
use Rattle.axp_base.specs.declared.lines.Line.{Line}
use Rattle.axp_regs.specs.declared.asks.Kind.{Kind}
use Rattle.axp_regs.specs.declared.asks.Kind.TheVariants as kind
use Rattle.axp_access.specs.declared.Act.{Act}
use Rattle.axp_access.specs.declared.Act.TheVariants as act
use Rattle.axp_access.specs.declared.Place.{Place}
use Rattle.axp_access.specs.declared.Place.TheVariants.{At, Entry, Absent}
use Rattle.axp_access.specs.declared.Access.{Access}
use Rattle.axp_access.specs.declared.Event.{Event}
use Rattle.axp_access.specs.declared.Outcome.{Outcome}
use Rattle.axp_access.specs.declared.Outcome.TheVariants as outcome
use Rattle.axp_access.specs.declared.Record.{Record}
use Rattle.axp_model.specs.Records.{drains, access_in}
use Rattle.axp_access.specs.Kinds.{is_memory_write, is_fetch, is_read, has_byte}
use Rattle.axp_base.specs.Lines.{line_of}
use Rattle.axp_model.specs.Turns.{turns, drained}
use Rattle.axp_model.specs.Entries.{Waiting, buffer, oldest, entry_for}
use Rattle.axp_model.specs.Late.{late}
use Rattle.axp_model.specs.Accesses.{times, accesses}
use Rattle.axp_access.specs.Numbering.{next_access, NumberedAccess, write_barriers_in}
use Rattle.axp_access.specs.Order.{Times, key, before, precedes}
use Rattle.axp_model.specs.Sources.{is_visible, can_give, source, takes_bytes, byte_of_source, source_byte}
use Rattle.axp_access.specs.declared.Intent.{Intent}
use Rattle.axp_model.specs.Outcomes.{step_outcome_by, step_outcome, outcome_by, outcome_of, drain_outcome, take_outcome, fill_outcome, IsRun}
use Rattle.axp_model.specs.Processors.{Processors, AreInLine}
use Rattle.axp_laws.proofs.RunFacts.{Fits, FitsOutcome, Fitting, AtMost, Known, KnownItem, RunFacts}
use Rattle.axp_model.specs.Issue.{AllPairs}
use Rattle.axp_model.specs.Storage.{HasSources, KeepsStorage}
use Rattle.std.specs.List.{AllByRecursion}
use Rattle.axp_base.specs.Parts.{number_at}
use Rattle.axp_access.specs.declared.Wanted.{Wanted}
use Rattle.axp_laws.proofs.RunRecords.{run_fits}
use Rattle.axp_laws.proofs.OrderKeys.{at_less, before_asymmetric}
use Rattle.axp_laws.proofs.OrderCases.{acc, mark, most_of}
use Rattle.axp_laws.proofs.RunSteps.{turn_same, spot_same, naming_of, kept, kept_by, fresh_at, poll_access}
use Rattle.axp_laws.proofs.SourceStays.{latest_now, hidden, source_drain, each_all}

-- a run's values
abbrev IsValued : (ℕ → ℕ) → Outcome → List Record → Type 0
IsValued image (outcome.Access a) h = HasSources image h (next_access (accesses h) a)
IsValued image _ h = Unit {0}

abbrev pub Valued : (ℕ → ℕ) → List Record → Type 0
Valued image [] = Unit {0}
Valued image (r ∷ h) = IsValued image r.outcome h × Valued image h

step_valued : (k : Kind) (image : ℕ → ℕ) (armed : Bool) (c : Cpu) (a s v : ℕ) (h : List Record) → IsValued image (step_outcome_by k image armed c (record { kind = k; address = a; size = s; value = v }) h) h
step_valued kind.Fetch image armed c a s v h = λ e. refl
step_valued kind.Read image armed c a s v h = λ e. refl
step_valued kind.Locked image armed c a s v h = λ e. refl
step_valued _ image armed c a s v h = λ e. absurd (false≢true e)

drain_valued : (image : ℕ → ℕ) (h : List Record) (o : Option Waiting) → IsValued image (drain_outcome o h) h
drain_valued image h None = tt
drain_valued image h (Some w) = tt

take_valued : (image : ℕ → ℕ) (p : ℕ) (h : List Record) (q : List (Line × ℕ)) → IsValued image (take_outcome p q h) h
take_valued image p h [] = tt
take_valued image p h ((line, turn) ∷ q) = tt

fill_valued : (image : ℕ → ℕ) (o : Option Wanted) (h : List Record) → IsValued image (fill_outcome o h) h
fill_valued image None h = tt
fill_valued image (Some a) h = tt

want_valued : (image : ℕ → ℕ) (armed : Bool) (o : Option Wanted) (c : Cpu) (h : List Record) → IsValued image (step_outcome image armed c o h) h
want_valued image armed None c h = tt
want_valued image armed (Some a) c h = step_valued a.kind image armed c a.address a.size a.value h

by_valued : (a : Act) (image : ℕ → ℕ) (i : Intent) (c : Cpu) (h : List Record) → IsValued image (outcome_by a image i c h) h
by_valued act.Step image i c h = want_valued image i.lock_flag i.wanted c h
by_valued act.Fill image i c h = fill_valued image i.wanted h
by_valued (act.Drain k) image i c h = drain_valued image h (slice_get (oldest (buffer c.number h).waiting) k)
by_valued (act.Take b) image i c h = take_valued image c.number h (late c.number b h)
by_valued (act.Drop b l) image i c h = tt
by_valued act.Poll image i c h = tt
by_valued act.Tick image i c h = tt

pub run_valued : (image : ℕ → ℕ) (ps : Processors) (h : List Record) → IsRun image ps h → Valued image h
unfolding outcome_of
run_valued image ps [] run = tt
run_valued image ps (r ∷ h) run =
    (subst (λ o. IsValued image o h) (sym run.1) (by_valued r.event.act image (ps.intent r.event.cpu.number h) r.event.cpu h), run_valued image ps h run.2)

number_same : (f g : ℕ → ℕ) (a n : ℕ) → ((at : ℕ) → f at ≡ g at) → number_at f a n ≡ number_at g a n
unfolding number_at
number_same f g a zero same = refl
number_same f g a (suc n) same = rw (same (a + n), number_same f g a n same) refl

pub at_of : (n : ℕ) (at : Place) → AtMost n at → (s : ℕ) × (at ≡ At s) × (s ≤ n)
at_of n (At s) most = (s, refl, most)
at_of n (Entry m) most = absurd most
at_of n Absent most = absurd most

-- where a read or fetch stands
pub read_at_place : (k : Kind) (p l g : ℕ) (at : Place) (h : List Record) → (is_read k || is_fetch k) ≡ true → Known k p l g at h → (s : ℕ) × (at ≡ At s) × (s ≤ turns h)
read_at_place kind.Fetch p l g at h e known = at_of (turns h) at (most_of kind.Fetch p l g at h refl known)
read_at_place kind.Read p l g at h e known = at_of (turns h) at (most_of kind.Read p l g at h refl known)
read_at_place kind.Locked p l g at h e known = at_of (turns h) at (most_of kind.Locked p l g at h refl known)
read_at_place _ p l g at h e known = absurd (false≢true e)

pub before_eq : (turn now : Times) (u v : NumberedAccess) → ((p m : ℕ) → now.drained p m ≡ turn.drained p m) → before now u v ≡ before turn u v
before_eq turn now u v same = rw (spot_same turn now u.access.cpu.number u.access.place same, spot_same turn now v.access.cpu.number v.access.place same) refl

pub gives_eq : (turn now : Times) (b : ℕ) (u v : NumberedAccess) → before now u v ≡ before turn u v → can_give now b v u ≡ can_give turn b v u
gives_eq turn now b u v same = ap (λ z. is_memory_write u.access && (has_byte b u.access && (z || (not (is_fetch v.access.kind) && precedes u v)))) same

pairs_all : (P : NumberedAccess → NumberedAccess → Type 0) (us : List NumberedAccess) → ((u v : NumberedAccess) → P u v) → AllPairs P us
pairs_all P [] f = tt
pairs_all P (x ∷ us) f = (each_all (λ u. P u x) us (λ u. f u x), pairs_all P us f)

source_same : (turn now : Times) (b : ℕ) (v : NumberedAccess) (us : List NumberedAccess) → ((p m : ℕ) → now.drained p m ≡ turn.drained p m) → source now b v us ≡ source turn b v us
source_same turn now b v us same =
    latest_now turn now (can_give turn b v) (can_give now b v) us
    (each_all (λ u. can_give now b v u ≡ can_give turn b v u) us (λ u. gives_eq turn now b u v (before_eq turn now u v same)))
    (pairs_all (λ y x. can_give turn b v y ≡ true → can_give turn b v x ≡ true → before now y x ≡ before turn y x) us (λ y x _ _. before_eq turn now y x same))

-- a new access that gives v nothing
pub source_more : (turn now : Times) (b : ℕ) (v w : NumberedAccess) (us : List NumberedAccess) → ((p m : ℕ) → now.drained p m ≡ turn.drained p m) → can_give now b v w ≡ false → source now b v (w ∷ us) ≡ source turn b v us
source_more turn now b v w us same none = rw none (source_same turn now b v us same)

gives_none : (a b c d : Bool) → (a && (b && (false || (c && (d && false))))) ≡ false
gives_none true true true true = refl
gives_none true true true false = refl
gives_none true true false d = refl
gives_none true false c d = refl
gives_none false b c d = refl

-- what is neither before v nor earlier gives it nothing
unseen : (turn : Times) (b : ℕ) (v w : NumberedAccess) → before turn w v ≡ false → v.number < w.number → can_give turn b v w ≡ false
unseen turn b v w hid later =
    let late_ : ltb w.number v.number ≡ false = le-ltb w.number v.number (omega arith) in
    rw hid (rw late_ (gives_none (is_memory_write w.access) (has_byte b w.access) (not (is_fetch v.access.kind)) (eqb w.access.cpu.number v.access.cpu.number)))

-- a new write gives an earlier read nothing
pub new_unseen : (k : Kind) (h : List Record) (p b s nv nw g : ℕ) (c : Cpu) (a z x : ℕ) (y : Bool) (at : Place) (v : NumberedAccess) → c.number ≡ p → Fits k p (line_of a) y at h → ((n : ℕ) → k ≡ kind.Write → at ≡ Entry n → drained h c.number n ≡ None) → v.access.place ≡ At s → s ≤ turns h → v.number < nw → can_give (times h) b v (record { number = nw; parts = g; access = acc c k a z x y at }) ≡ false
new_unseen kind.Write h p b s nv nw g c a z x y at v same fit fresh vat less later =
    let w : NumberedAccess = record { number = nw; parts = g; access = acc c kind.Write a z x y at } in
    unseen (times h) b v w (hidden h w v (entry_for (line_of a) (buffer p h)) s fit (fresh (entry_for (line_of a) (buffer p h)) refl fit) vat) later
new_unseen kind.Conditional h p b s nv nw g c a z x true at v same fit fresh vat less later =
    let w : NumberedAccess = record { number = nw; parts = g; access = acc c kind.Conditional a z x true at } in
    let after : before (times h) v w ≡ true = rw (vat, fit.0) (at_less s (turns h + 1) v.access.cpu.number c.number v.number nw (mark v.access) false (omega arith)) in
    unseen (times h) b v w (before_asymmetric (key (times h) v) (key (times h) w) after) later
new_unseen kind.Conditional h p b s nv nw g c a z x false at v same fit fresh vat less later = refl
new_unseen _ h p b s nv nw g c a z x y at v same fit fresh vat less later = refl

-- a later record leaves a value where it leaves the sources
ok_from : (image : ℕ → ℕ) (h k : List Record) (v : NumberedAccess) → (takes_bytes v ≡ true → (b : ℕ) → source (times k) b v (accesses k) ≡ source (times h) b v (accesses h)) → HasSources image h v → HasSources image k v
ok_from image h k v same ok e = ok e ∙ number_same (source_byte image h v) (source_byte image k v) v.access.address v.access.size (λ b. ap (byte_of_source image b) (sym (same e b)))

each_two : (P Q R : NumberedAccess → Type 0) (us : List NumberedAccess) → ((u : NumberedAccess) → P u → Q u → R u) → AllByRecursion P us → AllByRecursion Q us → AllByRecursion R us
each_two P Q R [] f p q = tt
each_two P Q R (u ∷ us) f p q = (f u p.0 q.0, each_two P Q R us f p.1 q.1)

pub place_of : (h : List Record) (v : NumberedAccess) → KnownItem h v → takes_bytes v ≡ true → (s : ℕ) × (v.access.place ≡ At s) × (s ≤ turns h)
place_of h v kv e = read_at_place v.access.kind v.access.cpu.number (line_of v.access.address) v.parts v.access.place h e kv.known

-- a read or fetch is no source of its own
no_write : (k : Kind) (c : Cpu) (a z x : ℕ) (y : Bool) (at : Place) → (is_read k || is_fetch k) ≡ true → is_memory_write (acc c k a z x y at) ≡ false
no_write kind.Fetch c a z x y at e = refl
no_write kind.Read c a z x y at e = refl
no_write kind.Locked c a z x y at e = refl
no_write _ c a z x y at e = absurd (false≢true e)

pub not_itself : (turn : Times) (b : ℕ) (v : NumberedAccess) → takes_bytes v ≡ true → can_give turn b v v ≡ false
not_itself turn b v e = and_left (is_memory_write v.access) (has_byte b v.access && is_visible turn v v) (no_write v.access.kind v.access.cpu v.access.address v.access.size v.access.value v.access.yes v.access.place e)

-- the source of a byte of a read or fetch that stands at or below the turn count stays under a record
source_access : (b s : ℕ) (v : NumberedAccess) (e : Event) (o : Outcome) (a : Access) (h : List Record) → access_in e.cpu o ≡ Some a → ((n : ℕ) → drains n o ≡ false) → a.cpu.number ≡ e.cpu.number
    → Fits a.kind e.cpu.number (line_of a.address) a.yes a.place h → RunFacts h → v.access.place ≡ At s → s ≤ turns h → v.number < length (accesses h) + 1
    → source (times (record { event = e; outcome = o } ∷ h)) b v (accesses (record { event = e; outcome = o } ∷ h)) ≡ source (times h) b v (accesses h)
source_access b s v e o a h shown none same fit kept vat less first =
    let r : Record = record { event = e; outcome = o } in
    let turn = turn_same r h none in
    let listed : accesses (r ∷ h) ≡ next_access (accesses h) a ∷ accesses h = rw shown refl in
    let old : can_give (times h) b v (next_access (accesses h) a) ≡ false = new_unseen a.kind h e.cpu.number b s 0 (length (accesses h) + 1) (write_barriers_in a.cpu.number (accesses h)) a.cpu a.address a.size a.value a.yes a.place v same fit (λ n w at. fresh_at h e a same fit kept w n at) vat less first in
    rw listed (source_more (times h) (times (r ∷ h)) b v (next_access (accesses h) a) (accesses h) turn (gives_eq (times h) (times (r ∷ h)) b (next_access (accesses h) a) v (before_eq (times h) (times (r ∷ h)) (next_access (accesses h) a) v turn) ∙ old))

source_quiet : (b : ℕ) (v : NumberedAccess) (e : Event) (o : Outcome) (h : List Record) → access_in e.cpu o ≡ None → ((n : ℕ) → drains n o ≡ false)
    → source (times (record { event = e; outcome = o } ∷ h)) b v (accesses (record { event = e; outcome = o } ∷ h)) ≡ source (times h) b v (accesses h)
source_quiet b v e o h shown none =
    let r : Record = record { event = e; outcome = o } in
    let listed : accesses (r ∷ h) ≡ accesses h = rw shown refl in
    rw listed (source_same (times h) (times (r ∷ h)) b v (accesses h) (turn_same r h none))

pub source_stays : (b s : ℕ) (v : NumberedAccess) (e : Event) (o : Outcome) (h : List Record) → FitsOutcome e.cpu.number o h → RunFacts h → v.access.place ≡ At s → s ≤ turns h → v.number < length (accesses h) + 1
    → source (times (record { event = e; outcome = o } ∷ h)) b v (accesses (record { event = e; outcome = o } ∷ h)) ≡ source (times h) b v (accesses h)
source_stays b s v e (outcome.Access a) h fit kept vat less first = source_access b s v e (outcome.Access a) a h refl (λ n. refl) fit.0 fit.2 kept vat less first
source_stays b s v e (outcome.Polled x y t) h fit kept vat less first = source_access b s v e (outcome.Polled x y t) (poll_access e x t) h refl (λ n. refl) refl (ap (λ z. At z) fit.0) kept vat less first
source_stays b s v e (outcome.Drained n l t) h fit kept vat less first =
    source_drain h e.cpu.number n s b (times (record { event = e; outcome = outcome.Drained n l t } ∷ h)) v (accesses h) (naming_of e n t l h fit.1 kept) vat less kept.items kept.pairs (kept_by e (outcome.Drained n l t) h fit kept).pairs
source_stays b s v e outcome.NoAccess h fit kept vat less first = source_quiet b v e outcome.NoAccess h refl (λ n. refl)
source_stays b s v e (outcome.Filled x y z) h fit kept vat less first = source_quiet b v e (outcome.Filled x y z) h refl (λ n. refl)
source_stays b s v e (outcome.Taken x y z) h fit kept vat less first = source_quiet b v e (outcome.Taken x y z) h refl (λ n. refl)
source_stays b s v e outcome.Done h fit kept vat less first = source_quiet b v e outcome.Done h refl (λ n. refl)

-- so its value stays
old_storage : (image : ℕ → ℕ) (e : Event) (o : Outcome) (h : List Record) → FitsOutcome e.cpu.number o h → RunFacts h → KeepsStorage image h → AllByRecursion (HasSources image (record { event = e; outcome = o } ∷ h)) (accesses h)
old_storage image e o h fit kept was =
    each_two (KnownItem h) (HasSources image h) (HasSources image (record { event = e; outcome = o } ∷ h)) (accesses h) (λ v kv ok. ok_from image h (record { event = e; outcome = o } ∷ h) v (λ x b.
    let at = place_of h v kv x in
    source_stays b at.0 v e o h fit kept at.1 at.2 (omega (arith, kv.number))) ok) kept.items was

-- and a new one has what it is given at its record
new_storage : (image : ℕ → ℕ) (e : Event) (a : Access) (h : List Record) → HasSources image h (next_access (accesses h) a) → HasSources image (record { event = e; outcome = outcome.Access a } ∷ h) (next_access (accesses h) a)
new_storage image e a h own =
    let r : Record = record { event = e; outcome = outcome.Access a } in
    let v : NumberedAccess = next_access (accesses h) a in
    ok_from image h (r ∷ h) v (λ x b. source_more (times h) (times (r ∷ h)) b v v (accesses h) (turn_same r h (λ n. refl)) (not_itself (times (r ∷ h)) b v x)) own

storage_by : (image : ℕ → ℕ) (e : Event) (o : Outcome) (h : List Record) → FitsOutcome e.cpu.number o h → IsValued image o h → RunFacts h → KeepsStorage image h → KeepsStorage image (record { event = e; outcome = o } ∷ h)
storage_by image e (outcome.Access a) h fit value kept was = (new_storage image e a h value, old_storage image e (outcome.Access a) h fit kept was)
storage_by image e outcome.NoAccess h fit value kept was = old_storage image e outcome.NoAccess h fit kept was
storage_by image e (outcome.Filled b l t) h fit value kept was = old_storage image e (outcome.Filled b l t) h fit kept was
storage_by image e (outcome.Drained n l t) h fit value kept was = old_storage image e (outcome.Drained n l t) h fit kept was
storage_by image e (outcome.Taken l t g) h fit value kept was = old_storage image e (outcome.Taken l t g) h fit kept was
storage_by image e outcome.Done h fit value kept was = old_storage image e outcome.Done h fit kept was
storage_by image e (outcome.Polled v x t) h fit value kept was = (λ y. absurd (false≢true y), old_storage image e (outcome.Polled v x t) h fit kept was)

pub keeps_storage : (image : ℕ → ℕ) (h : List Record) → Fitting h → Valued image h → KeepsStorage image h
keeps_storage image [] fit value = tt
keeps_storage image (r ∷ h) fit value = storage_by image r.event r.outcome h fit.0 value.0 (kept h fit.1) (keeps_storage image h fit.1 value.1)

pub run_storage : (image : ℕ → ℕ) (ps : Processors) (h : List Record) → AreInLine ps → IsRun image ps h → KeepsStorage image h
run_storage image ps h inside run = keeps_storage image h (run_fits image ps h inside run) (run_valued image ps h run)
