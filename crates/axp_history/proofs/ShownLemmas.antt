-- The list that records show: which entries were written and drained, and how many accesses it has.
use Rattle.std.proofs.Common.{◌≡◌, ℕ, ◌+◌, Bool, true, false, cond, eqb, ◌&&◌, ◌||◌, List, [], ◌∷◌, ◌++◌, length, Option, Some, None, refl, sym, ap, ◌∙◌, subst, arith}
use Rattle.std.specs.List.{AllByRecursion, list_any}
use Rattle.std.specs.Option.{is_some}
use Rattle.std.proofs.lemmas.Bool.{false≢true}
use Rattle.std.proofs.lemmas.List.{length_push}
use Rattle.axp_base.specs.Cpus.{cpu_number}
use Rattle.axp_regs.specs.declared.asks.Kind.{Kind}
use Rattle.axp_regs.specs.declared.asks.Kind.TheVariants as kind
use Rattle.axp_access.specs.declared.Access.{Access}
use Rattle.axp_access.specs.declared.Act.{Act}
use Rattle.axp_access.specs.declared.Act.TheVariants as act
use Rattle.axp_access.specs.declared.Event.{Event}
use Rattle.axp_access.specs.declared.entry_states.EntryState.{EntryState}
use Rattle.axp_access.specs.declared.entry_states.EntryState.TheVariants.{Unwritten, Waiting, Drained}
use Rattle.axp_access.specs.declared.Outcome.{Outcome}
use Rattle.axp_access.specs.declared.Outcome.TheVariants as outcome
use Rattle.axp_access.specs.declared.Place.{Place}
use Rattle.axp_access.specs.declared.Place.TheVariants.{At, Entry, Absent}
use Rattle.axp_access.specs.declared.Record.{Record}
use Rattle.axp_access.specs.declared.access_lists.Drain.{Drain}
use Rattle.axp_access.specs.Kinds.{is_plain_write}
use Rattle.axp_access.specs.Lists.{Accesses, is_at_entry, is_write_in, turn_in}
use Rattle.axp_access.specs.Spelling.{IsOutcomeOf, IsPlaced, IsSpelled, IsSpelledAs}
use Rattle.axp_model.specs.EntryStates.{is_drained, is_entry, is_written, writes_entry}
use Rattle.axp_model.specs.Records.{drains, is_of}
use Rattle.axp_history.specs.Entries.{is_undrained, is_waiting, names_well}
use Rattle.axp_history.specs.Shown.{HasPlaceFor, IsSpelledRecord, list_of, with_record_in}
use Rattle.axp_history.specs.Surveys.{accesses_of, count_in}

-- an access is of the event's processor
pub own_access : (a : Act) (e : Event) (x : Access) → IsOutcomeOf a e (outcome.Access x) → (x.cpu ≡ e.cpu) × IsSpelled x
own_access act.Step e x is = is
own_access act.Fill e x is = absurd is
own_access (act.Drain k) e x is = absurd is
own_access (act.Take b) e x is = absurd is
own_access (act.Drop b l) e x is = absurd is
own_access act.Poll e x is = absurd is
own_access act.Tick e x is = absurd is

-- what stands in an entry is a plain write
plain_in_entry : (k : Kind) (a : Access) (n : ℕ) → IsSpelledAs k a → a.place ≡ Entry n → is_plain_write k ≡ true
plain_in_entry kind.Fetch a n is at = absurd (subst IsPlaced at is.1.1)
plain_in_entry kind.Read a n is at = absurd (subst IsPlaced at is.1.1)
plain_in_entry kind.Write a n is at = refl
plain_in_entry kind.Locked a n is at = absurd (subst IsPlaced at is.1.1)
plain_in_entry kind.Conditional a n is at = absurd (subst IsPlaced at is.1)
plain_in_entry kind.Barrier a n is at = absurd (subst IsPlaced at is.1.1.1)
plain_in_entry kind.WriteBarrier a n is at = let never : Absent ≡ Entry n = sym is.1.1.1 ∙ at in cc
plain_in_entry kind.CodeBarrier a n is at = absurd (subst IsPlaced at is.1.1.1)
plain_in_entry kind.Signal a n is at = absurd (subst IsPlaced at is.1.1.1)
plain_in_entry kind.Console a n is at = absurd (subst IsPlaced at is.1.1.1)
plain_in_entry kind.Poll a n is at = absurd is

-- ---- written entries

and_false : (b : Bool) → (b && false) ≡ false
and_false true = refl
and_false false = refl

or_swap : (a b c : Bool) → (a || (b || c)) ≡ (b || (a || c))
or_swap true true c = refl
or_swap true false c = refl
or_swap false b c = refl

any_push : {X : Type 0} (test : X → Bool) (xs : List X) (x : X) → list_any test (xs ++ x ∷ []) ≡ (test x || list_any test xs)
any_push test [] x = refl
any_push test (y ∷ ys) x = ap (λ b. test y || b) (any_push test ys x) ∙ or_swap (test y) (test x) (list_any test ys)

write_in_entry : (n : ℕ) (k : Kind) (at : Place) (own : Bool) → ((m : ℕ) → at ≡ Entry m → is_plain_write k ≡ true) → (is_plain_write k && (own && is_at_entry n at)) ≡ (own && is_entry n at)
write_in_entry n k (At turn) own plain = rw (and_false own, and_false (is_plain_write k)) refl
write_in_entry n k (Entry m) own plain = rw (plain m refl) refl
write_in_entry n k Absent own plain = rw (and_false own, and_false (is_plain_write k)) refl

-- a write of a record
own_write : (p n : ℕ) (e : Event) (a : Access) → (a.cpu ≡ e.cpu) × IsSpelled a → is_write_in p n a ≡ (eqb (cpu_number e.cpu) p && writes_entry n (outcome.Access a))
own_write p n e a is = rw is.0 (write_in_entry n a.kind a.place (eqb (cpu_number e.cpu) p) (λ m at. plain_in_entry a.kind a m is.1 at))

abbrev written_in : ℕ → ℕ → Accesses → Bool
written_in p n list = list_any (is_write_in p n) list.items

no_write : (own : Bool) (w : Bool) → w ≡ ((own && false) || w)
no_write own w = rw (and_false own) refl

written_more : (p n : ℕ) (e : Event) (o : Outcome) (list : Accesses) → IsOutcomeOf e.act e o → written_in p n (with_record_in e o list) ≡ ((eqb (cpu_number e.cpu) p && writes_entry n o) || written_in p n list)
written_more p n e (outcome.Access a) list is = any_push (is_write_in p n) list.items a ∙ ap (λ b. b || written_in p n list) (own_write p n e a (own_access e.act e a is))
written_more p n e (outcome.Polled pending entered turn) list is = any_push (is_write_in p n) list.items _ ∙ no_write (eqb (cpu_number e.cpu) p) (written_in p n list)
written_more p n e outcome.NoAccess list is = no_write (eqb (cpu_number e.cpu) p) (written_in p n list)
written_more p n e (outcome.Filled bank line turn) list is = no_write (eqb (cpu_number e.cpu) p) (written_in p n list)
written_more p n e (outcome.Drained entry line turn) list is = no_write (eqb (cpu_number e.cpu) p) (written_in p n list)
written_more p n e (outcome.Taken line turn gone) list is = no_write (eqb (cpu_number e.cpu) p) (written_in p n list)
written_more p n e outcome.Done list is = no_write (eqb (cpu_number e.cpu) p) (written_in p n list)

pub written_is : (p n room : ℕ) (h : List Record) → AllByRecursion IsSpelledRecord h → written_in p n (list_of room h) ≡ is_written p n h
written_is p n room [] all = refl
written_is p n room (r ∷ h) all = written_more p n r.event r.outcome (list_of room h) all.0.1 ∙ ap (λ b. (is_of p r && writes_entry n r.outcome) || b) (written_is p n room h all.1)

-- ---- drained entries

abbrev names_entry : ℕ → ℕ → Drain → Bool
names_entry p n d = eqb (cpu_number d.cpu) p && eqb d.entry n

told_push : (p n : ℕ) (ds : List Drain) (d : Drain) → is_some (turn_in (ds ++ d ∷ []) p n) ≡ (names_entry p n d || is_some (turn_in ds p n))
told_push p n [] d = by (names_entry p n d) where
  by : (b : Bool) → is_some (cond b (Some d.turn) None) ≡ (b || false)
  by true = refl
  by false = refl
told_push p n (x ∷ xs) d = by (names_entry p n x) (names_entry p n d) (turn_in (xs ++ d ∷ []) p n) (turn_in xs p n) (told_push p n xs d) where
  by : (here new : Bool) (all old : Option ℕ) → is_some all ≡ (new || is_some old) → is_some (cond here (Some x.turn) all) ≡ (new || is_some (cond here (Some x.turn) old))
  by true true all old e = refl
  by true false all old e = refl
  by false new all old e = e

abbrev drained_in : ℕ → ℕ → Accesses → Bool
drained_in p n list = is_some (turn_in list.drains p n)

drained_more : (p n : ℕ) (e : Event) (o : Outcome) (list : Accesses) → drained_in p n (with_record_in e o list) ≡ ((eqb (cpu_number e.cpu) p && drains n o) || drained_in p n list)
drained_more p n e (outcome.Access a) list = no_write (eqb (cpu_number e.cpu) p) (drained_in p n list)
drained_more p n e (outcome.Polled pending entered turn) list = no_write (eqb (cpu_number e.cpu) p) (drained_in p n list)
drained_more p n e outcome.NoAccess list = no_write (eqb (cpu_number e.cpu) p) (drained_in p n list)
drained_more p n e (outcome.Filled bank line turn) list = no_write (eqb (cpu_number e.cpu) p) (drained_in p n list)
drained_more p n e (outcome.Drained entry line turn) list = told_push p n list.drains (record { cpu = e.cpu; entry = entry; turn = turn })
drained_more p n e (outcome.Taken line turn gone) list = no_write (eqb (cpu_number e.cpu) p) (drained_in p n list)
drained_more p n e outcome.Done list = no_write (eqb (cpu_number e.cpu) p) (drained_in p n list)

pub drained_is : (p n room : ℕ) (h : List Record) → drained_in p n (list_of room h) ≡ is_drained p n h
drained_is p n room [] = refl
drained_is p n room (r ∷ h) = drained_more p n r.event r.outcome (list_of room h) ∙ ap (λ b. (is_of p r && drains n r.outcome) || b) (drained_is p n room h)

-- ---- the place for one record more

none_of : (o : Option ℕ) → is_some o ≡ false → o ≡ None
none_of None e = refl
none_of (Some x) e = absurd (false≢true (sym e))

abbrev state_by : Bool → Bool → EntryState
state_by drain write = cond drain Drained (cond write Waiting Unwritten)

not_drained : (d w : Bool) → is_undrained (state_by d w) ≡ true → d ≡ false
not_drained true w e = absurd (false≢true e)
not_drained false w e = refl

waiting_parts : (d w : Bool) → is_waiting (state_by d w) ≡ true → (w ≡ true) × (d ≡ false)
waiting_parts true w e = absurd (false≢true e)
waiting_parts false true e = (refl, refl)
waiting_parts false false e = absurd (false≢true e)

pub has_place : (room : ℕ) (h : List Record) (e : Event) (o : Outcome) → AllByRecursion IsSpelledRecord h → names_well (cpu_number e.cpu) o h ≡ true → HasPlaceFor (list_of room h) e o
has_place room h e (outcome.Access a) all well = by a.place well where
  by : (at : Place) → Rattle.axp_history.specs.Entries.is_placed_well (cpu_number e.cpu) at h ≡ true → Rattle.axp_access.specs.Lists.IsUndrained (list_of room h).drains (cpu_number e.cpu) at
  by (Entry n) well = none_of (turn_in (list_of room h).drains (cpu_number e.cpu) n) (drained_is (cpu_number e.cpu) n room h ∙ not_drained (is_drained (cpu_number e.cpu) n h) (is_written (cpu_number e.cpu) n h) well)
  by (At turn) well = tt
  by Absent well = tt
has_place room h e (outcome.Drained n line turn) all well =
    let parts = waiting_parts (is_drained (cpu_number e.cpu) n h) (is_written (cpu_number e.cpu) n h) well in
    (written_is (cpu_number e.cpu) n room h all ∙ parts.0, none_of (turn_in (list_of room h).drains (cpu_number e.cpu) n) (drained_is (cpu_number e.cpu) n room h ∙ parts.1))
has_place room h e outcome.NoAccess all well = tt
has_place room h e (outcome.Filled bank line turn) all well = tt
has_place room h e (outcome.Taken line turn gone) all well = tt
has_place room h e outcome.Done all well = tt
has_place room h e (outcome.Polled pending entered turn) all well = tt

-- ---- how many

count_more : (e : Event) (o : Outcome) (list : Accesses) → length (with_record_in e o list).items ≡ length list.items + count_in o
count_more e (outcome.Access a) list = length_push list.items a ∙ omega arith
count_more e (outcome.Polled pending entered turn) list = length_push list.items _ ∙ omega arith
count_more e outcome.NoAccess list = omega arith
count_more e (outcome.Filled bank line turn) list = omega arith
count_more e (outcome.Drained entry line turn) list = omega arith
count_more e (outcome.Taken line turn gone) list = omega arith
count_more e outcome.Done list = omega arith

pub count_is : (room : ℕ) (h : List Record) → length (list_of room h).items ≡ accesses_of h
count_is room [] = refl
count_is room (r ∷ h) = count_more r.event r.outcome (list_of room h) ∙ ap (λ n. n + count_in r.outcome) (count_is room h)

room_more : (e : Event) (o : Outcome) (list : Accesses) → (with_record_in e o list).room ≡ list.room
room_more e (outcome.Access a) list = refl
room_more e (outcome.Polled pending entered turn) list = refl
room_more e outcome.NoAccess list = refl
room_more e (outcome.Filled bank line turn) list = refl
room_more e (outcome.Drained entry line turn) list = refl
room_more e (outcome.Taken line turn gone) list = refl
room_more e outcome.Done list = refl

pub room_is : (room : ℕ) (h : List Record) → (list_of room h).room ≡ room
room_is room [] = refl
room_is room (r ∷ h) = room_more r.event r.outcome (list_of room h) ∙ room_is room h
