-- The table of entries, record by record.
use Rattle.std.proofs.Common.{◌≡◌, ◌≢◌, ℕ, ◌*◌, ◌<◌, ◌≤◌, Bool, true, false, ◌&&◌, ◌||◌, eqb, cond, List, [], ◌∷◌, ◌++◌, zero, suc, length, slice_get, slice_set, get_or, Some, refl, sym, ap, ◌∙◌, arith, ⊎_elim}
use Rattle.std.specs.List.{AllByRecursion}
use Rattle.std.proofs.lemmas.Bool.{cases_Bool, and_parts, and_from, eqb-true, eq-eqb, false≢true}
use Rattle.std.proofs.lemmas.List.{get_or-set_same, get_or-set_other, length-set}
use Rattle.std.proofs.lemmas.Option.{slice_get-get_or, get_or_from_slice_get, slice_get_read}
use Rattle.axp_base.specs.declared.processors.TheConstants.{MAX_CPUS, MAX_BUDGET}
use Rattle.axp_access.specs.declared.entry_states.EntryState.{EntryState}
use Rattle.axp_access.specs.declared.entry_states.EntryState.TheVariants.{Unwritten, Waiting, Drained}
use Rattle.axp_access.specs.declared.Record.{Record}
use Rattle.axp_model.specs.EntryStates.{entry_state, is_drained, is_written, writes_entry}
use Rattle.axp_model.specs.Records.{drains, is_of}
use Rattle.axp_history.specs.Entries.{is_undrained}
use Rattle.axp_history.specs.declared.entries.TheConstants.{ROW}
use Rattle.axp_history.specs.Tables.{IsDrainOf, IsWriteIn, Tells, index_of}

pub in_table : (states : List EntryState) (p n i : ℕ) → length states ≡ MAX_CPUS * ROW → p < MAX_CPUS → n ≤ MAX_BUDGET → i ≡ index_of p n → i < length states
in_table states p n i count few within is = omega (arith, count, few, within, is)

-- what the table has of an entry
pub state_read : (h : List Record) (states : List EntryState) (p n i : ℕ) (x : EntryState) → Tells h states → p < MAX_CPUS → n ≤ MAX_BUDGET → i ≡ index_of p n → x ≡ get_or states i x → entry_state p n h ≡ x
state_read h states p n i x tells few within is read =
    let found : slice_get states i ≡ Some x = slice_get_read states (length states) i x refl (in_table states p n i tells.count few within is) read in
    let told : slice_get states i ≡ Some (entry_state p n h) = rw is (tells.each p n few within) in
    cc

-- ---- one record more

-- the state of an entry that was drained, and written
abbrev state_by : Bool → Bool → EntryState
state_by drain write = cond drain Drained (cond write Waiting Unwritten)

written_state : (hit d w : Bool) → (hit ≡ true → is_undrained (state_by d w) ≡ true) → state_by d (hit || w) ≡ cond hit Waiting (state_by d w)
written_state true true w undrained = absurd (false≢true (undrained refl))
written_state true false w undrained = refl
written_state false d w undrained = refl

drained_state : (hit d w : Bool) → state_by (hit || d) w ≡ cond hit Drained (state_by d w)
drained_state true d w = refl
drained_state false d w = refl

and_false : (b : Bool) → (b && false) ≡ false
and_false true = refl
and_false false = refl

-- whether a record of processor p that names entry n names entry m of processor q
abbrev is_same : ℕ → ℕ → ℕ → ℕ → Bool
is_same p n q m = eqb p q && eqb n m

same_both : (p n q m : ℕ) → is_same p n q m ≡ true → (p ≡ q) × (n ≡ m)
same_both p n q m e = let both = and_parts (eqb p q) (eqb n m) e in (eqb-true p q both.0, eqb-true n m both.1)

state_written : (h : List Record) (r : Record) (p n : ℕ) → IsWriteIn p n r → is_undrained (entry_state p n h) ≡ true → (q m : ℕ) → entry_state q m (r ∷ h) ≡ cond (is_same p n q m) Waiting (entry_state q m h)
state_written h r p n write undrained q m =
    let no_drain : (is_of q r && drains m r.outcome) ≡ false = rw write.is (and_false (is_of q r)) in
    let hit : (is_of q r && writes_entry m r.outcome) ≡ is_same p n q m = rw (write.is, write.place, write.own) refl in
    rw (no_drain, hit) (written_state (is_same p n q m) (is_drained q m h) (is_written q m h) (λ e. let both = same_both p n q m e in rw (both.0, both.1) at undrained))

state_drained : (h : List Record) (r : Record) (p n : ℕ) → IsDrainOf p n r → (q m : ℕ) → entry_state q m (r ∷ h) ≡ cond (is_same p n q m) Drained (entry_state q m h)
state_drained h r p n drain q m =
    let no_write : (is_of q r && writes_entry m r.outcome) ≡ false = rw drain.is (and_false (is_of q r)) in
    let hit : (is_of q r && drains m r.outcome) ≡ is_same p n q m = rw (drain.is, drain.own) refl in
    rw (no_write, hit) (drained_state (is_same p n q m) (is_drained q m h) (is_written q m h))

-- entries of the table stand apart
one_place : (p n q m : ℕ) → n ≤ MAX_BUDGET → m ≤ MAX_BUDGET → index_of p n ≡ index_of q m → (p ≡ q) × (n ≡ m)
one_place p n q m least most e = let same : p ≡ q = omega (arith, least, most, e) in (same, omega (arith, same, e))

-- the table with one state changed is that of one record more
pub tells_more : (h : List Record) (r : Record) (states : List EntryState) (p n i : ℕ) (v : EntryState) → Tells h states → p < MAX_CPUS → n ≤ MAX_BUDGET → i ≡ index_of p n
    → ((q m : ℕ) → entry_state q m (r ∷ h) ≡ cond (is_same p n q m) v (entry_state q m h)) → Tells (r ∷ h) (slice_set states i v)
tells_more h r states p n i v tells few within is step = record { count = length-set states i v ∙ tells.count; each = each } where
  inside : (q m : ℕ) → q < MAX_CPUS → m ≤ MAX_BUDGET → index_of q m < length states
  inside q m low high = in_table states q m (index_of q m) tells.count low high refl

  was : (q m : ℕ) → q < MAX_CPUS → m ≤ MAX_BUDGET → get_or states (index_of q m) v ≡ entry_state q m h
  was q m low high = get_or_from_slice_get states (index_of q m) (entry_state q m h) v (tells.each q m low high)

  now : (q m : ℕ) → q < MAX_CPUS → m ≤ MAX_BUDGET → get_or (slice_set states i v) (index_of q m) v ≡ entry_state q m (r ∷ h)
  now q m low high = ⊎_elim
      (λ (hit : is_same p n q m ≡ true). let both = same_both p n q m hit in
      let here : get_or (slice_set states i v) (index_of q m) v ≡ v = rw (is, both.0, both.1) (get_or-set_same states (index_of q m) v v (inside q m low high)) in
      here ∙ sym (step q m ∙ rw hit refl))
      (λ (miss : is_same p n q m ≡ false). get_or-set_other states i (index_of q m) v v (apart q m high miss) ∙ was q m low high ∙ sym (step q m ∙ rw miss refl))
      (cases_Bool (is_same p n q m)) where
        apart : (q m : ℕ) → m ≤ MAX_BUDGET → is_same p n q m ≡ false → index_of q m ≢ i
        apart q m high miss e = let both = one_place q m p n high within (e ∙ is) in false≢true (sym miss ∙ and_from (eqb p q) (eqb n m) (eq-eqb p q (sym both.0)) (eq-eqb n m (sym both.1)))

  each : (q m : ℕ) → q < MAX_CPUS → m ≤ MAX_BUDGET → slice_get (slice_set states i v) (index_of q m) ≡ Some (entry_state q m (r ∷ h))
  each q m low high =
      let long : index_of q m < length (slice_set states i v) = let in_ = inside q m low high in let len = length-set states i v in omega (arith, in_, len) in
      slice_get-get_or (slice_set states i v) (index_of q m) v long ∙ ap (λ x. Some x) (now q m low high)

pub tells_write : (h : List Record) (r : Record) (states : List EntryState) (p n i : ℕ) (x : EntryState) (undrained : Bool) → Tells h states → p < MAX_CPUS → n ≤ MAX_BUDGET → i ≡ index_of p n → x ≡ get_or states i x → undrained ≡ is_undrained x → undrained ≡ true
    → IsWriteIn p n r → Tells (r ∷ h) (slice_set states i Waiting)
tells_write h r states p n i x undrained tells few within is read told yes_ write =
    tells_more h r states p n i Waiting tells few within is (state_written h r p n write (ap is_undrained (state_read h states p n i x tells few within is read) ∙ sym told ∙ yes_))

pub tells_drain : (h : List Record) (r : Record) (states : List EntryState) (p n i : ℕ) → Tells h states → p < MAX_CPUS → n ≤ MAX_BUDGET → i ≡ index_of p n
    → IsDrainOf p n r → Tells (r ∷ h) (slice_set states i Drained)
tells_drain h r states p n i tells few within is drain = tells_more h r states p n i Drained tells few within is (state_drained h r p n drain)

-- ---- the table of no record

pub unwritten_more : (states : List EntryState) → AllByRecursion (λ s. s ≡ Unwritten) states → AllByRecursion (λ s. s ≡ Unwritten) (states ++ Unwritten ∷ [])
unwritten_more [] all = (refl, tt)
unwritten_more (s ∷ states) all = (all.0, unwritten_more states all.1)

unwritten_at : (states : List EntryState) (i : ℕ) → AllByRecursion (λ s. s ≡ Unwritten) states → get_or states i Unwritten ≡ Unwritten
unwritten_at [] i all = refl
unwritten_at (s ∷ states) zero all = all.0
unwritten_at (s ∷ states) (suc i) all = unwritten_at states i all.1

pub tells_none : (states : List EntryState) → AllByRecursion (λ s. s ≡ Unwritten) states → length states ≡ MAX_CPUS * ROW → Tells [] states
tells_none states all count = record { count = count; each = λ p n few within. slice_get-get_or states (index_of p n) Unwritten (in_table states p n (index_of p n) count few within refl) ∙ ap (λ s. Some s) (unwritten_at states (index_of p n) all) }
