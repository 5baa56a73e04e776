-- Every history of records that fit is kept.
use Rattle.std.proofs.Common.{true, false, ℕ, ◌+◌, ◌<◌, ◌≤◌, ◌≡◌, ◌⊎◌, inl, inr, ⊎_elim, eqb, ltb, cond, Bool, ◌&&◌, List, [], ◌∷◌, length, Option, Some, None, refl, sym, ap, ◌∙◌, arith}
use Rattle.std.proofs.lemmas.Bool.{cond_both, cond-false, cases_Bool, and_parts, and_right, or_cases, or_left, or_right, ltb-true, lt-ltb, eqb-true, eq-eqb, false≢true}
use Rattle.axp_base.specs.declared.processors.Cpu.{Cpu}
use Rattle.axp_base.specs.declared.lines.Line.{Line}
use Rattle.axp_regs.specs.declared.asks.Kind.{Kind}
use Rattle.axp_regs.specs.declared.asks.Kind.TheVariants as kind
use Rattle.axp_access.specs.declared.Place.{Place}
use Rattle.axp_access.specs.declared.Place.TheVariants.{At, Entry, Absent}
use Rattle.axp_access.specs.declared.Access.{Access}
use Rattle.axp_access.specs.declared.Event.{Event}
use Rattle.axp_access.specs.declared.Outcome.{Outcome}
use Rattle.axp_access.specs.declared.Outcome.TheVariants as outcome
use Rattle.axp_access.specs.declared.Record.{Record}
use Rattle.axp_model.specs.Records.{is_of, makes_access, drains, access_in}
use Rattle.axp_access.specs.Kinds.{is_write, is_write_barrier}
use Rattle.axp_base.specs.Lines.{line_of}
use Rattle.axp_model.specs.Turns.{turns, drained}
use Rattle.axp_model.specs.Entries.{Waiting, buffer, least_age, has_closed, has_number, entry_for, entry_or, entry_joined}
use Rattle.axp_model.specs.Accesses.{times, accesses}
use Rattle.axp_access.specs.Numbering.{NumberedAccess, write_barriers_in}
use Rattle.axp_access.specs.Order.{Times, spot, spot_at, key_before, before, precedes}
use Rattle.axp_model.specs.Issue.{share_a_byte, is_demanded, issue_demands, barrier_demands, AllPairs, IsInOrder, KeepsOrder}
use Rattle.axp_laws.proofs.RunFacts.{Fits, FitsOutcome, Fitting, RunFacts, waits, Goes, Known, KnownItem, SoundBuffer, PairOk, Named}
use Rattle.axp_laws.proofs.OrderCounts.{drained_most}
use Rattle.axp_laws.proofs.OrderKeys.{at_key, last_key}
use Rattle.axp_laws.proofs.OrderCases.{acc, key_at, mark, overlap_line, most_of, less_v, last_v, wait_v, done_less, keeps, true_or_false}
use Rattle.std.specs.List.{AllByRecursion}
use Rattle.axp_model.specs.Outcomes.{IsRun}
use Rattle.axp_model.specs.Processors.{Processors, IsInLine, AreInLine}
use Rattle.axp_laws.proofs.RunRecords.{run_fits}
use Rattle.axp_laws.proofs.RunKnown.{known_step, known_new, sound_step, waits_has, joins_waits, IsAddressed}
use Rattle.axp_laws.proofs.OrderDrains.{Naming, drain_pair, least_most, of_age_waits, entry_write}

pub each_map : {X : Type 0} (P Q : X → Type 0) (xs : List X) → ((x : X) → P x → Q x) → AllByRecursion P xs → AllByRecursion Q xs
each_map P Q [] f e = tt
each_map P Q (x ∷ xs) f e = (f x e.0, each_map P Q xs f e.1)

each_pair : {X : Type 0} (K : X → Type 0) (P Q : X → X → Type 0) (v : X) (us : List X) → ((u : X) → K u → P u v → Q u v) → AllByRecursion K us → AllByRecursion (λ u. P u v) us → AllByRecursion (λ u. Q u v) us
each_pair K P Q v [] f k e = tt
each_pair K P Q v (u ∷ us) f k e = (f u k.0 e.0, each_pair K P Q v us f k.1 e.1)

pub pairs_map : {X : Type 0} (K : X → Type 0) (P Q : X → X → Type 0) (us : List X) → ((u v : X) → K u → K v → P u v → Q u v) → AllByRecursion K us → AllPairs P us → AllPairs Q us
pairs_map K P Q [] f k e = tt
pairs_map K P Q (v ∷ us) f k e = (each_pair K P Q v us (λ u ku. f u v ku k.0) k.1 e.0, pairs_map K P Q us f k.1 e.1)

-- a record that is no drain changes no place
pub turn_same : (r : Record) (h : List Record) → ((n : ℕ) → drains n r.outcome ≡ false) → (q m : ℕ) → drained (r ∷ h) q m ≡ drained h q m
turn_same r h none q m = cond-false (is_of q r && drains m r.outcome) (Some (turns h + 1)) (drained h q m) (and_right (is_of q r) (drains m r.outcome) (none m))

pub spot_same : (turn now : Times) (q : ℕ) (at : Place) → ((p m : ℕ) → now.drained p m ≡ turn.drained p m) → spot now q at ≡ spot turn q at
spot_same turn now q (At t) same = refl
spot_same turn now q (Entry m) same = ap spot_at (same q m)
spot_same turn now q Absent same = refl

before_same : (turn now : Times) (u v : NumberedAccess) → ((p m : ℕ) → now.drained p m ≡ turn.drained p m) → before turn u v ≡ true → before now u v ≡ true
before_same turn now u v same old = rw (spot_same turn now u.access.cpu.number u.access.place same, spot_same turn now v.access.cpu.number v.access.place same) old

pair_same : (turn now : Times) (u v : NumberedAccess) → ((p m : ℕ) → now.drained p m ≡ turn.drained p m) → PairOk turn u v → PairOk now u v
pair_same turn now u v same ok = record { first = ok.first; parts = ok.parts; issue = λ d. before_same turn now u v same (ok.issue d); barrier = λ d. before_same turn now u v same (ok.barrier d) }

-- ages
age_grows : (p : ℕ) (r : Record) (h : List Record) → (buffer p h).age ≤ (buffer p (r ∷ h)).age
age_grows p r h = ⊎_elim (λ own. rw own (cond_both (makes_access (λ a. is_write_barrier a.kind) r.outcome) ((buffer p h).age + 1) (buffer p h).age (λ x. (buffer p h).age ≤ x) (λ _. omega arith) (λ _. omega arith))) (λ foreign. rw foreign (omega arith)) (cases_Bool (is_of p r))

item_step : (r : Record) (h : List Record) → length (accesses h) ≤ length (accesses (r ∷ h)) → (u : NumberedAccess) → KnownItem h u → KnownItem (r ∷ h) u
item_step r h more u k = record {
  number = omega (arith, k.number, more);
  parts = omega (arith, k.parts, age_grows u.access.cpu.number r h);
  inside = k.inside;
  known = known_step u.access.kind u.access.cpu.number (line_of u.access.address) u.parts u.access.place r h k.known;
}

-- two writes that wait, the earlier in another entry: the later is not drained
stays : (h : List Record) (p n l : ℕ) (u v : NumberedAccess) → SoundBuffer (buffer p h) (drained h p) → Named n l (buffer p h).waiting → KnownItem h u → KnownItem h v → PairOk (times h) u v → u.access.cpu.number ≡ v.access.cpu.number → v.access.cpu.number ≡ p → ((issue_demands u v ≡ true) ⊎ (barrier_demands u v ≡ true)) → (m : ℕ) → u.access.place ≡ Entry m → v.access.place ≡ Entry n → drained h u.access.cpu.number m ≡ None → (m ≡ n → ⊥) → ⊥
stays h p n l u v sound named ku kv ok same here dem m um vn none apart =
    let xu = entry_write u.access.kind u.access.cpu.number (line_of u.access.address) u.parts m h (rw um at ku.known) in
    let xv = entry_write v.access.kind v.access.cpu.number (line_of v.access.address) v.parts n h (rw vn at kv.known) in
    let gu : Goes p (line_of u.access.address) u.parts (Entry m) h = rw (xu, um, same, here) at ku.known in
    let gv : Goes p (line_of v.access.address) v.parts (Entry n) h = rw (xv, vn, here) at kv.known in
    let es : List Waiting = (buffer p h).waiting in
    let nu : drained h p m ≡ None = rw (same, here) at none in
    let wu : waits m (line_of u.access.address) u.parts es ≡ true = gu nu in
    let found : waits n named.1.line.number (least_age es) es ≡ true = rw named.3 at (of_age_waits (least_age es) named.0 named.1 es named.2) in
    let nv : drained h p n ≡ None = (sound.waiting n (waits_has n named.1.line.number (least_age es) es found)).0 in
    let wv : waits n (line_of v.access.address) v.parts es ≡ true = gv nv in
    let young : v.parts ≡ least_age es = (sound.single n (line_of v.access.address) v.parts named.1.line.number (least_age es) wv found).1 in
    let least : least_age es ≤ u.parts = least_most m (line_of u.access.address) u.parts es wu in
    let most : u.parts ≤ v.parts = ok.parts same in
    ⊎_elim
    (λ issue.
    let both : is_demanded u.access v.access ≡ true = (and_parts (precedes u v) (is_demanded u.access v.access) issue).1 in
    let met : share_a_byte u.access.address u.access.size v.access.address v.access.size ≡ true = true_or_false (share_a_byte u.access.address u.access.size v.access.address v.access.size) (rw (xu, xv) at both) in
    let line : line_of u.access.address ≡ line_of v.access.address = overlap_line u.access.address u.access.size v.access.address v.access.size ku.inside kv.inside met in
    let age : u.parts ≡ v.parts = omega arith in
    apart (sound.unique m n (line_of u.access.address) u.parts wu (rw (line, age) wv)))
    (λ barrier. let less : u.parts < v.parts = ltb-true u.parts v.parts (and_parts (is_write u.access && is_write v.access) (ltb u.parts v.parts) (and_parts (precedes u v) ((is_write u.access && is_write v.access) && ltb u.parts v.parts) barrier).1).1 in omega arith)
    dem

-- a new write that a WMB parts from an earlier one
closed_waits : (n l g age : ℕ) (es : List Waiting) → waits n l g es ≡ true → g < age → has_closed age es ≡ true
closed_waits n l g age [] w less = w
closed_waits n l g age (x ∷ es) w less =
    ⊎_elim
    (λ here. let same : x.age ≡ g = eqb-true x.age g (and_parts (eqb x.line.number l) (eqb x.age g) (and_parts (eqb x.number n) (eqb x.line.number l && eqb x.age g) here).1).1 in or_left (ltb x.age age) (has_closed age es) (lt-ltb x.age age (omega arith)))
    (λ there. or_right (ltb x.age age) (has_closed age es) (closed_waits n l g age es there less))
    (or_cases (eqb x.number n && (eqb x.line.number l && eqb x.age g)) (waits n l g es) w)

-- an earlier write, where none of a closed group waits
parted_less : (k : Kind) (h : List Record) (c d : Cpu) (a s x g nu nv age : ℕ) (y : Bool) (at : Place) → Known k c.number (line_of a) g at h → is_write (acc c k a s x y at) ≡ true → g < age → has_closed age (buffer c.number h).waiting ≡ false → key_before (key_at (times h) c.number at (mark (acc c k a s x y at)) nu) (at_key (turns h + 1) false d.number nv) ≡ true
parted_less kind.Write h c d a s x g nu nv age y (Entry n) known w less none = done_less c.number d.number (turns h) (drained h c.number n) (turns h + 1) nu nv false (drained_most c.number n h) (λ e. false≢true (sym none ∙ closed_waits n (line_of a) g age (buffer c.number h).waiting (known e) less)) (omega arith)
parted_less kind.Write h c d a s x g nu nv age y (At n) known w less none = absurd known
parted_less kind.Write h c d a s x g nu nv age y Absent known w less none = absurd known
parted_less kind.WriteBarrier h c d a s x g nu nv age y at known w less none = cc
parted_less k h c d a s x g nu nv age y at known w less none = less_v (times h) c.number d.number at (turns h) (turns h + 1) nu nv (mark (acc c k a s x y at)) false (most_of k c.number (line_of a) g at h refl known) (omega arith)

waits_parted : (k : Kind) (turn : Times) (h : List Record) (c d : Cpu) (a s x g nu nv : ℕ) (y : Bool) (at : Place) → c.number ≡ d.number → nu < nv → Known k c.number (line_of a) g at h → is_write (acc c k a s x y at) ≡ true → key_before (key_at turn c.number at (mark (acc c k a s x y at)) nu) (last_key false d.number nv) ≡ true
waits_parted kind.Write turn h c d a s x g nu nv y (Entry n) same later known w = wait_v c.number d.number (turn.drained c.number n) nu nv same later
waits_parted kind.Write turn h c d a s x g nu nv y (At n) same later known w = absurd known
waits_parted kind.Write turn h c d a s x g nu nv y Absent same later known w = absurd known
waits_parted kind.WriteBarrier turn h c d a s x g nu nv y at same later known w = cc
waits_parted k turn h c d a s x g nu nv y at same later known w = last_v turn c.number d.number at (turns h) nu nv (mark (acc c k a s x y at)) false (most_of k c.number (line_of a) g at h refl known)

pub keeps_parted : (v : Kind) (k : Kind) (h : List Record) (c d : Cpu) (a s x b t z g nu nv : ℕ) (y w : Bool) (at vat : Place) → c.number ≡ d.number → nu < nv → Known k c.number (line_of a) g at h → Fits v d.number (line_of b) w vat h → (v ≡ kind.Write → (n : ℕ) → vat ≡ Entry n → drained h d.number n ≡ None) → is_write (acc c k a s x y at) ≡ true → is_write (acc d v b t z w vat) ≡ true → g < (buffer d.number h).age → key_before (key_at (times h) c.number at (mark (acc c k a s x y at)) nu) (key_at (times h) d.number vat (mark (acc d v b t z w vat)) nv) ≡ true
keeps_parted kind.Write k h c d a s x b t z g nu nv y w at vat same later known fit fresh uw vw less =
    let none : drained h d.number (entry_for (line_of b) (buffer d.number h)) ≡ None = fresh refl (entry_for (line_of b) (buffer d.number h)) fit in
    rw (fit, none) (waits_parted k (times h) h c d a s x g nu nv y at same later known uw)
keeps_parted kind.Conditional k h c d a s x b t z g nu nv y true at vat same later known fit fresh uw vw less = rw fit.0 (parted_less k h c d a s x g nu nv (buffer d.number h).age y at known uw less (rw same fit.2))
keeps_parted kind.Signal k h c d a s x b t z g nu nv y w at vat same later known fit fresh uw vw less = rw fit.0 (parted_less k h c d a s x g nu nv (buffer d.number h).age y at known uw less (rw same fit.1))
keeps_parted _ k h c d a s x b t z g nu nv y w at vat same later known fit fresh uw vw less = cc

-- what an access shows, in its record or as a Poll
abbrev pub Shows : Event → Outcome → Access → List Record → Type 0
Shows e o a h = (access_in e.cpu o ≡ Some a) × (a.cpu.number ≡ e.cpu.number) × IsInLine a.address a.size × Fits a.kind e.cpu.number (line_of a.address) a.yes a.place h × ((n : ℕ) → drains n o ≡ false) × Known a.kind e.cpu.number (line_of a.address) (buffer e.cpu.number h).age a.place (record { event = e; outcome = o } ∷ h)

abbrev pub new_item : List Record → Access → NumberedAccess
new_item h a = record { number = length (accesses h) + 1; parts = write_barriers_in a.cpu.number (accesses h); access = a }

joins_has : (l g m : ℕ) (es : List Waiting) → entry_joined l g es ≡ Some m → has_number m es ≡ true
joins_has l g m es e = waits_has m l g es (joins_waits l g m es e)

fresh_of : (p l : ℕ) (h : List Record) → SoundBuffer (buffer p h) (drained h p) → (o : Option ℕ) → entry_joined l (buffer p h).age (buffer p h).waiting ≡ o → drained h p (entry_or o ((buffer p h).made + 1)) ≡ None
fresh_of p l h sound None e = sound.above ((buffer p h).made + 1) (omega arith)
fresh_of p l h sound (Some m) e = (sound.waiting m (joins_has l (buffer p h).age m (buffer p h).waiting e)).0

pub fresh_entry : (p l : ℕ) (h : List Record) → SoundBuffer (buffer p h) (drained h p) → drained h p (entry_for l (buffer p h)) ≡ None
fresh_entry p l h sound = fresh_of p l h sound (entry_joined l (buffer p h).age (buffer p h).waiting) refl

-- the entry of a new plain write is not drained
pub fresh_at : (h : List Record) (e : Event) (a : Access) → a.cpu.number ≡ e.cpu.number → Fits a.kind e.cpu.number (line_of a.address) a.yes a.place h → RunFacts h → a.kind ≡ kind.Write → (n : ℕ) → a.place ≡ Entry n → drained h a.cpu.number n ≡ None
fresh_at h e a same fit kept w n at =
    let fit_w : a.place ≡ Entry (entry_for (line_of a.address) (buffer e.cpu.number h)) = rw w at fit in
    let number : n ≡ entry_for (line_of a.address) (buffer e.cpu.number h) = cc in
    rw (number, same) (fresh_entry e.cpu.number (line_of a.address) h (kept.sound e.cpu.number))

pair_new : (h : List Record) (e : Event) (o : Outcome) (a : Access) (u v : NumberedAccess) → RunFacts h → Shows e o a h → v ≡ record { number = length (accesses h) + 1; parts = write_barriers_in a.cpu.number (accesses h); access = a } → KnownItem h u → PairOk (times h) u v
pair_new h e o a u v kept shows is ku = rw is (record {
  first = omega (arith, ku.number);
  parts = λ same. omega (arith, ku.parts, kept.age a.cpu.number, ap (λ p. (buffer p h).age) same);
  issue = λ d.
      let x = and_parts (precedes u (new_item h a)) (is_demanded u.access a) d in
      let y = and_parts (eqb u.access.cpu.number a.cpu.number) (ltb u.number (length (accesses h) + 1)) x.0 in
      keeps a.kind u.access.kind h u.parts u.access.cpu a.cpu u.access.address u.access.size u.access.value a.address a.size a.value u.number (length (accesses h) + 1) u.access.yes a.yes u.access.place a.place (eqb-true u.access.cpu.number a.cpu.number y.0) (ltb-true u.number (length (accesses h) + 1) y.1) ku.inside shows.2 ku.known (rw shows.1 shows.3) (λ w n vat. fresh_at h e a shows.1 shows.3 kept w n vat) x.1;
  barrier = λ d.
      let x = and_parts (precedes u (new_item h a)) ((is_write u.access && is_write a) && ltb u.parts (write_barriers_in a.cpu.number (accesses h))) d in
      let y = and_parts (eqb u.access.cpu.number a.cpu.number) (ltb u.number (length (accesses h) + 1)) x.0 in
      let z = and_parts (is_write u.access && is_write a) (ltb u.parts (write_barriers_in a.cpu.number (accesses h))) x.1 in
      let w = and_parts (is_write u.access) (is_write a) z.0 in
      let less : u.parts < write_barriers_in a.cpu.number (accesses h) = ltb-true u.parts (write_barriers_in a.cpu.number (accesses h)) z.1 in
      keeps_parted a.kind u.access.kind h u.access.cpu a.cpu u.access.address u.access.size u.access.value a.address a.size a.value u.parts u.number (length (accesses h) + 1) u.access.yes a.yes u.access.place a.place (eqb-true u.access.cpu.number a.cpu.number y.0) (ltb-true u.number (length (accesses h) + 1) y.1) ku.known (rw shows.1 shows.3) (λ q n vat. fresh_at h e a shows.1 shows.3 kept q n vat) w.0 w.1 (omega (arith, less, kept.age a.cpu.number));
})

each_unit : {X : Type 0} (xs : List X) → AllByRecursion (λ (x : X). Unit {0}) xs
each_unit [] = tt
each_unit (x ∷ xs) = (tt, each_unit xs)

age_own : (p : ℕ) (r : Record) (h : List Record) (b : Bool) → is_of p r ≡ true → makes_access (λ x. is_write_barrier x.kind) r.outcome ≡ b → (buffer p (r ∷ h)).age ≡ cond b ((buffer p h).age + 1) (buffer p h).age
age_own p r h b own parts = rw own (rw parts refl)

age_access : (p : ℕ) (e : Event) (o : Outcome) (a : Access) (h : List Record) → a.cpu.number ≡ e.cpu.number → makes_access (λ x. is_write_barrier x.kind) o ≡ is_write_barrier a.kind → write_barriers_in p (accesses h) ≡ (buffer p h).age → write_barriers_in p (new_item h a ∷ accesses h) ≡ (buffer p (record { event = e; outcome = o } ∷ h)).age
age_access p e o a h same parts was =
    ⊎_elim
    (λ (own : eqb e.cpu.number p ≡ true). rw (age_own p (record { event = e; outcome = o }) h (is_write_barrier a.kind) own parts) (rw same (rw own (rw was refl))))
    (λ (foreign : eqb e.cpu.number p ≡ false). rw same (rw foreign was))
    (cases_Bool (eqb e.cpu.number p))

age_quiet : (p : ℕ) (r : Record) (h : List Record) → makes_access (λ x. is_write_barrier x.kind) r.outcome ≡ false → (buffer p h).age ≡ (buffer p (r ∷ h)).age
age_quiet p r h parts = ⊎_elim (λ (own : is_of p r ≡ true). sym (age_own p r h false own parts)) (λ (foreign : is_of p r ≡ false). rw foreign refl) (cases_Bool (is_of p r))

named_has : (p m q n l : ℕ) (h : List Record) → q ≡ p → n ≡ m → Named n l (buffer q h).waiting → has_number m (buffer p h).waiting ≡ true
named_has p m q n l h here number named =
    let es : List Waiting = (buffer q h).waiting in
    let found : waits named.1.number named.1.line.number (least_age es) es ≡ true = of_age_waits (least_age es) named.0 named.1 es named.2 in
    rw (← here, ← number, ← named.3) (waits_has named.1.number named.1.line.number (least_age es) es found)

pub naming_of : (e : Event) (n t : ℕ) (l : Line) (h : List Record) → Named n l.number (buffer e.cpu.number h).waiting → RunFacts h → Naming (times h) (times (record { event = e; outcome = outcome.Drained n l t } ∷ h)) e.cpu.number n (turns h + 1)
naming_of e n t l h named kept = record {
  was = ((kept.sound e.cpu.number).waiting n (named_has e.cpu.number n e.cpu.number n l.number h refl refl named)).0;
  is = rw (eq-eqb e.cpu.number e.cpu.number refl, eq-eqb n n refl) refl;
  other = λ q m apart. cond-false (eqb e.cpu.number q && eqb n m) (Some (turns h + 1)) (drained h q m) (⊎_elim (λ both. let x = and_parts (eqb e.cpu.number q) (eqb n m) both in absurd (apart (sym (eqb-true e.cpu.number q x.0), sym (eqb-true n m x.1)))) (λ f. f) (cases_Bool (eqb e.cpu.number q && eqb n m)));
}

drained_ok : (e : Event) (n t : ℕ) (l : Line) (h : List Record) → Named n l.number (buffer e.cpu.number h).waiting → RunFacts h → Naming (times h) (times (record { event = e; outcome = outcome.Drained n l t } ∷ h)) e.cpu.number n (turns h + 1) → (u v : NumberedAccess) → KnownItem h u → KnownItem h v → PairOk (times h) u v → ((issue_demands u v ≡ true) ⊎ (barrier_demands u v ≡ true)) → before (times h) u v ≡ true → precedes u v ≡ true → before (times (record { event = e; outcome = outcome.Drained n l t } ∷ h)) u v ≡ true
drained_ok e n t l h named kept naming u v ku kv ok dem old first =
    let y = and_parts (eqb u.access.cpu.number v.access.cpu.number) (ltb u.number v.number) first in
    let same : u.access.cpu.number ≡ v.access.cpu.number = eqb-true u.access.cpu.number v.access.cpu.number y.0 in
    drain_pair h e.cpu.number n (times (record { event = e; outcome = outcome.Drained n l t } ∷ h)) u v naming ku kv same (ltb-true u.number v.number y.1)
    (λ m um vn here none apart. stays h e.cpu.number n l.number u v (kept.sound e.cpu.number) named ku kv ok same here dem m um vn none apart) old

abbrev pub poll_access : Event → Bool → ℕ → Access
poll_access e v t = acc e.cpu kind.Poll 0 0 0 v (At t)

poll_fits : (e : Event) (v : Bool) (t : ℕ) (h : List Record) → t ≡ turns h → Fits kind.Poll e.cpu.number (line_of 0) v (At t) h
poll_fits e v t h is = ap (λ x. At x) is

poll_known : (e : Event) (v x : Bool) (t : ℕ) (h : List Record) → t ≡ turns h → Known kind.Poll e.cpu.number (line_of 0) (buffer e.cpu.number h).age (At t) (record { event = e; outcome = outcome.Polled v x t } ∷ h)
poll_known e v x t h is = omega arith

-- a record with an access
access_step : (e : Event) (o : Outcome) (a : Access) (h : List Record) → Shows e o a h → IsAddressed o → makes_access (λ x. is_write_barrier x.kind) o ≡ is_write_barrier a.kind → RunFacts h → RunFacts (record { event = e; outcome = o } ∷ h)
access_step e o a h shows low parts kept =
    let r : Record = record { event = e; outcome = o } in
    let none = turn_same r h shows.4 in
    let listed : accesses (r ∷ h) ≡ new_item h a ∷ accesses h = rw shows.0 refl in
    let more : length (accesses h) ≤ length (accesses (r ∷ h)) = rw listed (omega arith) in
    let new_is_known : KnownItem (r ∷ h) (new_item h a) = record { number = rw listed (omega arith); parts = omega (arith, kept.age a.cpu.number, age_grows a.cpu.number r h); inside = shows.2; known = rw (shows.1, kept.age e.cpu.number) shows.5 } in
    record {
      sound = λ p. sound_step p r h low (λ m own d. absurd (false≢true (sym (shows.4 m) ∙ d))) (kept.sound p);
      age = λ p. rw listed (age_access p e o a h shows.1 parts (kept.age p));
      items = rw listed (new_is_known, each_map (KnownItem h) (KnownItem (r ∷ h)) (accesses h) (item_step r h more) kept.items);
      pairs = rw listed (
        each_pair (KnownItem h) (λ u v. Unit {0}) (PairOk (times (r ∷ h))) (new_item h a) (accesses h) (λ u ku _. pair_same (times h) (times (r ∷ h)) u (new_item h a) none (pair_new h e o a u (new_item h a) kept shows refl ku)) kept.items (each_unit (accesses h)),
        pairs_map (KnownItem h) (PairOk (times h)) (PairOk (times (r ∷ h))) (accesses h) (λ u v ku kv ok. pair_same (times h) (times (r ∷ h)) u v none ok) kept.items kept.pairs,
      );
    }

-- a record without one that is no drain
quiet_step : (e : Event) (o : Outcome) (h : List Record) → access_in e.cpu o ≡ None → IsAddressed o → ((n : ℕ) → drains n o ≡ false) → makes_access (λ x. is_write_barrier x.kind) o ≡ false → RunFacts h → RunFacts (record { event = e; outcome = o } ∷ h)
quiet_step e o h gone low still parts kept =
    let r : Record = record { event = e; outcome = o } in
    let listed : accesses (r ∷ h) ≡ accesses h = rw gone refl in
    record {
      sound = λ p. sound_step p r h low (λ m own d. absurd (false≢true (sym (still m) ∙ d))) (kept.sound p);
      age = λ p. rw listed (kept.age p ∙ age_quiet p r h parts);
      items = rw listed (each_map (KnownItem h) (KnownItem (r ∷ h)) (accesses h) (item_step r h (rw listed (omega arith))) kept.items);
      pairs = rw listed (pairs_map (KnownItem h) (PairOk (times h)) (PairOk (times (r ∷ h))) (accesses h) (λ u v ku kv ok. pair_same (times h) (times (r ∷ h)) u v (turn_same r h still) ok) kept.items kept.pairs);
    }

-- a drain
drain_step : (e : Event) (n t : ℕ) (l : Line) (h : List Record) → Named n l.number (buffer e.cpu.number h).waiting → RunFacts h → RunFacts (record { event = e; outcome = outcome.Drained n l t } ∷ h)
drain_step e n t l h named kept =
    let r : Record = record { event = e; outcome = outcome.Drained n l t } in
    let naming = naming_of e n t l h named kept in
    record {
      sound = λ p. sound_step p r h tt (λ m own d. named_has p m e.cpu.number n l.number h (eqb-true e.cpu.number p own) (eqb-true n m d) named) (kept.sound p);
      age = λ p. kept.age p ∙ age_quiet p r h refl;
      items = each_map (KnownItem h) (KnownItem (r ∷ h)) (accesses h) (item_step r h (omega arith)) kept.items;
      pairs = pairs_map (KnownItem h) (PairOk (times h)) (PairOk (times (r ∷ h))) (accesses h) (λ u v ku kv ok. record {
        first = ok.first;
        parts = ok.parts;
        issue = λ d. drained_ok e n t l h named kept naming u v ku kv ok (inl d) (ok.issue d) (and_parts (precedes u v) (is_demanded u.access v.access) d).0;
        barrier = λ d. drained_ok e n t l h named kept naming u v ku kv ok (inr d) (ok.barrier d) (and_parts (precedes u v) ((is_write u.access && is_write v.access) && ltb u.parts v.parts) d).0;
      }) kept.items kept.pairs;
    }

pub kept_by : (e : Event) (o : Outcome) (h : List Record) → FitsOutcome e.cpu.number o h → RunFacts h → RunFacts (record { event = e; outcome = o } ∷ h)
kept_by e (outcome.Access a) h fit kept = access_step e (outcome.Access a) a h (refl, fit.0, fit.1, fit.2, λ n. refl, known_new a.kind e a.cpu a.address a.size a.value a.yes a.place h fit.1.addressed fit.2) fit.1.addressed refl kept
kept_by e outcome.NoAccess h fit kept = quiet_step e outcome.NoAccess h refl tt (λ n. refl) refl kept
kept_by e (outcome.Filled b l t) h fit kept = quiet_step e (outcome.Filled b l t) h refl tt (λ n. refl) refl kept
kept_by e (outcome.Drained n l t) h fit kept = drain_step e n t l h fit.1 kept
kept_by e (outcome.Taken l t g) h fit kept = quiet_step e (outcome.Taken l t g) h refl tt (λ n. refl) refl kept
kept_by e outcome.Done h fit kept = quiet_step e outcome.Done h refl tt (λ n. refl) refl kept
kept_by e (outcome.Polled v x t) h fit kept = access_step e (outcome.Polled v x t) (poll_access e v t) h (refl, refl, record { quadword = omega arith; within = omega arith; addressed = omega arith }, poll_fits e v t h fit.0, λ n. refl, poll_known e v x t h fit.0) tt refl kept

pub kept : (h : List Record) → Fitting h → RunFacts h
kept [] fit = record { sound = λ p. record { waiting = λ n e. absurd (false≢true e); above = λ n _. refl; single = λ n l g k f u w. absurd (false≢true u); unique = λ m n l g u w. absurd (false≢true u) }; age = λ p. refl; items = tt; pairs = tt }
kept (r ∷ h) fit = kept_by r.event r.outcome h fit.0 (kept h fit.1)

pub keeps_order : (image : ℕ → ℕ) (ps : Processors) (h : List Record) → AreInLine ps → IsRun image ps h → KeepsOrder h
keeps_order image ps h inside run =
    let k = kept h (run_fits image ps h inside run) in
    pairs_map (KnownItem h) (PairOk (times h)) (IsInOrder (times h)) (accesses h) (λ u v ku kv ok. record { issue = ok.issue; barrier = ok.barrier }) k.items k.pairs
