-- The closed form of a source: the newest own write that waits, else the latest write that reached memory
-- by the place of the read.
use Rattle.std.proofs.Common.{true, false, ℕ, ◌+◌, ◌<◌, ◌≤◌, ◌≡◌, ⊎_elim, eqb, ltb, leb, Bool, not, ◌&&◌, ◌||◌, List, [], ◌∷◌, ◌++◌, length, Option, Some, None, refl, sym, ap, ◌∙◌, subst, arith}
use Rattle.std.specs.List.{AllByRecursion, find}
use Rattle.std.specs.Option.{option_or}
use Rattle.std.specs.declared.cmp.Ordering.{Ordering}
use Rattle.std.specs.declared.cmp.Ordering.TheVariants.{Less}
use Rattle.std.specs.Ordering.{ordering_then, nat_cmp, bool_cmp, is_lt}
use Rattle.std.proofs.lemmas.Bool.{cases_Bool, and_parts, cases_lt, lt-ltb, le-ltb, le-leb, lt-leb, leb-true, ltb-true, eq-eqb, eqb-true, false≢true}
use Rattle.axp_regs.specs.declared.asks.Kind.TheVariants as kind
use Rattle.axp_access.specs.declared.Access.{Access}
use Rattle.axp_access.specs.declared.Place.TheVariants.{At}
use Rattle.axp_access.specs.declared.Record.{Record}
use Rattle.axp_model.specs.Records.{fills, locks, access_in}
use Rattle.axp_access.specs.Kinds.{is_fetch, is_memory_write, is_write, is_signal, has_byte}
use Rattle.axp_base.specs.Lines.{line_of}
use Rattle.axp_model.specs.Turns.{turns, stamp}
use Rattle.axp_model.specs.Accesses.{accesses, with_access, times}
use Rattle.axp_access.specs.Numbering.{NumberedAccess, cpu_of}
use Rattle.axp_access.specs.Order.{Times, Spot, spot, key, key_before, before, precedes}
use Rattle.axp_model.specs.Sources.{is_visible, latest, can_give, source}
use Rattle.axp_model.specs.Memory.{is_placed_by, is_waiting, has_reached, memory_source, own_waits, newest_waiting}
use Rattle.axp_model.specs.Issue.{AllPairs}
use Rattle.axp_model.specs.Processors.{IsInLine}
use Rattle.axp_laws.proofs.RunFacts.{FitsOutcome, Fitting, KnownItem, RunFacts}
use Rattle.axp_laws.proofs.OrderCounts.{turns_grow, stamp_grows}
use Rattle.axp_laws.proofs.OrderKeys.{at_key}
use Rattle.axp_laws.proofs.RunSteps.{kept}
use Rattle.axp_laws.proofs.SourceStays.{latest_now, each_all}
use Rattle.axp_laws.proofs.SourceValues.{source_stays}
use Rattle.axp_laws.proofs.SourceForwarded.{own_is_source, mem_placed}
use Rattle.axp_laws.proofs.SourceTurns.{Settles, OnPlace, Settled, settled}
use Rattle.axp_laws.proofs.LateReached.{turns_on_turn}

-- a write is BEFORE a read exactly where it has a number that is not above the read's
lt_by : (s n : ℕ) (rest : Ordering) → rest ≡ Less → is_lt (ordering_then (nat_cmp s n) rest) ≡ leb s n
lt_by s n rest less =
    ⊎_elim
    (λ (lt : s < n). rw (lt-ltb s n lt, le-leb s n (omega arith)) refl)
    (λ (ge : n ≤ s). ⊎_elim
    (λ (same : eqb s n ≡ true). let number : s ≡ n = eqb-true s n same in rw (le-ltb s n (omega arith), same, le-leb s n (omega arith), less) refl)
    (λ (other : eqb s n ≡ false). rw (le-ltb s n (omega arith), other) (sym (lt-leb s n (above s n ge other))))
    (cases_Bool (eqb s n)))
    (cases_lt s n) where
      above : (s n : ℕ) → n ≤ s → eqb s n ≡ false → n < s
      above s n ge other = ⊎_elim (λ (lt : n < s). lt) (λ (le : s ≤ n). absurd (false≢true (sym other ∙ same_eqb s n (omega arith)))) (cases_lt n s) where
        same_eqb : (s n : ℕ) → s ≡ n → eqb s n ≡ true
        same_eqb s n e = rw e (grind arith)

write_before : (s : Spot) (c u n d v : ℕ) → key_before (record { spot = s; other = false; cpu = c; number = u }) (at_key n true d v) ≡ is_placed_by n s
unfolding key_before
write_before s c u n d v = by_spot s.placed s.last s.place where
  by_spot : (placed last : Bool) (place : ℕ) → ((placed && true) && is_lt (ordering_then (bool_cmp last false) (ordering_then (nat_cmp place n) Less))) ≡ (placed && (not last && leb place n))
  by_spot false last place = refl
  by_spot true true place = refl
  by_spot true false place = lt_by place n Less refl

before_by : (t : Times) (u v : NumberedAccess) (n : ℕ) → is_memory_write u.access ≡ true → is_write v.access ≡ false → v.access.place ≡ At n → before t u v ≡ is_placed_by n (spot t u.access.cpu.number u.access.place)
before_by t u v n w reads vat =
    ap (λ o. key_before (record { spot = spot t u.access.cpu.number u.access.place; other = o; cpu = u.access.cpu.number; number = u.number }) (key t v)) (ap (λ b. not (b || is_signal u.access.kind)) w)
    ∙ ap (λ o. key_before (record { spot = spot t u.access.cpu.number u.access.place; other = false; cpu = u.access.cpu.number; number = u.number }) (record { spot = spot t v.access.cpu.number v.access.place; other = o; cpu = v.access.cpu.number; number = v.number })) (ap not reads)
    ∙ ap (λ p. key_before (record { spot = spot t u.access.cpu.number u.access.place; other = false; cpu = u.access.cpu.number; number = u.number }) (record { spot = spot t v.access.cpu.number p; other = true; cpu = v.access.cpu.number; number = v.number })) vat
    ∙ write_before (spot t u.access.cpu.number u.access.place) u.access.cpu.number u.number n v.access.cpu.number v.number

pub and_same : (a b x y : Bool) → (a ≡ true → b ≡ true → x ≡ y) → (a && (b && x)) ≡ (a && (b && y))
and_same true true x y same = same refl refl
and_same true false x y same = refl
and_same false b x y same = refl

or_false : (b : Bool) → (b || false) ≡ b
or_false true = refl
or_false false = refl

-- to a fetch all and only those writes are visible that reached memory by its place
fetch_gives : (t : Times) (n at : ℕ) (v u : NumberedAccess) → is_fetch v.access.kind ≡ true → is_write v.access ≡ false → v.access.place ≡ At n → can_give t at v u ≡ has_reached t n at u
fetch_gives t n at v u fetch reads vat =
    and_same (is_memory_write u.access) (has_byte at u.access) (is_visible t u v) (is_placed_by n (spot t u.access.cpu.number u.access.place))
    (λ w _. ap (λ b. before t u v || (not b && precedes u v)) fetch ∙ or_false (before t u v) ∙ before_by t u v n w reads vat)

pub latest_same : (t : Times) (p q : NumberedAccess → Bool) (us : List NumberedAccess) → AllByRecursion (λ u. q u ≡ p u) us → latest t q us ≡ latest t p us
latest_same t p q us tests = latest_now t t p q us tests (pairs_refl us) where
  pairs_refl : (us : List NumberedAccess) → AllPairs (λ y x. p y ≡ true → p x ≡ true → before t y x ≡ before t y x) us
  pairs_refl [] = tt
  pairs_refl (x ∷ us) = (each_all (λ y. p y ≡ true → p x ≡ true → before t y x ≡ before t y x) us (λ y _ _. refl), pairs_refl us)

-- the source of a fetch
pub fetch_source : (t : Times) (n at : ℕ) (v : NumberedAccess) (us : List NumberedAccess) → is_fetch v.access.kind ≡ true → is_write v.access ≡ false → v.access.place ≡ At n → source t at v us ≡ memory_source t n at us
fetch_source t n at v us fetch reads vat = latest_same t (has_reached t n at) (can_give t at v) us (each_all (λ u. can_give t at v u ≡ has_reached t n at u) us (λ u. fetch_gives t n at v u fetch reads vat))

-- a fetch after the first n turns
abbrev some_fetch : ℕ → NumberedAccess
some_fetch n = record { number = 0; parts = 0; access = record { cpu = record { number = 0; below = refl }; kind = kind.Fetch; address = 0; size = 0; value = 0; yes = false; place = At n } }

-- what memory is after turns that were made stays
pub memory_step : (n at : ℕ) (r : Record) (h : List Record) → FitsOutcome r.event.cpu.number r.outcome h → RunFacts h → n ≤ turns h → memory_source (times (r ∷ h)) n at (accesses (r ∷ h)) ≡ memory_source (times h) n at (accesses h)
memory_step n at r h fit kept less =
    sym (fetch_source (times (r ∷ h)) n at (some_fetch n) (accesses (r ∷ h)) refl refl refl)
    ∙ source_stays at n (some_fetch n) r.event r.outcome h fit kept refl less (omega arith)
    ∙ fetch_source (times h) n at (some_fetch n) (accesses h) refl refl refl

turns_along : (more h : List Record) → turns h ≤ turns (more ++ h)
turns_along [] h = omega arith
turns_along (r ∷ more) h = omega (arith, turns_along more h, turns_grow r (more ++ h))

fits_along : (more h : List Record) → Fitting (more ++ h) → Fitting h
fits_along [] h fit = fit
fits_along (r ∷ more) h fit = fits_along more h fit.1

pub memory_stays : (n at : ℕ) (more h : List Record) → Fitting (more ++ h) → n ≤ turns h → memory_source (times (more ++ h)) n at (accesses (more ++ h)) ≡ memory_source (times h) n at (accesses h)
memory_stays n at [] h fit less = refl
memory_stays n at (r ∷ more) h fit less =
    memory_step n at r (more ++ h) fit.0 (kept (more ++ h) fit.1) (omega (arith, less, turns_along more h)) ∙ memory_stays n at more h fit.1 less

accesses_grow : (r : Record) (h : List Record) → length (accesses h) ≤ length (accesses (r ∷ h))
accesses_grow r h = by_access (access_in r.event.cpu r.outcome) where
  by_access : (o : Option Access) → length (accesses h) ≤ length (with_access o (accesses h))
  by_access None = omega arith
  by_access (Some a) = omega arith

accesses_along : (more h : List Record) → length (accesses h) ≤ length (accesses (more ++ h))
accesses_along [] h = omega arith
accesses_along (r ∷ more) h = omega (arith, accesses_along more h, accesses_grow r (more ++ h))

-- and so does the source of a read or fetch that was made
pub source_stays_along : (b s : ℕ) (v : NumberedAccess) (more h : List Record) → Fitting (more ++ h) → v.access.place ≡ At s → s ≤ turns h → v.number < length (accesses h) + 1 → source (times (more ++ h)) b v (accesses (more ++ h)) ≡ source (times h) b v (accesses h)
source_stays_along b s v [] h fit vat less first = refl
source_stays_along b s v (r ∷ more) h fit vat less first =
    source_stays b s v r.event r.outcome (more ++ h) fit.0 (kept (more ++ h) fit.1) vat (omega (arith, less, turns_along more h)) (omega (arith, first, accesses_along more h))
    ∙ source_stays_along b s v more h fit.1 vat less first

-- own turns on a line are not above its stamp
or_true : (a b : Bool) → (a || (b || true)) ≡ true
or_true true b = refl
or_true false true = refl
or_true false false = refl

pub stamp_settles : (q l : ℕ) → Settles q l (λ t h. t ≤ stamp q l h)
stamp_settles q l = record {
  stays = λ t r h less. omega (arith, less, stamp_grows q l r h);
  comes = λ r h own on.
      let here : stamp q l (r ∷ h) ≡ turns (r ∷ h) = rw own (rw on (rw (or_true (fills l r.outcome) (locks l r.outcome)) refl)) in
      let one : turns (r ∷ h) ≡ turns h + 1 = rw (turns_on_turn l r.outcome on) refl in
      omega (arith, here, one);
}

-- a byte lies in the line of an access that has it
pub byte_line : (at : ℕ) (a : Access) → IsInLine a.address a.size → has_byte at a ≡ true → line_of at ≡ line_of a.address
byte_line at a inside e =
    let both = and_parts (leb a.address at) (ltb at (a.address + a.size)) e in
    let low : a.address ≤ at = leb-true a.address at both.0 in
    let high : at < a.address + a.size = ltb-true at (a.address + a.size) both.1 in
    let within = inside.within in
    omega arith

is_by_from : (s : Spot) (n : ℕ) → s.placed ≡ true → s.last ≡ false → s.place ≤ n → is_placed_by n s ≡ true
is_by_from s n placed last less = rw (placed, last, le-leb s.place n less) refl

waiting_from : (s : Spot) → s.placed ≡ true → is_waiting s ≡ false → s.last ≡ false
waiting_from s placed e = rw placed at e

-- an own earlier write of the byte that does not wait reached memory by the stamp
own_reached : (h : List Record) (p at n : ℕ) (u : NumberedAccess) → KnownItem h u → Settled p (line_of at) (λ t k. t ≤ stamp p (line_of at) k) h u → stamp p (line_of at) h ≤ n → cpu_of u ≡ p
    → is_memory_write u.access ≡ true → has_byte at u.access ≡ true → own_waits (times h) at p u ≡ false → is_placed_by n (spot (times h) u.access.cpu.number u.access.place) ≡ true
own_reached h p at n u known was less who w b none =
    let s : Spot = spot (times h) u.access.cpu.number u.access.place in
    let placed : s.placed ≡ true = mem_placed u.access.kind u.access.cpu.number (line_of u.access.address) u.parts u.access.yes u.access.place h w known.known in
    let still : is_waiting s ≡ false = rw (eq-eqb u.access.cpu.number p who) at (rw w at (rw b at none)) in
    let last : s.last ≡ false = waiting_from s placed still in
    let line : line_of u.access.address ≡ line_of at = sym (byte_line at u.access known.inside b) in
    let own : OnPlace (λ t. t ≤ stamp p (line_of at) h) (spot (times h) p u.access.place) = was w who line in
    let bound : s.place ≤ stamp p (line_of at) h = (subst (λ q. OnPlace (λ t. t ≤ stamp p (line_of at) h) (spot (times h) q u.access.place)) (sym who) own) last in
    is_by_from s n placed last (omega (arith, bound, less))

-- to a read that no own write of the byte waits for, all and only those writes are visible that reached
-- memory by its place
read_gives : (h : List Record) (p at n : ℕ) (v u : NumberedAccess) → KnownItem h u → Settled p (line_of at) (λ t k. t ≤ stamp p (line_of at) k) h u → stamp p (line_of at) h ≤ n → cpu_of v ≡ p → is_write v.access ≡ false → v.access.place ≡ At n
    → own_waits (times h) at p u ≡ false → can_give (times h) at v u ≡ has_reached (times h) n at u
read_gives h p at n v u known was less who reads vat none =
    and_same (is_memory_write u.access) (has_byte at u.access) (is_visible (times h) u v) (is_placed_by n (spot (times h) u.access.cpu.number u.access.place))
    (λ w b. ap (λ x. x || (not (is_fetch v.access.kind) && precedes u v)) (before_by (times h) u v n w reads vat) ∙ absorbed (is_placed_by n (spot (times h) u.access.cpu.number u.access.place)) (not (is_fetch v.access.kind) && precedes u v)
    (λ e. let first = and_parts (eqb u.access.cpu.number v.access.cpu.number) (ltb u.number v.number) (and_parts (not (is_fetch v.access.kind)) (precedes u v) e).1 in
    own_reached h p at n u known was less (eqb-true u.access.cpu.number v.access.cpu.number first.0 ∙ who) w b none)) where
      absorbed : (a b : Bool) → (b ≡ true → a ≡ true) → (a || b) ≡ a
      absorbed true b f = refl
      absorbed false true f = sym (f refl)
      absorbed false false f = refl

pub find_none : (p : NumberedAccess → Bool) (us : List NumberedAccess) → find p us ≡ None → AllByRecursion (λ u. p u ≡ false) us
find_none p [] e = tt
find_none p (u ∷ us) e =
    ⊎_elim
    (λ (t : p u ≡ true). let never : Some u ≡ None = rw t at e in cc)
    (λ (f : p u ≡ false). (f, find_none p us (rw f at e)))
    (cases_Bool (p u))

pub find_some : (p : NumberedAccess → Bool) (Q : NumberedAccess → Type 0) (us : List NumberedAccess) (u : NumberedAccess) → find p us ≡ Some u → AllByRecursion Q us → Q u × (p u ≡ true)
find_some p Q [] u e all = cc
find_some p Q (x ∷ us) u e all =
    ⊎_elim
    (λ (t : p x ≡ true). let found : Some x ≡ Some u = rw t at e in let same : x ≡ u = cc in (subst Q same all.0, subst (λ y. p y ≡ true) same t))
    (λ (f : p x ≡ false). find_some p Q us u (rw f at e) all.1)
    (cases_Bool (p x))

each_gives : (h : List Record) (p at n : ℕ) (v : NumberedAccess) → stamp p (line_of at) h ≤ n → cpu_of v ≡ p → is_write v.access ≡ false → v.access.place ≡ At n → (us : List NumberedAccess) → AllByRecursion (KnownItem h) us
    → AllByRecursion (Settled p (line_of at) (λ t k. t ≤ stamp p (line_of at) k) h) us → AllByRecursion (λ u. own_waits (times h) at p u ≡ false) us → AllByRecursion (λ u. can_give (times h) at v u ≡ has_reached (times h) n at u) us
each_gives h p at n v less who reads vat [] known was none = tt
each_gives h p at n v less who reads vat (u ∷ us) known was none =
    (read_gives h p at n v u known.0 was.0 less who reads vat none.0, each_gives h p at n v less who reads vat us known.1 was.1 none.1)

-- the source of a new read: what it forwards, else what memory has at its place
pub read_source : (h : List Record) (p at n : ℕ) (v : NumberedAccess) → Fitting h → is_fetch v.access.kind ≡ false → is_write v.access ≡ false → cpu_of v ≡ p → v.access.place ≡ At n → stamp p (line_of at) h ≤ n → length (accesses h) < v.number
    → (o : Option NumberedAccess) → newest_waiting p at h ≡ o → source (times h) at v (accesses h) ≡ option_or o (memory_source (times h) n at (accesses h))
read_source h p at n v fit no_fetch reads who vat less later (Some u) found =
    let k = kept h fit in
    let there = find_some (own_waits (times h) at p) (KnownItem h) (accesses h) u found k.items in
    own_is_source h at n v u k no_fetch vat later there.0 (rw who there.1) (rw who found)
read_source h p at n v fit no_fetch reads who vat less later None found =
    let k = kept h fit in
    latest_same (times h) (has_reached (times h) n at) (can_give (times h) at v) (accesses h)
    (each_gives h p at n v less who reads vat (accesses h) k.items (settled p (line_of at) (λ t h. t ≤ stamp p (line_of at) h) (stamp_settles p (line_of at)) h fit) (find_none (own_waits (times h) at p) (accesses h) found))
