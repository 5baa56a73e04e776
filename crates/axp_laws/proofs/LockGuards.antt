-- Each STx_C that succeeds keeps the lock of its LDx_L from the writes of others.
use Rattle.std.proofs.Common.{true, false, suc, ℕ, ◌+◌, ◌<◌, ◌≤◌, ◌≡◌, ◌⊎◌, inl, inr, ⊎_elim, eqb, ltb, Bool, not, ◌&&◌, ◌||◌, List, [], ◌∷◌, length, slice_get, Option, Some, None, refl, sym, ap, ◌∙◌, subst, arith}
use Rattle.std.specs.List.{AllByRecursion}
use Rattle.std.specs.declared.cmp.Ordering.TheVariants.{Equal}
use Rattle.std.specs.Ordering.{nat_cmp}
use Rattle.std.proofs.lemmas.Bool.{cases_Bool, cases_lt, and_parts, and_from, or_left, or_right, eqb-true, eq-eqb, lt-ltb, ltb-true, false≢true}
use Rattle.axp_base.specs.Cpus.{cpu_number}
use Rattle.axp_base.specs.Blocks.{line_of_block}
use Rattle.axp_regs.specs.declared.asks.Kind.{Kind}
use Rattle.axp_regs.specs.declared.asks.Kind.TheVariants as kind
use Rattle.axp_access.specs.declared.Access.{Access}
use Rattle.axp_access.specs.declared.Event.{Event}
use Rattle.axp_access.specs.declared.Outcome.{Outcome}
use Rattle.axp_access.specs.declared.Outcome.TheVariants as outcome
use Rattle.axp_access.specs.declared.Place.{Place}
use Rattle.axp_access.specs.declared.Place.TheVariants.{At, Entry, Absent}
use Rattle.axp_access.specs.declared.Record.{Record}
use Rattle.axp_model.specs.Records.{is_of, drains}
use Rattle.axp_access.specs.Kinds.{is_locked, is_conditional, is_signal, is_success, is_memory_write, is_write}
use Rattle.axp_base.specs.Lines.{line_of}
use Rattle.axp_model.specs.Turns.{turns, drained}
use Rattle.axp_model.specs.Entries.{buffer, entry_for}
use Rattle.axp_model.specs.Accesses.{accesses, times}
use Rattle.axp_access.specs.Numbering.{NumberedAccess, cpu_of, next_access}
use Rattle.axp_access.specs.Order.{Times, Spot, spot, spot_at, Key, key, key_before, before}
use Rattle.axp_laws.specs.Counts.{last_other}
use Rattle.axp_model.specs.Locking.{is_locking, IsNotBetween, IsPaired, IsApart, HasLock, KeepsLocking}
use Rattle.axp_laws.proofs.RunFacts.{Fits, FitsOutcome, Fitting, AtMost, Known, KnownItem, RunFacts}
use Rattle.axp_laws.proofs.OrderCounts.{turns_grow}
use Rattle.axp_laws.proofs.OrderKeys.{at_key, at_last, at_less}
use Rattle.axp_laws.proofs.OrderDrains.{at_before_last}
use Rattle.axp_laws.proofs.LockRegisters.{block_line}
use Rattle.axp_laws.proofs.LockPairs.{Locker, locker, numbers}
use Rattle.axp_laws.proofs.LateOthers.{Bound, Seen, seen, each_both}
use Rattle.axp_laws.proofs.RunSteps.{each_map, kept, fresh_at, turn_same, spot_same}

-- a successful STx_C v among accesses us: its LDx_L, and the writes of others
record Guarded (us : List NumberedAccess) (t : Times) (n : ℕ) (v : NumberedAccess) : Type 0 where
  lock : NumberedAccess
  place : ℕ
  at : ℕ
  mine : ℕ
  listed : slice_get us place ≡ Some lock
  paired : IsPaired us lock v
  stands : lock.access.place ≡ At at
  own : v.access.place ≡ At mine
  within : mine ≤ n
  apart : AllByRecursion (IsApart t lock v) us

abbrev placed_at : ℕ → Spot
placed_at t = record { placed = true; last = false; place = t }

abbrev last_spot : Spot
last_spot = record { placed = true; last = true; place = 0 }

-- a record leaves where an access stands, or makes it the next turn
spot_step : (r : Record) (h : List Record) (q : ℕ) (at : Place) → (spot (times (r ∷ h)) q at ≡ spot (times h) q at) ⊎ (spot (times (r ∷ h)) q at ≡ placed_at (turns h + 1))
spot_step r h q (At t) = inl refl
spot_step r h q Absent = inl refl
spot_step r h q (Entry n) =
    ⊎_elim
    (λ (named : (is_of q r && drains n r.outcome) ≡ true). inr (rw named refl))
    (λ (other : (is_of q r && drains n r.outcome) ≡ false). inl (rw other refl))
    (cases_Bool (is_of q r && drains n r.outcome))

apart_step : (r : Record) (h : List Record) (at mine : ℕ) (u v w : NumberedAccess) → u.access.place ≡ At at → v.access.place ≡ At mine → mine ≤ turns h → IsApart (times h) u v w → IsApart (times (r ∷ h)) u v w
apart_step r h at mine u v w stands own within apart write other line =
    ⊎_elim
    (λ (same : spot (times (r ∷ h)) (cpu_of w) w.access.place ≡ spot (times h) (cpu_of w) w.access.place).
    let was : (before (times h) w u || before (times h) v w) ≡ true = apart write other line in
    rw (stands, own) (rw same (rw (stands, own) at was)))
    (λ (now : spot (times (r ∷ h)) (cpu_of w) w.access.place ≡ placed_at (turns h + 1)).
    or_right (before (times (r ∷ h)) w u) (before (times (r ∷ h)) v w)
    (rw own (rw now (at_less mine (turns h + 1) (cpu_of v) (cpu_of w) v.number w.number (not (is_write v.access)) (not (is_write w.access)) (omega arith)))))
    (spot_step r h (cpu_of w) w.access.place)

guarded_step : (us : List NumberedAccess) (r : Record) (h : List Record) (v : NumberedAccess) → Guarded us (times h) (turns h) v → Guarded us (times (r ∷ h)) (turns (r ∷ h)) v
guarded_step us r h v g = record {
  lock = g.lock;
  place = g.place;
  at = g.at;
  mine = g.mine;
  listed = g.listed;
  paired = g.paired;
  stands = g.stands;
  own = g.own;
  within = omega (arith, g.within, turns_grow r h);
  apart = each_map (IsApart (times h) g.lock v) (IsApart (times (r ∷ h)) g.lock v) us (λ w apart. apart_step r h g.at g.mine g.lock v w g.stands g.own g.within apart) g.apart;
}

-- where a memory write stands that is made now
abbrev IsNext : ℕ → Spot → Type 0
IsNext n s = (s ≡ last_spot) ⊎ (s ≡ placed_at (n + 1))

apart_new : (t : Times) (n mine : ℕ) (u v w : NumberedAccess) → v.access.place ≡ At mine → mine ≤ n → IsNext n (spot t (cpu_of w) w.access.place) → (before t w u || before t v w) ≡ true
apart_new t n mine u v w own within next =
    or_right (before t w u) (before t v w)
    (⊎_elim
    (λ (last : spot t (cpu_of w) w.access.place ≡ last_spot).
    rw own (rw last (at_last mine (cpu_of v) (cpu_of w) v.number w.number (not (is_write v.access)) (not (is_write w.access)))))
    (λ (now : spot t (cpu_of w) w.access.place ≡ placed_at (n + 1)).
    rw own (rw now (at_less mine (n + 1) (cpu_of v) (cpu_of w) v.number w.number (not (is_write v.access)) (not (is_write w.access)) (omega arith))))
    next)

guarded_add : (us : List NumberedAccess) (t : Times) (n : ℕ) (v w : NumberedAccess) → v.number < w.number → (is_memory_write w.access ≡ true → IsNext n (spot t (cpu_of w) w.access.place)) → Guarded us t n v → Guarded (w ∷ us) t n v
guarded_add us t n v w later next g = record {
  lock = g.lock;
  place = suc g.place;
  at = g.at;
  mine = g.mine;
  listed = g.listed;
  paired = record {
    locked = g.paired.locked;
    first = g.paired.first;
    same = g.paired.same;
    alone = (λ _ first. let less : w.number < v.number = ltb-true w.number v.number (and_parts (eqb (cpu_of w) (cpu_of v)) (ltb w.number v.number) first).1 in absurd (omega (arith, less, later)), g.paired.alone);
  };
  stands = g.stands;
  own = g.own;
  within = g.within;
  apart = (λ write other line. apart_new t n g.mine g.lock v w g.own g.within (next write), g.apart);
}

-- a new STx_C that succeeds
success_at : (k : Kind) (p l : ℕ) (y : Bool) (at : Place) (h : List Record) → (is_conditional k && y) ≡ true → Fits k p l y at h → at ≡ At (turns h + 1)
success_at kind.Conditional p l true at h is fit = fit.0
success_at _ p l y at h is fit = cc

locked_reads : (k : Kind) (a : Access) → a.kind ≡ k → is_locked k ≡ true → not (is_write a) ≡ true
locked_reads kind.Locked a is e = rw is refl
locked_reads _ a is e = cc

pub spot_placed : (o : Option ℕ) → (spot_at o).placed ≡ true
spot_placed None = refl
spot_placed (Some t) = refl

most_placed : (t : Times) (q n : ℕ) (at : Place) → AtMost n at → (spot t q at).placed ≡ true
most_placed t q n (At s) most = refl
most_placed t q n (Entry m) most = absurd most
most_placed t q n Absent most = absurd most

write_placed : (k : Kind) (a : Access) (t : Times) (q l g : ℕ) (at : Place) (h : List Record) → a.kind ≡ k → is_memory_write a ≡ true → Known k q l g at h → (spot t q at).placed ≡ true
write_placed kind.Write a t q l g (Entry n) h is write known = spot_placed (t.drained q n)
write_placed kind.Write a t q l g (At s) h is write known = absurd known
write_placed kind.Write a t q l g Absent h is write known = absurd known
write_placed kind.Conditional a t q l g at h is write known = most_placed t q (turns h) at known
write_placed _ a t q l g at h is write known = let never : false ≡ true = rw is at write in absurd (false≢true never)

same_place : (n : ℕ) → nat_cmp n n ≡ Equal
same_place n = grind arith

-- a write that is not above a place is before what is no write there
before_lock : (a : Key) (s d m : ℕ) → a.spot.placed ≡ true → a.spot.last ≡ false → a.other ≡ false → a.spot.place ≤ s → key_before a (at_key s true d m) ≡ true
unfolding key_before
before_lock a s d m placed last other less =
    ⊎_elim
    (λ (under : a.spot.place < s). rw (placed, last) (rw (lt-ltb a.spot.place s under) refl))
    (λ (over : s ≤ a.spot.place). let same : s ≡ a.spot.place = omega arith in rw (placed, last, other) (rw same (rw (same_place a.spot.place) refl)))
    (cases_lt a.spot.place s)

write_apart : (t : Times) (n at mine : ℕ) (u v w : NumberedAccess) → u.access.place ≡ At at → is_locked u.access.kind ≡ true → v.access.place ≡ At mine → is_memory_write w.access ≡ true → n ≤ at → (spot t (cpu_of w) w.access.place).placed ≡ true → Bound n (spot t (cpu_of w) w.access.place) → (before t w u || before t v w) ≡ true
write_apart t n at mine u v w stands locked own write less placed bound =
    ⊎_elim
    (λ (last : (spot t (cpu_of w) w.access.place).last ≡ true).
    or_right (before t w u) (before t v w) (rw own (at_before_last mine (cpu_of v) v.number (not (is_write v.access)) (key t w) placed last)))
    (λ (early : (spot t (cpu_of w) w.access.place).last ≡ false).
    let other : not (is_write w.access) ≡ false = rw (or_left (is_memory_write w.access) (is_signal w.access.kind) write) refl in
    or_left (before t w u) (before t v w) (rw (stands, locked_reads u.access.kind u.access refl locked) (before_lock (key t w) at (cpu_of u) u.number placed early other (omega (arith, bound early)))))
    (cases_Bool (spot t (cpu_of w) w.access.place).last)

-- the newest access, an STx_C that succeeds
guarded_new : (e : Event) (a : Access) (h : List Record) → FitsOutcome (cpu_number e.cpu) (outcome.Access a) h → Fitting h → is_success a ≡ true → Guarded (next_access (accesses h) a ∷ accesses h) (times (record { event = e; outcome = outcome.Access a } ∷ h)) (turns (record { event = e; outcome = outcome.Access a } ∷ h)) (next_access (accesses h) a)
guarded_new e a h fit before_it success =
    let r : Record = record { event = e; outcome = outcome.Access a } in
    let p : ℕ = cpu_number e.cpu in
    let v : NumberedAccess = next_access (accesses h) a in
    let l : Locker (accesses h) p a.address (last_other p (line_of a.address) h) = locker p a.address h before_it (fit.3 success) in
    let mine : a.place ≡ At (turns h + 1) = success_at a.kind p (line_of a.address) a.yes a.place h success fit.2 in
    let cpus : cpu_of l.lock ≡ cpu_number a.cpu = l.own ∙ sym fit.0 in
    let line : line_of l.lock.access.address ≡ line_of a.address = sym (block_line l.lock.access.address) ∙ ap line_of_block l.block ∙ block_line a.address in
    record {
      lock = l.lock;
      place = suc l.place;
      at = l.at;
      mine = turns h + 1;
      listed = l.listed;
      paired = record {
        locked = l.locked;
        first = and_from (eqb (cpu_of l.lock) (cpu_number a.cpu)) (ltb l.lock.number (length (accesses h) + 1)) (eq-eqb (cpu_of l.lock) (cpu_number a.cpu) cpus) (lt-ltb l.lock.number (length (accesses h) + 1) (omega (arith, l.first)));
        same = l.block;
        alone = (
          λ _ again. let less : length (accesses h) + 1 < length (accesses h) + 1 = ltb-true (length (accesses h) + 1) (length (accesses h) + 1) (and_parts (eqb (cpu_number a.cpu) (cpu_number a.cpu)) (ltb (length (accesses h) + 1) (length (accesses h) + 1)) again).1 in absurd (omega (arith, less)),
          each_map (λ w. cpu_of w ≡ p → l.lock.number < w.number → is_locking w.access ≡ false) (IsNotBetween l.lock v) (accesses h) (λ w alone first _.
              let both = and_parts (eqb (cpu_of l.lock) (cpu_of w)) (ltb l.lock.number w.number) first in
              alone (sym (eqb-true (cpu_of l.lock) (cpu_of w) both.0) ∙ l.own) (ltb-true l.lock.number w.number both.1)) l.alone,
        );
      };
      stands = l.stands;
      own = mine;
      within = rw (or_left (is_success a) (is_signal a.kind) success) (omega arith);
      apart = (
        λ _ other _. absurd (other refl),
        each_both (KnownItem h) (Seen h) (IsApart (times (r ∷ h)) l.lock v) (accesses h) (λ w known seen_w write other same.
            let still : spot (times (r ∷ h)) (cpu_of w) w.access.place ≡ spot (times h) (cpu_of w) w.access.place = spot_same (times h) (times (r ∷ h)) (cpu_of w) w.access.place (turn_same r h (λ n. refl)) in
            let bound : Bound (last_other p (line_of w.access.address) h) (spot (times h) (cpu_of w) w.access.place) = seen_w p (λ its. other (its ∙ sym fit.0)) write in
            let under : last_other p (line_of w.access.address) h ≤ l.at = rw (same ∙ line) l.seen in
            write_apart (times (r ∷ h)) (last_other p (line_of w.access.address) h) l.at (turns h + 1) l.lock v w l.stands l.locked mine write under
            (write_placed w.access.kind w.access (times (r ∷ h)) (cpu_of w) (line_of w.access.address) w.parts w.access.place h refl write known.known)
            (rw still bound)) (kept h before_it).items (seen h before_it),
      );
    }

-- where a new memory write stands
next_spot : (k : Kind) (e : Event) (a : Access) (h : List Record) → FitsOutcome (cpu_number a.cpu) (outcome.Access a) h → RunFacts h → cpu_number a.cpu ≡ cpu_number e.cpu → a.kind ≡ k → is_memory_write a ≡ true → Fits k (cpu_number a.cpu) (line_of a.address) a.yes a.place h → IsNext (turns h) (spot (times h) (cpu_number a.cpu) a.place)
next_spot kind.Write e a h fit whole same is write place =
    let none : drained h (cpu_number a.cpu) (entry_for (line_of a.address) (buffer (cpu_number a.cpu) h)) ≡ None =
    fresh_at h e a same (rw (← same) fit.2) whole is (entry_for (line_of a.address) (buffer (cpu_number a.cpu) h)) place in
    rw place (rw none (inl refl))
next_spot kind.Conditional e a h fit whole same is write place = let success : a.yes ≡ true = rw is at write in rw place.0 (rw success (inr refl))
next_spot _ e a h fit whole same is write place = let never : false ≡ true = rw is at write in absurd (false≢true never)

abbrev Guards : List NumberedAccess → Times → ℕ → NumberedAccess → Type 0
Guards us t n v = is_success v.access ≡ true → Guarded us t n v

-- one access more
guards_add : (r : Record) (h : List Record) (w : NumberedAccess) → Fitting h → w.number ≡ length (accesses h) + 1 → (is_memory_write w.access ≡ true → IsNext (turns h) (spot (times h) (cpu_of w) w.access.place)) → AllByRecursion (Guards (accesses h) (times h) (turns h)) (accesses h) → AllByRecursion (Guards (w ∷ accesses h) (times (r ∷ h)) (turns (r ∷ h))) (accesses h)
guards_add r h w fit last next each =
    each_both (λ v. v.number ≤ length (accesses h)) (Guards (accesses h) (times h) (turns h)) (Guards (w ∷ accesses h) (times (r ∷ h)) (turns (r ∷ h))) (accesses h)
    (λ v less guards success. guarded_step (w ∷ accesses h) r h v (guarded_add (accesses h) (times h) (turns h) v w (omega (arith, less, last)) next (guards success)))
    (numbers h fit) each

guards_same : (r : Record) (h : List Record) → AllByRecursion (Guards (accesses h) (times h) (turns h)) (accesses h) → AllByRecursion (Guards (accesses h) (times (r ∷ h)) (turns (r ∷ h))) (accesses h)
guards_same r h each = each_map (Guards (accesses h) (times h) (turns h)) (Guards (accesses h) (times (r ∷ h)) (turns (r ∷ h))) (accesses h) (λ v guards success. guarded_step (accesses h) r h v (guards success)) each

guards_more : (e : Event) (o : Outcome) (h : List Record) → FitsOutcome (cpu_number e.cpu) o h → Fitting h → AllByRecursion (Guards (accesses h) (times h) (turns h)) (accesses h)
    → AllByRecursion (Guards (accesses (record { event = e; outcome = o } ∷ h)) (times (record { event = e; outcome = o } ∷ h)) (turns (record { event = e; outcome = o } ∷ h))) (accesses (record { event = e; outcome = o } ∷ h))
guards_more e (outcome.Access a) h fit rest each =
    let its : FitsOutcome (cpu_number a.cpu) (outcome.Access a) h = subst (λ q. FitsOutcome q (outcome.Access a) h) (sym fit.0) fit in (
      λ success. guarded_new e a h fit rest success,
      guards_add (record { event = e; outcome = outcome.Access a }) h (next_access (accesses h) a) rest refl (λ write. next_spot a.kind e a h its (kept h rest) fit.0 refl write its.2) each,
    )
guards_more e outcome.NoAccess h fit rest each = guards_same (record { event = e; outcome = outcome.NoAccess }) h each
guards_more e (outcome.Filled b k t) h fit rest each = guards_same (record { event = e; outcome = outcome.Filled b k t }) h each
guards_more e (outcome.Drained m k t) h fit rest each = guards_same (record { event = e; outcome = outcome.Drained m k t }) h each
guards_more e (outcome.Taken k t g) h fit rest each = guards_same (record { event = e; outcome = outcome.Taken k t g }) h each
guards_more e outcome.Done h fit rest each = guards_same (record { event = e; outcome = outcome.Done }) h each
guards_more e (outcome.Polled v x t) h fit rest each = (
  λ success. absurd (false≢true success),
  guards_add (record { event = e; outcome = outcome.Polled v x t }) h (next_access (accesses h) (record { cpu = e.cpu; kind = kind.Poll; address = 0; size = 0; value = 0; yes = v; place = At t })) rest refl (λ write. absurd (false≢true write)) each,
)

guards : (h : List Record) → Fitting h → AllByRecursion (Guards (accesses h) (times h) (turns h)) (accesses h)
guards [] fit = tt
guards (r ∷ h) fit = guards_more r.event r.outcome h fit.0 fit.1 (guards h fit.1)

pub keeps_locking : (h : List Record) → Fitting h → KeepsLocking h
keeps_locking h fit =
    each_map (Guards (accesses h) (times h) (turns h)) (λ v. is_success v.access ≡ true → HasLock h v) (accesses h)
    (λ v all success. let g = all success in record { lock = g.lock; place = g.place; listed = g.listed; paired = g.paired; apart = g.apart }) (guards h fit)
