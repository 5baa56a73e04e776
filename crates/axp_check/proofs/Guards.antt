-- What tops say of the accesses so far, and tops with one access more.
use Rattle.std.proofs.Common.{◌≡◌, ℕ, ◌+◌, ◌-◌, ◌<◌, ◌≤◌, ◌*◌, ◌^◌, Bool, true, false, not, ◌&&◌, ◌||◌, eqb, ltb, cond, List, [], ◌∷◌, length, Option, Some, None, IfSome, slice_get, slice_index_or, slice_set, refl, sym, ◌∙◌, subst, arith, ⊎_elim}
use Rattle.std.specs.Option.{option_map}
use Rattle.std.proofs.lemmas.List.{get_or-set_same, get_or-set_other, length-set}
use Rattle.std.proofs.lemmas.Bool.{cases_Bool, cases_lt, and_parts, and_from, eqb-true, lt-ltb, le-ltb, ltb-true, false≢true}
use Rattle.axp_base.specs.Cpus.{cpu_number}
use Rattle.axp_regs.specs.declared.asks.Kind.{Kind}
use Rattle.axp_regs.specs.declared.asks.Kind.TheVariants as kind
use Rattle.axp_access.specs.declared.Access.{Access}
use Rattle.axp_access.specs.declared.Place.{Place}
use Rattle.axp_access.specs.declared.Place.TheVariants.{At, Entry, Absent}
use Rattle.axp_access.specs.Kinds.{is_plain_write, is_conditional, is_signal, is_write, is_write_barrier}
use Rattle.axp_access.specs.Lists.{Accesses, IsSound, access_at, accesses_to, times_of}
use Rattle.axp_access.specs.Numbering.{NumberedAccess, cpu_of, next_access}
use Rattle.axp_access.specs.Order.{Times, before, key, precedes, spot, spot_at}
use Rattle.axp_access.specs.Ranks.{FitsRank, bit, rank, rank_of}
use Rattle.axp_access.proofs.RankOrder.{before_by_rank}
use Rattle.axp_model.specs.Issue.{barrier_demands, has_place}
use Rattle.axp_order.specs.Oldest.{oldest_that}
use Rattle.axp_order.specs.Pairs.{breaks_barrier}
use Rattle.axp_order.proofs.Accesses.{accesses_more}
use Rattle.axp_order.proofs.WriteBarriers.{parts_to, parts_more}
use Rattle.axp_check.specs.declared.barrier.WriteTops.{WriteTops}
use Rattle.axp_check.specs.Guards.{AreUpTo, HasTops, IsUpTo, KeepsTops, is_own_write, is_parted_write}

-- up to a greater bound there are also those that pass a stricter test
pub up_more : (t : Times) (test also : NumberedAccess → Bool) (us : List NumberedAccess) (b c : ℕ) → b ≤ c → ((u : NumberedAccess) → also u ≡ true → test u ≡ true) → AreUpTo t test us b → AreUpTo t also us c
up_more t test also [] b c le implied all = tt
up_more t test also (u ∷ us) b c le implied all = (one u (all.0), up_more t test also us b c le implied all.1) where
  one : (u : NumberedAccess) → (test u ≡ true → IsUpTo t b u) → also u ≡ true → IsUpTo t c u
  one u held passed = let up = held (implied u passed) in let most = up.most in record { fits = up.fits; placed = up.placed; most = omega (arith, most, le) }

-- an access up to a bound below v's rank is BEFORE v
pub up_before : (t : Times) (bound : ℕ) (u v : NumberedAccess) → IsUpTo t bound u → FitsRank (key t v) → bound < rank t v → before t u v ≡ true
up_before t bound u v up small less =
    let most = up.most in
    before_by_rank (key t u) (key t v) up.fits small ∙ rw (up.placed, lt-ltb (rank t u) (rank t v) (omega (arith, most, less))) refl

-- nothing is broken with v where its processor's parted writes are below it
pub clear_barrier : (t : Times) (us : List NumberedAccess) (bound : ℕ) (v : NumberedAccess) → AreUpTo t (is_parted_write (cpu_of v) v.parts) us bound → FitsRank (key t v) → bound < rank t v → oldest_that (λ u. breaks_barrier t u v) us ≡ None
clear_barrier t [] bound v all small less = refl
clear_barrier t (u ∷ us) bound v all small less = rw (clear_barrier t us bound v all.1 small less, one u all.0) refl where
  one : (u : NumberedAccess) → (is_parted_write (cpu_of v) v.parts u ≡ true → IsUpTo t bound u) → breaks_barrier t u v ≡ false
  one u held = ⊎_elim
      (λ (demand : barrier_demands u v ≡ true).
      let both = and_parts (precedes u v) ((is_write u.access && is_write v.access) && ltb u.parts v.parts) demand in
      let writes = and_parts (is_write u.access && is_write v.access) (ltb u.parts v.parts) both.1 in
      let own = and_parts (eqb (cpu_of u) (cpu_of v)) (ltb u.number v.number) both.0 in
      let first = and_parts (is_write u.access) (is_write v.access) writes.0 in
      let mine = and_from (eqb (cpu_of u) (cpu_of v)) (is_write u.access) own.0 first.0 in
      rw (demand, up_before t bound u v (held (and_from (is_own_write (cpu_of v) u) (ltb u.parts v.parts) mine writes.1)) small less) refl)
      (λ (free : barrier_demands u v ≡ false). rw free refl)
      (cases_Bool (barrier_demands u v))

-- nor with what is no write
pub clear_other : (t : Times) (us : List NumberedAccess) (v : NumberedAccess) → is_write v.access ≡ false → oldest_that (λ u. breaks_barrier t u v) us ≡ None
clear_other t [] v no_ = refl
clear_other t (u ∷ us) v no_ = rw (clear_other t us v no_, free (precedes u v) (is_write u.access) (is_write v.access) (ltb u.parts v.parts) (not (before t u v)) no_) refl where
  free : (a b w c d : Bool) → w ≡ false → ((a && ((b && w) && c)) && d) ≡ false
  free true true w c d no_ = rw no_ refl
  free true false w c d no_ = refl
  free false b w c d no_ = refl

-- by the test of the guard
pub clear_is : (list : Accesses) (j : ℕ) (a : Access) (tops : WriteTops) (r : ℕ) (w b : Bool) → slice_get list.items (j - 1) ≡ Some a → IfSome (access_at list j) (λ v. HasTops list (j - 1) (cpu_of v) tops) → IfSome (access_at list j) (λ v. r ≡ rank (times_of list) v) → IfSome (access_at list j) (λ v. FitsRank (key (times_of list) v)) → w ≡ is_write a → b ≡ (not w || ltb tops.closed r) → b ≡ true → IfSome (access_at list j) (λ v. None ≡ option_map (λ u. u.number) (oldest_that (λ u. breaks_barrier (times_of list) u v) (accesses_to list (j - 1))))
clear_is list j a tops r w b found has at small writes test yes_ =
    let v = next_access (accesses_to list (j - 1)) a in
    let tops_are : HasTops list (j - 1) (cpu_of v) tops = rw found at has in
    let rank_is : r ≡ rank (times_of list) v = rw found at at in
    let fits : FitsRank (key (times_of list) v) = rw found at small in
    rw found (⊎_elim
    (λ (is : is_write a ≡ true).
    let less : tops.closed < r = ltb-true tops.closed r (clear w (ltb tops.closed r) (writes ∙ is) (sym test ∙ yes_)) in
    rw (clear_barrier (times_of list) (accesses_to list (j - 1)) tops.closed v tops_are.closed fits (subst (λ m. tops.closed < m) rank_is less)) refl)
    (λ (no_ : is_write a ≡ false). rw (clear_other (times_of list) (accesses_to list (j - 1)) v no_) refl)
    (cases_Bool (is_write a))) where
      clear : (w c : Bool) → w ≡ true → (not w || c) ≡ true → c ≡ true
      clear true c is e = e
      clear false c is e = absurd (false≢true is)

-- a write is no WMB
no_barrier : (k : Kind) (succeeds : Bool) → ((is_plain_write k || (is_conditional k && succeeds)) || is_signal k) ≡ true → is_write_barrier k ≡ true → ⊥
no_barrier kind.WriteBarrier succeeds writes is = false≢true writes
no_barrier _ succeeds writes is = false≢true is

-- and has a place
pub write_placed : (a : Access) → IsSound a → is_write a ≡ true → has_place a.place ≡ true
write_placed a sound writes = by a.place refl where
  by : (at : Place) → a.place ≡ at → has_place at ≡ true
  by (At n) is = refl
  by (Entry n) is = refl
  by Absent is = absurd (no_barrier a.kind a.yes writes (sound.placed.0 is))

-- what has a place has a rank
pub placed_ranked : (t : Times) (u : NumberedAccess) → FitsRank (key t u) → has_place u.access.place ≡ true → eqb (rank t u) 0 ≡ false
unfolding rank_of
placed_ranked t u fits placed = rw (by u.access.place placed) (let first = fits.first in positive (bit (key t u).spot.last * 2 ^ 105 + ((key t u).spot.place * 2 ^ 41 + (bit (key t u).other * 2 ^ 40 + (cpu_of u * 2 ^ 32 + u.number)))) (omega (arith, first))) where
  positive : (n : ℕ) → 1 ≤ n → eqb n 0 ≡ false
  positive n e = grind arith

  by_turn : (o : Option ℕ) → (spot_at o).placed ≡ true
  by_turn None = refl
  by_turn (Some n) = refl

  by : (at : Place) → has_place at ≡ true → (spot t (cpu_of u) at).placed ≡ true
  by (At n) e = refl
  by (Entry n) e = by_turn (t.drained (cpu_of u) n)
  by Absent e = absurd (false≢true e)

-- one access more, with the greater of its rank and the bound where it counts
pub up_step : (t : Times) (test : NumberedAccess → Bool) (us : List NumberedAccess) (v : NumberedAccess) (counts : Bool) (top new : ℕ) → (test v ≡ true → (counts ≡ true) × (has_place v.access.place ≡ true)) → FitsRank (key t v) → AreUpTo t test us top → new ≡ cond (counts && ltb top (rank t v)) (rank t v) top → AreUpTo t test (v ∷ us) new
up_step t test us v counts top new tells fits all is = (
  λ passed. record { fits = fits; placed = placed_ranked t v fits (tells passed).1; most = rw is (greatest counts top (rank t v) (tells passed).0) },
  up_more t test test us top new (rw is (greater counts top (rank t v))) (λ u passed. passed) all,
) where
  greater : (w : Bool) (m r : ℕ) → m ≤ cond (w && ltb m r) r m
  greater false m r = omega arith
  greater true m r = ⊎_elim
      (λ (less : m < r). rw (lt-ltb m r less) (omega (arith, less)))
      (λ (le : r ≤ m). rw (le-ltb m r le) (omega arith))
      (cases_lt m r)

  greatest : (w : Bool) (m r : ℕ) → w ≡ true → r ≤ cond (w && ltb m r) r m
  greatest false m r is = absurd (false≢true is)
  greatest true m r is = ⊎_elim
      (λ (less : m < r). rw (lt-ltb m r less) (omega arith))
      (λ (le : r ≤ m). rw (le-ltb m r le) le)
      (cases_lt m r)

-- the tops of a processor with one access more, which is its own
tops_own : (list : Accesses) (n : ℕ) (a : Access) (tops new : WriteTops) → slice_get list.items n ≡ Some a → IsSound a → HasTops list n (cpu_number a.cpu) tops → FitsRank (key (times_of list) (next_access (accesses_to list n) a)) → new.all ≡ cond (is_write a && ltb tops.all (rank (times_of list) (next_access (accesses_to list n) a))) (rank (times_of list) (next_access (accesses_to list n) a)) tops.all → new.closed ≡ cond (is_write_barrier a.kind) tops.all tops.closed → HasTops list (n + 1) (cpu_number a.cpu) new
tops_own list n a tops new found sound has fits all closed = record { all = rw more (up_step t (is_own_write p) us v (is_write a) tops.all new.all (λ own. let writes = (and_parts (eqb p p) (is_write a) own).1 in (writes, write_placed a sound writes)) fits has.all all); closed = subst (λ ws. AreUpTo t (is_parted_write p (parts_to list p (n + 1))) ws new.closed) (sym more) (⊎_elim parted kept (cases_Bool (is_write_barrier a.kind))) } where
  t : Times
  t = times_of list

  p : ℕ
  p = cpu_number a.cpu

  us : List NumberedAccess
  us = accesses_to list n

  v : NumberedAccess
  v = next_access us a

  more : accesses_to list (n + 1) ≡ v ∷ us
  more = accesses_more list n v (let back : n + 1 - 1 ≡ n = omega arith in rw back (rw found refl))

  parted : is_write_barrier a.kind ≡ true → AreUpTo t (is_parted_write p (parts_to list p (n + 1))) (v ∷ us) new.closed
  parted is = (
    λ first. absurd (no_barrier a.kind a.yes (and_parts (eqb p p) (is_write a) (and_parts (is_own_write p v) (ltb v.parts (parts_to list p (n + 1))) first).0).1 is),
    up_more t (is_own_write p) (is_parted_write p (parts_to list p (n + 1))) us tops.all new.closed (rw closed (rw is (omega arith))) (λ u own. (and_parts (is_own_write p u) (ltb u.parts (parts_to list p (n + 1))) own).0) has.all,
  )

  kept : is_write_barrier a.kind ≡ false → AreUpTo t (is_parted_write p (parts_to list p (n + 1))) (v ∷ us) new.closed
  kept no_ =
      let same : parts_to list p (n + 1) ≡ parts_to list p n = parts_more list p n a found ∙ rw (no_barriers (eqb p p) no_) refl in
      subst (λ m. AreUpTo t (is_parted_write p m) (v ∷ us) new.closed) (sym same) (
        λ first. absurd (never (parts_to list p n) (and_parts (is_own_write p v) (ltb v.parts (parts_to list p n)) first).1),
        up_more t (is_parted_write p (parts_to list p n)) (is_parted_write p (parts_to list p n)) us tops.closed new.closed (rw closed (rw no_ (omega arith))) (λ u own. own) has.closed,
      ) where
        no_barriers : (own : Bool) → is_write_barrier a.kind ≡ false → (own && is_write_barrier a.kind) ≡ false
        no_barriers true e = e
        no_barriers false e = refl

        never : (m : ℕ) → ltb m m ≡ true → ⊥
        never m less = let under : m < m = ltb-true m m less in omega (arith, under)

-- those of another processor stay
pub tops_other : (list : Accesses) (n p : ℕ) (a : Access) (tops : WriteTops) → slice_get list.items n ≡ Some a → eqb (cpu_number a.cpu) p ≡ false → HasTops list n p tops → HasTops list (n + 1) p tops
tops_other list n p a tops found apart has =
    let v = next_access (accesses_to list n) a in
    let back : n + 1 - 1 ≡ n = omega arith in
    let more : accesses_to list (n + 1) ≡ v ∷ accesses_to list n = accesses_more list n v (rw back (rw found refl)) in
    let same : parts_to list p (n + 1) ≡ parts_to list p n = parts_more list p n a found ∙ rw apart refl in
    record {
      all = rw more (λ own. absurd (false≢true (sym apart ∙ (and_parts (eqb (cpu_number a.cpu) p) (is_write a) own).0)), has.all);
      closed = rw same (rw more (λ own. absurd (false≢true (sym apart ∙ (and_parts (eqb (cpu_number a.cpu) p) (is_write a) (and_parts (is_own_write p v) (ltb v.parts (parts_to list p n)) own).0).0)), has.closed));
    }

-- by what the list gives for the access
pub raised_is : (list : Accesses) (j : ℕ) (a : Access) (tops : WriteTops) (r all closed : ℕ) → 1 ≤ j → slice_get list.items (j - 1) ≡ Some a → IsSound a → IfSome (access_at list j) (λ v. HasTops list (j - 1) (cpu_of v) tops) → IfSome (access_at list j) (λ v. r ≡ rank (times_of list) v) → IfSome (access_at list j) (λ v. FitsRank (key (times_of list) v)) → all ≡ cond (is_write a && ltb tops.all r) r tops.all → closed ≡ cond (is_write_barrier a.kind) tops.all tops.closed → IfSome (access_at list j) (λ v. HasTops list j (cpu_of v) (record { all = all; closed = closed }))
raised_is list j a tops r all closed least found sound has at small alls closeds =
    let v = next_access (accesses_to list (j - 1)) a in
    let back : j - 1 + 1 ≡ j = omega (arith, least) in
    let tops_are : HasTops list (j - 1) (cpu_of v) tops = rw found at has in
    let rank_is : r ≡ rank (times_of list) v = rw found at at in
    let fits : FitsRank (key (times_of list) v) = rw found at small in
    let new : WriteTops = record { all = all; closed = closed } in
    let own : HasTops list (j - 1 + 1) (cpu_number a.cpu) new = tops_own list (j - 1) a tops new found sound tops_are fits (subst (λ m. all ≡ cond (is_write a && ltb tops.all m) m tops.all) rank_is alls) closeds in
    rw found (subst (λ m. HasTops list m (cpu_number a.cpu) new) back own)

abbrev none_yet : WriteTops
none_yet = record { all = 0; closed = 0 }

-- before the first access
pub tops_none : (list : Accesses) (tops : List WriteTops) → length tops ≡ 8 → KeepsTops list 0 tops
tops_none list tops number = record { each = λ p. record { all = tt; closed = tt }; number = number }

-- the tops of the next access's processor
pub tops_at : (list : Accesses) (n k : ℕ) (a : Access) (tops : List WriteTops) → slice_get list.items (n + 1 - 1) ≡ Some a → k ≡ cpu_number a.cpu → KeepsTops list n tops → IfSome (access_at list (n + 1)) (λ v. HasTops list (n + 1 - 1) (cpu_of v) (slice_index_or tops k none_yet))
tops_at list n k a tops found is keeps = rw found (let back : n + 1 - 1 ≡ n = omega arith in rw (back, is) (keeps.each (cpu_number a.cpu)))

-- one access more
pub tops_more : (list : Accesses) (n k : ℕ) (a : Access) (tops : List WriteTops) (new : WriteTops) → slice_get list.items (n + 1 - 1) ≡ Some a → k ≡ cpu_number a.cpu → k < 8 → KeepsTops list n tops → IfSome (access_at list (n + 1)) (λ v. HasTops list (n + 1) (cpu_of v) new) → KeepsTops list (n + 1) (slice_set tops k new)
tops_more list n k a tops new found is small keeps own = record { each = each; number = length-set tops k new ∙ keeps.number } where
  back : n + 1 - 1 ≡ n
  back = omega arith

  here : slice_get list.items n ≡ Some a
  here = rw back at found

  mine : HasTops list (n + 1) (cpu_number a.cpu) new
  mine = rw found at own

  each : (p : ℕ) → HasTops list (n + 1) p (slice_index_or (slice_set tops k new) p none_yet)
  each p = ⊎_elim
      (λ (same : eqb (cpu_number a.cpu) p ≡ true).
      let number = keeps.number in
      let at : k ≡ p = is ∙ eqb-true (cpu_number a.cpu) p same in
      let set : slice_index_or (slice_set tops k new) k none_yet ≡ new = get_or-set_same tops k new none_yet (omega (arith, small, number)) in
      subst (λ q. HasTops list (n + 1) q (slice_index_or (slice_set tops k new) q none_yet)) at (rw set (rw is mine)))
      (λ (apart : eqb (cpu_number a.cpu) p ≡ false).
      let other : slice_index_or (slice_set tops k new) p none_yet ≡ slice_index_or tops p none_yet = get_or-set_other tops k p new none_yet (λ e. differ p (cpu_number a.cpu) (e ∙ is) apart) in
      rw other (tops_other list n p a (slice_index_or tops p none_yet) here apart (keeps.each p)))
      (cases_Bool (eqb (cpu_number a.cpu) p)) where
        differ : (p q : ℕ) → p ≡ q → eqb q p ≡ false → ⊥
        differ p q e apart = grind (arith, e, apart)
