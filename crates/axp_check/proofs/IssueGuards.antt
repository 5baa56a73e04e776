-- What the tops of the issue pass say of the accesses so far.
use Rattle.std.proofs.Common.{◌≡◌, ℕ, ◌+◌, ◌-◌, ◌<◌, ◌≤◌, ◌*◌, ◌/◌, ◌%◌, Bool, true, false, not, ◌&&◌, ◌||◌, eqb, ltb, cond, List, [], ◌∷◌, length, Some, None, IfSome, slice_get, slice_index_or, slice_set, refl, sym, ap, ◌∙◌, subst, arith, inl, inr, ⊎_elim}
use Rattle.std.specs.Option.{option_map}
use Rattle.std.specs.List.{AllByRecursion}
use Rattle.std.proofs.lemmas.List.{get_or-set_same, get_or-set_other, length-set}
use Rattle.std.proofs.lemmas.Bool.{cases_Bool, and_parts, and_from, or_cases, eqb-true, ltb-true, or_left, or_right, false≢true}
use Rattle.axp_base.specs.Cpus.{cpu_number}
use Rattle.axp_base.specs.Masks.{IsSize}
use Rattle.axp_regs.specs.declared.asks.Kind.{Kind}
use Rattle.axp_regs.specs.declared.asks.Kind.TheVariants as kind
use Rattle.axp_access.specs.declared.Access.{Access}
use Rattle.axp_access.specs.declared.Place.{Place}
use Rattle.axp_access.specs.declared.Place.TheVariants.{At, Entry, Absent}
use Rattle.axp_access.specs.Kinds.{is_barrier, is_code_barrier, is_conditional, is_fetch, is_memory_write, is_plain_write, is_poll, is_read, is_signal, is_write, is_write_barrier}
use Rattle.axp_access.specs.Lists.{Accesses, IsSound, access_at, accesses_to, names_memory, times_of}
use Rattle.axp_access.specs.Numbering.{NumberedAccess, cpu_of, next_access}
use Rattle.axp_access.specs.Order.{Times, before, key, precedes}
use Rattle.axp_access.specs.Ranks.{FitsRank, rank}
use Rattle.axp_model.specs.Issue.{has_place, in_memory, is_demanded, issue_demands, overlap, share_a_byte}
use Rattle.axp_order.specs.Oldest.{oldest_that}
use Rattle.axp_order.specs.Pairs.{are_fetches, are_writes, breaks_issue, is_at_code_barrier, is_before_barrier, is_behind_barrier, is_behind_fetch, is_behind_read}
use Rattle.axp_order.proofs.Accesses.{accesses_more}
use Rattle.axp_check.specs.declared.issue.IssueTops.{IssueTops}
use Rattle.axp_check.specs.Guards.{AreUpTo, IsUpTo}
use Rattle.axp_check.specs.IssueGuards.{HasIssueTops, HasSlotTop, KeepsIssueTops, is_own_memory_write, is_own_other, is_slot_write, slot_at}
use Rattle.axp_check.proofs.Guards.{up_before, up_step, write_placed}

-- an access of a kind that no WMB is of has a place
pub placed_by : (a : Access) → IsSound a → (test : Kind → Bool) → test kind.WriteBarrier ≡ false → test a.kind ≡ true → has_place a.place ≡ true
placed_by a sound test none passed = by a.place refl where
  no_barrier : (k : Kind) → test k ≡ true → is_write_barrier k ≡ true → ⊥
  no_barrier kind.WriteBarrier passed is = false≢true (sym none ∙ passed)
  no_barrier _ passed is = false≢true is

  by : (at : Place) → a.place ≡ at → has_place at ≡ true
  by (At n) is = refl
  by (Entry n) is = refl
  by Absent is = absurd (no_barrier a.kind passed (sound.placed.0 is))

-- one of a kind of which no memory write is
no_write : (test : Kind → Bool) → test kind.Write ≡ false → test kind.Conditional ≡ false → (k : Kind) (succeeds : Bool) → test k ≡ true → (is_plain_write k || (is_conditional k && succeeds)) ≡ false
no_write test none also kind.Write succeeds passed = absurd (false≢true (sym none ∙ passed))
no_write test none also kind.Conditional succeeds passed = absurd (false≢true (sym also ∙ passed))
no_write test none also _ succeeds passed = refl

-- an access of memory lies in one quadword
in_quadword : (a s : ℕ) → IsSize s → a % s ≡ 0 → a + s ≤ a / 8 * 8 + 8
in_quadword a s (inl one) aligned = rw one (omega arith)
in_quadword a s (inr (inl two)) aligned = let even : a % 2 ≡ 0 = rw two at aligned in rw two (omega (arith, even))
in_quadword a s (inr (inr (inl four))) aligned = let even : a % 4 ≡ 0 = rw four at aligned in rw four (omega (arith, even))
in_quadword a s (inr (inr (inr eight))) aligned = let even : a % 8 ≡ 0 = rw eight at aligned in rw eight (omega (arith, even))

same_quadword : (a s b n : ℕ) → a + s ≤ a / 8 * 8 + 8 → b + n ≤ b / 8 * 8 + 8 → share_a_byte a s b n ≡ true → a / 8 ≡ b / 8
same_quadword a s b n first second shares =
    let both = and_parts (ltb a (b + n)) (ltb b (a + s)) shares in
    let low : a < b + n = ltb-true a (b + n) both.0 in
    let high : b < a + s = ltb-true b (a + s) both.1 in
    omega (arith, first, second, low, high)

-- two accesses of one processor, with what the tops say of the first and that the guard is clear for the second
record Scene (t : Times) (u v : NumberedAccess) (others writes top : ℕ) : Type 0 where
  earlier : IsSound u.access
  later : IsSound v.access
  fits : FitsRank (key t v)
  other : is_own_other (cpu_of v) u ≡ true → IsUpTo t others u
  write : is_own_memory_write (cpu_of v) u ≡ true → IsUpTo t writes u
  slot : is_slot_write (slot_at (cpu_of v) v.access.address) u ≡ true → IsUpTo t top u
  own : eqb (cpu_of u) (cpu_of v) ≡ true
  others_less : others < rank t v
  top_less : is_memory_write v.access ≡ true → top < rank t v
  writes_less : (is_barrier v.access.kind || is_code_barrier v.access.kind) ≡ true → writes < rank t v

by_other : (t : Times) (u v : NumberedAccess) (others writes top : ℕ) → Scene t u v others writes top → is_memory_write u.access ≡ false → has_place u.access.place ≡ true → before t u v ≡ true
by_other t u v others writes top s free placed = up_before t others u v (s.other (and_from (eqb (cpu_of u) (cpu_of v)) (not (is_memory_write u.access) && has_place u.access.place) s.own (and_from (not (is_memory_write u.access)) (has_place u.access.place) (ap not free) placed))) s.fits s.others_less

by_kind : (t : Times) (u v : NumberedAccess) (others writes top : ℕ) → Scene t u v others writes top → (test : Kind → Bool) → test kind.Write ≡ false → test kind.Conditional ≡ false → test kind.WriteBarrier ≡ false → test u.access.kind ≡ true → before t u v ≡ true
by_kind t u v others writes top s test none also nor passed = by_other t u v others writes top s (no_write test none also u.access.kind u.access.yes passed) (placed_by u.access s.earlier test nor passed)

by_any : (t : Times) (u v : NumberedAccess) (others writes top : ℕ) → Scene t u v others writes top → (is_barrier v.access.kind || is_code_barrier v.access.kind) ≡ true → has_place u.access.place ≡ true → before t u v ≡ true
by_any t u v others writes top s stops placed = ⊎_elim
    (λ (is : is_memory_write u.access ≡ true). up_before t writes u v (s.write (and_from (eqb (cpu_of u) (cpu_of v)) (is_memory_write u.access) s.own is)) s.fits (s.writes_less stops))
    (λ (free : is_memory_write u.access ≡ false). by_other t u v others writes top s free placed)
    (cases_Bool (is_memory_write u.access))

-- a memory write names memory
write_names : (a : Access) → is_memory_write a ≡ true → names_memory a ≡ true
write_names a writes = by a.kind a.yes writes where
  by : (k : Kind) (succeeds : Bool) → (is_plain_write k || (is_conditional k && succeeds)) ≡ true → ((is_fetch k || is_read k) || (is_plain_write k || is_conditional k)) ≡ true
  by kind.Write succeeds e = refl
  by kind.Conditional succeeds e = refl
  by kind.Fetch succeeds e = refl
  by kind.Read succeeds e = refl
  by kind.Locked succeeds e = refl
  by _ succeeds e = absurd (false≢true e)

by_slot : (t : Times) (u v : NumberedAccess) (others writes top : ℕ) → Scene t u v others writes top → are_writes u.access v.access ≡ true → before t u v ≡ true
by_slot t u v others writes top s e =
    let all = and_parts (is_memory_write v.access && is_memory_write u.access) (overlap u.access v.access) e in
    let kinds = and_parts (is_memory_write v.access) (is_memory_write u.access) all.0 in
    let shares = (and_parts (in_memory u.access && in_memory v.access) (share_a_byte u.access.address u.access.size v.access.address v.access.size) all.1).1 in
    let first = in_quadword u.access.address u.access.size (s.earlier.sized (write_names u.access kinds.1)) (s.earlier.aligned (write_names u.access kinds.1)) in
    let second = in_quadword v.access.address v.access.size (s.later.sized (write_names v.access kinds.0)) (s.later.aligned (write_names v.access kinds.0)) in
    let same = same_quadword u.access.address u.access.size v.access.address v.access.size first second shares in
    let slots : eqb (slot_at (cpu_of u) u.access.address) (slot_at (cpu_of v) v.access.address) ≡ true = rw (slot_same (cpu_of u) (cpu_of v) u.access.address v.access.address (eqb-true (cpu_of u) (cpu_of v) s.own) same) (reflexive (slot_at (cpu_of v) v.access.address)) in
    up_before t top u v (s.slot (and_from (eqb (slot_at (cpu_of u) u.access.address) (slot_at (cpu_of v) v.access.address)) (is_memory_write u.access) slots kinds.1)) s.fits (s.top_less kinds.0) where
      slot_same : (p q a b : ℕ) → p ≡ q → a / 8 ≡ b / 8 → slot_at p a ≡ slot_at q b
      slot_same p q a b who at = rw (who, at) refl

      reflexive : (n : ℕ) → eqb n n ≡ true
      reflexive n = grind arith

either : {P : Type 0} (a b : Bool) → (a || b) ≡ true → (a ≡ true → P) → (b ≡ true → P) → P
either a b e f g = ⊎_elim f g (or_cases a b e)

-- what stands in front of an MB has a place
parted_placed : (a : Access) → IsSound a → (is_read a.kind || (is_write a || is_poll a.kind)) ≡ true → has_place a.place ≡ true
parted_placed a sound passed = placed_by a sound (λ k. is_read k || (((is_plain_write k || (is_conditional k && a.yes)) || is_signal k) || is_poll k)) refl passed

-- case by case, what is demanded is so
demanded_before : (t : Times) (u v : NumberedAccess) (others writes top : ℕ) → Scene t u v others writes top → is_demanded u.access v.access ≡ true → before t u v ≡ true
demanded_before t u v others writes top s demand =
    let a = u.access in
    let b = v.access in
    either (are_fetches a b) (is_behind_read a b || (are_writes a b || (is_before_barrier a b || (is_behind_barrier a b || (is_at_code_barrier a b || is_behind_fetch a b))))) demand
    (λ e. by_kind t u v others writes top s is_fetch refl refl refl (and_parts (is_fetch a.kind) (is_fetch b.kind) (and_parts (is_fetch a.kind && is_fetch b.kind) (overlap a b) e).0).0) (λ rest.
    either (is_behind_read a b) (are_writes a b || (is_before_barrier a b || (is_behind_barrier a b || (is_at_code_barrier a b || is_behind_fetch a b)))) rest
    (λ e. by_kind t u v others writes top s is_read refl refl refl (and_parts (is_read a.kind) (is_read b.kind || is_memory_write b) (and_parts (is_read a.kind && (is_read b.kind || is_memory_write b)) (overlap a b) e).0).0) (λ rest.
    either (are_writes a b) (is_before_barrier a b || (is_behind_barrier a b || (is_at_code_barrier a b || is_behind_fetch a b))) rest (by_slot t u v others writes top s) (λ rest.
    either (is_before_barrier a b) (is_behind_barrier a b || (is_at_code_barrier a b || is_behind_fetch a b)) rest
    (λ e. let kinds = and_parts (is_barrier b.kind) (is_read a.kind || (is_write a || is_poll a.kind)) e in by_any t u v others writes top s (or_left (is_barrier b.kind) (is_code_barrier b.kind) kinds.0) (parted_placed a s.earlier kinds.1)) (λ rest.
    either (is_behind_barrier a b) (is_at_code_barrier a b || is_behind_fetch a b) rest
    (λ e. by_kind t u v others writes top s is_barrier refl refl refl (and_parts (is_barrier a.kind) (is_read b.kind || (is_write b || (is_poll b.kind || is_barrier b.kind))) e).0) (λ rest.
    either (is_at_code_barrier a b) (is_behind_fetch a b) rest
    (λ e. either (is_code_barrier a.kind && has_place b.place) (is_code_barrier b.kind && has_place a.place) e
    (λ from. by_kind t u v others writes top s is_code_barrier refl refl refl (and_parts (is_code_barrier a.kind) (has_place b.place) from).0)
    (λ to. let kinds = and_parts (is_code_barrier b.kind) (has_place a.place) to in by_any t u v others writes top s (or_right (is_barrier b.kind) (is_code_barrier b.kind) kinds.0) kinds.1))
    (λ e. by_kind t u v others writes top s is_fetch refl refl refl (and_parts (is_fetch a.kind) (is_memory_write b) (and_parts (is_fetch a.kind && is_memory_write b) (overlap a b) e).0).0))))))

-- nothing is demanded of what comes before a WMB
barrier_free : (a b : Access) → IsSound b → is_write_barrier b.kind ≡ true → is_demanded a b ≡ false
barrier_free a b sound is = rw (named b.kind is, sound.placed.1 is) (free (is_fetch a.kind) (is_read a.kind) (is_barrier a.kind) (is_code_barrier a.kind) _ _ _) where
  named : (k : Kind) → is_write_barrier k ≡ true → k ≡ kind.WriteBarrier
  named kind.WriteBarrier is = refl
  named _ is = absurd (false≢true is)

  none : (b : Bool) → (b && false) ≡ false
  none true = refl
  none false = refl

  free : (f r bar code x y z : Bool) → (((f && false) && x) || (((r && false) && y) || ((bar && false) || (((code && false) || false) || ((f && false) && z))))) ≡ false
  free f r bar code x y z = rw (none f, none r, none bar, none code) refl

-- nothing of a list is broken with v where the guard is clear
pub clear_issue : (t : Times) (us : List NumberedAccess) (v : NumberedAccess) (others writes top : ℕ) → AllByRecursion (λ u. IsSound u.access) us → AreUpTo t (is_own_other (cpu_of v)) us others → AreUpTo t (is_own_memory_write (cpu_of v)) us writes → AreUpTo t (is_slot_write (slot_at (cpu_of v) v.access.address)) us top → IsSound v.access → FitsRank (key t v) → others < rank t v → (is_memory_write v.access ≡ true → top < rank t v) → ((is_barrier v.access.kind || is_code_barrier v.access.kind) ≡ true → writes < rank t v) → oldest_that (λ u. breaks_issue t u v) us ≡ None
clear_issue t [] v others writes top sound a b c later fits l m n = refl
clear_issue t (u ∷ us) v others writes top sound a b c later fits l m n = rw (clear_issue t us v others writes top sound.1 a.1 b.1 c.1 later fits l m n, one) refl where
  one : breaks_issue t u v ≡ false
  one = ⊎_elim
      (λ (demand : issue_demands u v ≡ true).
      let both = and_parts (precedes u v) (is_demanded u.access v.access) demand in
      let own = (and_parts (eqb (cpu_of u) (cpu_of v)) (ltb u.number v.number) both.0).0 in
      rw (demand, demanded_before t u v others writes top (record { earlier = sound.0; later = later; fits = fits; other = a.0; write = b.0; slot = c.0; own = own; others_less = l; top_less = m; writes_less = n }) both.1) refl)
      (λ (free : issue_demands u v ≡ false). rw free refl)
      (cases_Bool (issue_demands u v))

-- nor with a WMB
pub clear_write_barrier : (t : Times) (us : List NumberedAccess) (v : NumberedAccess) → IsSound v.access → is_write_barrier v.access.kind ≡ true → oldest_that (λ u. breaks_issue t u v) us ≡ None
clear_write_barrier t [] v sound is = refl
clear_write_barrier t (u ∷ us) v sound is = rw (clear_write_barrier t us v sound is, free (precedes u v) (is_demanded u.access v.access) (not (before t u v)) (barrier_free u.access v.access sound is)) refl where
  free : (a d c : Bool) → d ≡ false → ((a && d) && c) ≡ false
  free true d c e = rw e refl
  free false d c e = refl

-- by the test of the guard
pub clear_issue_is : (list : Accesses) (j : ℕ) (a : Access) (tops : IssueTops) (top r : ℕ) (b : Bool) → slice_get list.items (j - 1) ≡ Some a → IsSound a → AllByRecursion (λ u. IsSound u.access) (accesses_to list (j - 1)) → IfSome (access_at list j) (λ v. HasIssueTops list (j - 1) (cpu_of v) tops) → IfSome (access_at list j) (λ v. HasSlotTop list (j - 1) (slot_at (cpu_of v) v.access.address) top) → IfSome (access_at list j) (λ v. r ≡ rank (times_of list) v) → IfSome (access_at list j) (λ v. FitsRank (key (times_of list) v)) → b ≡ (is_write_barrier a.kind || (ltb tops.others r && ((not (is_memory_write a) || ltb top r) && (not (is_barrier a.kind || is_code_barrier a.kind) || ltb tops.writes r)))) → b ≡ true → IfSome (access_at list j) (λ v. None ≡ option_map (λ u. u.number) (oldest_that (λ u. breaks_issue (times_of list) u v) (accesses_to list (j - 1))))
clear_issue_is list j a tops top r b found later sound has slot at small test yes_ =
    let t = times_of list in
    let us = accesses_to list (j - 1) in
    let v = next_access us a in
    let tops_are : HasIssueTops list (j - 1) (cpu_of v) tops = rw found at has in
    let slot_is : HasSlotTop list (j - 1) (slot_at (cpu_of v) v.access.address) top = rw found at slot in
    let rank_is : r ≡ rank t v = rw found at at in
    let fits : FitsRank (key t v) = rw found at small in
    rw found (either (is_write_barrier a.kind) (ltb tops.others r && ((not (is_memory_write a) || ltb top r) && (not (is_barrier a.kind || is_code_barrier a.kind) || ltb tops.writes r))) (sym test ∙ yes_)
    (λ is. rw (clear_write_barrier t us v later is) refl)
    (λ clear.
    let both = and_parts (ltb tops.others r) ((not (is_memory_write a) || ltb top r) && (not (is_barrier a.kind || is_code_barrier a.kind) || ltb tops.writes r)) clear in
    let rest = and_parts (not (is_memory_write a) || ltb top r) (not (is_barrier a.kind || is_code_barrier a.kind) || ltb tops.writes r) both.1 in
    rw (clear_issue t us v tops.others tops.writes top sound tops_are.others tops_are.writes slot_is later fits (below tops.others r (rank t v) rank_is both.0) (λ writes. below top r (rank t v) rank_is (behind (is_memory_write a) (ltb top r) writes rest.0)) (λ stops. below tops.writes r (rank t v) rank_is (behind (is_barrier a.kind || is_code_barrier a.kind) (ltb tops.writes r) stops rest.1))) refl)) where
      below : (m r s : ℕ) → r ≡ s → ltb m r ≡ true → m < s
      below m r s is less = subst (λ n. m < n) is (ltb-true m r less)

      behind : (w c : Bool) → w ≡ true → (not w || c) ≡ true → c ≡ true
      behind true c is e = e
      behind false c is e = absurd (false≢true is)

memory_write_placed : (a : Access) → IsSound a → is_memory_write a ≡ true → has_place a.place ≡ true
memory_write_placed a sound writes = write_placed a sound (or_left (is_memory_write a) (is_signal a.kind) writes)

next_at : (list : Accesses) (j : ℕ) (a : Access) → 1 ≤ j → slice_get list.items (j - 1) ≡ Some a → accesses_to list j ≡ next_access (accesses_to list (j - 1)) a ∷ accesses_to list (j - 1)
next_at list j a least found =
    let v = next_access (accesses_to list (j - 1)) a in
    let back : j - 1 + 1 ≡ j = omega (arith, least) in
    let at : access_at list (j - 1 + 1) ≡ Some v = rw back (rw found refl) in
    subst (λ m. accesses_to list m ≡ v ∷ accesses_to list (j - 1)) back (accesses_more list (j - 1) v at)

-- the tops of a processor with one access more, which is its own
pub issue_tops_own : (list : Accesses) (j : ℕ) (a : Access) (tops : IssueTops) (r writes others : ℕ) (w : Bool) → 1 ≤ j → slice_get list.items (j - 1) ≡ Some a → IsSound a → IfSome (access_at list j) (λ v. HasIssueTops list (j - 1) (cpu_of v) tops) → IfSome (access_at list j) (λ v. r ≡ rank (times_of list) v) → IfSome (access_at list j) (λ v. FitsRank (key (times_of list) v)) → w ≡ is_memory_write a → writes ≡ cond (w && ltb tops.writes r) r tops.writes → others ≡ cond (not w && ltb tops.others r) r tops.others → IfSome (access_at list j) (λ v. HasIssueTops list j (cpu_of v) (record { writes = writes; others = others }))
issue_tops_own list j a tops r writes others w least found sound has at small kind_is writes_are others_are =
    let t = times_of list in
    let us = accesses_to list (j - 1) in
    let v = next_access us a in
    let p = cpu_number a.cpu in
    let tops_are : HasIssueTops list (j - 1) p tops = rw found at has in
    let rank_is : r ≡ rank t v = rw found at at in
    let fits : FitsRank (key t v) = rw found at small in
    let more = next_at list j a least found in
    let new_writes : writes ≡ cond (w && ltb tops.writes (rank t v)) (rank t v) tops.writes = subst (λ m. writes ≡ cond (w && ltb tops.writes m) m tops.writes) rank_is writes_are in
    let new_others : others ≡ cond (not w && ltb tops.others (rank t v)) (rank t v) tops.others = subst (λ m. others ≡ cond (not w && ltb tops.others m) m tops.others) rank_is others_are in
    rw found (record {
      others = rw more (up_step t (is_own_other p) us v (not w) tops.others others (λ passed. let rest = and_parts (not (is_memory_write a)) (has_place a.place) (and_parts (eqb p p) (not (is_memory_write a) && has_place a.place) passed).1 in (ap not kind_is ∙ rest.0, rest.1)) fits tops_are.others new_others);
      writes = rw more (up_step t (is_own_memory_write p) us v w tops.writes writes (λ passed. let is = (and_parts (eqb p p) (is_memory_write a) passed).1 in (kind_is ∙ is, memory_write_placed a sound is)) fits tops_are.writes new_writes);
    })

-- and those of its slot
pub slot_own : (list : Accesses) (j : ℕ) (a : Access) (top r new : ℕ) (w : Bool) → 1 ≤ j → slice_get list.items (j - 1) ≡ Some a → IsSound a → IfSome (access_at list j) (λ v. HasSlotTop list (j - 1) (slot_at (cpu_of v) v.access.address) top) → IfSome (access_at list j) (λ v. r ≡ rank (times_of list) v) → IfSome (access_at list j) (λ v. FitsRank (key (times_of list) v)) → w ≡ is_memory_write a → new ≡ cond (w && ltb top r) r top → IfSome (access_at list j) (λ v. HasSlotTop list j (slot_at (cpu_of v) v.access.address) new)
slot_own list j a top r new w least found sound has at small kind_is new_is =
    let t = times_of list in
    let us = accesses_to list (j - 1) in
    let v = next_access us a in
    let s = slot_at (cpu_number a.cpu) a.address in
    let slot_is : HasSlotTop list (j - 1) s top = rw found at has in
    let rank_is : r ≡ rank t v = rw found at at in
    let fits : FitsRank (key t v) = rw found at small in
    let more = next_at list j a least found in
    let new_top : new ≡ cond (w && ltb top (rank t v)) (rank t v) top = subst (λ m. new ≡ cond (w && ltb top m) m top) rank_is new_is in
    rw found (rw more (up_step t (is_slot_write s) us v w top new (λ passed. let is = (and_parts (eqb s s) (is_memory_write a) passed).1 in (kind_is ∙ is, memory_write_placed a sound is)) fits slot_is new_top))

abbrev no_tops : IssueTops
no_tops = record { others = 0; writes = 0 }

-- those of another processor stay
issue_tops_other : (list : Accesses) (j p : ℕ) (a : Access) (tops : IssueTops) → 1 ≤ j → slice_get list.items (j - 1) ≡ Some a → eqb (cpu_number a.cpu) p ≡ false → HasIssueTops list (j - 1) p tops → HasIssueTops list j p tops
issue_tops_other list j p a tops least found apart has =
    let more = next_at list j a least found in
    record {
      others = rw more (λ own. absurd (false≢true (sym apart ∙ (and_parts (eqb (cpu_number a.cpu) p) (not (is_memory_write a) && has_place a.place) own).0)), has.others);
      writes = rw more (λ own. absurd (false≢true (sym apart ∙ (and_parts (eqb (cpu_number a.cpu) p) (is_memory_write a) own).0)), has.writes);
    }

slot_other : (list : Accesses) (j s : ℕ) (a : Access) (top : ℕ) → 1 ≤ j → slice_get list.items (j - 1) ≡ Some a → eqb (slot_at (cpu_number a.cpu) a.address) s ≡ false → HasSlotTop list (j - 1) s top → HasSlotTop list j s top
slot_other list j s a top least found apart has = rw (next_at list j a least found) (λ own. absurd (false≢true (sym apart ∙ (and_parts (eqb (slot_at (cpu_number a.cpu) a.address) s) (is_memory_write a) own).0)), has)

differ : (p q : ℕ) → p ≡ q → eqb q p ≡ false → ⊥
differ p q e apart = grind (arith, e, apart)

-- before the first access
pub issue_none : (list : Accesses) (tops : List IssueTops) (slots : List ℕ) → length tops ≡ 8 → length slots ≡ 512 → KeepsIssueTops list 0 tops slots
issue_none list tops slots number size = record { sound = tt; each = λ p. record { others = tt; writes = tt }; slot = λ s. tt; number = number; size = size }

-- what is kept for the next access
pub issue_at : (list : Accesses) (n k : ℕ) (a : Access) (tops : List IssueTops) (slots : List ℕ) → slice_get list.items (n + 1 - 1) ≡ Some a → k ≡ cpu_number a.cpu → KeepsIssueTops list n tops slots → IfSome (access_at list (n + 1)) (λ v. HasIssueTops list (n + 1 - 1) (cpu_of v) (slice_index_or tops k no_tops))
issue_at list n k a tops slots found is keeps = rw found (let back : n + 1 - 1 ≡ n = omega arith in rw (back, is) (keeps.each (cpu_number a.cpu)))

pub issue_slot_at : (list : Accesses) (n s : ℕ) (a : Access) (tops : List IssueTops) (slots : List ℕ) → slice_get list.items (n + 1 - 1) ≡ Some a → s ≡ slot_at (cpu_number a.cpu) a.address → KeepsIssueTops list n tops slots → IfSome (access_at list (n + 1)) (λ v. HasSlotTop list (n + 1 - 1) (slot_at (cpu_of v) v.access.address) (slice_index_or slots s 0))
issue_slot_at list n s a tops slots found is keeps = rw found (let back : n + 1 - 1 ≡ n = omega arith in rw (back, is) (keeps.slot (slot_at (cpu_number a.cpu) a.address)))

pub sound_at : (list : Accesses) (n : ℕ) (tops : List IssueTops) (slots : List ℕ) → KeepsIssueTops list n tops slots → AllByRecursion (λ u. IsSound u.access) (accesses_to list (n + 1 - 1))
sound_at list n tops slots keeps = let back : n + 1 - 1 ≡ n = omega arith in rw back keeps.sound

-- one access more
pub issue_more : (list : Accesses) (n k s : ℕ) (a : Access) (tops : List IssueTops) (slots : List ℕ) (new : IssueTops) (top : ℕ) → slice_get list.items (n + 1 - 1) ≡ Some a → IsSound a → k ≡ cpu_number a.cpu → k < 8 → s ≡ slot_at (cpu_number a.cpu) a.address → s < 512 → KeepsIssueTops list n tops slots → IfSome (access_at list (n + 1)) (λ v. HasIssueTops list (n + 1) (cpu_of v) new) → IfSome (access_at list (n + 1)) (λ v. HasSlotTop list (n + 1) (slot_at (cpu_of v) v.access.address) top) → KeepsIssueTops list (n + 1) (slice_set tops k new) (slice_set slots s top)
issue_more list n k s a tops slots new top found sound is small at below keeps own written = record { sound = rw more (sound, kept.0); each = each; slot = slot; number = length-set tops k new ∙ keeps.number; size = length-set slots s top ∙ keeps.size } where
  least : 1 ≤ n + 1
  least = omega arith

  back : n + 1 - 1 ≡ n
  back = omega arith

  more : accesses_to list (n + 1) ≡ next_access (accesses_to list (n + 1 - 1)) a ∷ accesses_to list (n + 1 - 1)
  more = next_at list (n + 1) a least found

  kept : AllByRecursion (λ u. IsSound u.access) (accesses_to list (n + 1 - 1)) × (((p : ℕ) → HasIssueTops list (n + 1 - 1) p (slice_index_or tops p no_tops)) × ((q : ℕ) → HasSlotTop list (n + 1 - 1) q (slice_index_or slots q 0)))
  kept = rw back (keeps.sound, (keeps.each, keeps.slot))

  mine : HasIssueTops list (n + 1) (cpu_number a.cpu) new
  mine = rw found at own

  its : HasSlotTop list (n + 1) (slot_at (cpu_number a.cpu) a.address) top
  its = rw found at written

  each : (p : ℕ) → HasIssueTops list (n + 1) p (slice_index_or (slice_set tops k new) p no_tops)
  each p = ⊎_elim
      (λ (same : eqb (cpu_number a.cpu) p ≡ true).
      let number = keeps.number in
      let who : k ≡ p = is ∙ eqb-true (cpu_number a.cpu) p same in
      let set : slice_index_or (slice_set tops k new) k no_tops ≡ new = get_or-set_same tops k new no_tops (omega (arith, small, number)) in
      subst (λ q. HasIssueTops list (n + 1) q (slice_index_or (slice_set tops k new) q no_tops)) who (rw set (rw is mine)))
      (λ (apart : eqb (cpu_number a.cpu) p ≡ false).
      let other : slice_index_or (slice_set tops k new) p no_tops ≡ slice_index_or tops p no_tops = get_or-set_other tops k p new no_tops (λ e. differ p (cpu_number a.cpu) (e ∙ is) apart) in
      rw other (issue_tops_other list (n + 1) p a (slice_index_or tops p no_tops) least found apart (kept.1.0 p)))
      (cases_Bool (eqb (cpu_number a.cpu) p))

  slot : (q : ℕ) → HasSlotTop list (n + 1) q (slice_index_or (slice_set slots s top) q 0)
  slot q = ⊎_elim
      (λ (same : eqb (slot_at (cpu_number a.cpu) a.address) q ≡ true).
      let size = keeps.size in
      let where_ : s ≡ q = at ∙ eqb-true (slot_at (cpu_number a.cpu) a.address) q same in
      let set : slice_index_or (slice_set slots s top) s 0 ≡ top = get_or-set_same slots s top 0 (omega (arith, below, size)) in
      subst (λ m. HasSlotTop list (n + 1) m (slice_index_or (slice_set slots s top) m 0)) where_ (subst (HasSlotTop list (n + 1) s) (sym set) (subst (λ m. HasSlotTop list (n + 1) m top) (sym at) its)))
      (λ (apart : eqb (slot_at (cpu_number a.cpu) a.address) q ≡ false).
      let other : slice_index_or (slice_set slots s top) q 0 ≡ slice_index_or slots q 0 = get_or-set_other slots s q top 0 (λ e. differ q (slot_at (cpu_number a.cpu) a.address) (e ∙ at) apart) in
      subst (HasSlotTop list (n + 1) q) (sym other) (slot_other list (n + 1) q a (slice_index_or slots q 0) least found apart (kept.1.1 q)))
      (cases_Bool (eqb (slot_at (cpu_number a.cpu) a.address) q))
