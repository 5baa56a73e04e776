-- A held copy is what memory was after its stamp: no write of its line reached memory between the stamp and
-- the place of a read.
use Rattle.std.proofs.Common.{true, false, ℕ, ◌+◌, ◌<◌, ◌≤◌, ◌≡◌, ◌⊎◌, inl, inr, ⊎_elim, eqb, Bool, not, ◌&&◌, ◌||◌, List, [], ◌∷◌, refl, sym, ◌∙◌, subst, arith}
use Rattle.std.specs.List.{AllByRecursion}
use Rattle.std.proofs.lemmas.Bool.{cases_Bool, cases_eq, cond_both, and_parts, or_cases, or_parts, or_right, cases_lt, le-leb, lt-leb, eqb-true, eq-eqb, ne_eqb}
use Rattle.axp_base.specs.Lines.{data_bank, line_of}
use Rattle.axp_access.specs.declared.Record.{Record}
use Rattle.axp_model.specs.Records.{is_of, turns_on, fills, locks, fences}
use Rattle.axp_access.specs.Kinds.{is_memory_write, has_byte}
use Rattle.axp_model.specs.Turns.{turns, stamps, stamp, barrier, read_place}
use Rattle.axp_model.specs.Accesses.{accesses, times}
use Rattle.axp_access.specs.Numbering.{NumberedAccess, cpu_of}
use Rattle.axp_access.specs.Order.{Spot, spot}
use Rattle.axp_model.specs.Memory.{is_placed_by, has_reached}
use Rattle.axp_model.specs.Late.{late, loses_copy, held}
use Rattle.axp_model.specs.Outcomes.{IsRun}
use Rattle.axp_model.specs.Processors.{Processors, AreInLine}
use Rattle.axp_laws.specs.Counts.{last_other}
use Rattle.axp_laws.specs.StorageLaws.{memory_after}
use Rattle.axp_laws.proofs.RunFacts.{Fitting, KnownItem}
use Rattle.axp_laws.proofs.OrderCounts.{turns_grow, barrier_most}
use Rattle.axp_laws.proofs.RunRecords.{run_fits}
use Rattle.axp_laws.proofs.RunSteps.{kept}
use Rattle.axp_laws.proofs.SourceTurns.{Settles, OnPlace, Settled, settled}
use Rattle.axp_laws.proofs.SourceClosedForm.{stamp_settles, byte_line, latest_same}
use Rattle.axp_laws.proofs.LateReached.{none_older, last_other_most}

-- another processor than p made turn t on the line
abbrev others_turn : ℕ → ℕ → ℕ → List Record → Bool
others_turn p l t [] = false
others_turn p l t (r ∷ h) = ((not (is_of p r) && turns_on l r.outcome) && eqb (turns h + 1) t) || others_turn p l t h

others_most : (p l t : ℕ) (h : List Record) → others_turn p l t h ≡ true → t ≤ last_other p l h
others_most p l t [] e = cc
others_most p l t (r ∷ h) e =
    ⊎_elim
    (λ (now : ((not (is_of p r) && turns_on l r.outcome) && eqb (turns h + 1) t) ≡ true).
    let both = and_parts (not (is_of p r) && turns_on l r.outcome) (eqb (turns h + 1) t) now in
    let same : turns h + 1 ≡ t = eqb-true (turns h + 1) t both.1 in
    rw both.0 (omega (arith, same)))
    (λ (old : others_turn p l t h ≡ true).
    cond_both (not (is_of p r) && turns_on l r.outcome) (turns h + 1) (last_other p l h) (λ n. t ≤ n)
    (λ _. omega (arith, others_most p l t h old, last_other_most p l h)) (λ _. others_most p l t h old))
    (or_cases ((not (is_of p r) && turns_on l r.outcome) && eqb (turns h + 1) t) (others_turn p l t h) e)

others_settle : (p q l : ℕ) → (q ≡ p → ⊥) → Settles q l (λ t h. others_turn p l t h ≡ true)
others_settle p q l apart = record {
  stays = λ t r h e. or_right ((not (is_of p r) && turns_on l r.outcome) && eqb (turns h + 1) t) (others_turn p l t h) e;
  comes = λ r h own on.
      let other : is_of p r ≡ false = ne_eqb r.event.cpu.number p (λ same. apart (sym (eqb-true r.event.cpu.number q own) ∙ same)) in
      rw other (rw on (rw (eq-eqb (turns h + 1) (turns h + 1) refl) refl));
}

-- an own record after which the line is still held by the same copy leaves it held before
still_held : (p l : ℕ) (r : Record) (h : List Record) → is_of p r ≡ true → stamps p l r ≡ false → held p l (r ∷ h) ≡ true → held p l h ≡ true
still_held p l r h own none e =
    let parts = or_parts (fills l r.outcome) (locks l r.outcome || turns_on l r.outcome) (rw own at none) in
    let more = or_parts (locks l r.outcome) (turns_on l r.outcome) parts.1 in
    (and_parts (held p l h) (not (loses_copy l (stamp p l h) (late p (data_bank l) h) r)) (rw more.0 at (rw parts.0 at (rw own at e)))).0

-- another's turn that is not after the last barrier is not after the copy's stamp
fenced_turns : (p l t : ℕ) (h : List Record) → Fitting h → held p l h ≡ true → others_turn p l t h ≡ true → t ≤ barrier p h → t ≤ stamp p l h
fenced_turns p l t [] fit e others less = cc
fenced_turns p l t (r ∷ h) fit e others less =
    ⊎_elim
    (λ (own : is_of p r ≡ true). own_turns own (λ before old low. fenced_turns p l t h fit.1 before old low))
    (λ (foreign : is_of p r ≡ false).
    let same_barrier : barrier p (r ∷ h) ≡ barrier p h = rw foreign refl in
    let same_stamp : stamp p l (r ∷ h) ≡ stamp p l h = rw foreign refl in
    let low : t ≤ barrier p h = omega (arith, less, same_barrier) in
    ⊎_elim
    (λ (now : ((not (is_of p r) && turns_on l r.outcome) && eqb (turns h + 1) t) ≡ true).
    let new : turns h + 1 ≡ t = eqb-true (turns h + 1) t (and_parts (not (is_of p r) && turns_on l r.outcome) (eqb (turns h + 1) t) now).1 in
    omega (arith, low, new, barrier_most p h))
    (λ (old : others_turn p l t h ≡ true). omega (arith, same_stamp, fenced_turns p l t h fit.1 (rw foreign at e) old low))
    (or_cases ((not (is_of p r) && turns_on l r.outcome) && eqb (turns h + 1) t) (others_turn p l t h) others))
    (cases_Bool (is_of p r)) where
      own_turns : is_of p r ≡ true → (held p l h ≡ true → others_turn p l t h ≡ true → t ≤ barrier p h → t ≤ stamp p l h) → t ≤ stamp p l (r ∷ h)
      own_turns own earlier =
          let old : others_turn p l t h ≡ true = rw own at others in
          let most : t ≤ last_other p l h = others_most p l t h old in
          let same_other : last_other p l (r ∷ h) ≡ last_other p l h = rw own refl in
          ⊎_elim
          (λ (stamped : stamps p l r ≡ true). let now : stamp p l (r ∷ h) ≡ turns (r ∷ h) = rw stamped refl in omega (arith, now, most, last_other_most p l h, turns_grow r h))
          (λ (none : stamps p l r ≡ false).
          ⊎_elim
          (λ (fence : fences r.outcome ≡ true). omega (arith, most, same_other, none_older p l r h fit (record { own = own; fence = fence }) e))
          (λ (no_fence : fences r.outcome ≡ false).
          let same_barrier : barrier p (r ∷ h) ≡ barrier p h = rw own (rw no_fence refl) in
          let same_stamp : stamp p l (r ∷ h) ≡ stamp p l h = rw none refl in
          omega (arith, same_stamp, earlier (still_held p l r h own none e) old (omega (arith, less, same_barrier))))
          (cases_Bool (fences r.outcome)))
          (cases_Bool (stamps p l r))

-- where an access of a history stands
abbrev stand : List Record → NumberedAccess → Spot
stand h u = spot (times h) u.access.cpu.number u.access.place

-- a write of a held line that reached memory by the place of a read did so by the copy's stamp
by_stamp : (h : List Record) (p at : ℕ) (u : NumberedAccess) → Fitting h → held p (line_of at) h ≡ true → KnownItem h u → Settled p (line_of at) (λ t k. t ≤ stamp p (line_of at) k) h u
    → ((cpu_of u ≡ p → ⊥) → Settled (cpu_of u) (line_of at) (λ t k. others_turn p (line_of at) t k ≡ true) h u)
    → has_reached (times h) (read_place p (line_of at) h) at u ≡ has_reached (times h) (stamp p (line_of at) h) at u
by_stamp h p at u fit holds known own others =
    and_same (is_memory_write u.access) (has_byte at u.access) (is_placed_by (read_place p (line_of at) h) (stand h u)) (is_placed_by (stamp p (line_of at) h) (stand h u))
    (λ w b. by_place w (sym (byte_line at u.access known.inside b)) (stand h u).placed (stand h u).last refl refl) where
      and_same : (a b x y : Bool) → (a ≡ true → b ≡ true → x ≡ y) → (a && (b && x)) ≡ (a && (b && y))
      and_same true true x y same = same refl refl
      and_same true false x y same = refl
      and_same false b x y same = refl

      low : is_memory_write u.access ≡ true → line_of u.access.address ≡ line_of at → (stand h u).last ≡ false → (stand h u).place ≤ read_place p (line_of at) h → (stand h u).place ≤ stamp p (line_of at) h
      low w line last less =
          ⊎_elim
          (λ (small : (stand h u).place ≤ stamp p (line_of at) h). small)
          (λ (large : stamp p (line_of at) h < (stand h u).place).
          let fenced : (stand h u).place ≤ barrier p h = omega (arith, less, large) in
          ⊎_elim
          (λ (who : cpu_of u ≡ p). (subst (λ q. OnPlace (λ t. t ≤ stamp p (line_of at) h) (spot (times h) q u.access.place)) (sym who) (own w who line)) last)
          (λ (apart : cpu_of u ≡ p → ⊥). fenced_turns p (line_of at) (stand h u).place h fit holds (others apart w refl line last) fenced)
          (cases_eq (cpu_of u) p))
          (split (stand h u).place (stamp p (line_of at) h)) where
            split : (a b : ℕ) → (a ≤ b) ⊎ (b < a)
            split a b = ⊎_elim (λ (x : b < a). inr x) (λ (x : a ≤ b). inl x) (cases_lt b a)

      by_place : is_memory_write u.access ≡ true → line_of u.access.address ≡ line_of at → (placed last : Bool) → (stand h u).placed ≡ placed → (stand h u).last ≡ last → is_placed_by (read_place p (line_of at) h) (stand h u) ≡ is_placed_by (stamp p (line_of at) h) (stand h u)
      by_place w line false last is_placed is_last = rw is_placed refl
      by_place w line true true is_placed is_last = rw (is_placed, is_last) refl
      by_place w line true false is_placed is_last =
          rw (is_placed, is_last)
          (⊎_elim
          (λ (far : read_place p (line_of at) h < (stand h u).place). rw (lt-leb (stand h u).place (read_place p (line_of at) h) far, lt-leb (stand h u).place (stamp p (line_of at) h) (omega (arith, far))) refl)
          (λ (near : (stand h u).place ≤ read_place p (line_of at) h). rw (le-leb (stand h u).place (read_place p (line_of at) h) near, le-leb (stand h u).place (stamp p (line_of at) h) (low w line is_last near)) refl)
          (cases_lt (read_place p (line_of at) h) (stand h u).place))

-- along a history
each_by_stamp : (h : List Record) (p at : ℕ) → Fitting h → held p (line_of at) h ≡ true → (us : List NumberedAccess) → AllByRecursion (KnownItem h) us → AllByRecursion (Settled p (line_of at) (λ t k. t ≤ stamp p (line_of at) k) h) us
    → ((q : ℕ) → (q ≡ p → ⊥) → AllByRecursion (Settled q (line_of at) (λ t k. others_turn p (line_of at) t k ≡ true) h) us)
    → AllByRecursion (λ u. has_reached (times h) (read_place p (line_of at) h) at u ≡ has_reached (times h) (stamp p (line_of at) h) at u) us
each_by_stamp h p at fit holds [] known own others = tt
each_by_stamp h p at fit holds (u ∷ us) known own others =
    (by_stamp h p at u fit holds known.0 own.0 (λ apart. (others (cpu_of u) apart).0), each_by_stamp h p at fit holds us known.1 own.1 (λ q apart. (others q apart).1))

pub held_memory : (h : List Record) (p at : ℕ) → Fitting h → held p (line_of at) h ≡ true → memory_after h (read_place p (line_of at) h) at ≡ memory_after h (stamp p (line_of at) h) at
held_memory h p at fit holds =
    latest_same (times h) (has_reached (times h) (stamp p (line_of at) h) at) (has_reached (times h) (read_place p (line_of at) h) at) (accesses h)
    (each_by_stamp h p at fit holds (accesses h) (kept h fit).items (settled p (line_of at) (λ t k. t ≤ stamp p (line_of at) k) (stamp_settles p (line_of at)) h fit)
    (λ q apart. settled q (line_of at) (λ t k. others_turn p (line_of at) t k ≡ true) (others_settle p q (line_of at) apart) h fit))

pub run_held : (image : ℕ → ℕ) (ps : Processors) (h : List Record) (p at : ℕ) → AreInLine ps → IsRun image ps h → held p (line_of at) h ≡ true → memory_after h (read_place p (line_of at) h) at ≡ memory_after h (stamp p (line_of at) h) at
run_held image ps h p at inside run holds = held_memory h p at (run_fits image ps h inside run) holds
