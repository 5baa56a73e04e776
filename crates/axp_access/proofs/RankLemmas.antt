-- The rank of an access by where it stands.
use Rattle.std.proofs.Common.{◌≡◌, List, ℕ, ◌+◌, ◌-◌, ◌<◌, ◌≤◌, ◌^◌, Bool, not, ◌&&◌, eqb, ltb, Option, Some, None, IfSome, refl, sym, ap, ◌∙◌, subst, arith, length, take, reverse, slice_get}
use Rattle.axp_access.specs.declared.Place.{Place}
use Rattle.axp_access.specs.declared.Place.TheVariants.{At, Entry, Absent}
use Rattle.axp_access.specs.Kinds.{is_write}
use Rattle.axp_access.specs.Numbering.{NumberedAccess, next_access}
use Rattle.axp_access.specs.Order.{Spot, spot, Times, key, Key, before}
use Rattle.axp_access.specs.declared.access_lists.Drain.{Drain}
use Rattle.std.proofs.lemmas.Option.{slice_get_within}
use Rattle.std.proofs.lemmas.List.{length-take-le, length-reverse}
use Rattle.axp_base.specs.Cpus.{cpu_number}
use Rattle.axp_access.specs.declared.Access.{Access}
use Rattle.axp_access.proofs.Numbers.{length_numbered}
use Rattle.axp_access.proofs.RankOrder.{before_by_rank}
use Rattle.axp_access.specs.Lists.{Accesses, accesses_to, access_at, times_of, times_in, turn_in, settled_place}
use Rattle.axp_access.specs.Ranks.{rank, rank_of, rank_by, FitsRank, FitsPlace}

abbrev key_at : Spot → Bool → ℕ → ℕ → Key
key_at s other cpu n = record { spot = s; other = other; cpu = cpu; number = n }

-- by the place that is settled_place
pub ranked : (ds : List Drain) (p : ℕ) (at : Place) (other : Bool) (n : ℕ) → rank_of (key_at (spot (times_in ds) p at) other p n) ≡ rank_by (settled_place ds p at) other p n
unfolding rank_of
ranked ds p (At turn) other n = omega arith
ranked ds p (Entry m) other n = by (turn_in ds p m) refl where
  by : (o : Option ℕ) → turn_in ds p m ≡ o → rank_of (key_at (spot (times_in ds) p (Entry m)) other p n) ≡ rank_by (settled_place ds p (Entry m)) other p n
  by None e = rw e (omega arith)
  by (Some turn) e = rw e (omega arith)
ranked ds p Absent other n = refl

-- what one access of a list is, and what its rank is made of
pub record Told (list : Accesses) (n : ℕ) (a : Access) (place : Place) (r : ℕ) : Type 0 where
  pub least : 1 ≤ n
  pub most : n < 2 ^ 32
  pub found : slice_get list.items (n - 1) ≡ Some a
  pub settled : place ≡ settled_place list.drains (cpu_number a.cpu) a.place
  pub rank : r ≡ rank_by place (not (is_write a)) (cpu_number a.cpu) n
  pub small : FitsPlace place
  pub cpu : cpu_number a.cpu < 8

told_item : (list : Accesses) (n : ℕ) (a : Access) (place : Place) (r : ℕ) → Told list n a place r → (r ≡ rank (times_of list) (next_access (accesses_to list (n - 1)) a)) × FitsRank (key (times_of list) (next_access (accesses_to list (n - 1)) a))
told_item list n a place r told =
    let least = told.least in
    let inside = slice_get_within list.items (n - 1) a told.found in
    let number : length (accesses_to list (n - 1)) + 1 ≡ n = let short : length (accesses_to list (n - 1)) ≡ n - 1 = length_numbered (reverse (take (n - 1) list.items)) ∙ length-reverse (take (n - 1) list.items) ∙ length-take-le (n - 1) list.items (omega (arith, inside)) in omega (arith, short, least) in
    let at : place ≡ settled_place list.drains (cpu_number a.cpu) a.place = told.settled in
    let all = ranked list.drains (cpu_number a.cpu) a.place (not (is_write a)) n in
    let r_is : r ≡ rank_by (settled_place list.drains (cpu_number a.cpu) a.place) (not (is_write a)) (cpu_number a.cpu) n = told.rank ∙ ap (λ p. rank_by p (not (is_write a)) (cpu_number a.cpu) n) at in
    let whole : r ≡ rank_of (key_at (spot (times_of list) (cpu_number a.cpu) a.place) (not (is_write a)) (cpu_number a.cpu) n) = r_is ∙ sym all in
    let few = told.cpu in
    let most = told.most in (
      whole ∙ ap (λ m. rank_of (key_at (spot (times_of list) (cpu_number a.cpu) a.place) (not (is_write a)) (cpu_number a.cpu) m)) (sym number),
      record { place = spot_fits list.drains (cpu_number a.cpu) a.place (subst FitsPlace at told.small); cpu = omega (arith, few); number = omega (arith, number, most); first = omega (arith, number, least) },
    ) where
      spot_fits : (ds : List Drain) (p : ℕ) (at : Place) → FitsPlace (settled_place ds p at) → (spot (times_in ds) p at).place < 2 ^ 64
      spot_fits ds p (At turn) small = small
      spot_fits ds p (Entry m) small = by (turn_in ds p m) refl small where
        by : (o : Option ℕ) → turn_in ds p m ≡ o → FitsPlace (settled_place ds p (Entry m)) → (spot (times_in ds) p (Entry m)).place < 2 ^ 64
        by None e small = rw e (omega arith)
        by (Some turn) e small = rw e (rw e at small)
      spot_fits ds p Absent small = omega arith

pub rank_is : (list : Accesses) (n : ℕ) (a : Access) (place : Place) (r : ℕ) → Told list n a place r → IfSome (access_at list n) (λ u. r ≡ rank (times_of list) u)
rank_is list n a place r told = let all = told_item list n a place r told in rw told.found all.0

pub key_fits : (list : Accesses) (n : ℕ) (a : Access) (place : Place) (r : ℕ) → Told list n a place r → IfSome (access_at list n) (λ u. FitsRank (key (times_of list) u))
key_fits list n a place r told = let all = told_item list n a place r told in rw told.found all.1

-- BEFORE by the ranks of two
pub before_is : (t : Times) (o p : Option NumberedAccess) (r s : ℕ) (b : Bool) → IfSome o (λ u. r ≡ rank t u) → IfSome o (λ u. FitsRank (key t u)) → IfSome p (λ v. s ≡ rank t v) → IfSome p (λ v. FitsRank (key t v)) → b ≡ (not (eqb r 0) && ltb r s) → IfSome o (λ u. IfSome p (λ v. b ≡ before t u v))
before_is t None p r s b e small f also is = tt
before_is t (Some u) None r s b e small f also is = tt
before_is t (Some u) (Some v) r s b e small f also is = is ∙ rw (e, f) (sym (before_by_rank (key t u) (key t v) small also))
