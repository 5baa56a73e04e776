-- Scans over a list's accesses, the oldest first.
use Rattle.std.proofs.Common.{◌≡◌, ℕ, ◌+◌, ◌-◌, ◌<◌, ◌≤◌, Bool, true, false, List, [], ◌∷◌, ◌++◌, length, Option, Some, None, IfSome, refl, sym, ap, ◌∙◌, arith}
use Rattle.std.specs.Option.{option_map}
use Rattle.std.proofs.Math.Seq.{take-length}
use Rattle.axp_access.specs.Numbering.{NumberedAccess}
use Rattle.axp_access.specs.Lists.{Accesses, accesses_in, accesses_to, access_at}
use Rattle.axp_order.specs.Oldest.{oldest_that, least_pair}
use Rattle.axp_order.proofs.Accesses.{accesses_more, accesses_grow, access_some, number_at}

-- once a pair is found, more accesses do not change it
pub least_stays : (bad : NumberedAccess → NumberedAccess → Bool) (us ws : List NumberedAccess) (p : ℕ × ℕ) → least_pair bad us ≡ Some p → least_pair bad (ws ++ us) ≡ Some p
least_stays bad us [] p e = e
least_stays bad us (w ∷ ws) p e = rw (least_stays bad us ws p e) refl

pub oldest_stays : (test : NumberedAccess → Bool) (us ws : List NumberedAccess) (u : NumberedAccess) → oldest_that test us ≡ Some u → oldest_that test (ws ++ us) ≡ Some u
oldest_stays test us [] u e = e
oldest_stays test us (w ∷ ws) u e = rw (oldest_stays test us ws u e) refl

back : (n : ℕ) → n + 1 - 1 ≡ n
back n = omega arith

pub oldest_more : (test : NumberedAccess → Bool) (list : Accesses) (n : ℕ) → n < length list.items → oldest_that test (accesses_to list n) ≡ None → IfSome (access_at list (n + 1)) (λ u. test u ≡ false) → oldest_that test (accesses_to list (n + 1)) ≡ None
oldest_more test list n inside none failed =
    let u = access_some list n inside in
    let no_ : test u.0 ≡ false = rw u.1 at failed in
    rw (accesses_more list n u.0 u.1) (rw (none, no_) refl)

pub oldest_found : (test : NumberedAccess → Bool) (list : Accesses) (n k : ℕ) → n < length list.items → oldest_that test (accesses_to list n) ≡ None → IfSome (access_at list (n + 1)) (λ u. test u ≡ true) → option_map (λ u. u.number) (oldest_that test (accesses_to list (n + 1 + k))) ≡ Some (n + 1)
oldest_found test list n k inside none passed =
    let u = access_some list n inside in
    let yes_ : test u.0 ≡ true = rw u.1 at passed in
    let here : oldest_that test (accesses_to list (n + 1)) ≡ Some u.0 = rw (accesses_more list n u.0 u.1) (rw (none, yes_) refl) in
    let more = accesses_grow list (n + 1) k in
    rw more.1 (rw (oldest_stays test (accesses_to list (n + 1)) more.0 u.0 here) (ap (λ m. Some m) (number_at list n u.0 u.1)))

pub least_more : (bad : NumberedAccess → NumberedAccess → Bool) (list : Accesses) (n : ℕ) → n < length list.items → least_pair bad (accesses_to list n) ≡ None → IfSome (access_at list (n + 1)) (λ v. None ≡ option_map (λ u. u.number) (oldest_that (λ u. bad u v) (accesses_to list (n + 1 - 1)))) → least_pair bad (accesses_to list (n + 1)) ≡ None
least_more bad list n inside none first =
    let v = access_some list n inside in
    let no_ : None ≡ option_map (λ u. u.number) (oldest_that (λ u. bad u v.0) (accesses_to list n)) = rw (back n) at (rw v.1 at first) in
    rw (accesses_more list n v.0 v.1) (rw none (by (oldest_that (λ u. bad u v.0) (accesses_to list n)) v.0 no_)) where
      by : (o : Option NumberedAccess) (v : NumberedAccess) → None ≡ option_map (λ u. u.number) o → option_map {U = ℕ × ℕ} (λ u. (u.number, v.number)) o ≡ None
      by None v e = refl
      by (Some u) v e = cc

pub least_found : (bad : NumberedAccess → NumberedAccess → Bool) (list : Accesses) (n k i : ℕ) → n < length list.items → least_pair bad (accesses_to list n) ≡ None → IfSome (access_at list (n + 1)) (λ v. Some i ≡ option_map (λ u. u.number) (oldest_that (λ u. bad u v) (accesses_to list (n + 1 - 1)))) → least_pair bad (accesses_to list (n + 1 + k)) ≡ Some (i, n + 1)
least_found bad list n k i inside none first =
    let v = access_some list n inside in
    let yes_ : Some i ≡ option_map (λ u. u.number) (oldest_that (λ u. bad u v.0) (accesses_to list n)) = rw (back n) at (rw v.1 at first) in
    let more = accesses_grow list (n + 1) k in
    let here : least_pair bad (accesses_to list (n + 1)) ≡ Some (i, n + 1) = rw (accesses_more list n v.0 v.1) (rw none (by (oldest_that (λ u. bad u v.0) (accesses_to list n)) v.0 (number_at list n v.0 v.1) yes_)) in
    rw more.1 (least_stays bad (accesses_to list (n + 1)) more.0 (i, n + 1) here) where
      by : (o : Option NumberedAccess) (v : NumberedAccess) → v.number ≡ n + 1 → Some i ≡ option_map (λ u. u.number) o → option_map {U = ℕ × ℕ} (λ u. (u.number, v.number)) o ≡ Some (i, n + 1)
      by None v number e = cc
      by (Some u) v number e = let first : i ≡ u.number = cc in rw (first, number) refl

-- what holds of each holds where there is one
pub always : {X : Type 0} (P : X → Type 0) (o : Option X) → ((x : X) → P x) → IfSome o P
always P None all = tt
always P (Some x) all = all x

-- a step of the scan for the first that stands against the j-th
pub none_against : (bad : NumberedAccess → NumberedAccess → Bool) (list : Accesses) (i : ℕ) (o : Option NumberedAccess) (b : Bool) → 1 ≤ i → i ≤ length list.items → IfSome o (λ v. oldest_that (λ u. bad u v) (accesses_to list (i - 1)) ≡ None) → IfSome (access_at list i) (λ u. IfSome o (λ v. b ≡ bad u v)) → b ≡ false → IfSome o (λ v. oldest_that (λ u. bad u v) (accesses_to list (i + 1 - 1)) ≡ None)
none_against bad list i None b least most so_far test no_ = tt
none_against bad list i (Some v) b least most so_far test no_ =
    let back : i - 1 + 1 ≡ i = omega (arith, least) in
    let same : i + 1 - 1 ≡ i = omega arith in
    let step = oldest_more (λ u. bad u v) list (i - 1) (omega (arith, least, most)) so_far (rw back (each (access_at list i) test)) in
    rw same (rw back at step) where
      each : (p : Option NumberedAccess) → IfSome p (λ u. b ≡ bad u v) → IfSome p (λ u. bad u v ≡ false)
      each None e = tt
      each (Some u) e = sym e ∙ no_

pub some_against : (bad : NumberedAccess → NumberedAccess → Bool) (list : Accesses) (i j : ℕ) (o : Option NumberedAccess) (b : Bool) → 1 ≤ i → i < j → j ≤ length list.items → IfSome o (λ v. oldest_that (λ u. bad u v) (accesses_to list (i - 1)) ≡ None) → IfSome (access_at list i) (λ u. IfSome o (λ v. b ≡ bad u v)) → b ≡ true → IfSome o (λ v. Some i ≡ option_map (λ u. u.number) (oldest_that (λ u. bad u v) (accesses_to list (j - 1))))
some_against bad list i j None b least less most so_far test yes_ = tt
some_against bad list i j (Some v) b least less most so_far test yes_ =
    let back : i - 1 + 1 ≡ i = omega (arith, least) in
    let more : i + (j - 1 - i) ≡ j - 1 = omega (arith, less) in
    let found = oldest_found (λ u. bad u v) list (i - 1) (j - 1 - i) (omega (arith, least, less, most)) so_far (rw back (each (access_at list i) test)) in
    sym (rw more at (rw back at found)) where
      each : (p : Option NumberedAccess) → IfSome p (λ u. b ≡ bad u v) → IfSome p (λ u. bad u v ≡ true)
      each None e = tt
      each (Some u) e = sym e ∙ yes_

pub none_left : (bad : NumberedAccess → NumberedAccess → Bool) (list : Accesses) (i j : ℕ) (o : Option NumberedAccess) → i ≡ j → IfSome o (λ v. oldest_that (λ u. bad u v) (accesses_to list (i - 1)) ≡ None) → IfSome o (λ v. None ≡ option_map (λ u. u.number) (oldest_that (λ u. bad u v) (accesses_to list (j - 1))))
none_left bad list i j None same none = tt
none_left bad list i j (Some v) same none = rw (sym same) (rw none refl)

pub least_all : (bad : NumberedAccess → NumberedAccess → Bool) (list : Accesses) → least_pair bad (accesses_in list) ≡ least_pair bad (accesses_to list (length list.items))
least_all bad list = rw (take-length list.items) refl
