-- How many WMBs of a processor stand among a list's first accesses.
use Rattle.std.proofs.Common.{◌≡◌, ℕ, ◌+◌, ◌-◌, ◌<◌, ◌≤◌, Bool, true, false, ◌&&◌, eqb, ltb, cond, List, [], ◌∷◌, ◌++◌, Some, slice_get, refl, sym, ◌∙◌, arith, ⊎_elim}
use Rattle.std.proofs.lemmas.Bool.{cases_Bool, lt-ltb, le-ltb}
use Rattle.axp_base.specs.Cpus.{cpu_number}
use Rattle.axp_access.specs.declared.Access.{Access}
use Rattle.axp_access.specs.Kinds.{is_write_barrier}
use Rattle.axp_access.specs.Lists.{Accesses, access_at, accesses_to}
use Rattle.axp_access.specs.Numbering.{NumberedAccess, next_access, write_barriers_in}
use Rattle.axp_order.proofs.Accesses.{accesses_more, accesses_grow}

-- of this processor, among the first n
abbrev pub parts_to : Accesses → ℕ → ℕ → ℕ
parts_to list p n = write_barriers_in p (accesses_to list n)

abbrev pub is_own_barrier : ℕ → Access → Bool
is_own_barrier p a = eqb (cpu_number a.cpu) p && is_write_barrier a.kind

more_onto : (p : ℕ) (ws us : List NumberedAccess) → write_barriers_in p us ≤ write_barriers_in p (ws ++ us)
more_onto p [] us = omega arith
more_onto p (w ∷ ws) us =
    let rest = more_onto p ws us in
    ⊎_elim
    (λ (yes_ : is_own_barrier p w.access ≡ true). rw yes_ (omega (arith, rest)))
    (λ (no_ : is_own_barrier p w.access ≡ false). rw no_ rest)
    (cases_Bool (is_own_barrier p w.access))

-- no fewer among more
pub parts_grow : (list : Accesses) (p n m : ℕ) → n ≤ m → parts_to list p n ≤ parts_to list p m
parts_grow list p n m le =
    let more = accesses_grow list n (m - n) in
    let at : n + (m - n) ≡ m = omega (arith, le) in
    let onto : parts_to list p n ≤ parts_to list p (n + (m - n)) = rw more.1 (more_onto p more.0 (accesses_to list n)) in
    rw at at onto

-- one access more
pub parts_more : (list : Accesses) (p n : ℕ) (a : Access) → slice_get list.items n ≡ Some a → parts_to list p (n + 1) ≡ cond (is_own_barrier p a) (parts_to list p n + 1) (parts_to list p n)
parts_more list p n a found =
    let back : n + 1 - 1 ≡ n = omega arith in
    let at : access_at list (n + 1) ≡ Some (next_access (accesses_to list n) a) = rw back (rw found refl) in
    rw (accesses_more list n (next_access (accesses_to list n) a) at) refl

-- a WMB between two numbers
pub parted : (list : Accesses) (p i n j : ℕ) (a : Access) (b : Bool) → 1 ≤ n → n < j → slice_get list.items (n - 1) ≡ Some a → parts_to list p (n - 1) ≡ parts_to list p (i - 1) → b ≡ is_own_barrier p a → b ≡ true → true ≡ ltb (parts_to list p (i - 1)) (parts_to list p (j - 1))
parted list p i n j a b least less found so_far test yes_ =
    let own : is_own_barrier p a ≡ true = sym test ∙ yes_ in
    let back : n - 1 + 1 ≡ n = omega (arith, least) in
    let one : parts_to list p (n - 1 + 1) ≡ parts_to list p (n - 1) + 1 = parts_more list p (n - 1) a found ∙ rw own refl in
    let here : parts_to list p n ≡ parts_to list p (n - 1) + 1 = rw back at one in
    let rest = parts_grow list p n (j - 1) (omega (arith, less)) in
    sym (lt-ltb (parts_to list p (i - 1)) (parts_to list p (j - 1)) (omega (arith, here, rest, so_far)))

-- none so far
pub not_parted : (list : Accesses) (p i n : ℕ) (a : Access) (b : Bool) → 1 ≤ n → slice_get list.items (n - 1) ≡ Some a → parts_to list p (n - 1) ≡ parts_to list p (i - 1) → b ≡ is_own_barrier p a → b ≡ false → parts_to list p (n + 1 - 1) ≡ parts_to list p (i - 1)
not_parted list p i n a b least found so_far test no_ =
    let own : is_own_barrier p a ≡ false = sym test ∙ no_ in
    let back : n + 1 - 1 ≡ n - 1 + 1 = omega (arith, least) in
    let one : parts_to list p (n - 1 + 1) ≡ parts_to list p (n - 1) = parts_more list p (n - 1) a found ∙ rw own refl in
    rw back (one ∙ so_far)

-- and none up to the second
pub never_parted : (list : Accesses) (p i n j : ℕ) → j ≤ n → parts_to list p (n - 1) ≡ parts_to list p (i - 1) → false ≡ ltb (parts_to list p (i - 1)) (parts_to list p (j - 1))
never_parted list p i n j past so_far =
    let grows = parts_grow list p (j - 1) (n - 1) (omega (arith, past)) in
    sym (le-ltb (parts_to list p (i - 1)) (parts_to list p (j - 1)) (omega (arith, grows, so_far)))
