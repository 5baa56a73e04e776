-- The numbers of a list's accesses.
use Rattle.std.proofs.Common.{◌≡◌, ℕ, ◌+◌, ◌-◌, ◌≤◌, List, [], ◌∷◌, length, take, reverse, slice_get, Some, refl, ◌∙◌, arith}
use Rattle.std.proofs.lemmas.Option.{slice_get_within}
use Rattle.std.proofs.lemmas.List.{length-take-le, length-reverse}
use Rattle.axp_access.specs.declared.Access.{Access}
use Rattle.axp_access.specs.Lists.{Accesses, number_accesses, accesses_to}

pub length_numbered : (xs : List Access) → length (number_accesses xs) ≡ length xs
length_numbered [] = refl
length_numbered (x ∷ xs) = grind (arith, length_numbered xs)

-- an access has its number
pub number_is : (list : Accesses) (n : ℕ) (a : Access) → 1 ≤ n → slice_get list.items (n - 1) ≡ Some a → length (accesses_to list (n - 1)) + 1 ≡ n
number_is list n a least found =
    let inside = slice_get_within list.items (n - 1) a found in
    let short : length (accesses_to list (n - 1)) ≡ n - 1 = length_numbered (reverse (take (n - 1) list.items)) ∙ length-reverse (take (n - 1) list.items) ∙ length-take-le (n - 1) list.items (omega (arith, inside)) in
    omega (arith, short, least)
