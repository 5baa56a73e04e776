-- The line at a place of a file.
use Rattle.std.proofs.Common.{◌≡◌, ℕ, suc, Bool, true, false, cond, ◌+◌, ◌-◌, ◌<◌, ◌≤◌, List, [], ◌∷◌, length, Some, None, slice_get, refl, ap, sym, ◌∙◌, arith}
use Rattle.std.proofs.lemmas.Option.{slice_get_past}
use Rattle.axp_top.specs.Replays.{FileLine}

-- the elements of a list from place k on are the rest
abbrev pub Leaves : {A : Type 0} → List A → ℕ → List A → Type 0
Leaves all k rest = (j : ℕ) → slice_get all (k + j) ≡ slice_get rest j

pub all_left : {A : Type 0} (all : List A) (k : ℕ) → k ≡ 0 → Leaves all k all
all_left all k none j = ap (slice_get all) (omega (arith, none))

pub one_passed : {A : Type 0} (all rest more : List A) (x : A) (k n : ℕ) → Leaves all k rest → rest ≡ x ∷ more → n ≡ k + 1 → Leaves all n more
one_passed all rest more x k n left is next j =
    let at : n + j ≡ k + suc j = omega (arith, next) in
    ap (slice_get all) at ∙ left (suc j) ∙ ap (λ (l : List _). slice_get l (suc j)) is

-- past the end of a short rest
pub none_left : {A : Type 0} (all rest : List A) (k n : ℕ) → Leaves all k rest → length rest ≤ 1 → k < n → None ≡ slice_get all n
none_left all rest k n left short past =
    let at : k + (n - k) ≡ n = omega (arith, past) in
    sym (sym (ap (slice_get all) at) ∙ left (n - k) ∙ slice_get_past rest (n - k) (omega (arith, short, past)))

pub first_left : {A : Type 0} (all rest : List A) (k n : ℕ) → Leaves all k rest → k ≡ n → slice_get rest 0 ≡ slice_get all n
first_left all rest k n left same = sym (ap (slice_get all) (omega (arith, same)) ∙ left 0)

-- what is left where no line ends
pub short_end : (ls : List FileLine) (none : Bool) → ls ≡ cond none [] (None ∷ []) → length ls ≤ 1
short_end ls true is = rw is (omega arith)
short_end ls false is = rw is (omega arith)

pub no_end : (ls : List FileLine) (none : Bool) → none ≡ true → ls ≡ cond none [] (None ∷ []) → None ≡ slice_get ls 0
no_end ls none empty is = rw (is, empty) refl

pub unended : (ls : List FileLine) (none : Bool) → none ≡ false → ls ≡ cond none [] (None ∷ []) → Some None ≡ slice_get ls 0
unended ls none some is = rw (is, some) refl
