-- Each cause raises the moment of the value.
use Rattle.std.proofs.Common.{true, false, ℕ, ◌<◌, ◌≡◌, ◌⊎◌, inl, inr, ⊎_elim, eqb, ltb, Bool, ◌&&◌, ◌||◌, List, [], ◌∷◌, Option, Some, None, refl, sym, ◌∙◌, subst, arith}
use Rattle.std.specs.List.{AllByRecursion, Contains}
use Rattle.std.proofs.lemmas.Bool.{cases_Bool, and_parts, ltb-true, false≢true}
use Rattle.std.proofs.lemmas.List.Elements.{All-contains, All-from_recursion}
use Rattle.axp_regs.specs.declared.asks.Kind.{Kind}
use Rattle.axp_regs.specs.declared.asks.Kind.TheVariants as kind
use Rattle.axp_access.specs.declared.Record.{Record}
use Rattle.axp_access.specs.Kinds.{is_memory_write, is_plain_write, is_conditional, is_read, is_fetch, has_byte}
use Rattle.axp_model.specs.Accesses.{accesses, times}
use Rattle.axp_access.specs.Numbering.{NumberedAccess}
use Rattle.axp_access.specs.Order.{Times, before}
use Rattle.axp_model.specs.Sources.{is_visible, later_of, latest, can_give}
use Rattle.axp_model.specs.Outcomes.{IsRun}
use Rattle.axp_model.specs.Processors.{Processors, AreInLine}
use Rattle.axp_model.specs.Issue.{AllPairs}
use Rattle.axp_model.specs.Causality.{value_moment, IsSourceOf, MayGoInto, MayCause, IsChain}
use Rattle.axp_laws.proofs.RunFacts.{Fitting, PairOk}
use Rattle.axp_laws.proofs.RunRecords.{run_fits}
use Rattle.axp_laws.proofs.RunSteps.{kept}
use Rattle.axp_laws.proofs.SourceEarlier.{Unseen, no_later_source}

-- an element of a list, by recursion
abbrev pub Among : {X : Type 0} → X → List X → Type 0
Among y [] = ⊥
Among y (x ∷ xs) = (x ≡ y) ⊎ Among y xs

each_among : {X : Type 0} (P : X → Type 0) (xs : List X) → ((x : X) → Among x xs → P x) → AllByRecursion P xs
each_among P [] f = tt
each_among P (x ∷ xs) f = (f x (inl refl), each_among P xs (λ y a. f y (inr a)))

pub among_of : {X : Type 0} (xs : List X) (y : X) → Contains xs y → Among y xs
among_of xs y inside = All-contains (λ z. Among z xs) xs y (All-from_recursion (λ z. Among z xs) xs (each_among (λ z. Among z xs) xs (λ x a. a))) inside

pub among_all : {X : Type 0} (P : X → Type 0) (xs : List X) (y : X) → AllByRecursion P xs → Among y xs → P y
among_all P [] y all a = absurd a
among_all P (x ∷ xs) y all a = ⊎_elim (λ same. subst P same all.0) (λ rest. among_all P xs y all.1 rest) a

-- of two elements one stands further back, if they are not the same
pub among_pair : {X : Type 0} (P : X → X → Type 0) (xs : List X) (y z : X) → AllPairs P xs → Among y xs → Among z xs → (y ≡ z) ⊎ (P y z ⊎ P z y)
among_pair P [] y z pairs a b = absurd a
among_pair P (x ∷ xs) y z pairs a b =
    ⊎_elim
    (λ (here : x ≡ y). ⊎_elim
    (λ (also : x ≡ z). inl (sym here ∙ also))
    (λ rest. inr (inr (subst (λ w. P z w) here (among_all (λ u. P u x) xs z pairs.0 rest))))
    b)
    (λ back. ⊎_elim
    (λ (also : x ≡ z). inr (inl (subst (λ w. P y w) also (among_all (λ u. P u x) xs y pairs.0 back))))
    (λ rest. among_pair P xs y z pairs.1 back rest)
    b)
    a

later_either : (t : Times) (x y : NumberedAccess) (o : Option NumberedAccess) → later_of t x o ≡ Some y → (x ≡ y) ⊎ (o ≡ Some y)
later_either t x y None e = inl (cc)
later_either t x y (Some z) e = ⊎_elim (λ (b : before t z x ≡ true). let s : Some x ≡ Some y = rw b at e in inl (cc)) (λ (f : before t z x ≡ false). inr (rw f at e)) (cases_Bool (before t z x))

-- the latest is of the list, and passes
pub latest_among : (t : Times) (test : NumberedAccess → Bool) (us : List NumberedAccess) (y : NumberedAccess) → latest t test us ≡ Some y → Among y us × (test y ≡ true)
latest_among t test [] y e = cc
latest_among t test (x ∷ xs) y e =
    ⊎_elim
    (λ (passed : test x ≡ true).
    ⊎_elim
    (λ (same : x ≡ y). (inl same, subst (λ z. test z ≡ true) same passed))
    (λ rest. let r = latest_among t test xs y rest in (inr r.0, r.1))
    (later_either t x y (latest t test xs) (rw passed at e)))
    (λ (failed : test x ≡ false). let r = latest_among t test xs y (rw failed at e) in (inr r.0, r.1))
    (cases_Bool (test x))

-- what takes bytes is no memory write
no_write : (k : Kind) (yes_ : Bool) → (is_read k || is_fetch k) ≡ true → (is_plain_write k || (is_conditional k && yes_)) ≡ false
no_write kind.Fetch b e = refl
no_write kind.Read b e = refl
no_write kind.Locked b e = refl
no_write _ b e = absurd (false≢true e)

each_both : {X : Type 0} (P Q : X → Type 0) (xs : List X) → AllByRecursion P xs → AllByRecursion Q xs → AllByRecursion (λ x. P x × Q x) xs
each_both P Q [] p q = tt
each_both P Q (x ∷ xs) p q = ((p.0, q.0), each_both P Q xs p.1 q.1)

pub pairs_both : {X : Type 0} (P Q : X → X → Type 0) (xs : List X) → AllPairs P xs → AllPairs Q xs → AllPairs (λ y z. P y z × Q y z) xs
pairs_both P Q [] p q = tt
pairs_both P Q (x ∷ xs) p q = (each_both (λ y. P y x) (λ y. Q y x) xs p.0 q.0, pairs_both P Q xs p.1 q.1)

source_raises : (h : List Record) → Fitting h → (u v : NumberedAccess) → IsSourceOf h u v → value_moment u < value_moment v
source_raises h fit u v is =
    let found = latest_among (times h) (can_give (times h) is.byte.0 v) (accesses h) u is.byte.2 in
    let wrote : is_memory_write u.access ≡ true = (and_parts (is_memory_write u.access) (has_byte is.byte.0 u.access && is_visible (times h) u v) found.1).0 in
    ⊎_elim
    (λ (same : u ≡ v). absurd (false≢true (sym (no_write v.access.kind v.access.yes is.takes) ∙ subst (λ z. is_memory_write z.access ≡ true) same wrote)))
    (λ apart. ⊎_elim
    (λ (first : PairOk (times h) u v × Unseen h u v). first.0.first)
    (λ (later : PairOk (times h) v u × Unseen h v u). absurd (false≢true (sym (later.1 is.takes is.byte.0) ∙ found.1)))
    apart)
    (among_pair (λ x y. PairOk (times h) x y × Unseen h x y) (accesses h) u v (pairs_both (PairOk (times h)) (Unseen h) (accesses h) (kept h fit).pairs (no_later_source h fit)) found.0 (among_of (accesses h) v is.known))

pub source_is_earlier : (image : ℕ → ℕ) (ps : Processors) (h : List Record) → AreInLine ps → IsRun image ps h → (u v : NumberedAccess) → IsSourceOf h u v → value_moment u < value_moment v
source_is_earlier image ps h inside run u v is = source_raises h (run_fits image ps h inside run) u v is

pub write_is_later : (u v : NumberedAccess) → MayGoInto u v → value_moment u < value_moment v
write_is_later u v into = ltb-true u.number v.number (and_parts (eqb u.access.cpu.number v.access.cpu.number) (ltb u.number v.number) into.first).1

cause_raises : (h : List Record) → Fitting h → (u v : NumberedAccess) → MayCause h u v → value_moment u < value_moment v
cause_raises h fit u v cause = ⊎_elim (λ is. source_raises h fit u v is) (λ into. write_is_later u v into) cause

chain_raises : (h : List Record) → Fitting h → (u : NumberedAccess) (via : List NumberedAccess) (v : NumberedAccess) → IsChain h u via v → value_moment u < value_moment v
chain_raises h fit u [] v chain = cause_raises h fit u v chain
chain_raises h fit u (w ∷ ws) v chain = omega (arith, cause_raises h fit u w chain.0, chain_raises h fit w ws v chain.1)

pub no_loop : (image : ℕ → ℕ) (ps : Processors) (h : List Record) → AreInLine ps → IsRun image ps h → (u : NumberedAccess) (via : List NumberedAccess) → IsChain h u via u → ⊥
no_loop image ps h inside run u via chain = let less = chain_raises h (run_fits image ps h inside run) u via u chain in omega (arith, less)
