-- The bytes that reached memory, by the accesses that wrote them.
use Rattle.std.proofs.Common.{◌≡◌, ℕ, zero, suc, ◌+◌, ◌*◌, Bool, true, false, ◌||◌, List, [], ◌∷◌, Option, Some, None, is_some, ⊎_elim, refl, ap, ◌∙◌}
use Rattle.std.specs.List.{list_any}
use Rattle.std.proofs.lemmas.Bool.{cases_Bool}
use Rattle.axp_access.specs.Numbering.{NumberedAccess}
use Rattle.axp_access.specs.Order.{Times, before}
use Rattle.axp_access.specs.declared.Record.{Record}
use Rattle.axp_base.specs.declared.parts.TheConstants.{QUADWORD_BYTES}
use Rattle.axp_model.specs.Accesses.{accesses, times}
use Rattle.axp_model.specs.Memory.{is_touched, is_written, memory_source, has_reached}
use Rattle.axp_model.specs.Sources.{later_of, latest}
use Rattle.axp_model.specs.Turns.{turns}
use Rattle.axp_laws.specs.StorageLaws.{reaches_bytes}

-- there is a latest of those that pass exactly where one passes
later_some : (t : Times) (x : NumberedAccess) (o : Option NumberedAccess) → is_some (later_of t x o) ≡ true
later_some t x None = refl
later_some t x (Some y) = ⊎_elim (λ (after : before t y x ≡ true). rw after refl) (λ (not_after : before t y x ≡ false). rw not_after refl) (cases_Bool (before t y x))

latest_some : (t : Times) (test : NumberedAccess → Bool) (us : List NumberedAccess) → is_some (latest t test us) ≡ list_any test us
latest_some t test [] = refl
latest_some t test (u ∷ us) =
    ⊎_elim
    (λ (passes : test u ≡ true). rw passes (later_some t u (latest t test us)))
    (λ (fails : test u ≡ false). rw fails (latest_some t test us))
    (cases_Bool (test u))

pub or_swap : (a b c d : Bool) → ((a || b) || (c || d)) ≡ ((a || c) || (b || d))
or_swap true b c d = refl
or_swap false true true d = refl
or_swap false true false d = refl
or_swap false false true d = refl
or_swap false false false d = refl

any_of_two : (f g : NumberedAccess → Bool) (us : List NumberedAccess) → (list_any f us || list_any g us) ≡ list_any (λ u. f u || g u) us
any_of_two f g [] = refl
any_of_two f g (u ∷ us) = or_swap (f u) (list_any f us) (g u) (list_any g us) ∙ ap (λ b. (f u || g u) || b) (any_of_two f g us)

none_of : (us : List NumberedAccess) → false ≡ list_any (λ u. false) us
none_of [] = refl
none_of (u ∷ us) = none_of us

written_by : (h : List Record) (at n : ℕ) → is_written h at n ≡ list_any (reaches_bytes h at n) (accesses h)
written_by h at zero = none_of (accesses h)
written_by h at (suc n) =
    ap (λ b. b || is_some (memory_source (times h) (turns h) (at + n) (accesses h))) (written_by h at n)
    ∙ ap (λ b. list_any (reaches_bytes h at n) (accesses h) || b) (latest_some (times h) (has_reached (times h) (turns h) (at + n)) (accesses h))
    ∙ any_of_two (reaches_bytes h at n) (has_reached (times h) (turns h) (at + n)) (accesses h)

pub touched_by : (h : List Record) (q : ℕ) → is_touched h q ≡ list_any (reaches_bytes h (q * QUADWORD_BYTES) QUADWORD_BYTES) (accesses h)
touched_by h q = written_by h (q * QUADWORD_BYTES) QUADWORD_BYTES
