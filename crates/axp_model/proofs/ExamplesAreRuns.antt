-- What an example shows is a run.
use Rattle.std.proofs.Common.{◌≡◌, ℕ, Bool, true, false, cond, List, [], ◌∷◌, map, reverse, refl, subst}
use Rattle.axp_access.specs.declared.Event.{Event}
use Rattle.axp_access.specs.declared.Record.{Record}
use Rattle.axp_model.specs.Examples.{Programs, processors, may_follow, record_of, run_from, Shows}
use Rattle.axp_model.specs.Outcomes.{IsRun}

-- one event more, where it is legal, and the events after it
one_more : (image : ℕ → ℕ) (programs : Programs) (e : Event) (es : List Event) (h : List Record) (may : Bool) → may_follow programs h e ≡ may → IsRun image (processors programs) h
    → (IsRun image (processors programs) (record_of image programs h e ∷ h) → IsRun image (processors programs) (run_from image programs (record_of image programs h e ∷ h) es))
    → IsRun image (processors programs) (cond may (run_from image programs (record_of image programs h e ∷ h) es) h)
one_more image programs e es h true is ran make_act = make_act (is, refl, ran)
one_more image programs e es h false is ran make_act = ran

run_from_is_run : (image : ℕ → ℕ) (programs : Programs) (es : List Event) (h : List Record) → IsRun image (processors programs) h → IsRun image (processors programs) (run_from image programs h es)
run_from_is_run image programs [] h ran = ran
run_from_is_run image programs (e ∷ es) h ran =
    one_more image programs e es h (may_follow programs h e) refl ran (run_from_is_run image programs es (record_of image programs h e ∷ h))

pub shown_is_run : (image : ℕ → ℕ) (programs : Programs) (trace : List Record) → Shows image programs trace → IsRun image (processors programs) (reverse trace)
shown_is_run image programs trace shows = subst (IsRun image (processors programs)) shows (run_from_is_run image programs (map (λ r. r.event) trace) [] tt)
