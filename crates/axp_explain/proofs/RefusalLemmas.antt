-- The walk over a file's lines to the first event that is not legal.
use Rattle.std.proofs.Common.{◌≡◌, ℕ, Bool, true, false, cond, List, [], ◌∷◌, Some, None, refl}
use Rattle.std.specs.Prelude.{Ok, Err}
use Rattle.axp_access.specs.declared.Event.{Event}
use Rattle.axp_access.specs.declared.Outcome.{Outcome}
use Rattle.axp_cpu.specs.declared.refusals.NotLegal.{NotLegal}
use Rattle.axp_explain.specs.Reasons.{event_in, reason_among, reason_of_files}
use Rattle.axp_image.specs.Faults.{Fault, first_fault}
use Rattle.axp_image.proofs.NoFaultLemmas.{fault_is_no_image}
use Rattle.axp_image.specs.Grammar.{image_of}
use Rattle.axp_machine.specs.Runs.{Seen, after_event, answer_of, processors_of}
use Rattle.axp_top.specs.Replays.{FileLine}
use Rattle.axp_trace.specs.TraceLines.{line_of}
use Rattle.axp_trace.specs.declared.headers.Header.{Header}
use Rattle.axp_world.specs.Reasons.{reason}

-- a line that has no event
pub no_event : (h : Header) (m : Seen) (ls more : List FileLine) (line : List ℕ) → ls ≡ Some line ∷ more → event_in (line_of h line) ≡ None → None ≡ reason_among h m ls
unfolding reason_among
no_event h m ls more line is none = rw (is, none) refl

-- an event that is refused
pub refused_here : (h : Header) (m : Seen) (ls more : List FileLine) (line : List ℕ) (e : Event) (refused : NotLegal) → ls ≡ Some line ∷ more → event_in (line_of h line) ≡ Some e → answer_of m e ≡ Err refused
    → reason (processors_of m) m.records e ≡ reason_among h m ls
unfolding reason_among
refused_here h m ls more line e refused is event answer = rw (is, event, answer) refl

-- an event that is done
pub behind_legal : (h : Header) (m : Seen) (ls more : List FileLine) (line : List ℕ) (e : Event) (o : Outcome) → ls ≡ Some line ∷ more → event_in (line_of h line) ≡ Some e → answer_of m e ≡ Ok o → reason_among h m ls ≡ reason_among h (after_event m e) more
unfolding reason_among
behind_legal h m ls more line e o is event answer = rw (is, event, answer) refl

-- the end, where no line ends
pub ends_here : (h : Header) (m : Seen) (ls : List FileLine) (none : Bool) → ls ≡ cond none [] (None ∷ []) → None ≡ reason_among h m ls
unfolding reason_among
ends_here h m ls true is = rw is refl
ends_here h m ls false is = rw is refl

-- a refused event leaves the machine as it was
pub unchanged : (m : Seen) (e : Event) (refused : NotLegal) → answer_of m e ≡ Err refused → after_event m e ≡ m
unfolding after_event
unchanged m e refused is = rw is refl

-- a file that is no image
pub no_reason : (bytes : List ℕ) (f : Fault) (ls : List FileLine) → first_fault bytes ≡ Some f → None ≡ reason_of_files (image_of bytes) ls
no_reason bytes f ls fault = rw (fault_is_no_image bytes f fault) refl
