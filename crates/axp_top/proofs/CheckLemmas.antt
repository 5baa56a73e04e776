-- The verdict on the list that a trace shows.
use Rattle.std.proofs.Common.{◌≡◌, ℕ, List, [], ◌∷◌, refl, ap, ◌∙◌, subst}
use Rattle.axp_access.specs.declared.Event.{Event}
use Rattle.axp_access.specs.declared.Outcome.{Outcome}
use Rattle.axp_access.specs.declared.Outcome.TheVariants as outcome
use Rattle.axp_access.specs.declared.Record.{Record}
use Rattle.axp_access.specs.Lists.{Accesses}
use Rattle.axp_check.specs.declared.Verdict.{Verdict}
use Rattle.axp_check.specs.Verdicts.{verdict}
use Rattle.axp_history.specs.Shown.{IsShown, list_of, with_record_in}
use Rattle.axp_history.specs.Traces.{BadLine, Records, Shown}
use Rattle.axp_image.specs.Contents.{Contents, byte_in}
use Rattle.axp_top.specs.declared.status.Status.{Status}
use Rattle.axp_top.specs.Checks.{answer_of_shown, verdict_answer}
use Rattle.axp_top.specs.Outside.{SinkState}
use Rattle.axp_top.specs.Printing.{Ends}

abbrev of_room : ℕ → Accesses → Accesses
of_room room list = record list { room = room }

record_of_room : (e : Event) (o : Outcome) (room : ℕ) (list : Accesses) → with_record_in e o (of_room room list) ≡ of_room room (with_record_in e o list)
record_of_room e (outcome.Access a) room list = refl
record_of_room e (outcome.Polled pending entered turn) room list = refl
record_of_room e outcome.NoAccess room list = refl
record_of_room e (outcome.Filled bank line turn) room list = refl
record_of_room e (outcome.Drained entry line turn) room list = refl
record_of_room e (outcome.Taken line turn gone) room list = refl
record_of_room e outcome.Done room list = refl

-- lists of the same records differ in their room alone
any_room : (room : ℕ) (h : List Record) → list_of room h ≡ of_room room (list_of 0 h)
any_room room [] = refl
any_room room (r ∷ h) = ap (with_record_in r.event r.outcome) (any_room room h) ∙ record_of_room r.event r.outcome room (list_of 0 h)

pub checked_ends : (b n : SinkState) (image : Contents) (shown : Shown) (list : Accesses) (v : Verdict) (s : Status) → IsShown shown list → v ≡ verdict (byte_in image.segments) list → Ends b n (verdict_answer v) s → Ends b n (answer_of_shown image shown) s
checked_ends b n image (Records h) list v s is says ends =
    let whole : v ≡ verdict (byte_in image.segments) (list_of 0 h) = says ∙ ap (verdict (byte_in image.segments)) (is ∙ any_room list.room h) in
    subst (λ (x : Verdict). Ends b n (verdict_answer x) s) whole ends
checked_ends b n image (BadLine line) list v s is says ends = absurd is
