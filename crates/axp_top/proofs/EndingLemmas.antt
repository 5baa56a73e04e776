-- How the work ends.
use Rattle.std.proofs.Common.{◌≡◌, ℕ, Bool, true, false, cond, List, [], ◌∷◌, length, Some, None, Ok, Err, refl, sym, ap, ◌∙◌, subst, inl, inr}
use Rattle.std.specs.Prelude.{◌==◌, if◌then◌else◌}
use Rattle.axp_image.specs.Contents.{Contents}
use Rattle.axp_machine.specs.Runs.{Seen, started}
use Rattle.axp_trace.specs.declared.headers.Header.{Header}
use Rattle.axp_trace.specs.Reading.{header_of}
use Rattle.axp_top.specs.declared.printing.Stop.{Stop}
use Rattle.axp_top.specs.declared.printing.Stop.TheVariants as stop
use Rattle.axp_top.specs.declared.status.Status.{Status}
use Rattle.axp_top.specs.declared.status.Status.TheVariants as status
use Rattle.axp_top.specs.Outside.{SinkState}
use Rattle.axp_top.specs.Printing.{Printed, Stopped, Ends, EndsBy, status_of_stop, stop_of}
use Rattle.axp_top.specs.Replays.{Answer, FileLine, answer_of_lines, answer_of_start, bad_trace}
use Rattle.axp_top.specs.Walks.{PrintsAnswer}

pub ends_stopped : (b n : SinkState) (a : Answer) (s : Stop) → Stopped b n a.lines s → Ends b n a (status_of_stop s)
ends_stopped b n a stop.WriteFault h = h
ends_stopped b n a stop.Memory h = inr h

ends_as : (b n : SinkState) (a : Answer) (s : Status) → stop_of a.status ≡ None → s ≡ a.status → Printed b n a.lines → Ends b n a s
ends_as b n a s none is h = subst (EndsBy b n a s) (sym (ap stop_of is ∙ none)) (is, h)

-- nothing was printed for want of memory
pub ends_memory : (b : SinkState) (a : Answer) → Ends b b a status.Memory
ends_memory b a = inl refl

-- ---- the answer by the file's first line

pub answer_of_no_line : (image : Contents) (text : List ℕ) (ls : List FileLine) → ls ≡ (if length text == 0 then [] else None ∷ []) → bad_trace 1 ≡ answer_of_lines image ls
answer_of_no_line image text ls is = by_length (length text == 0) is
  where
    by_length : (empty : Bool) → ls ≡ cond empty [] (None ∷ []) → bad_trace 1 ≡ answer_of_lines image ls
    by_length true e = rw e refl
    by_length false e = rw e refl

pub answer_of_no_header : (image : Contents) (first : List ℕ) (ls more : List FileLine) → ls ≡ Some first ∷ more → None ≡ header_of first → bad_trace 1 ≡ answer_of_lines image ls
answer_of_no_header image first ls more is none = rw (is, ← none) refl

answer_of_some : (image : Contents) (first : List ℕ) (h : Header) (m : Seen) (ls more : List FileLine) → ls ≡ Some first ∷ more → Some h ≡ header_of first → m ≡ started image h.cpus h.budget → answer_of_start h m first more ≡ answer_of_lines image ls
answer_of_some image first h m ls more is some starts = ap (λ (x : Seen). answer_of_start h x first more) starts ∙ rw (is, ← some) refl

-- what was printed of the file, and the status that is told
pub file_done : (image : Contents) (first : List ℕ) (h : Header) (m : Seen) (ls more : List FileLine) (b n : SinkState) (s : Status) → ls ≡ Some first ∷ more → Some h ≡ header_of first → m ≡ started image h.cpus h.budget → stop_of (answer_of_start h m first more).status ≡ None
    → PrintsAnswer b n (answer_of_start h m first more) (Ok s) → Ends b n (answer_of_lines image ls) s
file_done image first h m ls more b n s is some starts plain prints =
    subst (λ (a : Answer). Ends b n a s) (answer_of_some image first h m ls more is some starts) (ends_as b n (answer_of_start h m first more) s plain prints.1 prints.0)

pub file_stopped : (image : Contents) (first : List ℕ) (h : Header) (m : Seen) (ls more : List FileLine) (b n : SinkState) (k : Stop) (s : Status) → ls ≡ Some first ∷ more → Some h ≡ header_of first → m ≡ started image h.cpus h.budget
    → PrintsAnswer b n (answer_of_start h m first more) (Err k) → s ≡ status_of_stop k → Ends b n (answer_of_lines image ls) s
file_stopped image first h m ls more b n k s is some starts stops ends =
    subst (λ (x : Status). Ends b n (answer_of_lines image ls) x) (sym ends)
    (subst (λ (a : Answer). Ends b n a (status_of_stop k)) (answer_of_some image first h m ls more is some starts) (ends_stopped b n (answer_of_start h m first more) k stops))
