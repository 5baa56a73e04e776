-- The accesses of a list are those of its history; the line that ends a tail.
use Rattle.std.proofs.Common.{◌≡◌, ℕ, List, [], ◌∷◌, ◌++◌, reverse, refl, ap, ◌∙◌}
use Rattle.std.proofs.lemmas.List.{reverse-append}
use Rattle.axp_access.specs.declared.Access.{Access}
use Rattle.axp_access.specs.declared.Event.{Event}
use Rattle.axp_access.specs.declared.Outcome.{Outcome}
use Rattle.axp_access.specs.declared.Outcome.TheVariants as outcome
use Rattle.axp_access.specs.declared.Record.{Record}
use Rattle.axp_access.specs.declared.tail_items.TailItem.{TailItem}
use Rattle.axp_access.specs.declared.tail_items.TailItem.TheVariants.{Cpu as Ended, Reg, Mem, Console, End}
use Rattle.axp_access.specs.Lists.{Accesses, accesses_in, number_accesses}
use Rattle.axp_access.specs.Numbering.{next_access}
use Rattle.axp_model.specs.Accesses.{accesses, with_access}
use Rattle.axp_model.specs.Records.{access_in}
use Rattle.axp_trace.specs.Lines.{console_line, end_line, memory_line, processor_line, register_line, tail_line}
use Rattle.axp_history.specs.Shown.{list_of, with_record_in}
use Rattle.axp_history.specs.Traces.{is_end, is_end_line}

access_more : (list : Accesses) (a : Access) → number_accesses (reverse (list.items ++ a ∷ [])) ≡ next_access (accesses_in list) a ∷ accesses_in list
access_more list a = ap number_accesses (reverse-append list.items (a ∷ []))

accesses_more : (e : Event) (o : Outcome) (list : Accesses) → accesses_in (with_record_in e o list) ≡ with_access (access_in e.cpu o) (accesses_in list)
accesses_more e (outcome.Access a) list = access_more list a
accesses_more e (outcome.Polled pending entered turn) list = access_more list _
accesses_more e outcome.NoAccess list = refl
accesses_more e (outcome.Filled bank line turn) list = refl
accesses_more e (outcome.Drained entry line turn) list = refl
accesses_more e (outcome.Taken line turn gone) list = refl
accesses_more e outcome.Done list = refl

pub accesses_are : (room : ℕ) (h : List Record) → accesses_in (list_of room h) ≡ accesses h
accesses_are room [] = refl
accesses_are room (r ∷ h) = accesses_more r.event r.outcome (list_of room h) ∙ ap (with_access (access_in r.event.cpu r.outcome)) (accesses_are room h)

pub ends : (i : TailItem) → is_end_line (tail_line i) ≡ is_end i
unfolding processor_line register_line memory_line console_line end_line
ends (Ended cpu halt steps pc) = refl
ends (Reg cpu n value) = refl
ends (Mem address value) = refl
ends (Console bytes) = refl
ends (End events) = refl
