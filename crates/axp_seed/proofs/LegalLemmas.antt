-- Each event of a seeded run is legal, and a processor that is done has no legal event.
use Rattle.std.proofs.Common.{◌≡◌, ℕ, Bool, true, false, ◌&&◌, List, [], ◌∷◌, length, Option, Some, None, refl, sym, subst, arith}
use Rattle.std.specs.Prelude.{Ok, Err, Result, not, nat_lt}
use Rattle.std.proofs.lemmas.Bool.{and_parts, le-ltb}
use Rattle.axp_access.specs.declared.Act.{Act}
use Rattle.axp_access.specs.declared.Act.TheVariants as act
use Rattle.axp_access.specs.declared.Event.{Event}
use Rattle.axp_access.specs.declared.Intent.{Intent}
use Rattle.axp_access.specs.declared.Outcome.{Outcome}
use Rattle.axp_access.specs.declared.Record.{Record}
use Rattle.axp_access.specs.Acts.{is_fill}
use Rattle.axp_base.specs.Cpus.{cpu_number}
use Rattle.axp_base.specs.Lists.{is_empty}
use Rattle.axp_cpu.specs.declared.refusals.NotLegal.{NotLegal}
use Rattle.axp_image.specs.Contents.{IsValid}
use Rattle.axp_machine.proofs.RunLemmas.{refused_exactly}
use Rattle.axp_machine.specs.Runs.{IsRun, Seen, answer_of, processors_of}
use Rattle.axp_model.specs.Entries.{Waiting, buffer, oldest}
use Rattle.axp_model.specs.Legal.{is_done, is_enabled, is_legal_act, is_timely, legal, since_step}
use Rattle.axp_model.specs.Processors.{Processors}
use Rattle.axp_seed.specs.Seeds.{Seeded, event_of, next_record, record_of, recorded}
use Rattle.axp_pick.specs.Words.{next_word}

-- ---- the event of the next record

answered : (m : Seen) (e : Event) (r : Record) (a : Result Outcome NotLegal) → answer_of m e ≡ a → recorded e a ≡ Some r → answer_of m r.event ≡ Ok r.outcome
answered m e r (Ok o) gave is = let same : record { event = e; outcome = o } ≡ r = cc in subst (λ (x : Record). answer_of m x.event ≡ Ok x.outcome) same gave
answered m e r (Err x) gave is = cc

gave_record : (m : Seen) (o : Option Event) (r : Record) → record_of m o ≡ Some r → answer_of m r.event ≡ Ok r.outcome
gave_record m None r is = cc
gave_record m (Some e) r is = answered m e r (answer_of m e) refl is

not_false : (b : Bool) → false ≡ not b → b ≡ true
not_false true is = refl
not_false false is = cc

pub next_is_legal : (s : Seeded) (r : Record) → IsValid s.machine.image → IsRun s.machine → next_record s ≡ Some r → legal (processors_of s.machine) s.machine.records r.event ≡ true
unfolding next_record
next_is_legal s r valid run is =
    not_false (legal (processors_of s.machine) s.machine.records r.event)
    (refused_exactly s.machine r.event (Ok r.outcome) (sym (gave_record s.machine (event_of s.machine (next_word s.words)) r is)) valid run)

-- ---- a processor that is done

never : (b : Bool) → (b && false) ≡ false
never true = refl
never false = refl

idle : (a : Act) (i : Intent) (p : ℕ) (h : List Record) → i.finished ≡ true → is_empty (buffer p h).waiting ≡ true → is_legal_act a i p h ≡ false
idle act.Step i p h finished empty = rw finished (never (is_enabled act.Step i p h))
idle act.Fill i p h finished empty = rw finished (never (is_enabled act.Fill i p h))
idle (act.Drain k) i p h finished empty = by (buffer p h).waiting empty where
  by : (ws : List Waiting) → is_empty ws ≡ true → (nat_lt k (length (oldest ws)) && is_timely (act.Drain k) i.finished (since_step is_fill p h)) ≡ false
  by [] none = rw (le-ltb k 0 (omega arith)) refl
  by (w ∷ ws) none = cc
idle (act.Take b) i p h finished empty = rw finished (never (is_enabled (act.Take b) i p h))
idle (act.Drop b line) i p h finished empty = rw finished (never (is_enabled (act.Drop b line) i p h))
idle act.Poll i p h finished empty = rw finished (never (is_enabled act.Poll i p h))
idle act.Tick i p h finished empty = rw finished (never (is_enabled act.Tick i p h))

pub done_is_idle : (ps : Processors) (h : List Record) (e : Event) → is_done ps h (cpu_number e.cpu) ≡ true → legal ps h e ≡ false
unfolding legal
done_is_idle ps h e done =
    let p : ℕ = cpu_number e.cpu in
    let parts = and_parts (ps.intent p h).finished (is_empty (buffer p h).waiting) done in
    rw (idle e.act (ps.intent p h) p h parts.0 parts.1) (never (nat_lt p ps.count))
