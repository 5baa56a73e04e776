-- Records and the run of their events.
use Rattle.std.proofs.Common.{◌≡◌, ◌↔◌, ◌<◌, ◌*◌, ℕ, Bool, true, List, [], ◌∷◌, ◌++◌, refl, ap, sym, subst, ◌∙◌, Option}
use Rattle.std.specs.Prelude.{Result, Ok, Err, not}
use Rattle.axp_access.specs.declared.Event.{Event}
use Rattle.axp_access.specs.declared.Outcome.{Outcome}
use Rattle.axp_access.specs.declared.Record.{Record}
use Rattle.axp_cpu.specs.declared.refusals.NotLegal.{NotLegal}
use Rattle.axp_image.specs.Contents.{Contents, IsValid}
use Rattle.axp_image.proofs.BytePlaceLemmas.{byte_small}
use Rattle.axp_laws.proofs.CauseMoments.{no_loop}
use Rattle.axp_laws.proofs.RunRecords.{run_fits}
use Rattle.axp_laws.proofs.LockGuards.{keeps_locking}
use Rattle.axp_laws.proofs.OrderPlaces.{run_located, run_prefix}
use Rattle.axp_laws.proofs.InterruptTimes.{taken_between}
use Rattle.axp_model.specs.Interrupts.{KeepsInterrupts}
use Rattle.axp_laws.proofs.PollSignals.{entered_exactly, pending_exactly}
use Rattle.axp_laws.proofs.SourceRuns.{run_bytes}
use Rattle.axp_laws.proofs.RunSteps.{keeps_order}
use Rattle.axp_laws.proofs.SourceValues.{run_storage}
use Rattle.axp_model.specs.Processors.{AreInLine, Processors}
use Rattle.axp_model.specs.Legal.{legal}
use Rattle.axp_model.specs.Legal as model
use Rattle.axp_model.specs.Outcomes as model_runs
use Rattle.axp_model.specs.Polls.{IsAwaited, KeepsPolls, poll_item, polled}
use Rattle.axp_base.specs.Cpus.{cpu_number}
use Rattle.axp_cpu.specs.Actors.{Actor, outcome_of, request_of}
use Rattle.axp_line.specs.declared.messages.Reply.{Reply}
use Rattle.std.proofs.lemmas.Bool.{lt-ltb}
use Rattle.axp_world.proofs.RunDeeds.{led_actors, led_answers}
use Rattle.axp_world.specs.Worlds as worlds
use Rattle.axp_world.specs.Worlds.{IsPlayed, answer_by, image_bytes}
use Rattle.axp_base.specs.Parts.{number_at}
use Rattle.axp_base.specs.declared.parts.TheConstants.{QUADWORD_BYTES}
use Rattle.axp_base.specs.declared.processors.TheConstants.{MAX_CPUS}
use Rattle.axp_cpu.specs.Seats.{is_finished}
use Rattle.axp_line.specs.BusCalls as calls
use Rattle.axp_world.proofs.BusTouched.{touched_agrees}
use Rattle.axp_world.proofs.RunPlayed.{Agrees}
use Rattle.axp_machine.specs.Playing.{actor_of, is_done}
use Rattle.axp_world.proofs.RunJoined.{agrees, joined, refused}
use Rattle.axp_world.specs.RunLaws.{is_not_legal}
use Rattle.axp_world.proofs.RunWants.{in_line}
use Rattle.axp_machine.specs.Constraints.{KeepsConstraints}
use Rattle.axp_machine.specs.Runs.{Seen, IsRun, after_answer, after_event, answer_alone_in, answer_of, result_alone, events_of, processors_of, quadword_of, run, seat_of, started, touches, with_record, world_of}

-- the machine with these records
abbrev with_records : Contents → ℕ → ℕ → List Record → Seen
with_records image cpus budget h = record { image = image; cpus = cpus; budget = budget; records = h }

-- an event that gives a record's outcome makes the record
after_gives : (m : Seen) (r : Record) → answer_of m r.event ≡ Ok r.outcome → after_event m r.event ≡ with_record m r
unfolding after_event
after_gives m r gave = ap (after_answer m r.event) gave

runs_again : (image : Contents) (cpus budget : ℕ) (h : List Record) → IsPlayed image cpus budget h → run (started image cpus budget) (events_of h) ≡ with_records image cpus budget h
unfolding answer_of
runs_again image cpus budget [] is = refl
runs_again image cpus budget (r ∷ h) is =
    ap (λ (m : Seen). after_event m r.event) (runs_again image cpus budget h is.1) ∙ after_gives (with_records image cpus budget h) r is.0

pub run_again : (m : Seen) → IsRun m → run (started m.image m.cpus m.budget) (events_of m.records) ≡ m
run_again m is = runs_again m.image m.cpus m.budget m.records is

outcome_runs : (m : Seen) (e : Event) (o : Result Outcome NotLegal) → answer_of m e ≡ o → IsRun m → IsRun (after_answer m e o)
unfolding answer_of
outcome_runs m e (Err refusal) gave is = is
outcome_runs m e (Ok o) gave is = (gave, is)

event_runs : (m : Seen) (e : Event) → IsRun m → IsRun (after_event m e)
unfolding after_event
event_runs m e is = outcome_runs m e (answer_of m e) refl is

pub run_is : (image : Contents) (cpus budget : ℕ) (es : List Event) → IsRun (run (started image cpus budget) es)
run_is image cpus budget [] = tt
run_is image cpus budget (e ∷ es) = event_runs (run (started image cpus budget) es) e (run_is image cpus budget es)

pub run_models : (m : Seen) → IsValid m.image → IsRun m → model_runs.IsRun (image_bytes m.image) (processors_of m) m.records
run_models m valid is = (joined m.image m.cpus m.budget m.records valid is).run

-- a run after fewer of its events
pub run_before : (image : Contents) (cpus budget : ℕ) (more h : List Record) → IsPlayed image cpus budget (more ++ h) → IsPlayed image cpus budget h
run_before image cpus budget [] h is = is
run_before image cpus budget (r ∷ more) h is = run_before image cpus budget more h is.1

keeps_polls : (image : ℕ → ℕ) (ps : Processors) (k : List Record) → AreInLine ps → model_runs.IsRun image ps k → KeepsPolls ps k
keeps_polls image ps k inside is later e pending entered turn h at =
    let split : model_runs.IsRun image ps (later ++ polled e pending entered turn ∷ h) = subst (model_runs.IsRun image ps) at is in
    record {
      shown = subst (λ (x : List Record). (pending ≡ true) ↔ IsAwaited x (poll_item e pending turn h)) (sym at) (pending_exactly image ps later e pending entered turn h inside split);
      taken = entered_exactly image ps e pending entered turn h (run_prefix image ps later (polled e pending entered turn ∷ h) split);
    }

keeps_interrupts : (image : ℕ → ℕ) (ps : Processors) (k : List Record) → model_runs.IsRun image ps k → KeepsInterrupts ps k
keeps_interrupts image ps k run later r h at is = taken_between image ps later r h (subst (model_runs.IsRun image ps) at run) is

-- a run keeps the constraints of shared memory
pub keeps_constraints : (m : Seen) → IsValid m.image → IsRun m → KeepsConstraints m
keeps_constraints m valid is =
    let image : ℕ → ℕ = image_bytes m.image in
    let ps : Processors = processors_of m in
    let inside : AreInLine ps = in_line m.image m.cpus m.budget valid in
    let run : model_runs.IsRun image ps m.records = run_models m valid is in
    record {
      model = run;
      order = keeps_order image ps m.records inside run;
      located = run_located image ps m.records inside run;
      storage = run_storage image ps m.records inside run;
      bytes = run_bytes image ps m.records (λ at. byte_small m.image.size 0 m.image.segments at valid.placed) inside run;
      locking = keeps_locking m.records (run_fits image ps m.records inside run);
      no_loop = no_loop image ps m.records inside run;
      interrupts = keeps_interrupts image ps m.records run;
      polls = keeps_polls image ps m.records inside run;
    }

-- an event is refused as not legal exactly where it is not
pub refused_exactly : (m : Seen) (e : Event) (a : Result Outcome NotLegal) → a ≡ answer_of m e → IsValid m.image → IsRun m → is_not_legal a ≡ not (legal (processors_of m) m.records e)
unfolding answer_of
refused_exactly m e a is valid run = ap is_not_legal is ∙ refused m.image m.cpus m.budget m.records e valid run

-- what an event gives, by its processor alone
pub gives_alone : (m : Seen) (e : Event) (a : Result Outcome NotLegal) → cpu_number e.cpu < m.cpus → a ≡ answer_of m e → a ≡ result_alone m e
unfolding answer_of worlds.answer_of
gives_alone m e a below is =
    let p : ℕ = cpu_number e.cpu in
    let by : Actor → Option Reply → Result Outcome NotLegal = λ who r. answer_by (request_of who e.act) r (outcome_of who e.act r) in
    is ∙ rw (lt-ltb p m.cpus below) (ap (λ (r : Option Reply). by (actor_of m p) r) (led_answers m.image m.cpus m.budget m.records e) ∙ ap (λ (who : Actor). by who (answer_alone_in m e)) (led_actors m.image m.cpus m.budget m.records p))

-- a processor of the world is done where it is by the records
pub done_shown : (m : Seen) (p : ℕ) → IsValid m.image → IsRun m → p < MAX_CPUS → is_done (actor_of m p) ≡ model.is_done (processors_of m) m.records p
done_shown m p valid run less =
    let has : Agrees m.image m.cpus m.budget m.records p = agrees m.image m.cpus m.budget m.records (joined m.image m.cpus m.budget m.records valid run) p less in
    rw (ap is_finished has.seat, has.buffer.none) refl

-- a processor stands where the records say
pub seat_shown : (m : Seen) (p : ℕ) → IsValid m.image → IsRun m → p < MAX_CPUS → seat_of m p ≡ (actor_of m p).seat
seat_shown m p valid run less = (joined m.image m.cpus m.budget m.records valid run).seats p less

-- memory's quadwords are those of the bus
pub quadword_shown : (m : Seen) (q n : ℕ) → IsValid m.image → IsRun m → n ≡ number_at (calls.memory (image_bytes m.image) (world_of m).calls) (q * QUADWORD_BYTES) QUADWORD_BYTES → n ≡ quadword_of m q
quadword_shown m q n valid run is =
    let bus = (joined m.image m.cpus m.budget m.records valid run).bus in
    is ∙ ap (λ (f : ℕ → ℕ). number_at f (q * QUADWORD_BYTES) QUADWORD_BYTES) (λ i at. bus.bytes (image_bytes m.image) at i)

pub touched_shown : (m : Seen) (q : ℕ) (b : Bool) → IsValid m.image → IsRun m → b ≡ calls.is_touched q (world_of m).calls → b ≡ touches m q
touched_shown m q b valid run is = is ∙ touched_agrees (image_bytes m.image) m.records (world_of m).calls (joined m.image m.cpus m.budget m.records valid run).bus q
