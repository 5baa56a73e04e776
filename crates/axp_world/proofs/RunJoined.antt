-- Every played history is a run of the memory model, and the world after it is what the model says.
use Rattle.axp_cpu.specs.Following.{processors, seat_in}
use Rattle.axp_base.specs.declared.processors.TheConstants.{MAX_CPUS}
use Rattle.axp_world.proofs.Agreement.{BusAgrees, SinceAgrees}
use Rattle.axp_world.proofs.RunSeats.{cpu_small, seats_agree}
use Rattle.axp_world.proofs.RunWants.{in_line, intents_in_line, intents_name_targets}
use Rattle.axp_laws.proofs.RunRecords.{run_fits}
use Rattle.axp_model.specs.Legal.{legal}
use Rattle.std.proofs.Common.{◌&&◌, ◌≡◌, ℕ, ◌<◌, false, not, List, [], ◌∷◌, refl, sym, ap, ◌∙◌}
use Rattle.std.specs.Prelude.{Result, Ok, Err, is_ok}
use Rattle.axp_access.specs.declared.Event.{Event}
use Rattle.axp_access.specs.declared.Outcome.{Outcome}
use Rattle.axp_access.specs.declared.Record.{Record}
use Rattle.axp_base.specs.Cpus.{cpu_number}
use Rattle.axp_cpu.specs.declared.refusals.NotLegal.{NotLegal}
use Rattle.axp_image.specs.Contents.{Contents, IsValid}
use Rattle.axp_model.specs.Processors.{AreInLine}
use Rattle.axp_model.specs.Outcomes.{IsRun, outcome_of}
use Rattle.axp_world.specs.RunLaws.{is_not_legal}
use Rattle.axp_world.specs.Worlds.{IsPlayed, answer_of, image_bytes, world}
use Rattle.axp_world.proofs.BankPlayed.{Banked, banks_agree, banks_start, banks_step}
use Rattle.axp_world.proofs.BufferPlayed.{IsBuffered, buffer_agrees, buffer_start, buffer_step}
use Rattle.axp_world.proofs.BusRecords.{bus_start, bus_step}
use Rattle.axp_cpu.specs.Actors.{request_of}
use Rattle.axp_world.specs.Deeds.{has_late}
use Rattle.axp_world.proofs.RunRefusals.{allowed_agrees, refused_agrees}
use Rattle.axp_world.proofs.RunPlayed.{Agrees, played_outcome, run_goes_on}
use Rattle.axp_world.proofs.SinceSteps.{since_start, since_agrees_step}

-- what the world after a history has of it
pub record Joined (image : Contents) (cpus budget : ℕ) (h : List Record) : Type 0 where
  pub seats : (p : ℕ) → p < MAX_CPUS → seat_in image cpus budget p h ≡ ((world image cpus budget h).actors p).seat
  pub buffers : (p : ℕ) → IsBuffered p h ((world image cpus budget h).actors p).kept.buffer
  pub banks : (p : ℕ) → Banked (image_bytes image) p h ((world image cpus budget h).actors p).kept
  pub since : (p : ℕ) → SinceAgrees p h ((world image cpus budget h).actors p).kept
  pub bus : BusAgrees (image_bytes image) h (world image cpus budget h).calls
  pub run : IsRun (image_bytes image) (processors image cpus budget) h

-- so has each processor
pub agrees : (image : Contents) (cpus budget : ℕ) (h : List Record) → Joined image cpus budget h → (p : ℕ) → p < MAX_CPUS → Agrees image cpus budget h p
agrees image cpus budget h is p less = record {
  seat = is.seats p less;
  buffer = buffer_agrees p h ((world image cpus budget h).actors p).kept.buffer (is.buffers p);
  banks = banks_agree (image_bytes image) p h ((world image cpus budget h).actors p).kept (is.banks p);
  since = is.since p;
}

joined_step : (image : Contents) (cpus budget : ℕ) (r : Record) (h : List Record) → IsValid image → IsPlayed image cpus budget (r ∷ h) → Joined image cpus budget h → Joined image cpus budget (r ∷ h)
joined_step image cpus budget r h valid plays is =
    let p : ℕ = cpu_number r.event.cpu in
    let played : answer_of image cpus (world image cpus budget h) r.event ≡ Ok r.outcome = plays.0 in
    let run : IsRun (image_bytes image) (processors image cpus budget) (r ∷ h) = run_goes_on image cpus budget r h valid played (agrees image cpus budget h is p (cpu_small r.event.cpu)) is.bus is.run in
    let fit = run_fits (image_bytes image) (processors image cpus budget) (r ∷ h) (in_line image cpus budget valid) run in
    let bus : BusAgrees (image_bytes image) (r ∷ h) (world image cpus budget (r ∷ h)).calls = bus_step image cpus budget r h played fit (agrees image cpus budget h is p (cpu_small r.event.cpu)).buffer is.bus in
    record {
      seats = seats_agree image cpus budget (r ∷ h) plays;
      buffers = buffer_step image cpus budget r h played fit is.buffers;
      banks = λ q. banks_step image cpus budget r h (intents_in_line image cpus budget valid p h) played fit is.bus bus q (is.banks q);
      since = λ q. since_agrees_step image cpus budget r h q (is.since q);
      bus = bus;
      run = run;
    }

pub joined : (image : Contents) (cpus budget : ℕ) (h : List Record) → IsValid image → IsPlayed image cpus budget h → Joined image cpus budget h
joined image cpus budget [] valid played = record {
  seats = seats_agree image cpus budget [] played;
  buffers = buffer_start image cpus budget;
  banks = banks_start image cpus budget;
  since = since_start image cpus budget;
  bus = bus_start (image_bytes image);
  run = tt;
}
joined image cpus budget (r ∷ h) valid played = joined_step image cpus budget r h valid played (joined image cpus budget h valid played.1)

-- an event is refused as not legal exactly where it is not
pub refused : (image : Contents) (cpus budget : ℕ) (h : List Record) (e : Event) → IsValid image → IsPlayed image cpus budget h
    → is_not_legal (answer_of image cpus (world image cpus budget h) e) ≡ not (legal (processors image cpus budget) h e)
refused image cpus budget h e valid played =
    let is : Joined image cpus budget h = joined image cpus budget h valid played in
    refused_agrees image cpus budget h e (agrees image cpus budget h is (cpu_number e.cpu) (cpu_small e.cpu)) is.bus

-- what a processor may ask is what is legal, but for a Take where nothing is late
pub allowed : (image : Contents) (cpus budget : ℕ) (h : List Record) (e : Event) → IsValid image → IsPlayed image cpus budget h → cpu_number e.cpu < cpus
    → (is_ok (request_of ((world image cpus budget h).actors (cpu_number e.cpu)) e.act) && has_late e.act (world image cpus budget h).calls (cpu_number e.cpu)) ≡ legal (processors image cpus budget) h e
allowed image cpus budget h e valid played below =
    let is : Joined image cpus budget h = joined image cpus budget h valid played in
    allowed_agrees image cpus budget h e below (agrees image cpus budget h is (cpu_number e.cpu) (cpu_small e.cpu)) is.bus

-- a legal event has the model's outcome
answered_by : (image : Contents) (cpus budget : ℕ) (r : Record) (h : List Record) (a : Result Outcome NotLegal) → IsValid image → Joined image cpus budget h → answer_of image cpus (world image cpus budget h) r.event ≡ a
    → is_not_legal a ≡ false → r.outcome ≡ outcome_of (image_bytes image) (processors image cpus budget) h r.event → a ≡ Ok r.outcome
answered_by image cpus budget r h (Ok o) valid is answer able same =
    let inside : AreInLine (processors image cpus budget) = in_line image cpus budget valid in
    let fit = run_fits (image_bytes image) (processors image cpus budget) h inside is.run in
    let p : ℕ = cpu_number r.event.cpu in
    let says : o ≡ outcome_of (image_bytes image) (processors image cpus budget) h r.event =
    played_outcome image cpus budget (record { event = r.event; outcome = o }) h answer fit (intents_in_line image cpus budget valid p h) (intents_name_targets image cpus budget valid p h) (agrees image cpus budget h is p (cpu_small r.event.cpu)) is.bus in
    ap (λ (x : Outcome). Ok x) (says ∙ sym same)
answered_by image cpus budget r h (Err e) valid is answer able same = cc

pub runs_are_played : (image : Contents) (cpus budget : ℕ) (h : List Record) → IsValid image → IsRun (image_bytes image) (processors image cpus budget) h → IsPlayed image cpus budget h
runs_are_played image cpus budget [] valid run = tt
runs_are_played image cpus budget (r ∷ h) valid run =
    let played : IsPlayed image cpus budget h = runs_are_played image cpus budget h valid run.2 in
    let is : Joined image cpus budget h = joined image cpus budget h valid played in
    let able : is_not_legal (answer_of image cpus (world image cpus budget h) r.event) ≡ false = refused image cpus budget h r.event valid played ∙ ap not run.0 in
    (answered_by image cpus budget r h (answer_of image cpus (world image cpus budget h) r.event) valid is refl able run.1, played)
