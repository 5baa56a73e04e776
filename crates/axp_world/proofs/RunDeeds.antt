-- Each processor by itself is that of the world.
use Rattle.std.proofs.Common.{◌≡◌, ⊎_elim, ℕ, ◌<◌, ◌&&◌, true, false, eqb, List, [], ◌∷◌, refl, sym, ap, ◌∙◌}
use Rattle.std.specs.Prelude.{Ok, is_ok}
use Rattle.std.proofs.lemmas.Bool.{cases_Bool}
use Rattle.axp_access.specs.declared.Event.{Event}
use Rattle.axp_access.specs.declared.Record.{Record}
use Rattle.axp_base.specs.Cpus.{cpu_number}
use Rattle.axp_cpu.specs.Actors.{Actor, advanced, outcome_of, request_of}
use Rattle.axp_image.specs.Contents.{Contents, IsValid}
use Rattle.axp_world.specs.Deeds.{alone, answer_alone, has_late}
use Rattle.axp_world.specs.Worlds.{IsPlayed, World, answer_of, image_bytes, reply_at, reply_for, world}
use Rattle.axp_cpu.specs.Following.{processors}
use Rattle.axp_model.specs.Legal.{legal}
use Rattle.axp_world.proofs.PlayedRecords.{actor_other, actor_own, shown}
use Rattle.axp_world.proofs.RunJoined.{allowed}

pub led_actors : (image : Contents) (cpus budget : ℕ) (h : List Record) (p : ℕ) → (world image cpus budget h).actors p ≡ alone image cpus budget p h
led_actors image cpus budget [] p = refl
led_actors image cpus budget (r ∷ h) p =
    let w : World = world image cpus budget h in
    ⊎_elim
    (λ (own : eqb (cpu_number r.event.cpu) p ≡ true). actor_own image w r.event p own ∙ rw own (ap (λ (a : Actor). advanced a r.event.act (reply_at image w r.event)) (led_actors image cpus budget h p)))
    (λ (other : eqb (cpu_number r.event.cpu) p ≡ false). actor_other image w r.event p other ∙ rw other (led_actors image cpus budget h p))
    (cases_Bool (eqb (cpu_number r.event.cpu) p))

-- what the bus answers to it
pub led_answers : (image : Contents) (cpus budget : ℕ) (h : List Record) (e : Event) → reply_at image (world image cpus budget h) e ≡ answer_alone image cpus budget (cpu_number e.cpu) h e.act
led_answers image cpus budget h e =
    ap (λ (a : Actor). reply_for (image_bytes image) (world image cpus budget h).calls (cpu_number e.cpu) (request_of a e.act)) (led_actors image cpus budget h (cpu_number e.cpu))

pub led_legal : (image : Contents) (cpus budget : ℕ) (h : List Record) (e : Event) → IsValid image → IsPlayed image cpus budget h → cpu_number e.cpu < cpus
    → legal (processors image cpus budget) h e ≡ (is_ok (request_of (alone image cpus budget (cpu_number e.cpu) h) e.act) && has_late e.act (world image cpus budget h).calls (cpu_number e.cpu))
led_legal image cpus budget h e valid played below =
    sym (allowed image cpus budget h e valid played below)
    ∙ ap (λ (a : Actor). is_ok (request_of a e.act) && has_late e.act (world image cpus budget h).calls (cpu_number e.cpu)) (led_actors image cpus budget h (cpu_number e.cpu))

pub led_outcomes : (image : Contents) (cpus budget : ℕ) (r : Record) (h : List Record) → answer_of image cpus (world image cpus budget h) r.event ≡ Ok r.outcome
    → r.outcome ≡ outcome_of (alone image cpus budget (cpu_number r.event.cpu) h) r.event.act (answer_alone image cpus budget (cpu_number r.event.cpu) h r.event.act)
led_outcomes image cpus budget r h played =
    (shown image cpus (world image cpus budget h) r.event r.outcome played).outcome
    ∙ ap (λ (a : Actor). outcome_of a r.event.act (reply_at image (world image cpus budget h) r.event)) (led_actors image cpus budget h (cpu_number r.event.cpu))
    ∙ ap (outcome_of (alone image cpus budget (cpu_number r.event.cpu) h) r.event.act) (led_answers image cpus budget h r.event)
