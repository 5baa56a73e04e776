-- What a record that was played shows: what its processor asked, what it was answered, and what that gave.
use Rattle.std.proofs.Common.{◌≡◌, ℕ, true, false, eqb, ltb, Option, Some, None, refl, sym, ap, ◌∙◌, ⊎_elim}
use Rattle.std.specs.Prelude.{Result, Ok, Err}
use Rattle.std.proofs.lemmas.Bool.{cases_Bool}
use Rattle.axp_access.specs.declared.Event.{Event}
use Rattle.axp_access.specs.declared.Outcome.{Outcome}
use Rattle.axp_base.specs.Cpus.{cpu_number}
use Rattle.axp_cpu.specs.declared.refusals.NotLegal.{NotLegal}
use Rattle.axp_cpu.specs.Actors.{advanced, outcome_of, request_of}
use Rattle.axp_image.specs.Contents.{Contents}
use Rattle.axp_line.specs.declared.messages.Reply.{Reply}
use Rattle.axp_line.specs.declared.messages.Reply.TheVariants as reply
use Rattle.axp_lsu.specs.declared.asks.Ask2.{Ask2}
use Rattle.axp_world.specs.Worlds.{World, answer_by, answer_of, asked, after_event, calls_for, image_bytes, reply_at, reply_for}

-- the event's processor asked this, and its answer gave the outcome
pub record Shown (image : Contents) (w : World) (e : Event) (o : Outcome) : Type 0 where
  pub ask : Ask2
  pub asked : request_of (w.actors (cpu_number e.cpu)) e.act ≡ Ok ask
  pub answered : reply_at image w e ≡ reply_for (image_bytes image) w.calls (cpu_number e.cpu) (Ok ask)
  pub something : reply_at image w e ≡ Some reply.Nothing → ⊥
  pub outcome : o ≡ outcome_of (w.actors (cpu_number e.cpu)) e.act (reply_at image w e)

shown_by : (image : Contents) (w : World) (e : Event) (o : Outcome) (a : Result Ask2 NotLegal) (r : Option Reply) → asked w e ≡ a → reply_at image w e ≡ r
    → answer_by a r (outcome_of (w.actors (cpu_number e.cpu)) e.act (reply_at image w e)) ≡ Ok o → Shown image w e o
shown_by image w e o (Err refusal) r is answered h = cc
shown_by image w e o (Ok q) (Some reply.Nothing) is answered h = cc
shown_by image w e o (Ok q) None is answered h =
    record { ask = q; asked = is; answered = ap (reply_for (image_bytes image) w.calls (cpu_number e.cpu)) is; something = λ x. let y : None ≡ Some reply.Nothing = sym answered ∙ x in cc; outcome = let same : outcome_of (w.actors (cpu_number e.cpu)) e.act (reply_at image w e) ≡ o = cc in sym same }
shown_by image w e o (Ok q) (Some t) is answered h =
    record { ask = q; asked = is; answered = ap (reply_for (image_bytes image) w.calls (cpu_number e.cpu)) is; something = λ x. let y : Some t ≡ Some reply.Nothing = sym answered ∙ x in cc; outcome = let same : outcome_of (w.actors (cpu_number e.cpu)) e.act (reply_at image w e) ≡ o = cc in sym same }

pub shown : (image : Contents) (cpus : ℕ) (w : World) (e : Event) (o : Outcome) → answer_of image cpus w e ≡ Ok o → Shown image w e o
unfolding answer_of
shown image cpus w e o h =
    ⊎_elim
    (λ (below : ltb (cpu_number e.cpu) cpus ≡ true). shown_by image w e o (asked w e) (reply_at image w e) refl refl (rw below at h))
    (λ (above : ltb (cpu_number e.cpu) cpus ≡ false). let never = rw above at h in cc)
    (cases_Bool (ltb (cpu_number e.cpu) cpus))

-- the processor that acts goes on, every other stays
pub actor_own : (image : Contents) (w : World) (e : Event) (p : ℕ) → eqb (cpu_number e.cpu) p ≡ true → (after_event image w e).actors p ≡ advanced (w.actors p) e.act (reply_at image w e)
unfolding after_event
actor_own image w e p own = rw own refl

pub actor_other : (image : Contents) (w : World) (e : Event) (p : ℕ) → eqb (cpu_number e.cpu) p ≡ false → (after_event image w e).actors p ≡ w.actors p
unfolding after_event
actor_other image w e p other = rw other refl

pub calls_after : (image : Contents) (w : World) (e : Event) (o : Outcome) (s : Shown image w e o) → (after_event image w e).calls ≡ calls_for (image_bytes image) w.calls e.cpu (Ok s.ask)
unfolding after_event
calls_after image w e o s = ap (calls_for (image_bytes image) w.calls e.cpu) s.asked
