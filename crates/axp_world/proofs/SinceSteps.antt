-- What a processor did since its last Step is what the history shows of it.
use Rattle.std.proofs.Common.{◌≡◌, ℕ, Bool, true, false, List, [], ◌∷◌, slice_get, Option, Some, refl, sym, ap, ◌∙◌, ⊎_elim}
use Rattle.std.proofs.lemmas.Bool.{cases_Bool}
use Rattle.axp_access.specs.declared.Act.{Act}
use Rattle.axp_access.specs.declared.Act.TheVariants as act
use Rattle.axp_access.specs.declared.Intent.{Intent}
use Rattle.axp_access.specs.declared.Record.{Record}
use Rattle.axp_bank.specs.declared.copies.LineCopy.{LineCopy}
use Rattle.axp_base.specs.declared.lines.Bank.{Bank}
use Rattle.axp_base.specs.declared.lines.Bank.TheVariants.{Even, Odd, Code}
use Rattle.axp_base.specs.declared.lines.Line.{Line}
use Rattle.axp_cpu.specs.Actors.{actor_intent, advanced}
use Rattle.axp_image.specs.Contents.{Contents}
use Rattle.axp_line.specs.declared.messages.Reply.{Reply}
use Rattle.axp_line.specs.declared.messages.Reply.TheVariants as reply
use Rattle.axp_lsu.specs.Going as going
use Rattle.axp_lsu.specs.Going.{after_late, after_act, after_stored}
use Rattle.axp_lsu.specs.Keeping.{LocalMemory, with_copies}
use Rattle.axp_lsu.specs.declared.since.Since.{Since}
use Rattle.axp_wbuf.specs.Drains.{oldest_group}
use Rattle.axp_model.specs.Legal.{since_step}
use Rattle.axp_access.specs.Acts.{is_drop_of, is_fill, is_poll_act, is_step, is_tick}
use Rattle.axp_model.specs.Records.{is_of}
use Rattle.axp_world.specs.Worlds.{World, reply_at, world}
use Rattle.axp_world.proofs.Agreement.{SinceAgrees}
use Rattle.axp_world.proofs.PlayedRecords.{actor_other, actor_own}
use Rattle.axp_world.proofs.CountKept.{drained_since}

-- a change of copies leaves what was done
with_copies_since : (b : Bank) (cs : List LineCopy) (u : LocalMemory) → (with_copies b cs u).since ≡ u.since
with_copies_since Even cs u = refl
with_copies_since Odd cs u = refl
with_copies_since Code cs u = refl

rewritten_since : (line : Line) (r : Option Reply) (u : LocalMemory) → (after_stored line r u).since ≡ u.since
rewritten_since line (Some (reply.Stored turn bytes)) u = with_copies_since _ _ u
rewritten_since line _ u = refl

delivered_since : (r : Option Reply) (u : LocalMemory) → (after_late r u).since ≡ u.since
delivered_since (Some (reply.Late line turn)) u = with_copies_since _ _ u
delivered_since _ u = refl

-- what the newest act, an own one, makes of an act since the last Step
stepped_since : (test : Act → Bool) (p : ℕ) (r : Record) (h : List Record) → is_of p r ≡ true → is_step r.event.act ≡ true → since_step test p (r ∷ h) ≡ false
stepped_since test p r h own step = rw own (rw step refl)

made_since : (test : Act → Bool) (p : ℕ) (r : Record) (h : List Record) → is_of p r ≡ true → is_step r.event.act ≡ false → test r.event.act ≡ true → since_step test p (r ∷ h) ≡ true
made_since test p r h own step is = rw own (rw step (rw is refl))

same_since : (test : Act → Bool) (p : ℕ) (r : Record) (h : List Record) → is_of p r ≡ true → is_step r.event.act ≡ false → test r.event.act ≡ false → since_step test p (r ∷ h) ≡ since_step test p h
same_since test p r h own step is = rw own (rw step (rw is refl))

-- an act that is none of these
quiet_since : (p : ℕ) (r : Record) (h : List Record) (u v : LocalMemory) → is_of p r ≡ true → is_step r.event.act ≡ false → is_fill r.event.act ≡ false → ((b : Bank) → is_drop_of b r.event.act ≡ false) → is_poll_act r.event.act ≡ false
    → is_tick r.event.act ≡ false → v.since ≡ u.since → SinceAgrees p h u → SinceAgrees p (r ∷ h) v
quiet_since p r h u v own step fill drop poll tick same was = record {
  filled = ap (λ (s : Since). s.filled) same ∙ was.filled ∙ sym (same_since is_fill p r h own step fill);
  even = ap (λ (s : Since). s.dropped_even) same ∙ was.even ∙ sym (same_since (is_drop_of Even) p r h own step (drop Even));
  odd = ap (λ (s : Since). s.dropped_odd) same ∙ was.odd ∙ sym (same_since (is_drop_of Odd) p r h own step (drop Odd));
  code = ap (λ (s : Since). s.dropped_code) same ∙ was.code ∙ sym (same_since (is_drop_of Code) p r h own step (drop Code));
  polled = ap (λ (s : Since). s.polled) same ∙ was.polled ∙ sym (same_since is_poll_act p r h own step poll);
  ticked = ap (λ (s : Since). s.ticked) same ∙ was.ticked ∙ sym (same_since is_tick p r h own step tick);
}

own_since : (a : Act) (i : Intent) (t : Option Reply) (u : LocalMemory) (p : ℕ) (r : Record) (h : List Record) → r.event.act ≡ a → is_of p r ≡ true → SinceAgrees p h u → SinceAgrees p (r ∷ h) (after_act a i t u)
own_since act.Step i t u p r h is own was =
    let step : is_step r.event.act ≡ true = rw is refl in
    record {
      filled = sym (stepped_since is_fill p r h own step);
      even = sym (stepped_since (is_drop_of Even) p r h own step);
      odd = sym (stepped_since (is_drop_of Odd) p r h own step);
      code = sym (stepped_since (is_drop_of Code) p r h own step);
      polled = sym (stepped_since is_poll_act p r h own step);
      ticked = sym (stepped_since is_tick p r h own step);
    }
own_since act.Fill i t u p r h is own was = record {
  filled = sym (made_since is_fill p r h own (rw is refl) (rw is refl));
  even = was.even ∙ sym (same_since (is_drop_of Even) p r h own (rw is refl) (rw is refl));
  odd = was.odd ∙ sym (same_since (is_drop_of Odd) p r h own (rw is refl) (rw is refl));
  code = was.code ∙ sym (same_since (is_drop_of Code) p r h own (rw is refl) (rw is refl));
  polled = was.polled ∙ sym (same_since is_poll_act p r h own (rw is refl) (rw is refl));
  ticked = was.ticked ∙ sym (same_since is_tick p r h own (rw is refl) (rw is refl));
}
own_since (act.Drain k) i t u p r h is own was = quiet_since p r h u _ own (rw is refl) (rw is refl) (λ b. rw is refl) (rw is refl) (rw is refl) (drained_since k (slice_get (oldest_group u.buffer.kept) k) t u) was
own_since (act.Take b) i t u p r h is own was = quiet_since p r h u _ own (rw is refl) (rw is refl) (λ b. rw is refl) (rw is refl) (rw is refl) (delivered_since t u) was
own_since (act.Drop Even line) i t u p r h is own was = record {
  filled = was.filled ∙ sym (same_since is_fill p r h own (rw is refl) (rw is refl));
  even = sym (made_since (is_drop_of Even) p r h own (rw is refl) (rw is refl));
  odd = was.odd ∙ sym (same_since (is_drop_of Odd) p r h own (rw is refl) (rw is refl));
  code = was.code ∙ sym (same_since (is_drop_of Code) p r h own (rw is refl) (rw is refl));
  polled = was.polled ∙ sym (same_since is_poll_act p r h own (rw is refl) (rw is refl));
  ticked = was.ticked ∙ sym (same_since is_tick p r h own (rw is refl) (rw is refl));
}
own_since (act.Drop Odd line) i t u p r h is own was = record {
  filled = was.filled ∙ sym (same_since is_fill p r h own (rw is refl) (rw is refl));
  even = was.even ∙ sym (same_since (is_drop_of Even) p r h own (rw is refl) (rw is refl));
  odd = sym (made_since (is_drop_of Odd) p r h own (rw is refl) (rw is refl));
  code = was.code ∙ sym (same_since (is_drop_of Code) p r h own (rw is refl) (rw is refl));
  polled = was.polled ∙ sym (same_since is_poll_act p r h own (rw is refl) (rw is refl));
  ticked = was.ticked ∙ sym (same_since is_tick p r h own (rw is refl) (rw is refl));
}
own_since (act.Drop Code line) i t u p r h is own was = record {
  filled = was.filled ∙ sym (same_since is_fill p r h own (rw is refl) (rw is refl));
  even = was.even ∙ sym (same_since (is_drop_of Even) p r h own (rw is refl) (rw is refl));
  odd = was.odd ∙ sym (same_since (is_drop_of Odd) p r h own (rw is refl) (rw is refl));
  code = sym (made_since (is_drop_of Code) p r h own (rw is refl) (rw is refl));
  polled = was.polled ∙ sym (same_since is_poll_act p r h own (rw is refl) (rw is refl));
  ticked = was.ticked ∙ sym (same_since is_tick p r h own (rw is refl) (rw is refl));
}
own_since act.Poll i t u p r h is own was = record {
  filled = was.filled ∙ sym (same_since is_fill p r h own (rw is refl) (rw is refl));
  even = was.even ∙ sym (same_since (is_drop_of Even) p r h own (rw is refl) (rw is refl));
  odd = was.odd ∙ sym (same_since (is_drop_of Odd) p r h own (rw is refl) (rw is refl));
  code = was.code ∙ sym (same_since (is_drop_of Code) p r h own (rw is refl) (rw is refl));
  polled = sym (made_since is_poll_act p r h own (rw is refl) (rw is refl));
  ticked = was.ticked ∙ sym (same_since is_tick p r h own (rw is refl) (rw is refl));
}
own_since act.Tick i t u p r h is own was = record {
  filled = was.filled ∙ sym (same_since is_fill p r h own (rw is refl) (rw is refl));
  even = was.even ∙ sym (same_since (is_drop_of Even) p r h own (rw is refl) (rw is refl));
  odd = was.odd ∙ sym (same_since (is_drop_of Odd) p r h own (rw is refl) (rw is refl));
  code = was.code ∙ sym (same_since (is_drop_of Code) p r h own (rw is refl) (rw is refl));
  polled = was.polled ∙ sym (same_since is_poll_act p r h own (rw is refl) (rw is refl));
  ticked = sym (made_since is_tick p r h own (rw is refl) (rw is refl));
}

-- another's record
other_since : (p : ℕ) (r : Record) (h : List Record) (u : LocalMemory) → is_of p r ≡ false → SinceAgrees p h u → SinceAgrees p (r ∷ h) u
other_since p r h u other was = record {
  filled = was.filled ∙ sym (stays is_fill);
  even = was.even ∙ sym (stays (is_drop_of Even));
  odd = was.odd ∙ sym (stays (is_drop_of Odd));
  code = was.code ∙ sym (stays (is_drop_of Code));
  polled = was.polled ∙ sym (stays is_poll_act);
  ticked = was.ticked ∙ sym (stays is_tick);
} where
  stays : (test : Act → Bool) → since_step test p (r ∷ h) ≡ since_step test p h
  stays test = rw other refl

-- at the start nothing was done
pub since_start : (image : Contents) (cpus budget p : ℕ) → SinceAgrees p [] ((world image cpus budget []).actors p).kept
since_start image cpus budget p = record { filled = refl; even = refl; odd = refl; code = refl; polled = refl; ticked = refl }

pub since_agrees_step : (image : Contents) (cpus budget : ℕ) (r : Record) (h : List Record) (p : ℕ) → SinceAgrees p h ((world image cpus budget h).actors p).kept → SinceAgrees p (r ∷ h) ((world image cpus budget (r ∷ h)).actors p).kept
unfolding advanced going.advanced
since_agrees_step image cpus budget r h p was =
    let w : World = world image cpus budget h in
    ⊎_elim
    (λ (own : is_of p r ≡ true). rw (actor_own image w r.event p own) (own_since r.event.act (actor_intent (w.actors p)) (reply_at image w r.event) (w.actors p).kept p r h refl own was))
    (λ (other : is_of p r ≡ false). rw (actor_other image w r.event p other) (other_since p r h (w.actors p).kept other was))
    (cases_Bool (is_of p r))
