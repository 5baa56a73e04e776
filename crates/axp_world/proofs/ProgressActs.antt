-- No processor is stuck: one that is not finished has an act of progress, and one that is finished may drain.
use Rattle.axp_cpu.specs.Following.{processors}
use Rattle.axp_cpu.specs.Seats.{intent_of, is_at_boundary, is_finished, Seat, plan_now, wanted, wanted_by}
use Rattle.axp_access.specs.declared.Intent.{Intent}
use Rattle.axp_world.proofs.Agreement.{BanksAgree}
use Rattle.axp_world.proofs.RunSeats.{legal_by, cpu_small}
use Rattle.axp_world.proofs.RunWants.{intents_in_line, intents_want_no_poll}
use Rattle.axp_model.specs.Legal.{legal, is_timely}
use Rattle.std.proofs.lemmas.Bool.{cases_Bool, eq-eqb, eqb-true, false≢true}
use Rattle.std.proofs.Common.{◌≡◌, ◌<◌, ℕ, Bool, true, false, cond, List, [], ◌∷◌, Option, None, is_some, refl, sym, ap, ◌∙◌, subst, ⊎_elim}
use Rattle.axp_base.specs.Cpus.{cpu_number}
use Rattle.axp_base.specs.declared.lines.Bank.TheVariants.{Even, Odd, Code}
use Rattle.axp_base.specs.declared.processors.Cpu.{Cpu}
use Rattle.axp_access.specs.declared.Act.{Act}
use Rattle.axp_access.specs.declared.Act.TheVariants as act
use Rattle.axp_access.specs.declared.Record.{Record}
use Rattle.axp_cpu.specs.Actors.{Actor, actor_intent, advanced}
use Rattle.axp_image.specs.Contents.{Contents, IsValid}
use Rattle.axp_line.specs.declared.messages.Reply.{Reply}
use Rattle.axp_lsu.specs.Asking.{act_ask, ask_of}
use Rattle.axp_lsu.specs.Going as going
use Rattle.axp_line.specs.BusCalls.{BusCall}
use Rattle.axp_model.specs.Entries.{buffer}
use Rattle.axp_base.specs.Lists.{is_empty}
use Rattle.axp_model.specs.Records.{is_of}
use Rattle.axp_base.specs.declared.lines.Bank.{Bank}
use Rattle.axp_lsu.specs.Offering as offering
use Rattle.axp_model.specs.Waits.{full_bank}
use Rattle.axp_world.specs.RunLaws.{MakesRoom, is_progress}
use Rattle.axp_world.specs.Worlds.{IsPlayed, World, image_bytes, reply_at, world}
use Rattle.axp_world.proofs.AskedActs.{IsAsked, is_asked}
use Rattle.axp_world.proofs.BankRooms.{AreFew, HasRooms, act_rooms, rooms_start}
use Rattle.axp_world.proofs.ProgressFilled.{IsReady, act_ready}
use Rattle.axp_world.proofs.RunJoined.{Joined, agrees, joined}
use Rattle.axp_world.specs.Deeds.{has_late}
use Rattle.axp_world.proofs.RunLegality.{full_agrees, legal_agrees}
use Rattle.axp_world.proofs.ProgressMidway.{WantsWithin, act_wants}
use Rattle.axp_world.proofs.ProgressOffered.{Offer, first_leaves, offered}
use Rattle.axp_world.proofs.PlayedRecords.{Shown, actor_other, actor_own, shown}
use Rattle.axp_world.proofs.RunPlayed.{Agrees}

-- the bus is not asked what is late
unasked : (a : Act) (cs : List BusCall) (p : ℕ) → is_progress a ≡ true → has_late a cs p ≡ true
unasked act.Step cs p goes = refl
unasked act.Fill cs p goes = refl
unasked (act.Drain k) cs p goes = refl
unasked (act.Take b) cs p goes = cc
unasked (act.Drop b line) cs p goes = refl
unasked act.Poll cs p goes = cc
unasked act.Tick cs p goes = cc

-- what a processor may do now, as far as it knows, is legal
asked_is_legal : (image : Contents) (cpus budget : ℕ) (h : List Record) (c : Cpu) (a : Act) → cpu_number c < cpus → Joined image cpus budget h → is_progress a ≡ true
    → is_timely a (actor_intent ((world image cpus budget h).actors (cpu_number c))).finished ((world image cpus budget h).actors (cpu_number c)).kept.since.filled ≡ true
    → is_some (act_ask a (actor_intent ((world image cpus budget h).actors (cpu_number c))) ((world image cpus budget h).actors (cpu_number c)).kept) ≡ true
    → legal (processors image cpus budget) h (record { cpu = c; act = a }) ≡ true
unfolding ask_of
asked_is_legal image cpus budget h c a below is goes now asks =
    let p : ℕ = cpu_number c in
    let who : Actor = (world image cpus budget h).actors p in
    let agree : Agrees image cpus budget h p = agrees image cpus budget h is p (cpu_small c) in
    legal_by (processors image cpus budget) h (record { cpu = c; act = a }) (actor_intent who) below (ap intent_of agree.seat)
    ∙ (sym (legal_agrees (image_bytes image) p h (actor_intent who) who.kept (world image cpus budget h).calls a agree.buffer agree.banks agree.since is.bus)
    ∙ rw (now, asks, unasked a (world image cpus budget h).calls p goes) refl)

-- finished, with a write that waits
pub finished_drains : (image : Contents) (cpus budget : ℕ) (h : List Record) (c : Cpu) → IsValid image → IsPlayed image cpus budget h → cpu_number c < cpus → ((processors image cpus budget).intent (cpu_number c) h).finished ≡ true → is_empty (buffer (cpu_number c) h).waiting ≡ false
    → legal (processors image cpus budget) h (record { cpu = c; act = act.Drain 0 }) ≡ true
finished_drains image cpus budget h c valid played below finished some =
    let p : ℕ = cpu_number c in
    let is : Joined image cpus budget h = joined image cpus budget h valid played in
    asked_is_legal image cpus budget h c (act.Drain 0) below is refl (rw (sym (ap (λ (i : Intent). i.finished) (ap intent_of (agrees image cpus budget h is p (cpu_small c)).seat)) ∙ finished) refl) (first_leaves ((world image cpus budget h).actors p).kept.buffer.kept ((agrees image cpus budget h is p (cpu_small c)).buffer.none ∙ some))

-- what lets a processor go on, and stays so by all that is played
record GoesOn (a : Actor) : Type 0 where
  ready : IsReady (actor_intent a) a.kept
  rooms : HasRooms a.kept
  wants : WantsWithin a.seat

-- its banks are no longer than they may be
are_few : (image : Contents) (cpus budget : ℕ) (h : List Record) → Joined image cpus budget h → (p : ℕ) → AreFew ((world image cpus budget h).actors p).kept
are_few image cpus budget h is p Even = (is.banks p).even.whole.few
are_few image cpus budget h is p Odd = (is.banks p).odd.whole.few
are_few image cpus budget h is p Code = (is.banks p).code.whole.few

-- so it is at the start and after each record
goes_on_start : (image : Contents) (cpus budget p : ℕ) → GoesOn ((world image cpus budget []).actors p)
goes_on_start image cpus budget p = record { ready = λ filled on. cc; rooms = rooms_start; wants = λ within. cc }

own_goes_on : (image : Contents) (cpus budget : ℕ) (r : Record) (h : List Record) → IsValid image → Joined image cpus budget h → Joined image cpus budget (r ∷ h) → Shown image (world image cpus budget h) r.event r.outcome
    → GoesOn ((world image cpus budget h).actors (cpu_number r.event.cpu)) → GoesOn (advanced ((world image cpus budget h).actors (cpu_number r.event.cpu)) r.event.act (reply_at image (world image cpus budget h) r.event))
unfolding advanced going.advanced
own_goes_on image cpus budget r h valid is after s was =
    let w : World = world image cpus budget h in
    let n : ℕ = cpu_number r.event.cpu in
    let a : Actor = w.actors n in
    let t : Option Reply = reply_at image w r.event in
    let own : is_of n r ≡ true = eq-eqb n n refl in
    let asked : IsAsked a r.event.act s.ask = is_asked a r.event.act s.ask s.asked in
    let banks : BanksAgree (image_bytes image) n (r ∷ h) (advanced a r.event.act t).kept =
    subst (λ (x : Actor). BanksAgree (image_bytes image) n (r ∷ h) x.kept) (actor_own image w r.event n own) (agrees image cpus budget (r ∷ h) after n (cpu_small r.event.cpu)).banks in
    record {
      ready = act_ready r.event.act a t (image_bytes image) n r h s.ask asked own s.outcome (intents_in_line image cpus budget valid n h) banks;
      rooms = act_rooms r.event.act (actor_intent a) t a.kept s.ask asked.asks (are_few image cpus budget h is n) was.rooms;
      wants = act_wants r.event.act a t was.wants;
    }

goes_on : (image : Contents) (cpus budget : ℕ) (h : List Record) → IsValid image → IsPlayed image cpus budget h → (p : ℕ) → GoesOn ((world image cpus budget h).actors p)
goes_on image cpus budget [] valid played p = goes_on_start image cpus budget p
goes_on image cpus budget (r ∷ h) valid played p =
    let w : World = world image cpus budget h in
    let n : ℕ = cpu_number r.event.cpu in
    let was : (k : ℕ) → GoesOn (w.actors k) = goes_on image cpus budget h valid played.1 in
    ⊎_elim
    (λ (own : is_of p r ≡ true).
    let gone : GoesOn (advanced (w.actors n) r.event.act (reply_at image w r.event)) =
    own_goes_on image cpus budget r h valid (joined image cpus budget h valid played.1) (joined image cpus budget (r ∷ h) valid played) (shown image cpus w r.event r.outcome played.0) (was n) in
    subst GoesOn (sym (actor_own image w r.event p own)) (subst (λ k. GoesOn (advanced (w.actors k) r.event.act (reply_at image w r.event))) (eqb-true n p own) gone))
    (λ (other : is_of p r ≡ false). subst GoesOn (sym (actor_other image w r.event p other)) (was p))
    (cases_Bool (is_of p r))

-- a processor that wants no access stands at a boundary
at_boundary : (s : Seat) → is_finished s ≡ false → WantsWithin s → wanted s ≡ None → is_at_boundary s ≡ true
at_boundary s on within none =
    ⊎_elim
    (λ (stands : is_at_boundary s ≡ true). stands)
    (λ (inside : is_at_boundary s ≡ false).
    let same : wanted_by (plan_now s) ≡ wanted s = ap (λ (b : Bool). cond b None (wanted_by (plan_now s))) (sym on) in
    absurd (false≢true (ap is_some (sym none) ∙ ap is_some (sym same) ∙ within inside)))
    (cases_Bool (is_at_boundary s))

-- one that is not finished has an act of progress
pub progress : (image : Contents) (cpus budget : ℕ) (h : List Record) (c : Cpu) → IsValid image → IsPlayed image cpus budget h → cpu_number c < cpus → ((processors image cpus budget).intent (cpu_number c) h).finished ≡ false
    → (a : Act) × (is_progress a ≡ true) × (legal (processors image cpus budget) h (record { cpu = c; act = a }) ≡ true) × MakesRoom (full_bank ((processors image cpus budget).intent (cpu_number c) h).wanted (cpu_number c) h) a
progress image cpus budget h c valid played below goes =
    let p : ℕ = cpu_number c in
    let a : Actor = (world image cpus budget h).actors p in
    let is : Joined image cpus budget h = joined image cpus budget h valid played in
    let on : is_finished a.seat ≡ false = sym (ap is_finished (agrees image cpus budget h is p (cpu_small c)).seat) ∙ goes in
    let can : GoesOn a = goes_on image cpus budget h valid played p in
    let o : Offer (actor_intent a) a.kept = offered (actor_intent a) a.kept on can.ready can.rooms (intents_want_no_poll image cpus budget valid p h) (at_boundary a.seat on can.wants) in
    let wants : full_bank (actor_intent a).wanted p h ≡ full_bank ((processors image cpus budget).intent p h).wanted p h = ap (λ (s : Seat). full_bank (intent_of s).wanted p h) (sym (agrees image cpus budget h is p (cpu_small c)).seat) in
    let needs : offering.full_bank (actor_intent a).wanted a.kept ≡ full_bank ((processors image cpus budget).intent p h).wanted p h = full_agrees (actor_intent a).wanted (image_bytes image) p h a.kept (agrees image cpus budget h is p (cpu_small c)).banks ∙ wants in
    (o.chosen, o.goes, asked_is_legal image cpus budget h c o.chosen below is o.goes o.now o.asks, subst (λ (n : Option Bank). MakesRoom n o.chosen) needs o.room)
