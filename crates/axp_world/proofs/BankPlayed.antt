-- The banks of a processor are the copies of the lines that it holds, by the history's words.
use Rattle.axp_world.proofs.Agreement.{world_intent, BanksAgree, BusAgrees, HasMemory}
use Rattle.axp_laws.proofs.RunRecords.{bank_own}
use Rattle.axp_model.specs.Legal.{is_timely}
use Rattle.std.proofs.lemmas.Bool.{cases_Bool, eqb-true}
use Rattle.std.proofs.Common.{◌≡◌, ℕ, Bool, true, false, cond, ◌&&◌, List, [], ◌∷◌, map, Option, Some, None, refl, sym, ap, ◌∙◌, subst, ⊎_elim}
use Rattle.std.specs.Prelude.{Ok}
use Rattle.axp_access.specs.declared.Act.{Act}
use Rattle.axp_access.specs.declared.Outcome.{Outcome}
use Rattle.axp_access.specs.declared.Record.{Record}
use Rattle.axp_bank.specs.Copies.{get_of, line_of}
use Rattle.axp_bank.specs.declared.copies.LineCopy.{LineCopy}
use Rattle.axp_bank.proofs.BankLemmas.{whole_empty}
use Rattle.axp_base.specs.Cpus.{cpu_number}
use Rattle.axp_base.specs.Lines.{data_bank, in_bank}
use Rattle.axp_base.specs.declared.lines.Bank.TheVariants.{Even, Odd}
use Rattle.axp_cpu.proofs.ActorLemmas.{asked_ok}
use Rattle.axp_cpu.specs.Actors.{Actor, actor_intent, advanced, outcome_of, request_of}
use Rattle.axp_image.specs.Contents.{Contents}
use Rattle.axp_line.specs.declared.contents.LineData.{LineData}
use Rattle.axp_line.specs.declared.messages.Reply.{Reply}
use Rattle.axp_lsu.specs.Asking.{act_ask, ask_of}
use Rattle.axp_lsu.specs.Going as going
use Rattle.axp_lsu.specs.Going.{after_act, outcome_by}
use Rattle.axp_lsu.specs.Keeping.{LocalMemory, data_copies}
use Rattle.axp_lsu.specs.declared.asks.Ask2.{Ask2}
use Rattle.axp_model.specs.Late.{code_copies, code_held, copies, held}
use Rattle.axp_laws.specs.LateLaws.{ListsExactly}
use Rattle.axp_model.specs.Processors.{WantsInLine}
use Rattle.axp_model.specs.Records.{is_of}
use Rattle.axp_model.specs.Turns.{code_stamp, stamp}
use Rattle.axp_laws.proofs.CopyLists.{code_copies_exactly, copies_exactly}
use Rattle.axp_laws.proofs.RunFacts.{Fitting}
use Rattle.axp_world.specs.Worlds.{World, answer_of, calls_for, image_bytes, reply_at, reply_for, world}
use Rattle.axp_world.proofs.BankActs.{Goes, act_goes, of_act}
use Rattle.axp_world.proofs.BankChanges.{held_in, is_held_by, shown_in}
use Rattle.axp_world.proofs.BankLeaves.{other_leaves_barrier, other_leaves_code, other_leaves_data}
use Rattle.axp_world.proofs.PlayedRecords.{Shown, actor_other, actor_own, calls_after, shown}
use Rattle.axp_world.proofs.BankShows.{CopiesShow, KeptShows, Shows, carried, nothing_changed}
use Rattle.axp_world.proofs.BankSpares.{among_lines, ascending_lines, same_ascending, told_of_none}

-- a processor's banks show the lines that it holds, with memory after their stamps
abbrev pub Banked : (ℕ → ℕ) → ℕ → List Record → LocalMemory → Type 0
Banked image p h u = KeptShows image h p h u

-- at the start nothing is held
none_shown : (image : ℕ → ℕ) (holds : ℕ → Bool) (turn : ℕ → ℕ) → ((l : ℕ) → holds l ≡ false) → CopiesShow image [] holds turn []
none_shown image holds turn none = record { whole = whole_empty; each = λ l. rw (told_of_none l) (none l) }

and_false : (b : Bool) → (b && false) ≡ false
and_false true = refl
and_false false = refl

pub banks_start : (image : Contents) (cpus budget p : ℕ) → Banked (image_bytes image) p [] ((world image cpus budget []).actors p).kept
banks_start image cpus budget p = record {
  even = none_shown (image_bytes image) (λ l. in_bank Even l && held p l []) (λ l. stamp p l []) (λ l. and_false (in_bank Even l));
  odd = none_shown (image_bytes image) (λ l. in_bank Odd l && held p l []) (λ l. stamp p l []) (λ l. and_false (in_bank Odd l));
  code = none_shown (image_bytes image) (λ l. code_held p l []) (λ l. code_stamp p l []) (λ l. refl);
  fenced = refl;
}

-- what a played record asked
may_act : (may : Bool) (o : Option Ask2) (q : Ask2) → cond may o None ≡ Some q → o ≡ Some q
may_act true o q e = e
may_act false o q e = cc

act_asked : (a : Actor) (e : Act) (q : Ask2) → request_of a e ≡ Ok q → act_ask e (actor_intent a) a.kept ≡ Some q
unfolding request_of ask_of
act_asked a e q asks = may_act (is_timely e (actor_intent a).finished a.kept.since.filled) (act_ask e (actor_intent a) a.kept) q (asked_ok (ask_of e (actor_intent a) a.kept) q asks)

-- the processor that acted
own_step : (image : Contents) (cpus budget : ℕ) (r : Record) (h : List Record) → WantsInLine (world_intent image cpus budget (cpu_number r.event.cpu) h).wanted → Shown image (world image cpus budget h) r.event r.outcome → Fitting (r ∷ h)
    → BusAgrees (image_bytes image) h (world image cpus budget h).calls → BusAgrees (image_bytes image) (r ∷ h) (world image cpus budget (r ∷ h)).calls → Banked (image_bytes image) (cpu_number r.event.cpu) h ((world image cpus budget h).actors (cpu_number r.event.cpu)).kept
    → Banked (image_bytes image) (cpu_number r.event.cpu) (r ∷ h) (advanced ((world image cpus budget h).actors (cpu_number r.event.cpu)) r.event.act (reply_at image (world image cpus budget h) r.event)).kept
unfolding advanced going.advanced outcome_of going.outcome_of
own_step image cpus budget r h inside s fit before after was =
    let w : World = world image cpus budget h in
    let p : ℕ = cpu_number r.event.cpu in
    let a : Actor = w.actors p in
    let bus : BusAgrees (image_bytes image) (r ∷ h) (calls_for (image_bytes image) w.calls r.event.cpu (Ok s.ask)) = subst (λ cs. BusAgrees (image_bytes image) (r ∷ h) cs) (calls_after image w r.event r.outcome s) after in
    let gives : outcome_by r.event.act a.cpu (actor_intent a) a.kept (reply_for (image_bytes image) w.calls p (Ok s.ask)) ≡ r.outcome = ap (λ (t : Option Reply). outcome_by r.event.act a.cpu (actor_intent a) a.kept t) (sym s.answered) ∙ sym s.outcome in
    let acted : Goes (image_bytes image) r.event.cpu (of_act r.event.cpu r.event.act (outcome_by r.event.act a.cpu (actor_intent a) a.kept (reply_for (image_bytes image) w.calls p (Ok s.ask)))) h a.kept (after_act r.event.act (actor_intent a) (reply_for (image_bytes image) w.calls p (Ok s.ask)) a.kept) (calls_for (image_bytes image) w.calls r.event.cpu (Ok s.ask)) =
    act_goes r.event.act (image_bytes image) r.event.cpu a.cpu h (actor_intent a) a.kept w.calls s.ask inside before (act_asked a r.event.act s.ask s.asked) in
    let goes : Goes (image_bytes image) r.event.cpu r h a.kept (after_act r.event.act (actor_intent a) (reply_for (image_bytes image) w.calls p (Ok s.ask)) a.kept) (calls_for (image_bytes image) w.calls r.event.cpu (Ok s.ask)) =
    subst (λ (o : Outcome). Goes (image_bytes image) r.event.cpu (of_act r.event.cpu r.event.act o) h a.kept (after_act r.event.act (actor_intent a) (reply_for (image_bytes image) w.calls p (Ok s.ask)) a.kept) (calls_for (image_bytes image) w.calls r.event.cpu (Ok s.ask))) gives acted in
    subst (λ (t : Option Reply). Banked (image_bytes image) p (r ∷ h) (after_act r.event.act (actor_intent a) t a.kept)) (sym s.answered) (goes fit bus (carried (image_bytes image) p r h a.kept fit was))

-- another's record
other_step : (image : ℕ → ℕ) (p : ℕ) (r : Record) (h : List Record) (u : LocalMemory) → is_of p r ≡ false → Fitting (r ∷ h) → Banked image p h u → Banked image p (r ∷ h) u
other_step image p r h u other fit was =
    nothing_changed image (r ∷ h) p r h u (other_leaves_data p r h other) (other_leaves_code p r h other) (other_leaves_barrier p r h other) (carried image p r h u fit was)

pub banks_step : (image : Contents) (cpus budget : ℕ) (r : Record) (h : List Record) → WantsInLine (world_intent image cpus budget (cpu_number r.event.cpu) h).wanted → answer_of image cpus (world image cpus budget h) r.event ≡ Ok r.outcome → Fitting (r ∷ h)
    → BusAgrees (image_bytes image) h (world image cpus budget h).calls → BusAgrees (image_bytes image) (r ∷ h) (world image cpus budget (r ∷ h)).calls
    → (p : ℕ) → Banked (image_bytes image) p h ((world image cpus budget h).actors p).kept → Banked (image_bytes image) p (r ∷ h) ((world image cpus budget (r ∷ h)).actors p).kept
banks_step image cpus budget r h inside played fit before after p was =
    let w : World = world image cpus budget h in
    ⊎_elim
    (λ (own : is_of p r ≡ true).
    let same : cpu_number r.event.cpu ≡ p = eqb-true (cpu_number r.event.cpu) p own in
    let mine : Banked (image_bytes image) (cpu_number r.event.cpu) h (w.actors (cpu_number r.event.cpu)).kept = subst (λ n. Banked (image_bytes image) n h (w.actors n).kept) (sym same) was in
    let gone : Banked (image_bytes image) (cpu_number r.event.cpu) (r ∷ h) (advanced (w.actors (cpu_number r.event.cpu)) r.event.act (reply_at image w r.event)).kept =
    own_step image cpus budget r h inside (shown image cpus w r.event r.outcome played) fit before after mine in
    subst (λ (a : Actor). Banked (image_bytes image) p (r ∷ h) a.kept) (sym (actor_own image w r.event p own))
    (subst (λ n. Banked (image_bytes image) n (r ∷ h) (advanced (w.actors n) r.event.act (reply_at image w r.event)).kept) same gone))
    (λ (other : is_of p r ≡ false).
    subst (λ (a : Actor). Banked (image_bytes image) p (r ∷ h) a.kept) (sym (actor_other image w r.event p other)) (other_step (image_bytes image) p r h (w.actors p).kept other fit was))
    (cases_Bool (is_of p r))

-- the banks as other parts are told of them
memory_shown : (image : ℕ → ℕ) (h : List Record) (l turn : ℕ) (holds : Bool) (o : Option (ℕ × LineData)) → Shows image h l o holds turn → HasMemory image h l o turn
memory_shown image h l turn holds None shows = tt
memory_shown image h l turn holds (Some c) shows = shows.1

same_lines : (image : ℕ → ℕ) (h : List Record) (holds : ℕ → Bool) (turn : ℕ → ℕ) (cs : List LineCopy) (ks : List ℕ) → ListsExactly holds ks → CopiesShow image h holds turn cs → map line_of cs ≡ ks
same_lines image h holds turn cs ks listed shows =
    same_ascending (map line_of cs) ks (ascending_lines cs shows.whole.up) listed.ascending (λ l. among_lines l cs ∙ is_held_by image h holds turn cs l shows ∙ sym (listed.members l))

pub banks_agree : (image : ℕ → ℕ) (p : ℕ) (h : List Record) (u : LocalMemory) → Banked image p h u → BanksAgree image p h u
banks_agree image p h u shows = record {
  lines = λ l. held_in image h p h u (data_bank l) l (bank_own l) shows;
  code_lines_held = λ l. is_held_by image h (λ l. code_held p l h) (λ l. code_stamp p l h) u.code l shows.code;
  line_memory = λ l. memory_shown image h l (stamp p l h) (held p l h) (get_of l (data_copies l u)) (shown_in image h p h u (data_bank l) l (bank_own l) shows);
  code_memory = λ l. memory_shown image h l (code_stamp p l h) (code_held p l h) (get_of l u.code) (shows.code.each l);
  even_lines = same_lines image h (λ l. in_bank Even l && held p l h) (λ l. stamp p l h) u.even (copies p Even h) (copies_exactly p Even h) shows.even;
  odd_lines = same_lines image h (λ l. in_bank Odd l && held p l h) (λ l. stamp p l h) u.odd (copies p Odd h) (copies_exactly p Odd h) shows.odd;
  code_lines = same_lines image h (λ l. code_held p l h) (λ l. code_stamp p l h) u.code (code_copies p h) (code_copies_exactly p h) shows.code;
  barrier = shows.fenced;
}
