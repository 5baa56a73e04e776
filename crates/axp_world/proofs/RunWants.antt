-- What processors want along a history lies in lines, and names processors.
use Rattle.std.proofs.Common.{true, false, ℕ, ◌%◌, ◌^◌, ◌<◌, ◌≤◌, ◌≡◌, ⊎_elim, eqb, cond, Bool, List, [], ◌∷◌, ◌++◌, Option, Some, None, refl, sym, subst, arith}
use Rattle.std.proofs.Math.Nat.{min-le_right}
use Rattle.std.proofs.lemmas.Bool.{cases_Bool, cond_both}
use Rattle.axp_base.specs.Cpus.{cpu_number, cpu_of}
use Rattle.axp_base.proofs.MaskLemmas.{ends_in_quadword, ends_inside}
use Rattle.axp_access.specs.declared.Act.{Act}
use Rattle.axp_access.specs.declared.Act.TheVariants as act
use Rattle.axp_access.specs.declared.Record.{Record}
use Rattle.axp_access.specs.declared.Wanted.{Wanted}
use Rattle.axp_cpu.specs.Actors.{Actor, actor_intent, advanced, moved_by, seat_after}
use Rattle.axp_access.specs.declared.Outcome.{Outcome}
use Rattle.axp_access.specs.declared.Outcome.TheVariants as outcome
use Rattle.axp_cpu.specs.Following as following
use Rattle.axp_cpu.specs.Following.{processors, seat_after_poll, seat_after_step, seat_entered, seat_in, value_shown}
use Rattle.axp_model.specs.Records.{is_of}
use Rattle.axp_world.proofs.Agreement.{world_intent}
use Rattle.axp_cpu.specs.Plans.{Plan, End, Want, along}
use Rattle.axp_cpu.specs.Rows.{group}
use Rattle.axp_cpu.specs.Seats.{Seat, first_seat, is_finished, seat_at_plan, seat_interrupted, plan_now, wanted, wanted_by}
use Rattle.axp_cpu.specs.Soundness.{IsSettled, IsSound, IsSoundAs}
use Rattle.axp_cpu.proofs.PlanLemmas.{along_sound, arrived_settled, group_sound}
use Rattle.axp_cpu.proofs.SeatLemmas.{first_settled, interrupted_settled}
use Rattle.axp_image.specs.Contents.{Contents, IsValid}
use Rattle.axp_base.specs.declared.processors.TheConstants.{MAX_CPUS}
use Rattle.axp_image.specs.declared.limits.TheConstants.{MAX_MEMORY, PAGE_BYTES}
use Rattle.axp_line.specs.declared.messages.Reply.{Reply}
use Rattle.axp_lsu.specs.Going.{is_entered, value_of}
use Rattle.axp_lsu.specs.Within.{IsInMemory}
use Rattle.axp_model.specs.Processors.{AreInLine, IsInLine, WantsInLine}
use Rattle.axp_access.specs.Kinds.{is_poll}
use Rattle.axp_regs.specs.declared.asks.Kind.{Kind}
use Rattle.axp_regs.specs.declared.asks.Kind.TheVariants as kind
use Rattle.axp_world.specs.Worlds.{World, cpu_or_first, reply_at, world}
use Rattle.axp_world.proofs.PlayedRecords.{actor_other, actor_own}
use Rattle.axp_world.proofs.RunOutcomes.{WantsTarget}

-- a processor's memory is of whole pages, and its state is settled
record IsSeated (s : Seat) : Type 0 where
  pages : s.size % PAGE_BYTES ≡ 0
  most : s.size ≤ MAX_MEMORY
  few : s.cpus ≤ MAX_CPUS
  settled : IsSettled s.start.state

first_seated : (image : Contents) (cpus budget n : ℕ) → IsValid image → IsSeated (first_seat image cpus budget n)
first_seated image cpus budget n valid = record { pages = valid.whole_pages; most = valid.most_size; few = min-le_right cpus MAX_CPUS; settled = first_settled image n valid }

moved_seated : (s : Seat) (values : List ℕ) (p : Plan) → IsSeated s → IsSound s.size s.cpus p → IsSeated (seat_at_plan s values p)
moved_seated s values (End t) seated sound = record { pages = seated.pages; most = seated.most; few = seated.few; settled = arrived_settled s.size t seated.pages sound }
moved_seated s values (Want t w k) seated sound = record { pages = seated.pages; most = seated.most; few = seated.few; settled = seated.settled }

-- after a step that gave its group these values
values_seated : (s : Seat) (values : List ℕ) → IsSeated s → IsSeated (seat_at_plan s values (along values (group s.size s.cpus s.start)))
values_seated s values seated = moved_seated s values (along values (group s.size s.cpus s.start)) seated (along_sound s.size s.cpus values (group s.size s.cpus s.start) (group_sound s.size s.cpus s.start seated.pages seated.settled))

wanted_seated : (o : Option Wanted) (r : Option Reply) (a : Actor) → IsSeated a.seat → IsSeated (moved_by o r a)
wanted_seated None r a seated = values_seated a.seat a.seat.values seated
wanted_seated (Some w) r a seated = values_seated a.seat (a.seat.values ++ value_of w a.kept r ∷ []) seated

-- after an interrupt
interrupted_seated : (code : ℕ) (s : Seat) → IsSeated s → IsSeated (seat_interrupted code s)
interrupted_seated code s seated = record { pages = seated.pages; most = seated.most; few = seated.few; settled = interrupted_settled code s seated.pages seated.settled }

entered_seated : (entered : Bool) (s : Seat) → IsSeated s → IsSeated (seat_entered entered s)
entered_seated true s seated = interrupted_seated _ s seated
entered_seated false s seated = seated

act_seated : (e : Act) (r : Option Reply) (a : Actor) → IsSeated a.seat → IsSeated (seat_after e r a)
act_seated act.Step r a seated = wanted_seated (actor_intent a).wanted r a seated
act_seated act.Fill r a seated = seated
act_seated (act.Drain k) r a seated = seated
act_seated (act.Take b) r a seated = seated
act_seated (act.Drop b line) r a seated = seated
act_seated act.Poll r a seated = entered_seated (is_entered (actor_intent a).takes_interrupts r) a.seat seated
act_seated act.Tick r a seated = interrupted_seated _ a.seat seated

advanced_seated : (a : Actor) (e : Act) (r : Option Reply) → IsSeated a.seat → IsSeated (advanced a e r).seat
unfolding advanced
advanced_seated a e r seated = act_seated e r a seated

seated : (image : Contents) (cpus budget : ℕ) → IsValid image → (h : List Record) (p : ℕ) → IsSeated ((world image cpus budget h).actors p).seat
seated image cpus budget valid [] p = first_seated image cpus budget (cpu_number (cpu_or_first (cpu_of p))) valid
seated image cpus budget valid (r ∷ h) p =
    let w : World = world image cpus budget h in
    ⊎_elim
    (λ (own : eqb (cpu_number r.event.cpu) p ≡ true). subst (λ (a : Actor). IsSeated a.seat) (sym (actor_own image w r.event p own)) (advanced_seated (w.actors p) r.event.act (reply_at image w r.event) (seated image cpus budget valid h p)))
    (λ (other : eqb (cpu_number r.event.cpu) p ≡ false). subst (λ (a : Actor). IsSeated a.seat) (sym (actor_other image w r.event p other)) (seated image cpus budget valid h p))
    (cases_Bool (eqb (cpu_number r.event.cpu) p))

-- a wanted access lies in one line
memory_in_line : (size : ℕ) (w : Wanted) → size ≤ MAX_MEMORY → IsInMemory size w → IsInLine w.address w.size
memory_in_line size w most inside =
    let within = inside.within in
    record { quadword = ends_in_quadword w.address w.size inside.sized inside.aligned; within = ends_inside w.address w.size inside.sized inside.aligned; addressed = omega (arith, most, within) }

bare_in_line : (a s : ℕ) → a ≡ 0 → s ≡ 0 → IsInLine a s
bare_in_line a s address size = record { quadword = omega (arith, address, size); within = omega (arith, address, size); addressed = omega (arith, address) }

kind_in_line : (k : Kind) (size cpus : ℕ) (w : Wanted) → size ≤ MAX_MEMORY → IsSoundAs size cpus k w → IsInLine w.address w.size
kind_in_line kind.Fetch size cpus w most sound = memory_in_line size w most sound.inside
kind_in_line kind.Read size cpus w most sound = memory_in_line size w most sound
kind_in_line kind.Write size cpus w most sound = memory_in_line size w most sound
kind_in_line kind.Locked size cpus w most sound = memory_in_line size w most sound
kind_in_line kind.Conditional size cpus w most sound = memory_in_line size w most sound.within
kind_in_line kind.Barrier size cpus w most sound = bare_in_line w.address w.size sound.bare.address sound.bare.size
kind_in_line kind.WriteBarrier size cpus w most sound = bare_in_line w.address w.size sound.bare.address sound.bare.size
kind_in_line kind.CodeBarrier size cpus w most sound = bare_in_line w.address w.size sound.bare.address sound.bare.size
kind_in_line kind.Signal size cpus w most sound = bare_in_line w.address w.size sound.bare.address sound.bare.size
kind_in_line kind.Console size cpus w most sound = bare_in_line w.address w.size sound.bare.address sound.bare.size
kind_in_line kind.Poll size cpus w most sound = absurd sound

-- and a signal names a processor
kind_target : (k : Kind) (size cpus : ℕ) (w : Wanted) → cpus ≤ MAX_CPUS → w.kind ≡ k → IsSoundAs size cpus k w → WantsTarget (Some w)
kind_target kind.Signal size cpus w few is sound = let below : w.value < MAX_CPUS = omega (arith, sound.value, few) in rw is below
kind_target kind.Fetch size cpus w few is sound = rw is tt
kind_target kind.Read size cpus w few is sound = rw is tt
kind_target kind.Write size cpus w few is sound = rw is tt
kind_target kind.Locked size cpus w few is sound = rw is tt
kind_target kind.Conditional size cpus w few is sound = rw is tt
kind_target kind.Barrier size cpus w few is sound = rw is tt
kind_target kind.WriteBarrier size cpus w few is sound = rw is tt
kind_target kind.CodeBarrier size cpus w few is sound = rw is tt
kind_target kind.Console size cpus w few is sound = rw is tt
kind_target kind.Poll size cpus w few is sound = rw is tt

-- and none is a Poll
abbrev pub wants_poll : Option Wanted → Bool
wants_poll None = false
wants_poll (Some w) = is_poll w.kind

kind_no_poll : (k : Kind) (size cpus : ℕ) (w : Wanted) → IsSoundAs size cpus k w → is_poll k ≡ false
kind_no_poll kind.Poll size cpus w sound = absurd sound
kind_no_poll _ size cpus w sound = refl

-- and what goes to the console is a byte
abbrev pub IsByteFor : Kind → ℕ → Type 0
IsByteFor kind.Console value = value < 2 ^ 8
IsByteFor _ value = Unit {0}

abbrev pub WantsByte : Option Wanted → Type 0
WantsByte None = Unit {0}
WantsByte (Some w) = IsByteFor w.kind w.value

kind_byte : (k : Kind) (size cpus : ℕ) (w : Wanted) → IsSoundAs size cpus k w → IsByteFor k w.value
kind_byte kind.Console size cpus w sound = sound.value
kind_byte _ size cpus w sound = tt

-- all of this of what is wanted, if anything
abbrev WantsWell : Option Wanted → Type 0
WantsWell o = WantsInLine o × WantsTarget o × (wants_poll o ≡ false) × WantsByte o

plan_wants : (size cpus : ℕ) (p : Plan) → size ≤ MAX_MEMORY → cpus ≤ MAX_CPUS → IsSound size cpus p → WantsWell (wanted_by p)
plan_wants size cpus (End t) most few sound = (tt, tt, refl, tt)
plan_wants size cpus (Want t w k) most few sound = (kind_in_line w.kind size cpus w most sound.0, kind_target w.kind size cpus w few refl sound.0, kind_no_poll w.kind size cpus w sound.0, kind_byte w.kind size cpus w sound.0)

seat_wants : (s : Seat) → IsSeated s → WantsWell (wanted s)
seat_wants s seated = by_finished (is_finished s) (wanted_by (plan_now s)) (plan_wants s.size s.cpus (plan_now s) seated.most seated.few (along_sound s.size s.cpus s.values (group s.size s.cpus s.start) (group_sound s.size s.cpus s.start seated.pages seated.settled))) where
  by_finished : (b : Bool) (o : Option Wanted) → WantsWell o → WantsWell (cond b None o)
  by_finished true o wants = (tt, tt, refl, tt)
  by_finished false o wants = wants

pub intents_in_line : (image : Contents) (cpus budget : ℕ) → IsValid image → (p : ℕ) (h : List Record) → WantsInLine (world_intent image cpus budget p h).wanted
intents_in_line image cpus budget valid p h = (seat_wants ((world image cpus budget h).actors p).seat (seated image cpus budget valid h p)).0

pub intents_name_targets : (image : Contents) (cpus budget : ℕ) → IsValid image → (p : ℕ) (h : List Record) → WantsTarget (world_intent image cpus budget p h).wanted
intents_name_targets image cpus budget valid p h = (seat_wants ((world image cpus budget h).actors p).seat (seated image cpus budget valid h p)).1

pub intents_want_no_poll : (image : Contents) (cpus budget : ℕ) → IsValid image → (p : ℕ) (h : List Record) → wants_poll (world_intent image cpus budget p h).wanted ≡ false
intents_want_no_poll image cpus budget valid p h = (seat_wants ((world image cpus budget h).actors p).seat (seated image cpus budget valid h p)).2

pub intents_print_bytes : (image : Contents) (cpus budget : ℕ) → IsValid image → (p : ℕ) (h : List Record) → WantsByte (world_intent image cpus budget p h).wanted
intents_print_bytes image cpus budget valid p h = (seat_wants ((world image cpus budget h).actors p).seat (seated image cpus budget valid h p)).3

-- the same by the records alone
shown_seated : (o : Outcome) (s : Seat) → IsSeated s → IsSeated (seat_after_step o s)
shown_seated (outcome.Access a) s seated = values_seated s (s.values ++ value_shown a ∷ []) seated
shown_seated outcome.NoAccess s seated = values_seated s s.values seated
shown_seated _ s seated = seated

polled_seated : (o : Outcome) (s : Seat) → IsSeated s → IsSeated (seat_after_poll o s)
polled_seated (outcome.Polled pending entered turn) s seated = entered_seated entered s seated
polled_seated _ s seated = seated

record_seated : (e : Act) (o : Outcome) (s : Seat) → IsSeated s → IsSeated (following.seat_after e o s)
record_seated act.Step o s seated = shown_seated o s seated
record_seated act.Poll o s seated = polled_seated o s seated
record_seated act.Tick o s seated = interrupted_seated _ s seated
record_seated _ o s seated = seated

followed_seated : (image : Contents) (cpus budget : ℕ) → IsValid image → (h : List Record) (p : ℕ) → IsSeated (seat_in image cpus budget p h)
followed_seated image cpus budget valid [] p = first_seated image cpus budget p valid
followed_seated image cpus budget valid (r ∷ h) p =
    cond_both (is_of p r) (following.seat_after r.event.act r.outcome (seat_in image cpus budget p h)) (seat_in image cpus budget p h) IsSeated
    (λ own. record_seated r.event.act r.outcome (seat_in image cpus budget p h) (followed_seated image cpus budget valid h p)) (λ other. followed_seated image cpus budget valid h p)

pub in_line : (image : Contents) (cpus budget : ℕ) → IsValid image → AreInLine (processors image cpus budget)
in_line image cpus budget valid p h = (seat_wants (seat_in image cpus budget p h) (followed_seated image cpus budget valid h p)).0
