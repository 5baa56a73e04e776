-- A processor stays at its seat, step by step.
use Rattle.std.proofs.Math.Nat.{min-eq_left, min-le_right}
use Rattle.std.proofs.Common.{min, ◌≡◌, ℕ, zero, suc, Bool, false, ◌+◌, ◌%◌, ◌≤◌, ◌&&◌, ◌||◌, leb, List, [], ◌∷◌, ◌++◌, true, Option, Some, None, rules, refl, sym, ap, ◌∙◌, subst}
use Rattle.std.specs.Prelude.{nat_lt, is_none, is_some, replicate, slice_index}
use Rattle.axp_access.specs.declared.Wanted.{Wanted}
use Rattle.axp_base.specs.Lists.{is_empty}
use Rattle.axp_base.specs.declared.processors.TheConstants.{MAX_CPUS}
use Rattle.axp_image.specs.Contents.{Contents, IsValid}
use Rattle.axp_image.specs.declared.limits.TheConstants.{INSTRUCTION_BYTES, PAGE_BYTES}
use Rattle.axp_regs.specs.States.{ps_of, locked_of, with_fetched}
use Rattle.axp_regs.specs.declared.states.TheConstants.{ENTRIES}
use Rattle.axp_cpu.specs.declared.phases.Stage.{Stage}
use Rattle.axp_cpu.specs.declared.sequencers.Sequencer.{Sequencer}
use Rattle.axp_cpu.specs.declared.cpu_states.CpuState.{CpuState}
use Rattle.axp_cpu.specs.Phases.{Fits, after}
use Rattle.axp_cpu.specs.Plans.{Plan, End, Want, given, along, table_in}
use Rattle.axp_cpu.specs.Rows.{arrived, group}
use Rattle.axp_cpu.specs.Seats.{Seat, intent_of, is_at_boundary, is_finished, next_wanted, wanted, wanted_by, first_seat, first_table, seat_after_none, seat_at_plan, seat_interrupted, plan_now, seat_after_value}
use Rattle.axp_trap.specs.declared.causes.Cause.TheVariants.{Int}
use Rattle.axp_cpu.specs.CpuStates.{raising}
use Rattle.axp_cpu.specs.Soundness.{IsSettled, IsSound}
use Rattle.axp_cpu.specs.Stands.{HasSameRegisters, IsAtBoundary, IsAtEnd, IsMakeable, IsWanting, Stands, plan_left}
use Rattle.axp_cpu.proofs.PlanLemmas.{arrived_settled, group_sound, along_sound}
use Rattle.axp_cpu.proofs.TableLemmas.{group_begins, registers_stay}

never_empty : (vs : List ℕ) (v : ℕ) → is_empty (vs ++ v ∷ []) ≡ false
never_empty [] v = refl
never_empty (x ∷ vs) v = refl

pub along-more : (vs : List ℕ) (v : ℕ) (p : Plan) → along (vs ++ v ∷ []) p ≡ given v (along vs p)
along-more [] v p = refl
along-more (x ∷ vs) v p = along-more vs v (given x p)

-- what a seat's group still has to do is sound
pub seat_sound : (p : Sequencer) (s : Seat) → Stands p s → IsSound s.size s.cpus (plan_now s)
seat_sound p s stands = along_sound s.size s.cpus s.values (group s.size s.cpus s.start) (group_sound s.size s.cpus s.start stands.pages stands.settled)

-- what follows the value that the wanted access gave
comes_to : (p : Sequencer) (s : Seat) (w : Wanted) (stage : Stage) (v : ℕ) → Stands p s → Want p.table w (after p.size p.cpus p.table stage) ≡ plan_left p → after p.size p.cpus p.table stage v ≡ along (s.values ++ v ∷ []) (group s.size s.cpus s.start)
comes_to p s w stage v stands left = ap (given v) (left ∙ stands.plan) ∙ sym (along-more s.values v (group s.size s.cpus s.start))

-- a processor goes on to a phase as its seat does with the value: it wants another access,
pub goes_on : (p : Sequencer) (s : Seat) (w w' : Wanted) (stage stage' : Stage) (v : ℕ) (t : CpuState) → Stands p s → Want p.table w (after p.size p.cpus p.table stage) ≡ plan_left p → Want t w' (after p.size p.cpus t stage') ≡ after p.size p.cpus p.table stage v → Fits p.cpus t w' stage'
    → Stands (record { size = p.size; cpus = p.cpus; budget = p.budget; table = t; making = Some (w', stage'); steps = p.steps + 1 }) (seat_after_value s v)
goes_on p s w w' stage stage' v t stands left plan fits =
    let vs = s.values ++ v ∷ [] in
    let comes : Want t w' (after p.size p.cpus t stage') ≡ along vs (group s.size s.cpus s.start) = plan ∙ comes_to p s w stage v stands left in
    let there : seat_after_value s v ≡ record { size = s.size; cpus = s.cpus; budget = s.budget; start = s.start; values = vs; steps = s.steps + 1 } = ap (seat_at_plan s vs) (sym comes) in
    subst (λ (x : Seat). Stands (record { size = p.size; cpus = p.cpus; budget = p.budget; table = t; making = Some (w', stage'); steps = p.steps + 1 }) x) (sym there) (record {
      size = stands.size;
      cpus = stands.cpus;
      budget = stands.budget;
      table = ap (table_in s.start) comes;
      plan = comes;
      fits = fits;
      boundary = sym (never_empty s.values v);
      steps = ap (λ n. n + 1) stands.steps;
      pages = stands.pages;
      most = stands.most;
      settled = stands.settled;
      few = stands.few;
    })

-- or ends its group, and goes on by itself,
goes_to_end_at : (p : Sequencer) (s : Seat) (values : List ℕ) (u v : CpuState) → Stands p s → IsSettled v.state → v ≡ arrived s.size u
    → Stands (record { size = p.size; cpus = p.cpus; budget = p.budget; table = v; making = None; steps = p.steps + 1 }) (seat_at_plan s values (End u))
goes_to_end_at p s values u v stands settled is = record {
  size = stands.size;
  cpus = stands.cpus;
  budget = stands.budget;
  table = is ∙ sym (group_begins s.size s.cpus (arrived s.size u));
  plan = ap (λ n. group n p.cpus v) stands.size ∙ ap (λ n. group s.size n v) stands.cpus ∙ ap (group s.size s.cpus) is;
  fits = tt;
  boundary = refl;
  steps = ap (λ n. n + 1) stands.steps;
  pages = stands.pages;
  most = stands.most;
  settled = subst (λ (t : CpuState). IsSettled t.state) is settled;
  few = stands.few;
}

arrives : (p : Sequencer) (s : Seat) (u v : CpuState) → Stands p s → IsSettled u.state → v ≡ arrived p.size u → (v ≡ arrived s.size u) × IsSettled v.state
arrives p s u v stands settled is =
    let same : v ≡ arrived s.size u = is ∙ ap (λ n. arrived n u) stands.size in
    (same, subst (λ (t : CpuState). IsSettled t.state) (sym same) (arrived_settled s.size u stands.pages settled))

pub goes_to_end : (p : Sequencer) (s : Seat) (w : Wanted) (stage : Stage) (v : ℕ) (u y : CpuState) → Stands p s → Want p.table w (after p.size p.cpus p.table stage) ≡ plan_left p → End u ≡ after p.size p.cpus p.table stage v → y ≡ arrived p.size u
    → Stands (record { size = p.size; cpus = p.cpus; budget = p.budget; table = y; making = None; steps = p.steps + 1 }) (seat_after_value s v)
goes_to_end p s w stage v u y stands left plan is =
    let vs = s.values ++ v ∷ [] in
    let comes : End u ≡ along vs (group s.size s.cpus s.start) = plan ∙ comes_to p s w stage v stands left in
    let sound : IsSound s.size s.cpus (End u) = subst (IsSound s.size s.cpus) (sym comes) (along_sound s.size s.cpus vs (group s.size s.cpus s.start) (group_sound s.size s.cpus s.start stands.pages stands.settled)) in
    let there = arrives p s u y stands sound is in
    subst (Stands (record { size = p.size; cpus = p.cpus; budget = p.budget; table = y; making = None; steps = p.steps + 1 })) (ap (seat_at_plan s vs) comes) (goes_to_end_at p s vs u y stands there.1 there.0)

-- also with no access
pub passes : (p : Sequencer) (s : Seat) (u y : CpuState) → Stands p s → End u ≡ plan_left p → y ≡ arrived p.size u
    → Stands (record { size = p.size; cpus = p.cpus; budget = p.budget; table = y; making = None; steps = p.steps + 1 }) (seat_after_none s)
passes p s u y stands left is =
    let comes : End u ≡ plan_now s = left ∙ stands.plan in
    let sound : IsSound s.size s.cpus (End u) = subst (IsSound s.size s.cpus) (sym comes) (seat_sound p s stands) in
    let there = arrives p s u y stands sound is in
    subst (Stands (record { size = p.size; cpus = p.cpus; budget = p.budget; table = y; making = None; steps = p.steps + 1 })) (ap (seat_at_plan s s.values) comes) (goes_to_end_at p s s.values u y stands there.1 there.0)

-- the registers of the processor are its seat's, but for the count of fetched instructions
pub has_registers : (p : Sequencer) (s : Seat) → Stands p s → HasSameRegisters s.start p.table
has_registers p s stands = let same = registers_stay s in record { state = ap (λ (t : CpuState). with_fetched t.state 0) stands.table ∙ same.state; halted = ap (λ (t : CpuState). t.halted) stands.table ∙ same.halted; pending = ap (λ (t : CpuState). t.pending) stands.table ∙ same.pending }

-- an interrupt at a boundary begins its entry
no_values : (s : Seat) → is_at_boundary s ≡ true → s.values ≡ []
no_values s is = by s.values is where
  by : (vs : List ℕ) → (is_empty vs && is_none s.start.pending) ≡ true → vs ≡ []
  by [] is = refl
  by (v ∷ vs) is = cc

begins_group : (p : Sequencer) (s : Seat) → Stands p s → is_at_boundary s ≡ true → p.table ≡ s.start
begins_group p s stands is = stands.table ∙ ap (λ vs. table_in s.start (along vs (group s.size s.cpus s.start))) (no_values s is) ∙ group_begins s.size s.cpus s.start

makes_nothing : (o : Option (Wanted × Stage)) → is_none o ≡ true → o ≡ None
makes_nothing None is = refl
makes_nothing (Some x) is = cc

pub interrupted_settled : (code : ℕ) (s : Seat) → s.size % PAGE_BYTES ≡ 0 → IsSettled s.start.state → IsSettled (seat_interrupted code s).start.state
interrupted_settled code s pages settled = arrived_settled s.size (raising (Int code) s.start) pages settled

-- whichever seat the processor stands at
pub boundary_at : (p : Sequencer) (s : Seat) → Stands p s → IsAtBoundary p → is_at_boundary s ≡ true
boundary_at p s stands at = sym (boundary_of p s stands) ∙ boundary_of p at.seat at.stands ∙ at.boundary where
  boundary_of : (p : Sequencer) (s : Seat) → Stands p s → (is_none p.making && is_none p.table.pending) ≡ is_at_boundary s
  boundary_of p s stands = ap (λ b. b && is_none p.table.pending) stands.boundary ∙ ap (λ o. is_empty s.values && is_none o) (has_registers p s stands).pending

pub interrupted : (p : Sequencer) (s : Seat) (code : ℕ) (t : CpuState) → Stands p s → is_at_boundary s ≡ true → t ≡ arrived p.size (raising (Int code) p.table)
    → Stands (record { size = p.size; cpus = p.cpus; budget = p.budget; table = t; making = p.making; steps = p.steps }) (seat_interrupted code s)
interrupted p s code t stands is comes =
    let there : t ≡ arrived s.size (raising (Int code) s.start) = comes ∙ ap (λ n. arrived n (raising (Int code) p.table)) stands.size ∙ ap (λ u. arrived s.size (raising (Int code) u)) (begins_group p s stands is) in
    let nothing : p.making ≡ None = makes_nothing p.making (stands.boundary ∙ ap is_empty (no_values s is)) in
    subst (λ o. Stands (record { size = p.size; cpus = p.cpus; budget = p.budget; table = t; making = o; steps = p.steps }) (seat_interrupted code s)) (sym nothing) (record {
      size = stands.size;
      cpus = stands.cpus;
      budget = stands.budget;
      table = there ∙ sym (group_begins s.size s.cpus (arrived s.size (raising (Int code) s.start)));
      plan = ap (λ n. group n p.cpus t) stands.size ∙ ap (λ n. group s.size n t) stands.cpus ∙ ap (group s.size s.cpus) there;
      fits = tt;
      boundary = refl;
      steps = stands.steps;
      pages = stands.pages;
      most = stands.most;
      settled = interrupted_settled code s stands.pages stands.settled;
      few = stands.few;
    })

-- what a processor wants is what its plan wants
wanted_of : (s : Seat) → is_finished s ≡ false → wanted s ≡ wanted_by (plan_now s)
wanted_of s going = rw going refl

pub never_ends : (p : Sequencer) (u : CpuState) → IsWanting p → End u ≡ plan_left p → ⊥
never_ends p u is left =
    let none : None ≡ Some is.access = ap wanted_by (left ∙ is.stands.plan) ∙ sym (wanted_of is.seat is.unfinished) ∙ is.wants in cc

pub never_wants : (p : Sequencer) (w : Wanted) (k : ℕ → Plan) → IsAtEnd p → Want p.table w k ≡ plan_left p → ⊥
never_wants p w k is left =
    let some : Some w ≡ None = ap wanted_by (left ∙ is.stands.plan) ∙ sym (wanted_of is.seat is.unfinished) ∙ is.wants in cc

pub state_is : (p : Sequencer) (s : Seat) → Stands p s → with_fetched p.table.state 0 ≡ with_fetched s.start.state 0
state_is p s stands = (has_registers p s stands).state

pub halted_is : (p : Sequencer) (s : Seat) → Stands p s → p.table.halted ≡ s.start.halted
halted_is p s stands = (has_registers p s stands).halted

-- a halted processor would make no access, and any other the one that its plan wants
pub no_next : (p : Sequencer) (s : Seat) → Stands p s → is_some p.table.halted ≡ true → None ≡ next_wanted s
no_next p s stands is = rw (ap is_some (sym (halted_is p s stands)) ∙ is) refl

pub next_is : (p : Sequencer) (s : Seat) (w : Wanted) (k : ℕ → Plan) → Stands p s → is_some p.table.halted ≡ false → Want p.table w k ≡ plan_left p → Some w ≡ next_wanted s
next_is p s w k stands is left = rw (ap is_some (sym (halted_is p s stands)) ∙ is) (ap wanted_by (left ∙ stands.plan))

pub finished_is : (p : Sequencer) (s : Seat) → Stands p s → is_some p.table.halted || leb p.budget p.steps ≡ is_finished s
finished_is p s stands = rw (halted_is p s stands, stands.budget, stands.steps) refl

-- the parts of a processor's state that its seat has
pub intent_is : (p : Sequencer) (s : Seat) (finished boundary low armed : Bool) (o : Option Wanted) → Stands p s → finished ≡ is_finished s → boundary ≡ (is_none p.making && is_none p.table.pending) → low ≡ nat_lt (ps_of p.table.state % 8) 5 → armed ≡ locked_of p.table.state → o ≡ wanted s
    → record { finished = finished; boundary = boundary; takes_interrupts = low; lock_flag = armed; wanted = o } ≡ intent_of s
intent_is p s finished boundary low armed o stands is_f is_b is_l is_a is_w =
    let same = has_registers p s stands in
    let ps : ps_of p.table.state ≡ ps_of s.start.state = ap ps_of same.state in
    let flag : locked_of p.table.state ≡ locked_of s.start.state = ap locked_of same.state in
    rw (is_f, is_b ∙ ap (λ b. b && is_none p.table.pending) stands.boundary ∙ ap (λ o. is_empty s.values && is_none o) same.pending, is_l ∙ ap (λ n. nat_lt (n % 8) 5) ps, is_a ∙ flag, is_w) refl

-- a wanted access can be made
pub makeable : (p : Sequencer) (s : Seat) (w : Wanted) (stage : Stage) → Stands p s → Want p.table w (after p.size p.cpus p.table stage) ≡ plan_left p → Fits p.cpus p.table w stage → IsMakeable s.size s.cpus w
makeable p s w stage stands left fits =
    let sound : IsSound s.size s.cpus (Want p.table w (after p.size p.cpus p.table stage)) = subst (IsSound s.size s.cpus) (sym (left ∙ stands.plan)) (seat_sound p s stands) in
    record { inside = sound.0; small = fits.value }

-- the state at the start
pub first_settled : (image : Contents) (n : ℕ) → IsValid image → IsSettled (first_table image n).state
first_settled image n valid = record { pc = search rules; entries = λ m. no_entry ENTRIES m; block = refl } where
  no_entry : (k m : ℕ) → slice_index (replicate k 0) m % INSTRUCTION_BYTES ≡ 0
  no_entry zero m = refl
  no_entry (suc k) zero = refl
  no_entry (suc k) (suc m) = no_entry k m

-- a processor at the start
pub first_stands : (image : Contents) (cpus budget n size : ℕ) (t : CpuState) → size ≡ image.size → t ≡ first_table image n → IsValid image → cpus ≤ MAX_CPUS
    → Stands (record { size = size; cpus = cpus; budget = budget; table = t; making = None; steps = 0 }) (first_seat image cpus budget n)
first_stands image cpus budget n size t is first valid few = record {
  size = is;
  cpus = sym (min-eq_left few);
  budget = refl;
  table = first ∙ sym (group_begins image.size (min cpus MAX_CPUS) (first_table image n));
  plan = ap (λ m. group m cpus t) is ∙ ap (λ m. group image.size m t) (sym (min-eq_left few)) ∙ ap (group image.size (min cpus MAX_CPUS)) first;
  fits = tt;
  boundary = refl;
  steps = refl;
  pages = valid.whole_pages;
  most = valid.most_size;
  settled = first_settled image n valid;
  few = min-le_right cpus MAX_CPUS;
}
