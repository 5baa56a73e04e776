-- A processor that is about to enter the operating system wants to write a word of its frame.
use Rattle.std.proofs.Common.{◌≡◌, ◌⊎◌, ℕ, zero, suc, ◌-◌, true, is_some, Option, Some, None, length, refl, ap, ◌∙◌, inl, inr}
use Rattle.std.specs.Prelude.{slice_get}
use Rattle.axp_regs.specs.declared.asks.Ask.{Ask}
use Rattle.axp_trap.specs.Frames.{frame_of}
use Rattle.axp_trap.specs.declared.causes.Cause.{Cause}
use Rattle.axp_cpu.specs.declared.cpu_states.CpuState.{CpuState}
use Rattle.axp_cpu.specs.CpuStates.{entered_in}
use Rattle.axp_cpu.specs.Plans.{Plan, End, Want}
use Rattle.axp_cpu.specs.Rows.{arrived, arrived_by, arrived_in, entry_group, group, group_by, saves_plan}
use Rattle.axp_cpu.specs.Seats.{wanted_by}
use Rattle.axp_cpu.specs.Translation.{next_plan_of}
use Rattle.axp_cpu.proofs.ReachLemmas.{ask_carries}

-- where an entry ends it is made, or the processor is halted
abbrev IsMade : Plan → Type 0
IsMade (End t) = t.pending ≡ None
IsMade (Want t w k) = Unit {0}

word_made : (size : ℕ) (t : CpuState) (o : Option Ask) (k : CpuState → ℕ → Plan) (p : Plan) → IsMade p → IsMade (next_plan_of size t o k p)
word_made size t None k p made = made
word_made size t (Some ask) k p made = ask_carries IsMade size t ask k (record {
  halts = refl;
  beyond = refl;
  direct = λ direct below. tt;
  framed = λ framed aligned. record { fault = λ fault. refl; beyond = λ u kept. refl; entry = λ address below whole next made. tt; access = λ u kept address below alike. tt };
})

saves_made : (size : ℕ) (cause : Cause) (left : ℕ) (t : CpuState) → IsMade (saves_plan size cause left t)
saves_made size cause zero t = refl
saves_made size cause (suc left) t = word_made size t (slice_get (frame_of cause t.state) (length (frame_of cause t.state) - suc left)) (λ u v. saves_plan size cause left u) (End (entered_in cause t)) refl

-- so a processor that comes to an entry wants its first word, or has none to make any more
abbrev pub Arrives : ℕ → ℕ → CpuState → Type 0
Arrives size cpus t = (t.pending ≡ None) ⊎ (is_some (wanted_by (group size cpus t)) ≡ true)

arrives_by : (size cpus : ℕ) (t : CpuState) (cause : Cause) (p : Plan) → t.pending ≡ Some cause → entry_group size t cause ≡ p → IsMade p → Arrives size cpus (arrived_by t p)
unfolding group
arrives_by size cpus t cause (End u) raised is made = inl made
arrives_by size cpus t cause (Want u w k) raised is made = inr (ap (λ o. is_some (wanted_by (group_by size cpus t o))) raised ∙ ap (λ p. is_some (wanted_by p)) is)

arrives_in : (size cpus : ℕ) (t : CpuState) (o : Option Cause) → t.pending ≡ o → Arrives size cpus (arrived_in size t o)
arrives_in size cpus t None is = inl is
arrives_in size cpus t (Some cause) is = arrives_by size cpus t cause (entry_group size t cause) is refl (saves_made size cause (length (frame_of cause t.state)) t)

pub arrives : (size cpus : ℕ) (t : CpuState) → Arrives size cpus (arrived size t)
unfolding arrived
arrives size cpus t = arrives_in size cpus t t.pending refl
