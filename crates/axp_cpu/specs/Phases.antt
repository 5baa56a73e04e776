-- What a phase of the code still has to do, as a plan.
use Rattle.std.specs.Prelude.{◌≡◌, ℕ, ◌+◌, ◌*◌, ◌<◌, ◌≤◌, ◌^◌, ◌∷◌, ◌++◌, [], length, None, Result, Ok, Err, false, true}
use Rattle.axp_access.specs.declared.Wanted.{Wanted}
use Rattle.axp_pte.specs.declared.faults.MmFault.{MmFault}
use Rattle.axp_regs.specs.declared.asks.Ask.{Ask}
use Rattle.axp_regs.specs.declared.asks.Kind.{Kind}
use Rattle.axp_regs.specs.declared.asks.Kind.TheVariants.{Signal, Console}
use Rattle.axp_regs.specs.declared.states.State.{State}
use Rattle.axp_regs.specs.declared.states.TheConstants.{REGISTERS}
use Rattle.axp_decode.specs.declared.names.PalOp.{PalOp}
use Rattle.axp_pal.specs.Calls.{IsAnswered, asks_of, end_of}
use Rattle.axp_pal.specs.declared.plans.PalEnd.TheVariants.{Ends}
use Rattle.axp_pal.specs.declared.plans.TheConstants.{MOST_ASKS}
use Rattle.axp_cpu.specs.declared.cpu_states.CpuState.{CpuState}
use Rattle.axp_cpu.specs.declared.endings.Ending.{Ending}
use Rattle.axp_cpu.specs.declared.endings.Ending.TheVariants as ending
use Rattle.axp_cpu.specs.declared.phases.Continuation.{Continuation}
use Rattle.axp_cpu.specs.declared.phases.Continuation.TheVariants as next
use Rattle.axp_cpu.specs.declared.phases.Phase.{Phase}
use Rattle.axp_cpu.specs.declared.phases.Phase.TheVariants as phase
use Rattle.axp_cpu.specs.declared.phases.Stage.{Stage}
use Rattle.axp_cpu.specs.declared.phases.Stage.TheVariants as stage
use Rattle.axp_cpu.specs.declared.translation.Level.{Level}
use Rattle.axp_cpu.specs.declared.translation.Level.TheVariants as level
use Rattle.axp_cpu.specs.declared.translation.MappedAsk.{MappedAsk}
use Rattle.axp_cpu.specs.CallValues.{values_of}
use Rattle.axp_cpu.specs.CpuStates.{at_pc, behind, called_in, entered_in, halted_by, next_pc, raising, with_fetch_counted, with_lock_flag, with_value}
use Rattle.axp_cpu.specs.Plans.{Plan, End, Want}
use Rattle.axp_cpu.specs.Rows.{as_longword, as_longword_with, as_made, as_read, as_read_with, calls_plan, cycle_counter, plan_of_word, saves_plan}
use Rattle.axp_cpu.specs.Translation.{entry_kept, first_entry, frame_of, second_entry, third_entry, with_page_kept}

-- the table state that an ending leaves
abbrev pub ended : Ending → CpuState → CpuState
ended ending.Next t = at_pc t (next_pc t)
ended (ending.Goes pc) t = at_pc t pc
ended (ending.Writes n value) t = at_pc (with_value t n value) (next_pc t)
ended (ending.Links n pc) t = at_pc (with_value t n (next_pc t)) pc
ended (ending.Locks n value) t = at_pc (with_value (with_lock_flag t true) n value) (next_pc t)
ended (ending.Unlocks n value) t = at_pc (with_value (with_lock_flag t false) n value) (next_pc t)
ended (ending.Counts n) t = at_pc (with_value t n (cycle_counter t)) (next_pc t)
ended (ending.Raises cause) t = raising cause t
ended (ending.RaisesBehind cause) t = raising cause (behind t)
ended (ending.Overflows n value cause) t = raising cause (behind (with_value t n value))
ended (ending.Enters cause) t = entered_in cause t
ended (ending.Returns op values) t = called_in op (values_of values) t
ended (ending.Halts code) t = halted_by code t
ended (ending.HaltsBehind code) t = halted_by code (behind t)

-- what follows the access of an instruction or an entry, by the value that it gave
abbrev pub continued : ℕ → ℕ → Continuation → CpuState → ℕ → Plan
continued size cpus next.Instruct t v = plan_of_word size cpus t v
continued size cpus (next.Load a) t v = as_read a t v
continued size cpus (next.LoadLong a) t v = as_longword a t v
continued size cpus (next.LoadLocked a) t v = as_read_with true a t v
continued size cpus (next.LoadLockedLong a) t v = as_longword_with true a t v
continued size cpus (next.StoreConditional a) t v = as_read_with false a t v
continued size cpus next.Finish t v = as_made t v
continued size cpus (next.Save cause left) t v = saves_plan size cause left t
continued size cpus (next.Call op values left) t v = calls_plan size cpus op left (values_of values ++ v ∷ []) t

-- what follows the entry of a level, before the access
abbrev pub walked : ℕ → ℕ → CpuState → MappedAsk → Continuation → Level → ℕ → Plan
walked size cpus t far next level.First = first_entry size t far (continued size cpus next)
walked size cpus t far next level.Second = second_entry size t far (continued size cpus next)
walked size cpus t far next level.Third = third_entry size t far (continued size cpus next)

-- what follows an access of the group, by the value that it gave
abbrev pub after : ℕ → ℕ → CpuState → Stage → ℕ → Plan
after size cpus t (stage.Walks w) v = walked size cpus t w.far w.next w.level v
after size cpus t (stage.Continues next) v = continued size cpus next t v

-- the page's entry is kept, if it allows the access
abbrev pub kept_by : Result ℕ MmFault → MappedAsk → ℕ → CpuState → CpuState
kept_by (Ok frame) far word t = with_page_kept far word t
kept_by (Err fault) far word t = t

abbrev pub kept_at : Level → MappedAsk → ℕ → CpuState → CpuState
kept_at level.Third far word t = kept_by (frame_of t far word) far word t
kept_at _ far word t = t

-- an instruction that was fetched is counted
abbrev pub counted_for : Continuation → CpuState → CpuState
counted_for next.Instruct t = with_fetch_counted t
counted_for _ t = t

-- the table state once the access gave its value
abbrev pub settled : Stage → ℕ → CpuState → CpuState
settled (stage.Walks w) v t = kept_at w.level w.far v t
settled (stage.Continues next) v t = counted_for next t

abbrev pub plan_of : ℕ → ℕ → CpuState → Phase → Plan
plan_of size cpus t (phase.Wants w stage) = Want t w (after size cpus t stage)
plan_of size cpus t (phase.Ends ending) = End (ended ending t)

-- the call ends, and so many of its accesses are made and left
pub record CallFits (cpus : ℕ) (s : State) (op : PalOp) (made left : ℕ) : Type 0 where
  pub ends : end_of op s cpus ≡ Ends
  pub whole : made + left ≡ length (asks_of op s cpus)
  pub few : made + left ≤ MOST_ASKS

-- a register that is written is one of the processor's
abbrev pub ContinuationFits : ℕ → State → Continuation → Type 0
ContinuationFits cpus s next.Instruct = Unit {0}
ContinuationFits cpus s (next.Load a) = a < REGISTERS
ContinuationFits cpus s (next.LoadLong a) = a < REGISTERS
ContinuationFits cpus s (next.LoadLocked a) = a < REGISTERS
ContinuationFits cpus s (next.LoadLockedLong a) = a < REGISTERS
ContinuationFits cpus s (next.StoreConditional a) = a < REGISTERS
ContinuationFits cpus s next.Finish = Unit {0}
ContinuationFits cpus s (next.Save cause left) = Unit {0}
ContinuationFits cpus s (next.Call op values left) = CallFits cpus s op (values.len + 1) left

abbrev pub EndingFits : State → Ending → Type 0
EndingFits s (ending.Writes n value) = n < REGISTERS
EndingFits s (ending.Links n pc) = n < REGISTERS
EndingFits s (ending.Locks n value) = n < REGISTERS
EndingFits s (ending.Unlocks n value) = n < REGISTERS
EndingFits s (ending.Counts n) = n < REGISTERS
EndingFits s (ending.Overflows n value cause) = n < REGISTERS
EndingFits s (ending.Returns op values) = IsAnswered op s (values_of values)
EndingFits s _ = Unit {0}

-- what is stored has the access's size; a signal and a byte of the console have none
abbrev pub FitsKind : Kind → ℕ → ℕ → Type 0
FitsKind Signal size value = Unit {0}
FitsKind Console size value = Unit {0}
FitsKind _ size value = value < 2 ^ (8 * size)

abbrev pub IsSmall : Ask → Type 0
IsSmall ask = FitsKind ask.kind ask.size ask.value

-- a walk is made for a page of which no entry is kept
pub record WalkFits (cpus : ℕ) (t : CpuState) (far : MappedAsk) (next : Continuation) : Type 0 where
  pub small : IsSmall far.ask
  pub follows : ContinuationFits cpus t.state next
  pub missing : entry_kept t far ≡ None

abbrev pub StageFits : ℕ → CpuState → Stage → Type 0
StageFits cpus t (stage.Walks w) = WalkFits cpus t w.far w.next
StageFits cpus t (stage.Continues next) = ContinuationFits cpus t.state next

pub record Fits (cpus : ℕ) (t : CpuState) (w : Wanted) (stage : Stage) : Type 0 where
  pub value : FitsKind w.kind w.size w.value
  pub follows : StageFits cpus t stage

abbrev pub PhaseFits : ℕ → CpuState → Phase → Type 0
PhaseFits cpus t (phase.Wants w stage) = Fits cpus t w stage
PhaseFits cpus t (phase.Ends ending) = EndingFits t.state ending
