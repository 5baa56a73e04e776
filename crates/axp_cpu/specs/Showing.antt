-- What a load, a store or a store-conditional makes of the registers, by what its access shows. It is said
-- without plans.
use Rattle.std.specs.Prelude.{◌≡◌, ℕ, ◌%◌, ◌^◌, Bool, true, false, if◌then◌else◌, ◌∷◌, length, List, ◌++◌, Option, Some, None}
use Rattle.axp_access.specs.declared.Access.{Access}
use Rattle.axp_access.specs.declared.Act.TheVariants.{Step}
use Rattle.axp_access.specs.declared.Outcome.TheVariants as outcome
use Rattle.axp_access.specs.declared.Wanted.{Wanted}
use Rattle.axp_base.specs.Numbers.{sign_extended}
use Rattle.axp_decode.specs.Format.{instr_of}
use Rattle.axp_decode.specs.declared.instructions.Instr.TheVariants.{Memory}
use Rattle.axp_decode.specs.declared.names.MemOp.{MemOp}
use Rattle.axp_decode.specs.declared.names.MemOp.TheVariants.{LDBU, LDWU, LDL, LDQ, LDQ_U, LDL_L, LDQ_L, STL_C, STQ_C}
use Rattle.axp_regs.specs.declared.asks.Kind.TheVariants.{Fetch}
use Rattle.axp_regs.specs.declared.states.State.{State}
use Rattle.axp_regs.specs.declared.states.TheConstants.{REGISTERS}
use Rattle.axp_cpu.specs.Following.{seat_after}
use Rattle.axp_cpu.specs.Plans.{along, given}
use Rattle.axp_cpu.specs.Rows.{group}
use Rattle.axp_cpu.specs.Seats.{Seat, plan_now, wanted, wanted_by}
use Rattle.axp_cpu.specs.Soundness.{IsDone}

-- what Ra becomes: the value that is shown, a longword sign-extended, or whether the store-conditional
-- succeeded; None: no register changes
abbrev pub register_value : MemOp → Access → Option ℕ
register_value LDBU x = Some x.value
register_value LDWU x = Some x.value
register_value LDL x = Some (sign_extended 32 x.value)
register_value LDQ x = Some x.value
register_value LDQ_U x = Some x.value
register_value LDL_L x = Some (sign_extended 32 x.value)
register_value LDQ_L x = Some x.value
register_value STL_C x = Some (if x.yes then 1 else 0)
register_value STQ_C x = Some (if x.yes then 1 else 0)
register_value _ x = None

-- what the lock flag becomes: a load-locked sets it, a store-conditional clears it
abbrev pub lock_flag : MemOp → Bool → Bool
lock_flag LDL_L armed = true
lock_flag LDQ_L armed = true
lock_flag STL_C armed = false
lock_flag STQ_C armed = false
lock_flag _ armed = armed

-- the group made the fetch of an instruction of the memory format with this Ra, behind the reads of its
-- page's entries where there were any. The access is of the kind that the group now wants, and is that of
-- the instruction: the group ends with it, enters nothing and halts not
pub record IsAccessOf (s : Seat) (op : MemOp) (a : ℕ) (x : Access) : Type 0 where
  pub base : ℕ
  pub displacement : ℕ
  pub entries : List ℕ
  pub word : ℕ
  pub later_entries : List ℕ
  pub fetch : Wanted
  pub access : Wanted
  pub values : s.values ≡ entries ++ word ∷ later_entries
  pub fetches : wanted_by (along entries (group s.size s.cpus s.start)) ≡ Some fetch
  pub fetched : fetch.kind ≡ Fetch
  pub boundary : s.start.pending ≡ None
  pub stands_for : instr_of (word % 2 ^ 32) ≡ Memory op a base displacement
  pub wants : wanted s ≡ Some access
  pub kind : x.kind ≡ access.kind
  pub ends : (v : ℕ) → IsDone (given v (plan_now s))
  pub registers : length s.start.state.registers ≡ REGISTERS

-- the seat after a Step that shows this access
abbrev pub seat_shown : Seat → Access → Seat
seat_shown s x = seat_after Step (outcome.Access x) s

-- and its state
abbrev pub state_shown : Seat → Access → State
state_shown s x = (seat_shown s x).start.state
