-- What of a state an entry leaves as it was, and what it tells.
use Rattle.std.specs.Prelude.{ℕ, ◌≡◌, length}
use Rattle.axp_regs.specs.declared.states.State.{State}
use Rattle.axp_regs.specs.declared.states.TheConstants.{ENTRIES, REGISTERS}
use Rattle.axp_regs.specs.Keeps.{KeepsEntries}
use Rattle.axp_regs.specs.States.{register, number_of, ksp_of, kgp_of, ptbr_of, pcbb_of, asn_of, offset_of, unique_of, fen_of, sysvalue_of, vptptr_of, fetched_of}
use Rattle.axp_trap.specs.declared.registers.TheConstants.{A0, A1, A2}

-- there are as many registers and entries as there should be, as in every state of the code
pub record IsWhole (s : State) : Type 0 where
  pub registers : length s.registers ≡ REGISTERS
  pub entries : length s.entries ≡ ENTRIES

-- the values of the three arguments
pub record HasArguments (s : State) (a0 a1 a2 : ℕ) : Type 0 where
  pub first : register s A0 ≡ a0
  pub second : register s A1 ≡ a1
  pub third : register s A2 ≡ a2

-- of the internal registers all stay but the status, the user's stack pointer and the lock flag
pub record KeepsInternals (s t : State) : Type 0 where
  pub number : number_of t ≡ number_of s
  pub ksp : ksp_of t ≡ ksp_of s
  pub kgp : kgp_of t ≡ kgp_of s
  pub ptbr : ptbr_of t ≡ ptbr_of s
  pub pcbb : pcbb_of t ≡ pcbb_of s
  pub asn : asn_of t ≡ asn_of s
  pub offset : offset_of t ≡ offset_of s
  pub unique : unique_of t ≡ unique_of s
  pub fen : fen_of t ≡ fen_of s
  pub sysvalue : sysvalue_of t ≡ sysvalue_of s
  pub vptptr : vptptr_of t ≡ vptptr_of s
  pub fetched : fetched_of t ≡ fetched_of s
  pub entries : KeepsEntries s t
