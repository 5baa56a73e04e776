-- What of a state stays in another.
use Rattle.std.specs.Prelude.{ℕ, ◌≡◌, length}
use Rattle.axp_regs.specs.declared.states.State.{State}
use Rattle.axp_regs.specs.States.{register, entry_of, number_of, pc_of, ps_of, ksp_of, usp_of, kgp_of, ptbr_of, pcbb_of, asn_of, offset_of, unique_of, fen_of, sysvalue_of, vptptr_of, locked_of, fetched_of}

-- every register stays, and so does their number
pub record KeepsRegisters (s t : State) : Type 0 where
  pub value : (n : ℕ) → register t n ≡ register s n
  pub as_long : length t.registers ≡ length s.registers

-- every entry stays, and so does their number
pub record KeepsEntries (s t : State) : Type 0 where
  pub value : (n : ℕ) → entry_of t n ≡ entry_of s n
  pub as_long : length t.entries ≡ length s.entries

-- all that is neither a register nor an entry stays
pub record KeepsFields (s t : State) : Type 0 where
  pub number : number_of t ≡ number_of s
  pub pc : pc_of t ≡ pc_of s
  pub ps : ps_of t ≡ ps_of s
  pub ksp : ksp_of t ≡ ksp_of s
  pub usp : usp_of t ≡ usp_of s
  pub kgp : kgp_of t ≡ kgp_of s
  pub ptbr : ptbr_of t ≡ ptbr_of s
  pub pcbb : pcbb_of t ≡ pcbb_of s
  pub asn : asn_of t ≡ asn_of s
  pub offset : offset_of t ≡ offset_of s
  pub unique : unique_of t ≡ unique_of s
  pub fen : fen_of t ≡ fen_of s
  pub sysvalue : sysvalue_of t ≡ sysvalue_of s
  pub vptptr : vptptr_of t ≡ vptptr_of s
  pub locked : locked_of t ≡ locked_of s
  pub fetched : fetched_of t ≡ fetched_of s
