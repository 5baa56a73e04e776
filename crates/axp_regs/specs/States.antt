-- The state of a processor, by its readers and writers.
use Rattle.std.specs.Prelude.{ℕ, Bool, false, ◌==◌, if◌then◌else◌, replicate, slice_index, slice_set}
use Rattle.axp_regs.specs.declared.states.State.{State}
use Rattle.axp_regs.specs.declared.states.TheConstants.{ENTRIES, FIRST_PS, REGISTERS, ZERO_REGISTER}

-- a register's value: R31 reads as 0
abbrev pub register : State → ℕ → ℕ
register s n = if n == ZERO_REGISTER then 0 else slice_index s.registers n

-- a register written: a write of R31 is lost
abbrev pub with_register : State → ℕ → ℕ → State
with_register s n v = if n == ZERO_REGISTER then s else record s { registers = slice_set s.registers n v }

-- the address of an entry to the operating system
abbrev pub entry_of : State → ℕ → ℕ
entry_of s n = slice_index s.entries n

abbrev pub with_entry : State → ℕ → ℕ → State
with_entry s n v = record s { entries = slice_set s.entries n v }

-- the processor's number
abbrev pub number_of : State → ℕ
number_of s = s.number

-- the program counter
abbrev pub pc_of : State → ℕ
pc_of s = s.pc

abbrev pub with_pc : State → ℕ → State
with_pc s v = record s { pc = v }

-- the processor status: bits 2:0 the interrupt level, bit 3 the mode (1 user)
abbrev pub ps_of : State → ℕ
ps_of s = s.ps

abbrev pub with_ps : State → ℕ → State
with_ps s v = record s { ps = v }

-- the kernel stack pointer, kept in user mode
abbrev pub ksp_of : State → ℕ
ksp_of s = s.ksp

abbrev pub with_ksp : State → ℕ → State
with_ksp s v = record s { ksp = v }

-- the user stack pointer, kept in kernel mode
abbrev pub usp_of : State → ℕ
usp_of s = s.usp

abbrev pub with_usp : State → ℕ → State
with_usp s v = record s { usp = v }

-- the global pointer of the kernel
abbrev pub kgp_of : State → ℕ
kgp_of s = s.kgp

abbrev pub with_kgp : State → ℕ → State
with_kgp s v = record s { kgp = v }

-- the page of memory on which the page table begins
abbrev pub ptbr_of : State → ℕ
ptbr_of s = s.ptbr

abbrev pub with_ptbr : State → ℕ → State
with_ptbr s v = record s { ptbr = v }

-- the physical address of the process control block
abbrev pub pcbb_of : State → ℕ
pcbb_of s = s.pcbb

abbrev pub with_pcbb : State → ℕ → State
with_pcbb s v = record s { pcbb = v }

-- the address space number
abbrev pub asn_of : State → ℕ
asn_of s = s.asn

abbrev pub with_asn : State → ℕ → State
with_asn s v = record s { asn = v }

-- the offset of the cycle counter
abbrev pub offset_of : State → ℕ
offset_of s = s.offset

abbrev pub with_offset : State → ℕ → State
with_offset s v = record s { offset = v }

-- the unique value of the process
abbrev pub unique_of : State → ℕ
unique_of s = s.unique

abbrev pub with_unique : State → ℕ → State
with_unique s v = record s { unique = v }

-- whether floating instructions are enabled
abbrev pub fen_of : State → Bool
fen_of s = s.fen

abbrev pub with_fen : State → Bool → State
with_fen s v = record s { fen = v }

-- the system value
abbrev pub sysvalue_of : State → ℕ
sysvalue_of s = s.sysvalue

abbrev pub with_sysvalue : State → ℕ → State
with_sysvalue s v = record s { sysvalue = v }

-- the virtual address of the page table
abbrev pub vptptr_of : State → ℕ
vptptr_of s = s.vptptr

abbrev pub with_vptptr : State → ℕ → State
with_vptptr s v = record s { vptptr = v }

-- the lock flag
abbrev pub locked_of : State → Bool
locked_of s = s.locked

abbrev pub with_locked : State → Bool → State
with_locked s v = record s { locked = v }

-- how many instructions were fetched, modulo 2^32
abbrev pub fetched_of : State → ℕ
fetched_of s = s.fetched

abbrev pub with_fetched : State → ℕ → State
with_fetched s v = record s { fetched = v }

-- the state of a processor of this number at the start
abbrev pub first_state : ℕ → State
first_state n = record {
  registers = replicate REGISTERS 0;
  pc = 0;
  ps = FIRST_PS;
  ksp = 0;
  usp = 0;
  kgp = 0;
  ptbr = 0;
  pcbb = 0;
  asn = 0;
  offset = 0;
  unique = 0;
  fen = false;
  sysvalue = 0;
  vptptr = 0;
  entries = replicate ENTRIES 0;
  locked = false;
  fetched = 0;
  number = n;
}
