-- What lies in a memory of some bytes: addresses that are asked for, entries and copies. Turns are numbers
-- of 32 bits.
use Rattle.std.specs.Prelude.{◌≡◌, ◌⊎◌, ℕ, ◌*◌, ◌+◌, ◌%◌, ◌^◌, ◌<◌, ◌≤◌, Option, Some, None}
use Rattle.std.specs.List.{AllByRecursion}
use Rattle.axp_base.specs.Lines.{line_number}
use Rattle.axp_base.specs.Masks.{IsSize}
use Rattle.axp_base.specs.declared.lines.Line.{Line}
use Rattle.axp_base.specs.declared.lines.TheConstants.{LINE_BYTES}
use Rattle.axp_bank.specs.Copies.{line_of}
use Rattle.axp_bank.specs.declared.copies.LineCopy.{LineCopy}
use Rattle.axp_line.specs.declared.messages.Request.{Request}
use Rattle.axp_line.specs.declared.messages.Request.TheVariants as request
use Rattle.axp_regs.specs.declared.asks.Kind.{Kind}
use Rattle.axp_regs.specs.declared.asks.Kind.TheVariants as kind
use Rattle.axp_wbuf.specs.Pending.{Pending}
use Rattle.axp_access.specs.declared.Wanted.{Wanted}
use Rattle.axp_lsu.specs.declared.asks.Ask2.{Ask2}
use Rattle.axp_lsu.specs.declared.asks.Ask2.TheVariants as ask
use Rattle.axp_lsu.specs.Keeping.{LocalMemory}

abbrev pub IsLineWithin : ℕ → Line → Type 0
IsLineWithin size line = line_number line * LINE_BYTES < size

abbrev pub IsEntryWithin : ℕ → Pending → Type 0
IsEntryWithin size e = e.line * LINE_BYTES < size

pub record IsCopyWithin (size : ℕ) (c : LineCopy) : Type 0 where
  pub line : line_of c * LINE_BYTES < size
  pub stamp : c.stamp < 2 ^ 32

-- a line's address and the stamp beside it are numbers of 32 bits
pub record IsSmall (l : Line × ℕ) : Type 0 where
  pub address : line_number l.0 * LINE_BYTES < 2 ^ 32
  pub stamp : l.1 < 2 ^ 32

-- each part of what is kept
pub record IsKeptWithin (size : ℕ) (u : LocalMemory) : Type 0 where
  pub entries : AllByRecursion (IsEntryWithin size) u.buffer.kept
  pub even : AllByRecursion (IsCopyWithin size) u.even
  pub odd : AllByRecursion (IsCopyWithin size) u.odd
  pub code : AllByRecursion (IsCopyWithin size) u.code
  pub barrier : u.barrier < 2 ^ 32

-- a wanted access to memory lies in it, at a multiple of its size
pub record IsInMemory (size : ℕ) (w : Wanted) : Type 0 where
  pub sized : IsSize w.size
  pub aligned : w.address % w.size ≡ 0
  pub within : w.address + w.size ≤ size

-- a store-conditional is of a longword or quadword
pub record IsConditional (size : ℕ) (w : Wanted) : Type 0 where
  pub within : IsInMemory size w
  pub sized : (w.size ≡ 4) ⊎ (w.size ≡ 8)

abbrev pub IsWantedBy : ℕ → Kind → Wanted → Type 0
IsWantedBy size kind.Fetch w = IsInMemory size w
IsWantedBy size kind.Read w = IsInMemory size w
IsWantedBy size kind.Write w = IsInMemory size w
IsWantedBy size kind.Locked w = IsInMemory size w
IsWantedBy size kind.Conditional w = IsConditional size w
IsWantedBy size _ w = Unit {0}

abbrev pub IsWantedWithin : ℕ → Option Wanted → Type 0
IsWantedWithin size None = Unit {0}
IsWantedWithin size (Some w) = IsWantedBy size w.kind w

-- what is asked of the bus names lines and addresses in memory alone
abbrev pub IsRequestWithin : ℕ → Request → Type 0
IsRequestWithin size (request.Fill line) = IsLineWithin size line
IsRequestWithin size (request.FillCode line) = IsLineWithin size line
IsRequestWithin size (request.Drain line mask bytes) = IsLineWithin size line
IsRequestWithin size (request.Locked address) = address < size
IsRequestWithin size (request.Conditional address bytes value armed) = ((bytes ≡ 4) ⊎ (bytes ≡ 8)) × (address % bytes ≡ 0) × (address < size)
IsRequestWithin size _ = Unit {0}

abbrev pub IsAskWithin : ℕ → Ask2 → Type 0
IsAskWithin size ask.Private = Unit {0}
IsAskWithin size (ask.Bus q) = IsRequestWithin size q
