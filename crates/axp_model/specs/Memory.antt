-- Memory as the turns leave it, and what a read takes from its own write buffer.
use Rattle.std.specs.Prelude.{ℕ, zero, suc, ◌+◌, ◌*◌, false, is_some, ◌||◌, ◌==◌, nat_le, Bool, not, ◌&&◌, List, Option}
use Rattle.std.specs.List.{find}
use Rattle.axp_base.specs.Parts.{number_at}
use Rattle.axp_base.specs.declared.parts.TheConstants.{QUADWORD_BYTES}
use Rattle.axp_access.specs.declared.Record.{Record}
use Rattle.axp_model.specs.Turns.{turns}
use Rattle.axp_access.specs.Kinds.{is_memory_write, has_byte}
use Rattle.axp_model.specs.Accesses.{accesses, times}
use Rattle.axp_access.specs.Numbering.{NumberedAccess, cpu_of}
use Rattle.axp_access.specs.Order.{Times, Spot, spot}
use Rattle.axp_model.specs.Sources.{latest, byte_of_source}

-- at a number that is not above n
abbrev pub is_placed_by : ℕ → Spot → Bool
is_placed_by n s = s.placed && (not s.last && nat_le s.place n)

-- last of all: a write in an entry that no drain has named
abbrev pub is_waiting : Spot → Bool
is_waiting s = s.placed && s.last

-- u is a memory write that has the byte at an address and reached memory by turn n
abbrev pub has_reached : Times → ℕ → ℕ → NumberedAccess → Bool
has_reached t n at u = is_memory_write u.access && (has_byte at u.access && is_placed_by n (spot t (cpu_of u) u.access.place))

-- the write whose byte memory has at an address after the first n turns: the latest of these; None: the
-- image's
abbrev pub memory_source : Times → ℕ → ℕ → List NumberedAccess → Option NumberedAccess
memory_source t n at us = latest t (has_reached t n at) us

abbrev pub memory_byte : (ℕ → ℕ) → List Record → ℕ → ℕ → ℕ
memory_byte image h n at = byte_of_source image at (memory_source (times h) n at (accesses h))

-- memory as the whole history leaves it
abbrev pub final_byte : (ℕ → ℕ) → List Record → ℕ → ℕ
final_byte image h at = memory_byte image h (turns h) at

-- a drain or a successful STx_C wrote one of the n bytes from an address on
abbrev pub is_written : List Record → ℕ → ℕ → Bool
is_written h at zero = false
is_written h at (suc n) = is_written h at n || is_some (memory_source (times h) (turns h) (at + n) (accesses h))

-- an aligned quadword, by its number: its value, and whether a byte of it was written
abbrev pub quadword : (ℕ → ℕ) → List Record → ℕ → ℕ
quadword image h q = number_at (final_byte image h) (q * QUADWORD_BYTES) QUADWORD_BYTES

abbrev pub is_touched : List Record → ℕ → Bool
is_touched h q = is_written h (q * QUADWORD_BYTES) QUADWORD_BYTES

-- u is a memory write of processor p that has the byte at an address and still waits
abbrev pub own_waits : Times → ℕ → ℕ → NumberedAccess → Bool
own_waits t at p u = (cpu_of u == p) && (is_memory_write u.access && (has_byte at u.access && is_waiting (spot t (cpu_of u) u.access.place)))

-- the last of these in issue order
abbrev pub newest_waiting : ℕ → ℕ → List Record → Option NumberedAccess
newest_waiting p at h = find (own_waits (times h) at p) (accesses h)
