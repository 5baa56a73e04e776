-- What a read or fetch gives: the bytes of its sources.
use Rattle.std.specs.Prelude.{ℕ, ◌-◌, Bool, ◌||◌, List, Option, Some, None, not, ◌&&◌, if◌then◌else◌, [], ◌∷◌}
use Rattle.axp_base.specs.Parts.{byte, number_at}
use Rattle.axp_access.specs.declared.Record.{Record}
use Rattle.axp_access.specs.Kinds.{is_read, is_fetch, is_memory_write, has_byte}
use Rattle.axp_model.specs.Accesses.{accesses, times}
use Rattle.axp_access.specs.Numbering.{NumberedAccess}
use Rattle.axp_access.specs.Order.{Times, before, precedes}

-- the memory write u is visible to the read or fetch v: it is BEFORE v, or precedes the read in issue
-- order
abbrev pub is_visible : Times → NumberedAccess → NumberedAccess → Bool
is_visible t u v = before t u v || (not (is_fetch v.access.kind) && precedes u v)

-- the later in BEFORE of two
abbrev pub later_of : Times → NumberedAccess → Option NumberedAccess → Option NumberedAccess
later_of t x None = Some x
later_of t x (Some y) = if before t y x then Some x else Some y

-- the latest in BEFORE of those that pass a test
abbrev pub latest : Times → (NumberedAccess → Bool) → List NumberedAccess → Option NumberedAccess
latest t test [] = None
latest t test (x ∷ xs) = if test x then later_of t x (latest t test xs) else latest t test xs

-- u is a memory write that has the byte at an address and is visible to v
abbrev pub can_give : Times → ℕ → NumberedAccess → NumberedAccess → Bool
can_give t at v u = is_memory_write u.access && (has_byte at u.access && is_visible t u v)

-- the source of the byte at an address of v: the latest of these; None: the image
abbrev pub source : Times → ℕ → NumberedAccess → List NumberedAccess → Option NumberedAccess
source t at v us = latest t (can_give t at v) us

-- a read or a fetch
abbrev pub takes_bytes : NumberedAccess → Bool
takes_bytes v = is_read v.access.kind || is_fetch v.access.kind

-- the byte at an address of a source; that of the image where there is none
abbrev pub byte_of_source : (ℕ → ℕ) → ℕ → Option NumberedAccess → ℕ
byte_of_source image at None = image at
byte_of_source image at (Some u) = byte u.access.value (at - u.access.address)

-- the byte at an address that v takes, after a history
abbrev pub source_byte : (ℕ → ℕ) → List Record → NumberedAccess → ℕ → ℕ
source_byte image h v at = byte_of_source image at (source (times h) at v (accesses h))

-- the value that v takes: its bytes as a little-endian number
abbrev pub source_value : (ℕ → ℕ) → List Record → NumberedAccess → ℕ
source_value image h v = number_at (source_byte image h v) v.access.address v.access.size
