-- Blocks: memory is locked by aligned blocks of LOCK_BYTES bytes, each in one line.
use Rattle.std.specs.Prelude.{ℕ, ◌*◌, ◌/◌, ◌==◌, Bool, false, Option, Some, None, if◌then◌else◌}
use Rattle.axp_base.specs.declared.lines.TheConstants.{LINE_BYTES, LOCK_BYTES}
use Rattle.axp_base.specs.Lines.{line_number}
use Rattle.axp_base.specs.declared.lines.Line.{Line}

-- the number of the block that an address is in
abbrev pub block_of : ℕ → ℕ
block_of address = address / LOCK_BYTES

-- the number of the line that a block is in: that of its first byte
abbrev pub line_of_block : ℕ → ℕ
line_of_block block = block * LOCK_BYTES / LINE_BYTES

-- what another processor's write to a line leaves locked
abbrev pub after_write : ℕ → Option ℕ → Option ℕ
after_write line None = None
after_write line (Some block) = if line_of_block block == line then None else Some block

-- a block is locked, and the address is in it
abbrev pub is_allowed : ℕ → Option ℕ → Bool
is_allowed address None = false
is_allowed address (Some block) = block_of address == block

-- a turn of another processor on the block's line unlocks
abbrev pub lock_by_other : Option Line → Option ℕ → Option ℕ
lock_by_other None block = block
lock_by_other (Some line) block = after_write (line_number line) block
