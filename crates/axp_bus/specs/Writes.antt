-- What a call writes to memory, as the code keeps it.
use Rattle.std.specs.Prelude.{Option, Some, None}
use Rattle.axp_base.specs.Masks.{mask_bits}
use Rattle.axp_line.specs.Lines.{bytes_of_line}
use Rattle.axp_line.specs.BusCalls.{Written}
use Rattle.axp_bus.specs.declared.writes.Write.{Write}

-- a write is seen as the bytes of one line that are written
abbrev pub written_of : Write → Written
written_of w = record { line = w.line; bits = mask_bits w.mask; bytes = bytes_of_line w.bytes }

abbrev pub written_by : Option Write → Option Written
written_by None = None
written_by (Some w) = Some (written_of w)
