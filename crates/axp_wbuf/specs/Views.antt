-- The entries of the code are seen as pending writes.
use Rattle.std.specs.Prelude.{ℕ, List, map}
use Rattle.axp_base.specs.Lines.{line_number}
use Rattle.axp_base.specs.Masks.{mask_bits}
use Rattle.axp_line.specs.Lines.{bytes_of_line}
use Rattle.axp_wbuf.specs.Pending.{Pending, Buffer}
use Rattle.axp_wbuf.specs.declared.entries.Entry.{Entry}

abbrev pub pending : Entry → Pending
pending e =
    record {
      number = e.number;
      line = line_number e.line;
      bits = mask_bits e.mask;
      bytes = bytes_of_line e.data;
      group = e.group;
    }

abbrev pub all_pending : List Entry → List Pending
all_pending es = map pending es

-- the buffer of these entries
abbrev pub buffer_of : List Entry → ℕ → ℕ → Buffer
buffer_of es made newest = record { kept = all_pending es; made = made; newest = newest }
