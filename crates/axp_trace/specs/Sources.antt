-- The line of an assembler source that gives no image, without its line feed.
use Rattle.std.specs.Prelude.{ℕ, List, ◌++◌, codes, decimal}

-- the line of this number, from 1, is at fault
unfoldable pub bad_source_line : ℕ → List ℕ
bad_source_line line = codes "axp: bad source at line " ++ decimal line
