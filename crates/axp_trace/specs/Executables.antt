-- The line of an executable that is not read, without its line feed.
use Rattle.std.specs.Prelude.{ℕ, List, ◌++◌, codes, decimal}

-- the executable has this field at fault at this offset
unfoldable pub bad_elf_line : List ℕ → ℕ → List ℕ
bad_elf_line field offset = codes "axp: bad elf " ++ field ++ codes " at " ++ decimal offset
