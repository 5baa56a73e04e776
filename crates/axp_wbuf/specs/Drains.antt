-- The entries that may leave next.
use Rattle.std.specs.Prelude.{ℕ, ◌==◌, if◌then◌else◌, List, [], ◌∷◌, Option, Some, None}
use Rattle.std.specs.List.{remove}
use Rattle.axp_wbuf.specs.Pending.{Pending, Buffer}

-- the entries before the first one of another group
unfoldable pub in_front : ℕ → List Pending → List Pending
in_front group [] = []
in_front group (e ∷ es) = if e.group == group then e ∷ in_front group es else []

-- the group of the oldest entry
abbrev pub first_group : List Pending → ℕ
first_group [] = 0
first_group (e ∷ es) = e.group

-- the entries of the oldest group
abbrev pub oldest_group : List Pending → List Pending
oldest_group es = in_front (first_group es) es

-- the buffer without its entry k
abbrev pub without : ℕ → Buffer → Buffer
without k b = record { kept = remove b.kept k; made = b.made; newest = b.newest }

-- what a drain tells of an entry: its number, line, mask and bytes
abbrev pub told : Option Pending → Option (ℕ × (ℕ × (ℕ × List ℕ)))
told None = None
told (Some e) = Some (e.number, (e.line, (e.bits, e.bytes)))
