-- What a write buffer keeps, and what a store does to it.
use Rattle.std.specs.Prelude.{◌≡◌, ◌≢◌, ℕ, ◌+◌, ◌/◌, ◌%◌, ◌<◌, ◌≤◌, Bool, ◌&&◌, ◌||◌, ◌==◌, nat_lt, if◌then◌else◌, List, [], ◌∷◌, length, replicate, bit_or}
use Rattle.std.specs.List.{list_any}
use Rattle.axp_base.specs.Masks.{span_of, has_bit}
use Rattle.axp_base.specs.Parts.{with_part}
use Rattle.axp_base.specs.declared.lines.TheConstants.{LINE_BYTES}
use Rattle.axp_line.specs.Lines.{merged}
use Rattle.axp_base.specs.declared.limits.TheConstants.{WBUF_ENTRIES}

-- a write that has not reached memory: bytes of one line, made as entry `number`
pub record Pending : Type 0 where
  pub number : ℕ
  pub line : ℕ
  -- bit n is 1 where the entry has byte n of the line
  pub bits : ℕ
  pub bytes : List ℕ
  pub group : ℕ

pub record Buffer : Type 0 where
  -- the entries, oldest first
  pub kept : List Pending
  -- how many entries were ever made
  pub made : ℕ
  -- the number of the newest group
  pub newest : ℕ

abbrev pub no_entries : Buffer
no_entries = record { kept = []; made = 0; newest = 0 }

-- whether an entry is of this group and this line
abbrev pub is_at : ℕ → ℕ → Pending → Bool
is_at group line e = (e.group == group) && (e.line == line)

-- whether an entry is of this line, of this group, of a group before this one
abbrev pub is_of_line : ℕ → Pending → Bool
is_of_line line e = e.line == line

abbrev pub is_of_group : ℕ → Pending → Bool
is_of_group group e = e.group == group

abbrev pub is_before : ℕ → Pending → Bool
is_before group e = nat_lt e.group group

-- whether it is the entry of this number
abbrev pub is_numbered : ℕ → Pending → Bool
is_numbered n e = e.number == n

-- an entry with a store's bytes put into it
abbrev pub with_store : ℕ → ℕ → ℕ → Pending → Pending
with_store address size value e =
    record {
      number = e.number;
      line = e.line;
      bits = bit_or e.bits (span_of address size);
      bytes = with_part e.bytes (address % LINE_BYTES) size value;
      group = e.group;
    }

-- an entry that has a store's bytes alone
abbrev pub made_by : ℕ → ℕ → ℕ → ℕ → ℕ → Pending
made_by number group address size value =
    record {
      number = number;
      line = address / LINE_BYTES;
      bits = span_of address size;
      bytes = with_part (replicate LINE_BYTES 0) (address % LINE_BYTES) size value;
      group = group;
    }

-- the number of the entry of this group and line, or `next` where there is none
unfoldable pub number_at_line : ℕ → ℕ → ℕ → List Pending → ℕ
number_at_line group line next [] = next
number_at_line group line next (e ∷ es) = if is_at group line e then e.number else number_at_line group line next es

-- the entries after a store: its bytes are put into the entry of this group and line, or `new` is
-- kept as the newest where there is none
unfoldable pub put_into : ℕ → ℕ → (Pending → Pending) → Pending → List Pending → List Pending
put_into group line change new [] = new ∷ []
put_into group line change new (e ∷ es) = if is_at group line e then change e ∷ es else e ∷ put_into group line change new es

-- whether the newest group has an entry of this line
abbrev pub merges : ℕ → Buffer → Bool
merges line b = list_any (is_at b.newest line) b.kept

-- whether there is room for a store to this line
abbrev pub takes : ℕ → Buffer → Bool
takes line b = merges line b || nat_lt (length b.kept) WBUF_ENTRIES

-- the number of the entry that a store's bytes go into
abbrev pub store_number : ℕ → Buffer → ℕ
store_number line b = number_at_line b.newest line (b.made + 1) b.kept

abbrev pub stored : ℕ → ℕ → ℕ → Buffer → Buffer
stored address size value b =
    record {
      kept = put_into b.newest (address / LINE_BYTES) (with_store address size value) (made_by (b.made + 1) b.newest address size value) b.kept;
      made = if merges (address / LINE_BYTES) b then b.made else b.made + 1;
      newest = b.newest;
    }

-- the newest group is closed, where it has an entry
abbrev pub closed : Buffer → Buffer
closed b =
    record {
      kept = b.kept;
      made = b.made;
      newest = if list_any (is_of_group b.newest) b.kept then b.newest + 1 else b.newest;
    }

-- whether an entry has byte n of a line
abbrev pub has_byte : ℕ → ℕ → Pending → Bool
has_byte line n e = (e.line == line) && has_bit e.bits n

-- a line's bytes, with those of each entry of the line put over them, oldest entry first
unfoldable pub overlaid : ℕ → List Pending → List ℕ → List ℕ
overlaid line [] bytes = bytes
overlaid line (e ∷ es) bytes = overlaid line es (if e.line == line then merged e.bits e.bytes bytes else bytes)

-- of two entries kept, the one made first
pub record Precedes (e f : Pending) : Type 0 where
  pub number : e.number < f.number
  pub group : e.group ≤ f.group
  pub apart : e.group ≡ f.group → e.line ≢ f.line

abbrev pub PrecedesAll : Pending → List Pending → Type 0
PrecedesAll e [] = Unit {0}
PrecedesAll e (f ∷ fs) = Precedes e f × PrecedesAll e fs

-- an entry of a buffer that has made so many entries, and whose newest group has this number: a
-- group begins no earlier than its number says
pub record IsMade (made newest : ℕ) (e : Pending) : Type 0 where
  pub number : e.number ≤ made
  pub group : e.group ≤ newest
  pub begun : e.group < e.number
  pub whole : length e.bytes ≡ LINE_BYTES

abbrev pub AreInOrder : ℕ → ℕ → List Pending → Type 0
AreInOrder made newest [] = Unit {0}
AreInOrder made newest (e ∷ es) = IsMade made newest e × (PrecedesAll e es × AreInOrder made newest es)

-- a buffer's rules: few entries, whose numbers ascend and are at most the number made, whose groups
-- do not descend and are at most the newest, at most one of a line in a group
pub record IsTidy (b : Buffer) : Type 0 where
  pub few : length b.kept ≤ WBUF_ENTRIES
  pub groups : b.newest ≤ b.made
  pub order : AreInOrder b.made b.newest b.kept
