-- What an image says of a machine's start: four numbers, and the segments that fill memory.
use Rattle.std.specs.Prelude.{◌≡◌, ℕ, ◌+◌, ◌-◌, ◌/◌, ◌%◌, ◌^◌, ◌<◌, ◌≤◌, Bool, ◌&&◌, nat_le, nat_lt, if◌then◌else◌, List, [], ◌∷◌, ◌++◌, length, slice_index}
use Rattle.axp_image.specs.declared.limits.TheConstants.{PAGE_BYTES, MAX_MEMORY, MAX_SEGMENTS, KSEG, INSTRUCTION_BYTES}

-- bytes that stand in memory from an address on
pub record Segment : Type 0 where
  pub address : ℕ
  pub bytes : List ℕ

pub record Contents : Type 0 where
  -- of memory, in bytes
  pub size : ℕ
  -- the address at which every processor starts
  pub entry : ℕ
  -- what the stack pointer holds at the start
  pub stack : ℕ
  -- the page on which the page table begins
  pub table : ℕ
  pub segments : List Segment

-- the contents of these numbers and segments
abbrev pub contents : ℕ → ℕ → ℕ → ℕ → List Segment → Contents
contents size entry stack table segments = record { size = size; entry = entry; stack = stack; table = table; segments = segments }

-- the segment of these bytes at this address
abbrev pub segment_of : ℕ → List ℕ → Segment
segment_of address bytes = record { address = address; bytes = bytes }

-- the address behind a segment's last byte
abbrev pub end_of : Segment → ℕ
end_of s = s.address + length s.bytes

-- the end of the last segment, or `from` where there is none
abbrev pub end_after : ℕ → List Segment → ℕ
end_after from [] = from
end_after from (s ∷ rest) = end_after (end_of s) rest

-- where the next segment may begin
abbrev pub last_end : List Segment → ℕ
last_end segments = end_after 0 segments

-- the contents with one more segment, behind the others
abbrev pub with_segment : Contents → Segment → Contents
with_segment c s = contents c.size c.entry c.stack c.table (c.segments ++ s ∷ [])

-- a segment has the byte at an address
abbrev pub covers : Segment → ℕ → Bool
covers s address = nat_le s.address address && nat_lt address (end_of s)

-- the byte at an address: that of the first segment that has it, else 0
abbrev pub byte_in : List Segment → ℕ → ℕ
byte_in [] address = 0
byte_in (s ∷ rest) address = if covers s address then slice_index s.bytes (address - s.address) else byte_in rest address

abbrev pub AreBytes : List ℕ → Type 0
AreBytes bytes = (i : ℕ) → slice_index bytes i < 256

-- a segment may stand in a memory of this size, at or above an address
pub record IsPlaced (size from : ℕ) (s : Segment) : Type 0 where
  pub above : from ≤ s.address
  pub not_empty : 1 ≤ length s.bytes
  pub within : end_of s ≤ size
  pub bytes : AreBytes s.bytes

-- each segment stands at or above the end of the one before it, the first at or above `from`
abbrev pub ArePlaced : ℕ → ℕ → List Segment → Type 0
ArePlaced size from [] = Unit {0}
ArePlaced size from (s ∷ rest) = IsPlaced size from s × ArePlaced size (end_of s) rest

-- what an image may say
pub record IsValid (c : Contents) : Type 0 where
  pub whole_pages : c.size % PAGE_BYTES ≡ 0
  pub least_size : PAGE_BYTES ≤ c.size
  pub most_size : c.size ≤ MAX_MEMORY
  pub entry_aligned : c.entry % INSTRUCTION_BYTES ≡ 0
  pub least_entry : KSEG ≤ c.entry
  -- the first instruction lies in memory
  pub most_entry : c.entry ≤ KSEG + c.size - INSTRUCTION_BYTES
  pub stack_word : c.stack < 2 ^ 64
  pub table_page : c.table < c.size / PAGE_BYTES
  pub count : length c.segments ≤ MAX_SEGMENTS
  pub placed : ArePlaced c.size 0 c.segments
