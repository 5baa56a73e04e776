-- How the world after a history agrees with the memory model's words on that history: the write buffer with
-- the entries that wait, the banks with what is held, the bus with turns, late pairs, locks and memory.
use Rattle.std.specs.Prelude.{◌≡◌, ℕ, ◌-◌, ◌%◌, ◌==◌, ◌&&◌, Bool, true, false, List, [], ◌∷◌, map, length, slice_get, slice_index, Option, Some, None, is_some}
use Rattle.std.specs.List.{find, list_any}
use Rattle.axp_access.specs.declared.Intent.{Intent}
use Rattle.axp_cpu.specs.Actors.{actor_intent}
use Rattle.axp_image.specs.Contents.{Contents}
use Rattle.axp_world.specs.Worlds.{world}
use Rattle.axp_base.specs.Lines.{line_number}
use Rattle.axp_base.specs.Masks.{has_bit}
use Rattle.axp_base.specs.Parts.{byte}
use Rattle.axp_base.specs.declared.lines.Bank.{Bank}
use Rattle.axp_base.specs.declared.lines.Bank.TheVariants.{Even, Odd, Code}
use Rattle.axp_base.specs.declared.lines.TheConstants.{LINE_BYTES}
use Rattle.axp_access.specs.declared.Place.{Place}
use Rattle.axp_access.specs.declared.Place.TheVariants.{At, Entry, Absent}
use Rattle.axp_access.specs.declared.Record.{Record}
use Rattle.axp_bank.specs.Copies.{line_of, is_held, get_of}
use Rattle.axp_line.specs.Lines.{bytes_of_line}
use Rattle.axp_line.specs.declared.contents.LineData.{LineData}
use Rattle.axp_lsu.specs.Keeping.{LocalMemory, data_copies}
use Rattle.axp_wbuf.specs.Drains.{oldest_group}
use Rattle.axp_wbuf.specs.Pending as pending
use Rattle.axp_wbuf.specs.Pending.{Pending, is_before, is_of_line, overlaid, store_number}
use Rattle.axp_line.specs.BusCalls as calls
use Rattle.axp_line.specs.BusCalls.{BusCall}
use Rattle.axp_model.specs.Entries.{Waiting, buffer, entry_for, has_closed, has_line, oldest}
use Rattle.axp_model.specs.Late.{late, held, code_held, copies, code_copies}
use Rattle.axp_model.specs.Legal.{since_step, takes_write}
use Rattle.axp_base.specs.Lists.{is_empty}
use Rattle.axp_access.specs.Acts.{is_drop_of, is_fill, is_poll_act, is_tick}
use Rattle.axp_model.specs.Locks.{lock, is_signalled}
use Rattle.axp_model.specs.Memory.{memory_byte, newest_waiting}
use Rattle.axp_model.specs.Accesses.{accesses}
use Rattle.axp_access.specs.Numbering.{NumberedAccess, cpu_of}
use Rattle.axp_access.specs.Kinds.{has_byte, is_memory_write}
use Rattle.axp_base.specs.Lines as lines
use Rattle.axp_model.specs.Turns.{turns, stamp, barrier, code_stamp}

-- what a processor of the world is about to do after a history
abbrev pub world_intent : Contents → ℕ → ℕ → ℕ → List Record → Intent
world_intent image cpus budget p h = actor_intent ((world image cpus budget h).actors p)

-- an entry of the buffer is the one that waits under this number
pub record IsEntryOf (e : Pending) (w : Waiting) : Type 0 where
  pub number : e.number ≡ w.number
  pub line : e.line ≡ line_number w.line

-- so is each of a list
abbrev pub AreEntriesOf : List Pending → List Waiting → Type 0
AreEntriesOf [] [] = Unit {0}
AreEntriesOf (e ∷ es) (w ∷ ws) = IsEntryOf e w × AreEntriesOf es ws
AreEntriesOf [] (w ∷ ws) = ⊥
AreEntriesOf (e ∷ es) [] = ⊥

-- u is a memory write of processor p that has the byte at an address and went into entry n
abbrev pub is_entry : ℕ → Place → Bool
is_entry n (At turn) = false
is_entry n (Entry m) = m == n
is_entry n Absent = false

abbrev pub went_into : ℕ → ℕ → ℕ → NumberedAccess → Bool
went_into p n at u = (cpu_of u == p) && (is_memory_write u.access && (has_byte at u.access && is_entry n u.access.place))

-- the newest of these
abbrev pub newest_in : ℕ → ℕ → ℕ → List Record → Option NumberedAccess
newest_in p n at h = find (went_into p n at) (accesses h)

-- the byte at an address of a write, or else this one
abbrev pub byte_or : Option NumberedAccess → ℕ → ℕ → ℕ
byte_or None at other = other
byte_or (Some u) at other = byte u.access.value (at - u.access.address)

-- what the entries of a buffer have of each byte of their lines
pub record HasBytesOf (p : ℕ) (h : List Record) (e : Pending) : Type 0 where
  pub whole : length e.bytes ≡ LINE_BYTES
  pub has : (at : ℕ) → lines.line_of at ≡ e.line → has_bit e.bits (at % LINE_BYTES) ≡ is_some (newest_in p e.number at h)
  pub bytes : (at : ℕ) → lines.line_of at ≡ e.line → has_bit e.bits (at % LINE_BYTES) ≡ true → slice_index e.bytes (at % LINE_BYTES) ≡ byte_or (newest_in p e.number at h) at 0

-- what a processor's buffer is to the entries that wait
pub record BufferAgrees (p : ℕ) (h : List Record) (b : pending.Buffer) : Type 0 where
  pub number : (l : ℕ) → store_number l b ≡ entry_for l (buffer p h)
  pub takes : (l : ℕ) → pending.takes l b ≡ takes_write l (buffer p h)
  pub oldest : AreEntriesOf (oldest_group b.kept) (oldest (buffer p h).waiting)
  pub line : (l : ℕ) → list_any (is_of_line l) b.kept ≡ has_line l (buffer p h).waiting
  pub closed : list_any (is_before b.newest) b.kept ≡ has_closed (buffer p h).age (buffer p h).waiting
  pub none : (length b.kept == 0) ≡ is_empty (buffer p h).waiting
  pub bytes : (k : ℕ) (e : Pending) → slice_get (oldest_group b.kept) k ≡ Some e → HasBytesOf p h e
  pub over : (at : ℕ) (line : List ℕ) → length line ≡ LINE_BYTES → slice_index (overlaid (lines.line_of at) b.kept line) (at % LINE_BYTES) ≡ byte_or (newest_waiting p at h) at (slice_index line (at % LINE_BYTES))

-- the copy of a line has what memory had after so many turns
abbrev pub HasMemory : (ℕ → ℕ) → List Record → ℕ → Option (ℕ × LineData) → ℕ → Type 0
HasMemory image h l None turn = Unit {0}
HasMemory image h l (Some (stamp, d)) turn = (stamp ≡ turn) × ((at : ℕ) → lines.line_of at ≡ l → slice_index (bytes_of_line d) (at % LINE_BYTES) ≡ memory_byte image h turn at)

-- what a processor's banks are to the lines that it holds
pub record BanksAgree (image : ℕ → ℕ) (p : ℕ) (h : List Record) (k : LocalMemory) : Type 0 where
  pub lines : (l : ℕ) → is_held l (data_copies l k) ≡ held p l h
  pub code_lines_held : (l : ℕ) → is_held l k.code ≡ code_held p l h
  pub line_memory : (l : ℕ) → HasMemory image h l (get_of l (data_copies l k)) (stamp p l h)
  pub code_memory : (l : ℕ) → HasMemory image h l (get_of l k.code) (code_stamp p l h)
  pub even_lines : map line_of k.even ≡ copies p Even h
  pub odd_lines : map line_of k.odd ≡ copies p Odd h
  pub code_lines : map line_of k.code ≡ code_copies p h
  pub barrier : k.barrier ≡ barrier p h

-- what it did since its last Step
pub record SinceAgrees (p : ℕ) (h : List Record) (k : LocalMemory) : Type 0 where
  pub filled : k.since.filled ≡ since_step is_fill p h
  pub even : k.since.dropped_even ≡ since_step (is_drop_of Even) p h
  pub odd : k.since.dropped_odd ≡ since_step (is_drop_of Odd) p h
  pub code : k.since.dropped_code ≡ since_step (is_drop_of Code) p h
  pub polled : k.since.polled ≡ since_step is_poll_act p h
  pub ticked : k.since.ticked ≡ since_step is_tick p h

-- what the bus is to the history
pub record BusAgrees (image : ℕ → ℕ) (h : List Record) (cs : List BusCall) : Type 0 where
  pub count : calls.turns cs ≡ turns h
  pub pairs : (p : ℕ) (b : Bank) → calls.late p b cs ≡ late p b h
  pub block : (p : ℕ) → calls.register p cs ≡ lock p h
  pub requested : (p : ℕ) → calls.pending p cs ≡ is_signalled p h
  -- whatever bytes memory had at the start
  pub bytes : (first : ℕ → ℕ) (at : ℕ) → calls.memory first cs at ≡ memory_byte first h (turns h) at
