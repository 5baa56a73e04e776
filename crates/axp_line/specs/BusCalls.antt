-- The history of the bus: the list of the calls that processors made, the newest first, and what each
-- left behind.
use Rattle.std.specs.Prelude.{ℕ, zero, suc, ◌+◌, ◌*◌, ◌/◌, ◌%◌, ◌^◌, ◌==◌, Bool, true, false, not, ◌&&◌, ◌||◌, if◌then◌else◌, List, [], ◌∷◌, ◌++◌, replicate, slice_index, Option, Some, None}
use Rattle.axp_base.specs.Cpus.{cpu_number}
use Rattle.axp_base.specs.Lines.{line_number, line_of, line_at, same_bank}
use Rattle.axp_base.specs.Masks.{has_bit, mask_bits, span_of}
use Rattle.axp_base.specs.Parts.{with_part}
use Rattle.axp_base.specs.declared.lines.Bank.{Bank}
use Rattle.axp_base.specs.declared.lines.Line.{Line}
use Rattle.axp_base.specs.declared.lines.TheConstants.{LINE_BYTES}
use Rattle.axp_base.specs.declared.parts.TheConstants.{QUADWORD_BYTES}
use Rattle.axp_call.specs.declared.calls.Call.{Call}
use Rattle.axp_base.specs.LatePairs.{others, late_by_other}
use Rattle.axp_line.specs.Lines.{bytes_of_line}
use Rattle.axp_line.specs.declared.messages.Reply.{Reply}
use Rattle.axp_line.specs.declared.messages.Reply.TheVariants as reply
use Rattle.axp_line.specs.declared.messages.Request.{Request}
use Rattle.axp_line.specs.declared.messages.Request.TheVariants as request
use Rattle.axp_base.specs.Blocks.{block_of, lock_by_other}

-- a call of the bus
abbrev pub BusCall : Type 0
BusCall = Call Request Reply

-- bytes of one line that a turn writes to memory
pub record Written : Type 0 where
  pub line : Line
  pub bits : ℕ
  pub bytes : List ℕ

-- a store's bytes, as they lie in their line
abbrev pub stored_bytes : ℕ → ℕ → ℕ → List ℕ
stored_bytes address size value = with_part (replicate LINE_BYTES 0) (address % LINE_BYTES) size value

-- what a request writes where it is answered Stored
abbrev pub write_asked : Request → Option Written
write_asked (request.Drain line mask bytes) = Some (record { line = line; bits = mask_bits mask; bytes = bytes_of_line bytes })
write_asked (request.Conditional address size value armed) = Some (record { line = line_at address; bits = span_of address size; bytes = stored_bytes address size value })
write_asked _ = None

-- what a call wrote
abbrev pub write_made : Request → Reply → Option Written
write_made q (reply.Stored turn bytes) = write_asked q
write_made q _ = None

abbrev pub line_written : Option Written → Option Line
line_written None = None
line_written (Some w) = Some w.line

-- a turn writes the byte at an address, one of the n bytes from an address on
abbrev pub writes_byte : ℕ → Option Written → Bool
writes_byte at None = false
writes_byte at (Some w) = (line_of at == line_number w.line) && has_bit w.bits (at % LINE_BYTES)

abbrev pub writes_bytes : ℕ → ℕ → Option Written → Bool
writes_bytes at zero w = false
writes_bytes at (suc n) w = writes_bytes at n w || writes_byte (at + n) w

-- memory, a byte at each address, after a turn
abbrev pub overwritten : Option Written → (ℕ → ℕ) → ℕ → ℕ
overwritten None memory at = memory at
overwritten (Some w) memory at =
    if (line_of at == line_number w.line) && has_bit w.bits (at % LINE_BYTES) then slice_index w.bytes (at % LINE_BYTES) else memory at

-- memory after the turns of the calls, in order: first it is the image's
abbrev pub memory : (ℕ → ℕ) → List BusCall → ℕ → ℕ
memory image [] at = image at
memory image (c ∷ cs) at = overwritten (write_made c.ask c.answer) (memory image cs) at

-- turns are the calls answered Stored or Signalled
abbrev pub is_turn : Reply → Bool
is_turn (reply.Stored turn bytes) = true
is_turn (reply.Signalled turn) = true
is_turn _ = false

abbrev pub turns : List BusCall → ℕ
turns [] = 0
turns (c ∷ cs) = if is_turn c.answer then turns cs + 1 else turns cs

-- an own barrier delivers all that is late, a Take answered Late the first of its bank
abbrev pub late_by_own : Bank → Request → Reply → List (Line × ℕ) → List (Line × ℕ)
late_by_own b (request.Barrier held) answer pairs = []
late_by_own b (request.CodeBarrier held) answer pairs = []
late_by_own b (request.Take bank) (reply.Late line turn) pairs = if same_bank b bank then others pairs else pairs
late_by_own b _ _ pairs = pairs

-- the pairs that are late for processor p and data bank b, in turn order
abbrev pub late : ℕ → Bank → List BusCall → List (Line × ℕ)
late p b [] = []
late p b (c ∷ cs) =
    if cpu_number c.cpu == p
    then late_by_own b c.ask c.answer (late p b cs)
    else late_by_other b (line_written (write_made c.ask c.answer)) (turns cs + 1) (late p b cs)

-- an own load-locked locks its block, an own store-conditional unlocks
abbrev pub lock_by_own : Request → Option ℕ → Option ℕ
lock_by_own (request.Locked address) block = Some (block_of address)
lock_by_own (request.Conditional address size value armed) block = None
lock_by_own _ block = block

-- the block that processor p has locked
abbrev pub register : ℕ → List BusCall → Option ℕ
register p [] = None
register p (c ∷ cs) =
    if cpu_number c.cpu == p
    then lock_by_own c.ask (register p cs)
    else lock_by_other (line_written (write_made c.ask c.answer)) (register p cs)

-- a signal to processor p
abbrev pub signals : ℕ → Request → Bool
signals p (request.Signal target) = cpu_number target == p
signals p _ = false

-- a Poll by which the processor takes the interrupt
abbrev pub takes_interrupt : Request → Bool
takes_interrupt (request.Poll below) = below
takes_interrupt _ = false

-- a signal to processor p came since its last such Poll
abbrev pub pending : ℕ → List BusCall → Bool
pending p [] = false
pending p (c ∷ cs) =
    if signals p c.ask then true
    else if (cpu_number c.cpu == p) && takes_interrupt c.ask then false
    else pending p cs

-- the bytes sent to the console, in order
abbrev pub printed_by : Request → List ℕ
printed_by (request.Console byte) = byte ∷ []
printed_by _ = []

abbrev pub console : List BusCall → List ℕ
console [] = []
console (c ∷ cs) = console cs ++ printed_by c.ask

-- a turn writes a byte of the aligned quadword of this number: the quadword is in its line, and one of
-- its bits there is set
abbrev pub reaches_quadword : ℕ → Option Written → Bool
reaches_quadword q None = false
reaches_quadword q (Some w) =
    (line_of (q * QUADWORD_BYTES) == line_number w.line)
    && not (w.bits / 2 ^ (q * QUADWORD_BYTES % LINE_BYTES) % 2 ^ QUADWORD_BYTES == 0)

-- some turn did
abbrev pub is_touched : ℕ → List BusCall → Bool
is_touched q [] = false
is_touched q (c ∷ cs) = reaches_quadword q (write_made c.ask c.answer) || is_touched q cs
