-- The process control block, and what swpctx swaps to and from it. A block is named by its physical
-- address.
use Rattle.std.specs.Prelude.{ℕ, ◌+◌, ◌-◌, ◌*◌, ◌/◌, ◌%◌, ◌^◌, List, ◌∷◌, [], true, slice_index}
use Rattle.axp_base.specs.Masks.{has_bit}
use Rattle.axp_base.specs.Numbers.{add}
use Rattle.axp_base.specs.declared.parts.TheConstants.{QUADWORD_BYTES}
use Rattle.axp_regs.specs.declared.asks.Ask.{Ask}
use Rattle.axp_regs.specs.declared.asks.Kind.TheVariants.{Read, Write}
use Rattle.axp_regs.specs.declared.states.State.{State}
use Rattle.axp_regs.specs.States.{register, with_register, usp_of, with_usp, with_ptbr, pcbb_of, with_pcbb, with_asn, offset_of, with_offset, unique_of, with_unique, with_fen, fetched_of}
use Rattle.axp_trap.specs.declared.registers.TheConstants.{A0, SP, V0}
use Rattle.axp_pal.specs.declared.contexts.TheConstants.{BLOCK_BYTES, CONTEXT_WRITES, COUNTER_BYTES, SP_PLACE, USP_PLACE, PTBR_PLACE, COUNTER_PLACE, UNIQUE_PLACE, FEN_PLACE}

-- the block that a number leads to: its seven low bits are cleared
abbrev pub block_of : ℕ → ℕ
block_of address = address / BLOCK_BYTES * BLOCK_BYTES

-- the blocks that the old context goes to, and that the new one comes from
abbrev pub old_block : State → ℕ
old_block s = pcbb_of s

abbrev pub new_block : State → ℕ
new_block s = block_of (register s A0)

-- the counter, as RPCC gives it
abbrev pub counter_of : State → ℕ
counter_of s = (fetched_of s + offset_of s) % 2 ^ 32

abbrev pub written_to : ℕ → ℕ → ℕ → ℕ → Ask
written_to block place size value = record { kind = Write; address = add block place; direct = true; size = size; value = value }

abbrev pub read_from : ℕ → ℕ → Ask
read_from block place = record { kind = Read; address = add block place; direct = true; size = QUADWORD_BYTES; value = 0 }

abbrev pub context_asks : State → List Ask
context_asks s =
    written_to (old_block s) SP_PLACE QUADWORD_BYTES (register s SP)
    ∷ written_to (old_block s) USP_PLACE QUADWORD_BYTES (usp_of s)
    ∷ written_to (old_block s) COUNTER_PLACE COUNTER_BYTES (counter_of s)
    ∷ written_to (old_block s) UNIQUE_PLACE QUADWORD_BYTES (unique_of s)
    ∷ read_from (new_block s) SP_PLACE
    ∷ read_from (new_block s) USP_PLACE
    ∷ read_from (new_block s) PTBR_PLACE
    ∷ read_from (new_block s) COUNTER_PLACE
    ∷ read_from (new_block s) UNIQUE_PLACE
    ∷ read_from (new_block s) FEN_PLACE
    ∷ []

-- the quadword of the new block at a place: its reads come after the writes
abbrev pub quadword : List ℕ → ℕ → ℕ
quadword values n = slice_index values (CONTEXT_WRITES + n)

-- the offset with which the counter goes on from the low half of a quadword
abbrev pub offset_for : ℕ → ℕ → ℕ
offset_for word fetched = (word % 2 ^ 32 + (2 ^ 32 - fetched)) % 2 ^ 32

-- the pointers to the block, the stacks and the page table, and then the rest of the context
abbrev pub with_pointers : List ℕ → State → State
with_pointers values s = with_ptbr (with_usp (with_register (with_pcbb (with_register s V0 (old_block s)) (new_block s)) SP (quadword values 0)) (quadword values 1)) (quadword values 2)

abbrev pub switched : State → List ℕ → State
switched s values =
    with_fen (with_unique (with_offset (with_asn (with_pointers values s) (quadword values 3 / 2 ^ 32)) (offset_for (quadword values 3) (fetched_of s))) (quadword values 4)) (has_bit (quadword values 5) 0)
