-- From virtual addresses to accesses: an address of the kernel segment is physical, any other is
-- translated by the page tables. Its page-table entry is kept in a translation buffer, or found by a walk
-- of three levels whose reads are accesses of the group.
use Rattle.std.specs.Prelude.{ℕ, ◌+◌, ◌*◌, ◌%◌, ◌^◌, ◌==◌, nat_lt, List, Option, Some, None, Result, Ok, Err, if◌then◌else◌}
use Rattle.axp_access.specs.declared.Wanted.{Wanted}
use Rattle.axp_base.specs.declared.parts.TheConstants.{QUADWORD_BYTES}
use Rattle.axp_image.specs.declared.limits.TheConstants.{PAGE_BYTES}
use Rattle.axp_pte.specs.Addresses.{page_of, split_of}
use Rattle.axp_pte.specs.Entries.{pte_of, pte_word}
use Rattle.axp_pte.specs.Protection.{rights_of, upper_of}
use Rattle.axp_pte.specs.declared.addresses.Parts.{Parts}
use Rattle.axp_pte.specs.declared.addresses.Where.{Where}
use Rattle.axp_pte.specs.declared.addresses.Where.TheVariants.{Direct, Mapped}
use Rattle.axp_pte.specs.declared.entries.Pte.{Pte}
use Rattle.axp_pte.specs.declared.faults.MmFault.{MmFault}
use Rattle.axp_pte.specs.declared.faults.Mode.{Mode}
use Rattle.axp_pte.specs.declared.faults.Mode.TheVariants.{Kernel}
use Rattle.axp_pte.specs.declared.faults.Way.{Way}
use Rattle.axp_pte.specs.declared.faults.Way.TheVariants as way
use Rattle.axp_regs.specs.States.{asn_of, ps_of, ptbr_of}
use Rattle.axp_regs.specs.declared.asks.Ask.{Ask}
use Rattle.axp_regs.specs.declared.asks.Kind.{Kind}
use Rattle.axp_regs.specs.declared.asks.Kind.TheVariants.{Fetch, Read, Locked}
use Rattle.axp_tb.specs.Buffers.{found, with_put}
use Rattle.axp_tb.specs.declared.entries.TbEntry.{TbEntry}
use Rattle.axp_cpu.specs.declared.cpu_states.CpuState.{CpuState}
use Rattle.axp_cpu.specs.declared.translation.Level.{Level}
use Rattle.axp_cpu.specs.declared.translation.Level.TheVariants as level
use Rattle.axp_cpu.specs.declared.translation.MappedAsk.{MappedAsk}
use Rattle.axp_cpu.specs.declared.translation.Origin.{Origin}
use Rattle.axp_cpu.specs.declared.translation.Origin.TheVariants.{Frame, Instruction}
use Rattle.axp_cpu.specs.declared.cpu_states.TheConstants.{BEYOND_MEMORY, FRAME_FAULT}
use Rattle.axp_cpu.specs.CpuStates.{halted_by, raising}
use Rattle.axp_cpu.specs.Plans.{Plan, End, Want}
use Rattle.axp_trap.specs.Status.{mode_of}
use Rattle.axp_trap.specs.declared.causes.Cause.TheVariants.{Mm}

-- what an access does with its page: a load-locked loads, a store-conditional stores
abbrev pub way_of : Kind → Way
way_of Fetch = way.Fetch
way_of Read = way.Load
way_of Locked = way.Load
way_of _ = way.Store

-- fetches have a translation buffer of their own
abbrev pub buffer_for : Way → CpuState → List TbEntry
buffer_for way.Fetch t = t.itb
buffer_for way.Load t = t.dtb
buffer_for way.Store t = t.dtb

-- with a page's entry kept for this address space
abbrev pub with_kept : Way → ℕ → Pte → CpuState → CpuState
with_kept way.Fetch page pte t = record t { itb = with_put t.itb page (asn_of t.state) pte }
with_kept way.Load page pte t = record t { dtb = with_put t.dtb page (asn_of t.state) pte }
with_kept way.Store page pte t = record t { dtb = with_put t.dtb page (asn_of t.state) pte }

-- an access at its physical address, and the read of a page-table entry
abbrev pub wanted_at : Ask → ℕ → Wanted
wanted_at ask address = record { kind = ask.kind; address = address; size = ask.size; value = ask.value }

abbrev pub entry_wanted : ℕ → Wanted
entry_wanted address = record { kind = Read; address = address; size = QUADWORD_BYTES; value = 0 }

-- the access at its physical address, which must lie in memory, else the processor halts; k goes on from the
-- table state then
abbrev pub physical_plan : ℕ → CpuState → Ask → ℕ → (CpuState → ℕ → Plan) → Plan
physical_plan size t ask address k =
    if nat_lt address size
    then Want t (wanted_at ask address) (k t)
    else End (halted_by BEYOND_MEMORY t)

-- the mode of an access: that of the processor for those of instructions, and kernel mode for those of frames
abbrev pub mode_in : Origin → CpuState → Mode
mode_in Instruction t = mode_of (ps_of t.state)
mode_in Frame t = Kernel

-- a fault of translation enters the operating system, but for one of a frame, which halts the processor
abbrev pub fault_in : Origin → Ask → MmFault → CpuState → CpuState
fault_in Instruction ask fault t = raising (Mm ask.address fault (way_of ask.kind)) t
fault_in Frame ask fault t = halted_by FRAME_FAULT t

abbrev pub fault_plan : CpuState → MappedAsk → MmFault → Plan
fault_plan t far fault = End (fault_in far.origin far.ask fault t)

-- a page's frame, or the fault that comes in its place
abbrev pub framed_by : CpuState → MappedAsk → Result ℕ MmFault → (ℕ → Plan) → Plan
framed_by t far (Ok frame) k = k frame
framed_by t far (Err fault) k = fault_plan t far fault

-- the access in the page of this frame
abbrev pub frame_plan : ℕ → CpuState → MappedAsk → (CpuState → ℕ → Plan) → ℕ → Plan
frame_plan size t far k frame = physical_plan size t far.ask (frame * PAGE_BYTES + far.parts.offset) k

-- an entry's frame, where the entry allows the access
abbrev pub frame_of : CpuState → MappedAsk → ℕ → Result ℕ MmFault
frame_of t far word = rights_of word (mode_in far.origin t) (way_of far.ask.kind)

-- with the entry of the access's page kept
abbrev pub with_page_kept : MappedAsk → ℕ → CpuState → CpuState
with_page_kept far word t = with_kept (way_of far.ask.kind) (page_of far.parts) (pte_of word) t

-- where the entry of this index lies in the table that begins at this page
abbrev pub entry_address : ℕ → ℕ → ℕ
entry_address table index = (table * PAGE_BYTES + QUADWORD_BYTES * index) % 2 ^ 64

-- the index of an address's entry in the table of a level
abbrev pub index_at : Level → Parts → ℕ
index_at level.First parts = parts.l1
index_at level.Second parts = parts.l2
index_at level.Third parts = parts.l3

-- the read of that entry
abbrev pub entry_plan : ℕ → CpuState → (ℕ → Plan) → ℕ → ℕ → Plan
entry_plan size t k index table =
    if nat_lt (entry_address table index) size
    then Want t (entry_wanted (entry_address table index)) k
    else End (halted_by BEYOND_MEMORY t)

-- what follows the entry of level 3: the access, with the entry kept
abbrev pub third_entry : ℕ → CpuState → MappedAsk → (CpuState → ℕ → Plan) → ℕ → Plan
third_entry size t far k word = framed_by t far (frame_of t far word) (frame_plan size (with_page_kept far word t) far k)

-- what follows the entries of levels 2 and 1: the entry of the next level, in the table that they lead to
abbrev pub second_entry : ℕ → CpuState → MappedAsk → (CpuState → ℕ → Plan) → ℕ → Plan
second_entry size t far k word = framed_by t far (upper_of word) (entry_plan size t (third_entry size t far k) (index_at level.Third far.parts))

abbrev pub first_entry : ℕ → CpuState → MappedAsk → (CpuState → ℕ → Plan) → ℕ → Plan
first_entry size t far k word = framed_by t far (upper_of word) (entry_plan size t (second_entry size t far k) (index_at level.Second far.parts))

-- the walk begins in the table that the page-table base names
abbrev pub walk_plan : ℕ → CpuState → MappedAsk → (CpuState → ℕ → Plan) → Plan
walk_plan size t far k = entry_plan size t (first_entry size t far k) (index_at level.First far.parts) (ptbr_of t.state)

-- a kept entry makes no walk
abbrev pub kept_plan : ℕ → CpuState → MappedAsk → (CpuState → ℕ → Plan) → Option Pte → Plan
kept_plan size t far k (Some pte) = framed_by t far (frame_of t far (pte_word pte)) (frame_plan size t far k)
kept_plan size t far k None = walk_plan size t far k

-- the entry that is kept of the access's page
abbrev pub entry_kept : CpuState → MappedAsk → Option Pte
entry_kept t far = found (buffer_for (way_of far.ask.kind) t) (page_of far.parts) (asn_of t.state)

-- an access to an address that is translated
abbrev pub mapped_plan : ℕ → CpuState → MappedAsk → (CpuState → ℕ → Plan) → Plan
mapped_plan size t far k = kept_plan size t far k (entry_kept t far)

-- an access by where its address leads
abbrev pub split_plan : ℕ → CpuState → Origin → Ask → (CpuState → ℕ → Plan) → Result Where MmFault → Plan
split_plan size t origin ask k (Ok (Direct address)) = physical_plan size t ask address k
split_plan size t origin ask k (Ok (Mapped parts)) = mapped_plan size t (record { ask = ask; origin = origin; parts = parts }) k
split_plan size t origin ask k (Err fault) = End (fault_in origin ask fault t)

-- an access to a virtual address, in a memory of this size
abbrev pub reach_plan : ℕ → CpuState → Origin → Ask → (CpuState → ℕ → Plan) → Plan
reach_plan size t origin ask k = split_plan size t origin ask k (split_of ask.address (mode_in origin t))

-- an access of a frame, which must be a multiple of its size, else the processor halts
abbrev pub frame_access : ℕ → CpuState → Ask → (CpuState → ℕ → Plan) → Plan
frame_access size t ask k = if ask.address % QUADWORD_BYTES == 0 then reach_plan size t Frame ask k else End (halted_by FRAME_FAULT t)

-- an access of an entry or of a PAL call: to a physical address, or of a frame
abbrev pub ask_plan : ℕ → CpuState → Ask → (CpuState → ℕ → Plan) → Plan
ask_plan size t ask k = if ask.direct then physical_plan size t ask ask.address k else frame_access size t ask k

-- the next access of several, if there is one
abbrev pub next_plan_of : ℕ → CpuState → Option Ask → (CpuState → ℕ → Plan) → Plan → Plan
next_plan_of size t (Some ask) k end = ask_plan size t ask k
next_plan_of size t None k end = end
