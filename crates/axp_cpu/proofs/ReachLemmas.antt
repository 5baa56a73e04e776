-- What holds of every plan by which an access comes to its physical address: at once, by a translation that
-- is kept, or by a walk.
use Rattle.std.proofs.Common.{◌≡◌, ℕ, ◌+◌, ◌*◌, ◌%◌, ◌^◌, ◌<◌, Bool, true, false, cond, not, eqb, ltb, Option, Some, None, arith, refl, inl, inr}
use Rattle.std.proofs.lemmas.Bool.{ltb-true, eqb-true}
use Rattle.std.specs.Prelude.{Result, Ok, Err}
use Rattle.axp_base.specs.Masks.{IsSize}
use Rattle.axp_base.specs.declared.parts.TheConstants.{QUADWORD_BYTES}
use Rattle.axp_image.specs.declared.limits.TheConstants.{PAGE_BYTES}
use Rattle.axp_pte.specs.Addresses.{direct_of, is_extended, is_kseg, parts_of, physical, split_of}
use Rattle.axp_pte.specs.Entries.{pte_of, pte_word}
use Rattle.axp_pte.specs.Protection.{upper_of}
use Rattle.axp_pte.specs.declared.addresses.Parts.{Parts}
use Rattle.axp_pte.specs.declared.addresses.Where.{Where}
use Rattle.axp_pte.specs.declared.addresses.Where.TheVariants.{Direct, Mapped}
use Rattle.axp_pte.specs.declared.entries.Pte.{Pte}
use Rattle.axp_pte.specs.declared.faults.MmFault.{MmFault}
use Rattle.axp_pte.specs.declared.faults.MmFault.TheVariants.{Acv}
use Rattle.axp_pte.specs.declared.faults.Mode.{Mode}
use Rattle.axp_pte.specs.declared.faults.Mode.TheVariants.{Kernel, User}
use Rattle.axp_pte.specs.declared.faults.Way.{Way}
use Rattle.axp_pte.specs.declared.faults.Way.TheVariants as way
use Rattle.axp_regs.specs.States.{ptbr_of}
use Rattle.axp_regs.specs.declared.asks.Ask.{Ask}
use Rattle.axp_cpu.specs.declared.cpu_states.CpuState.{CpuState}
use Rattle.axp_cpu.specs.declared.translation.Level.TheVariants as level
use Rattle.axp_cpu.specs.declared.translation.MappedAsk.{MappedAsk}
use Rattle.axp_cpu.specs.declared.cpu_states.TheConstants.{BEYOND_MEMORY, FRAME_FAULT}
use Rattle.axp_cpu.specs.declared.translation.Origin.{Origin}
use Rattle.axp_cpu.specs.declared.translation.Origin.TheVariants.{Frame}
use Rattle.axp_cpu.specs.CpuStates.{halted_by}
use Rattle.axp_cpu.specs.Plans.{Plan, End, Want}
use Rattle.axp_cpu.specs.Translation.{ask_plan, entry_address, entry_kept, entry_plan, entry_wanted, fault_in, first_entry, frame_access, frame_of, frame_plan, framed_by, index_at, kept_plan, mode_in, physical_plan, reach_plan, second_entry, split_plan, third_entry, wanted_at, way_of, with_kept, with_page_kept}

-- nothing changed but the translations that are kept
pub record HasKept (t u : CpuState) : Type 0 where
  pub state : u.state ≡ t.state
  pub halted : u.halted ≡ t.halted
  pub pending : u.pending ≡ t.pending

pub itself : (t : CpuState) → HasKept t t
itself t = record { state = refl; halted = refl; pending = refl }

-- a part of the virtual address stays a part of the physical one
abbrev pub IsAlignedAs : ℕ → ℕ → Type 0
IsAlignedAs far near = (n : ℕ) → IsSize n → far % n ≡ 0 → near % n ≡ 0

-- what a property of plans must have: it holds where a fault or the end of memory comes in place of the access,
-- of the read of an entry where it holds of all that follows, and of the access itself
pub record Carries (P : Plan → Type 0) (size : ℕ) (t : CpuState) (origin : Origin) (ask : Ask) (k : CpuState → ℕ → Plan) : Type 0 where
  pub fault : (fault : MmFault) → P (End (fault_in origin ask fault t))
  pub beyond : (u : CpuState) → HasKept t u → P (End (halted_by BEYOND_MEMORY u))
  pub entry : (address : ℕ) → address < size → address % 8 ≡ 0 → (next : ℕ → Plan) → ((v : ℕ) → P (next v)) → P (Want t (entry_wanted address) next)
  pub access : (u : CpuState) → HasKept t u → (address : ℕ) → address < size → IsAlignedAs ask.address address → P (Want u (wanted_at ask address) (k u))

kept_stays : (w : Way) (page : ℕ) (pte : Pte) (t : CpuState) → HasKept t (with_kept w page pte t)
kept_stays way.Fetch page pte t = record { state = refl; halted = refl; pending = refl }
kept_stays way.Load page pte t = record { state = refl; halted = refl; pending = refl }
kept_stays way.Store page pte t = record { state = refl; halted = refl; pending = refl }

-- where an address leads
direct_by : (extended kseg : Bool) (va : ℕ) (mode : Mode) (a : ℕ) → cond (not extended) (Err Acv) (cond kseg (direct_of mode va) (Ok (Mapped (parts_of va)))) ≡ Ok (Direct a) → a ≡ physical va
direct_by true true va User a e = cc
direct_by true true va Kernel a e = cc
direct_by true false va mode a e = cc
direct_by false kseg va mode a e = cc

pub direct_is : (va : ℕ) (mode : Mode) (a : ℕ) → split_of va mode ≡ Ok (Direct a) → a ≡ physical va
unfolding split_of
direct_is va mode a e = direct_by (is_extended va) (is_kseg va) va mode a e

mapped_by : (extended kseg : Bool) (va : ℕ) (mode : Mode) (parts : Parts) → cond (not extended) (Err Acv) (cond kseg (direct_of mode va) (Ok (Mapped (parts_of va)))) ≡ Ok (Mapped parts) → parts ≡ parts_of va
mapped_by true true va User parts e = cc
mapped_by true true va Kernel parts e = cc
mapped_by true false va mode parts e = cc
mapped_by false kseg va mode parts e = cc

pub mapped_is : (va : ℕ) (mode : Mode) (parts : Parts) → split_of va mode ≡ Ok (Mapped parts) → parts ≡ parts_of va
unfolding split_of
mapped_is va mode parts e = mapped_by (is_extended va) (is_kseg va) va mode parts e

-- a physical address is as aligned as its virtual one
low_aligned : (a n : ℕ) → IsSize n → a % n ≡ 0 → physical a % n ≡ 0
low_aligned a n (inl e) h = rw e (omega arith)
low_aligned a n (inr (inl e)) h = let k = rw e at h in rw e (omega arith)
low_aligned a n (inr (inr (inl e))) h = let k = rw e at h in rw e (omega arith)
low_aligned a n (inr (inr (inr e))) h = let k = rw e at h in rw e (omega arith)

framed_aligned : (frame a n : ℕ) → IsSize n → a % n ≡ 0 → (frame * PAGE_BYTES + a % 2 ^ 13) % n ≡ 0
framed_aligned frame a n (inl e) h = rw e (omega arith)
framed_aligned frame a n (inr (inl e)) h = let k = rw e at h in rw e (omega arith)
framed_aligned frame a n (inr (inr (inl e))) h = let k = rw e at h in rw e (omega arith)
framed_aligned frame a n (inr (inr (inr e))) h = let k = rw e at h in rw e (omega arith)

pub entry_aligned : (table index : ℕ) → entry_address table index % 8 ≡ 0
entry_aligned table index = low (table * PAGE_BYTES + QUADWORD_BYTES * index) (whole table index) where
  whole : (m n : ℕ) → (m * PAGE_BYTES + QUADWORD_BYTES * n) % 8 ≡ 0
  whole m n = omega arith

  low : (n : ℕ) → n % 8 ≡ 0 → n % 2 ^ 64 % 8 ≡ 0
  low n e = omega arith

-- the steps to the access, each by what it may come to
placed_by : (P : Plan → Type 0) (size : ℕ) (t u : CpuState) (origin : Origin) (ask : Ask) (k : CpuState → ℕ → Plan) (address : ℕ) (below : Bool) → ltb address size ≡ below → Carries P size t origin ask k → HasKept t u → IsAlignedAs ask.address address
    → P (cond below (Want u (wanted_at ask address) (k u)) (End (halted_by BEYOND_MEMORY u)))
placed_by P size t u origin ask k address true is c kept aligned = c.access u kept address (ltb-true address size is) aligned
placed_by P size t u origin ask k address false is c kept aligned = c.beyond u kept

placed_carries : (P : Plan → Type 0) (size : ℕ) (t u : CpuState) (origin : Origin) (ask : Ask) (k : CpuState → ℕ → Plan) (address : ℕ) → Carries P size t origin ask k → HasKept t u → IsAlignedAs ask.address address → P (physical_plan size u ask address k)
placed_carries P size t u origin ask k address c kept aligned = placed_by P size t u origin ask k address (ltb address size) refl c kept aligned

entry_by : (P : Plan → Type 0) (size : ℕ) (t : CpuState) (origin : Origin) (ask : Ask) (k : CpuState → ℕ → Plan) (next : ℕ → Plan) (index table : ℕ) (below : Bool) → ltb (entry_address table index) size ≡ below → Carries P size t origin ask k → ((v : ℕ) → P (next v))
    → P (cond below (Want t (entry_wanted (entry_address table index)) next) (End (halted_by BEYOND_MEMORY t)))
entry_by P size t origin ask k next index table true is c follows = c.entry (entry_address table index) (ltb-true (entry_address table index) size is) (entry_aligned table index) next follows
entry_by P size t origin ask k next index table false is c follows = c.beyond t (itself t)

entry_carries : (P : Plan → Type 0) (size : ℕ) (t : CpuState) (origin : Origin) (ask : Ask) (k : CpuState → ℕ → Plan) (next : ℕ → Plan) (index table : ℕ) → Carries P size t origin ask k → ((v : ℕ) → P (next v)) → P (entry_plan size t next index table)
entry_carries P size t origin ask k next index table c follows = entry_by P size t origin ask k next index table (ltb (entry_address table index) size) refl c follows

framed_carries : (P : Plan → Type 0) (t : CpuState) (far : MappedAsk) (o : Result ℕ MmFault) (next : ℕ → Plan) → ((fault : MmFault) → P (End (fault_in far.origin far.ask fault t))) → ((frame : ℕ) → P (next frame)) → P (framed_by t far o next)
framed_carries P t far (Ok frame) next fault follows = follows frame
framed_carries P t far (Err f) next fault follows = fault f

-- the walk, for an address of these parts
pub third_carries : (P : Plan → Type 0) (size : ℕ) (t : CpuState) (far : MappedAsk) (k : CpuState → ℕ → Plan) → far.parts ≡ parts_of far.ask.address → Carries P size t far.origin far.ask k → (v : ℕ) → P (third_entry size t far k v)
third_carries P size t far k is c v =
    framed_carries P t far (frame_of t far v) (frame_plan size (with_page_kept far v t) far k) c.fault (λ frame.
    placed_carries P size t (with_page_kept far v t) far.origin far.ask k (frame * PAGE_BYTES + far.parts.offset) c (kept_stays (way_of far.ask.kind) _ (pte_of v) t)
    (rw is (framed_aligned frame far.ask.address)))

pub second_carries : (P : Plan → Type 0) (size : ℕ) (t : CpuState) (far : MappedAsk) (k : CpuState → ℕ → Plan) → far.parts ≡ parts_of far.ask.address → Carries P size t far.origin far.ask k → (v : ℕ) → P (second_entry size t far k v)
second_carries P size t far k is c v =
    framed_carries P t far (upper_of v) _ c.fault (λ table. entry_carries P size t far.origin far.ask k (third_entry size t far k) (index_at level.Third far.parts) table c (third_carries P size t far k is c))

pub first_carries : (P : Plan → Type 0) (size : ℕ) (t : CpuState) (far : MappedAsk) (k : CpuState → ℕ → Plan) → far.parts ≡ parts_of far.ask.address → Carries P size t far.origin far.ask k → (v : ℕ) → P (first_entry size t far k v)
first_carries P size t far k is c v =
    framed_carries P t far (upper_of v) _ c.fault (λ table. entry_carries P size t far.origin far.ask k (second_entry size t far k) (index_at level.Second far.parts) table c (second_carries P size t far k is c))

kept_carries : (P : Plan → Type 0) (size : ℕ) (t : CpuState) (far : MappedAsk) (k : CpuState → ℕ → Plan) (o : Option Pte) → far.parts ≡ parts_of far.ask.address → Carries P size t far.origin far.ask k → P (kept_plan size t far k o)
kept_carries P size t far k (Some pte) is c =
    framed_carries P t far (frame_of t far (pte_word pte)) (frame_plan size t far k) c.fault (λ frame.
    placed_carries P size t t far.origin far.ask k (frame * PAGE_BYTES + far.parts.offset) c (itself t) (rw is (framed_aligned frame far.ask.address)))
kept_carries P size t far k None is c =
    entry_carries P size t far.origin far.ask k (first_entry size t far k) (index_at level.First far.parts) (ptbr_of t.state) c (first_carries P size t far k is c)

split_carries : (P : Plan → Type 0) (size : ℕ) (t : CpuState) (origin : Origin) (ask : Ask) (k : CpuState → ℕ → Plan) (o : Result Where MmFault) → split_of ask.address (mode_in origin t) ≡ o → Carries P size t origin ask k → P (split_plan size t origin ask k o)
split_carries P size t origin ask k (Ok (Direct a)) is c =
    placed_carries P size t t origin ask k a c (itself t) (λ n sized h. rw (direct_is ask.address (mode_in origin t) a is) (low_aligned ask.address n sized h))
split_carries P size t origin ask k (Ok (Mapped parts)) is c =
    let far : MappedAsk = record { ask = ask; origin = origin; parts = parts } in
    kept_carries P size t far k (entry_kept t far) (mapped_is ask.address (mode_in origin t) parts is) c
split_carries P size t origin ask k (Err fault) is c = c.fault fault

pub reach_carries : (P : Plan → Type 0) (size : ℕ) (t : CpuState) (origin : Origin) (ask : Ask) (k : CpuState → ℕ → Plan) → Carries P size t origin ask k → P (reach_plan size t origin ask k)
reach_carries P size t origin ask k c = split_carries P size t origin ask k (split_of ask.address (mode_in origin t)) refl c

-- a plan behind a test
pub either : (P : Plan → Type 0) (tested : Bool) (p q : Plan) → (tested ≡ true → P p) → (tested ≡ false → P q) → P (cond tested p q)
either P true p q left right = left refl
either P false p q left right = right refl

-- an access of a frame, whose address is a multiple of a quadword's bytes, and an access of an entry or a call
frame_carries : (P : Plan → Type 0) (size : ℕ) (t : CpuState) (ask : Ask) (k : CpuState → ℕ → Plan) → P (End (halted_by FRAME_FAULT t)) → (ask.address % QUADWORD_BYTES ≡ 0 → Carries P size t Frame ask k) → P (frame_access size t ask k)
frame_carries P size t ask k halts c =
    either P (eqb (ask.address % QUADWORD_BYTES) 0) (reach_plan size t Frame ask k) (End (halted_by FRAME_FAULT t)) (λ passed. reach_carries P size t Frame ask k (c (eqb-true (ask.address % QUADWORD_BYTES) 0 passed))) (λ _. halts)

-- what a property must have for the accesses of entries and calls
pub record CarriesAsk (P : Plan → Type 0) (size : ℕ) (t : CpuState) (ask : Ask) (k : CpuState → ℕ → Plan) : Type 0 where
  pub halts : P (End (halted_by FRAME_FAULT t))
  pub beyond : P (End (halted_by BEYOND_MEMORY t))
  pub direct : ask.direct ≡ true → ask.address < size → P (Want t (wanted_at ask ask.address) (k t))
  pub framed : ask.direct ≡ false → ask.address % QUADWORD_BYTES ≡ 0 → Carries P size t Frame ask k

directly_by : (P : Plan → Type 0) (size : ℕ) (t : CpuState) (ask : Ask) (k : CpuState → ℕ → Plan) (below : Bool) → ltb ask.address size ≡ below → ask.direct ≡ true → CarriesAsk P size t ask k → P (cond below (Want t (wanted_at ask ask.address) (k t)) (End (halted_by BEYOND_MEMORY t)))
directly_by P size t ask k true is direct c = c.direct direct (ltb-true ask.address size is)
directly_by P size t ask k false is direct c = c.beyond

pub ask_carries : (P : Plan → Type 0) (size : ℕ) (t : CpuState) (ask : Ask) (k : CpuState → ℕ → Plan) → CarriesAsk P size t ask k → P (ask_plan size t ask k)
ask_carries P size t ask k c =
    either P ask.direct (physical_plan size t ask ask.address k) (frame_access size t ask k)
    (λ direct. directly_by P size t ask k (ltb ask.address size) refl direct c)
    (λ framed. frame_carries P size t ask k c.halts (c.framed framed))
