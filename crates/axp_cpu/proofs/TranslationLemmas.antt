-- What a walk reads, what allows an access, and that user mode does not reach the kernel segment.
use Rattle.std.proofs.Common.{◌≡◌, ℕ, ◌+◌, ◌*◌, ◌⊎◌, inl, inr, Bool, true, false, cond, not, ltb, [], ◌∷◌, None, IfSome, refl, sym, ap, subst}
use Rattle.std.specs.Prelude.{Result, Ok, Err}
use Rattle.axp_access.specs.declared.Wanted.{Wanted}
use Rattle.axp_base.specs.Masks.{has_bit}
use Rattle.axp_image.specs.declared.limits.TheConstants.{PAGE_BYTES}
use Rattle.axp_pte.specs.Addresses.{direct_of, is_extended, is_kseg, parts_of, split_of}
use Rattle.axp_pte.specs.Entries.{is_valid, pfn_of}
use Rattle.axp_pte.specs.Protection.{allows, fault_bit, fault_of, rights_of, upper_of}
use Rattle.axp_pte.specs.declared.addresses.Where.TheVariants.{Mapped}
use Rattle.axp_pte.specs.declared.faults.MmFault.{MmFault}
use Rattle.axp_pte.specs.declared.faults.MmFault.TheVariants.{Acv, Tnv}
use Rattle.axp_pte.specs.declared.faults.Mode.{Mode}
use Rattle.axp_pte.specs.declared.faults.Mode.TheVariants.{User}
use Rattle.axp_regs.specs.States.{ps_of, ptbr_of}
use Rattle.axp_regs.specs.declared.asks.Ask.{Ask}
use Rattle.axp_trap.specs.Status.{mode_of}
use Rattle.axp_cpu.specs.declared.cpu_states.CpuState.{CpuState}
use Rattle.axp_cpu.specs.declared.translation.MappedAsk.{MappedAsk}
use Rattle.axp_cpu.specs.declared.translation.Origin.TheVariants.{Instruction}
use Rattle.axp_cpu.specs.Plans.{Plan, End, Want, along, given}
use Rattle.axp_cpu.specs.Seats.{wanted_by}
use Rattle.axp_cpu.specs.Translation.{entry_address, entry_plan, entry_wanted, first_entry, frame_of, frame_plan, framed_by, mode_in, reach_plan, second_entry, split_plan, third_entry, walk_plan, wanted_at, way_of, with_page_kept}

-- the plan is an end: by a fault, or beyond memory
record IsEnded (p : Plan) : Type 0 where
  table : CpuState
  is : p ≡ End table

-- a plan is this one, or is an end
abbrev LeadsTo : Plan → Plan → Type 0
LeadsTo p q = (p ≡ q) ⊎ IsEnded p

-- an end stays one, whatever value comes
ended_given : (v : ℕ) (p : Plan) → IsEnded p → IsEnded (given v p)
ended_given v p e = record { table = e.table; is = ap (given v) e.is }

-- an access to memory wants this, if it is wanted at all
wanted_if : (b : Bool) (t u : CpuState) (w : Wanted) (k : ℕ → Plan) → IfSome (wanted_by (cond b (Want t w k) (End u))) (λ x. x ≡ w)
wanted_if true t u w k = refl
wanted_if false t u w k = tt

-- the entry that is read, if there is one to be read
entry_read : (o : Result ℕ MmFault) (frame size : ℕ) (t : CpuState) (far : MappedAsk) (next : ℕ → Plan) (index : ℕ) → ((table : ℕ) → o ≡ Ok table → table ≡ frame)
    → IfSome (wanted_by (framed_by t far o (entry_plan size t next index))) (λ x. x ≡ entry_wanted (entry_address frame index))
entry_read (Ok table) frame size t far next index is =
    rw (sym (is table refl)) (wanted_if (ltb (entry_address table index) size) t _ (entry_wanted (entry_address table index)) next)
entry_read (Err fault) frame size t far next index is = tt

-- the access that is wanted in a frame
framed_wants : (o : Result ℕ MmFault) (frame size : ℕ) (t u : CpuState) (far : MappedAsk) (k : CpuState → ℕ → Plan) → ((found : ℕ) → o ≡ Ok found → found ≡ frame)
    → IfSome (wanted_by (framed_by t far o (frame_plan size u far k))) (λ x. x ≡ wanted_at far.ask (frame * PAGE_BYTES + far.parts.offset))
framed_wants (Ok found) frame size t u far k is =
    rw (sym (is found refl)) (wanted_if (ltb (found * PAGE_BYTES + far.parts.offset) size) u _ (wanted_at far.ask (found * PAGE_BYTES + far.parts.offset)) (k u))
framed_wants (Err fault) frame size t u far k is = tt

-- the table that an entry of the first two levels leads to
upper_by : (valid : Bool) (word table : ℕ) → cond (not valid) (Err Tnv) (Ok (pfn_of word)) ≡ Ok table → table ≡ pfn_of word
upper_by true word table e = cc
upper_by false word table e = cc

upper_is : (word table : ℕ) → upper_of word ≡ Ok table → table ≡ pfn_of word
unfolding upper_of
upper_is word table e = upper_by (is_valid word) word table e

-- what allows an access, and the page that an entry of level 3 leads to
rights_by : (allowed valid faulted : Bool) (fault : MmFault) (word frame : ℕ) → cond (not allowed) (Err Acv) (cond (not valid) (Err Tnv) (cond faulted (Err fault) (Ok (pfn_of word)))) ≡ Ok frame
    → (allowed ≡ true) × (valid ≡ true) × (faulted ≡ false) × (frame ≡ pfn_of word)
rights_by true true false fault word frame e = let is : frame ≡ pfn_of word = cc in (refl, refl, refl, is)
rights_by true true true fault word frame e = cc
rights_by true false faulted fault word frame e = cc
rights_by false valid faulted fault word frame e = cc

pub frame_is : (t : CpuState) (far : MappedAsk) (word frame : ℕ) → frame_of t far word ≡ Ok frame
    → (allows word (mode_in far.origin t) (way_of far.ask.kind) ≡ true) × (is_valid word ≡ true) × (has_bit word (fault_bit (way_of far.ask.kind)) ≡ false) × (frame ≡ pfn_of word)
unfolding rights_of
frame_is t far word frame e =
    rights_by (allows word (mode_in far.origin t) (way_of far.ask.kind)) (is_valid word) (has_bit word (fault_bit (way_of far.ask.kind))) (fault_of (way_of far.ask.kind)) word frame e

-- a value leads on by what is wanted, or stands behind an end
given_if : (b : Bool) (v : ℕ) (t u : CpuState) (w : Wanted) (k : ℕ → Plan) → LeadsTo (given v (cond b (Want t w k) (End u))) (k v)
given_if true v t u w k = inl refl
given_if false v t u w k = inr (record { table = u; is = refl })

given_framed : (o : Result ℕ MmFault) (v size : ℕ) (t : CpuState) (far : MappedAsk) (next : ℕ → Plan) (index : ℕ) → LeadsTo (given v (framed_by t far o (entry_plan size t next index))) (next v)
given_framed (Ok table) v size t far next index = given_if (ltb (entry_address table index) size) v t _ (entry_wanted (entry_address table index)) next
given_framed (Err fault) v size t far next index = inr (record { table = _; is = refl })

-- a value more leads on from the plan that the values before it led to
given_on : (v : ℕ) (p q r : Plan) → LeadsTo p q → LeadsTo (given v q) r → LeadsTo (given v p) r
given_on v p q r (inl same) on = subst (λ x. LeadsTo (given v x) r) (sym same) on
given_on v p q r (inr ended) on = inr (ended_given v p ended)

-- what is wanted is so where the plan is this one, since an end wants nothing
wants_if : (P : Wanted → Type 0) (p q : Plan) → LeadsTo p q → IfSome (wanted_by q) P → IfSome (wanted_by p) P
wants_if P p q (inl same) here = subst (λ x. IfSome (wanted_by x) P) (sym same) here
wants_if P p q (inr ended) here = subst (λ x. IfSome (wanted_by x) P) (sym ended.is) tt

-- behind one value stands what follows the entry of level 1, behind two of level 2, behind three of level 3
behind_first : (size : ℕ) (t : CpuState) (far : MappedAsk) (k : CpuState → ℕ → Plan) (one : ℕ) → LeadsTo (along (one ∷ []) (walk_plan size t far k)) (first_entry size t far k one)
behind_first size t far k one = given_framed (Ok (ptbr_of t.state)) one size t far (first_entry size t far k) far.parts.l1

behind_second : (size : ℕ) (t : CpuState) (far : MappedAsk) (k : CpuState → ℕ → Plan) (one two : ℕ) → LeadsTo (along (one ∷ two ∷ []) (walk_plan size t far k)) (second_entry size t far k two)
behind_second size t far k one two = given_on two _ _ _ (behind_first size t far k one) (given_framed (upper_of one) two size t far (second_entry size t far k) far.parts.l2)

behind_third : (size : ℕ) (t : CpuState) (far : MappedAsk) (k : CpuState → ℕ → Plan) (one two three : ℕ) → LeadsTo (along (one ∷ two ∷ three ∷ []) (walk_plan size t far k)) (third_entry size t far k three)
behind_third size t far k one two three = given_on three _ _ _ (behind_second size t far k one two) (given_framed (upper_of two) three size t far (third_entry size t far k) far.parts.l3)

-- the entries that are read behind the first one, and the access in the page
pub second_read : (size : ℕ) (t : CpuState) (far : MappedAsk) (k : CpuState → ℕ → Plan) (one : ℕ) → IfSome (wanted_by (along (one ∷ []) (walk_plan size t far k))) (λ x. x ≡ entry_wanted (entry_address (pfn_of one) far.parts.l2))
second_read size t far k one =
    wants_if (λ x. x ≡ entry_wanted (entry_address (pfn_of one) far.parts.l2)) _ _ (behind_first size t far k one)
    (entry_read (upper_of one) (pfn_of one) size t far (second_entry size t far k) far.parts.l2 (upper_is one))

pub third_read : (size : ℕ) (t : CpuState) (far : MappedAsk) (k : CpuState → ℕ → Plan) (one two : ℕ) → IfSome (wanted_by (along (one ∷ two ∷ []) (walk_plan size t far k))) (λ x. x ≡ entry_wanted (entry_address (pfn_of two) far.parts.l3))
third_read size t far k one two =
    wants_if (λ x. x ≡ entry_wanted (entry_address (pfn_of two) far.parts.l3)) _ _ (behind_second size t far k one two)
    (entry_read (upper_of two) (pfn_of two) size t far (third_entry size t far k) far.parts.l3 (upper_is two))

pub page_reached : (size : ℕ) (t : CpuState) (far : MappedAsk) (k : CpuState → ℕ → Plan) (one two three : ℕ) → IfSome (wanted_by (along (one ∷ two ∷ three ∷ []) (walk_plan size t far k))) (λ x. x ≡ wanted_at far.ask (pfn_of three * PAGE_BYTES + far.parts.offset))
page_reached size t far k one two three =
    wants_if (λ x. x ≡ wanted_at far.ask (pfn_of three * PAGE_BYTES + far.parts.offset)) _ _ (behind_third size t far k one two three)
    (framed_wants (frame_of t far three) (pfn_of three) size t (with_page_kept far three t) far k (λ frame is. (frame_is t far three frame is).3))

-- user mode does not reach the kernel segment
refused_by : (extended kseg : Bool) (mode : Mode) (va size : ℕ) (t : CpuState) (ask : Ask) (k : CpuState → ℕ → Plan) → mode ≡ User → kseg ≡ true
    → wanted_by (split_plan size t Instruction ask k (cond (not extended) (Err Acv) (cond kseg (direct_of mode va) (Ok (Mapped (parts_of va)))))) ≡ None
refused_by true true User va size t ask k user is = refl
refused_by true true mode va size t ask k user is = cc
refused_by true false mode va size t ask k user is = cc
refused_by false kseg mode va size t ask k user is = refl

pub user_refused : (size : ℕ) (t : CpuState) (ask : Ask) (k : CpuState → ℕ → Plan) → mode_of (ps_of t.state) ≡ User → is_kseg ask.address ≡ true → wanted_by (reach_plan size t Instruction ask k) ≡ None
unfolding split_of
user_refused size t ask k user is = refused_by (is_extended ask.address) (is_kseg ask.address) (mode_of (ps_of t.state)) ask.address size t ask k user is
