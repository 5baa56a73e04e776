-- What a processor that is not finished may do, by the access that it wants and what it keeps.
use Rattle.std.proofs.Common.{◌≡◌, ℕ, Bool, true, false, eqb, ltb, not, List, [], ◌∷◌, length, slice_get, Option, Some, None, is_some, refl, sym, ap, ◌∙◌, ⊎_elim, arith}
use Rattle.std.specs.List.{list_any}
use Rattle.std.proofs.lemmas.Bool.{and_cases, cases_Bool, eq-eqb, false≢true, lt-ltb, ne_eqb, not-false, or_parts}
use Rattle.axp_access.specs.declared.Act.{Act}
use Rattle.axp_access.specs.declared.Act.TheVariants as act
use Rattle.axp_access.specs.declared.Intent.{Intent}
use Rattle.axp_access.specs.declared.Wanted.{Wanted}
use Rattle.axp_bank.specs.Copies.{has_room, is_held}
use Rattle.axp_bank.specs.declared.copies.LineCopy.{LineCopy}
use Rattle.axp_base.specs.declared.limits.TheConstants.{BANK_COPIES, WBUF_ENTRIES}
use Rattle.axp_base.specs.Lines.{data_bank, line_number, line_of}
use Rattle.axp_base.specs.declared.lines.Bank.{Bank}
use Rattle.axp_base.specs.declared.lines.Bank.TheVariants.{Code}
use Rattle.axp_lsu.specs.Asking.{act_ask, drain_ask, fill_ask, fill_for, is_ready, step_ask}
use Rattle.axp_lsu.specs.Keeping.{LocalMemory, copies_of, data_copies, has_dropped}
use Rattle.axp_model.specs.Legal.{is_timely}
use Rattle.axp_access.specs.Kinds.{is_poll}
use Rattle.axp_regs.specs.declared.asks.Kind.{Kind}
use Rattle.axp_regs.specs.declared.asks.Kind.TheVariants as kind
use Rattle.axp_wbuf.specs.Drains.{in_front, oldest_group}
use Rattle.axp_wbuf.specs.Pending.{Pending, is_before, is_of_line, merges}
use Rattle.axp_lsu.specs.Offering.{full_bank, full_bank_for}
use Rattle.axp_world.specs.RunLaws.{MakesRoom, is_progress}
use Rattle.axp_world.proofs.BankRooms.{HasRooms}
use Rattle.axp_world.proofs.ProgressFilled.{IsReady}
use Rattle.axp_world.proofs.RunWants.{wants_poll}

-- an act of progress that may be made now, as far as the processor knows
pub record Offer (i : Intent) (u : LocalMemory) : Type 0 where
  pub chosen : Act
  pub goes : is_progress chosen ≡ true
  pub now : is_timely chosen i.finished u.since.filled ≡ true
  pub asks : is_some (act_ask chosen i u) ≡ true
  pub room : MakesRoom (full_bank i.wanted u) chosen

step_offer : (i : Intent) (u : LocalMemory) → i.finished ≡ false → is_some (step_ask i.boundary i.wanted i.lock_flag u) ≡ true → Offer i u
step_offer i u on asks = record { chosen = act.Step; goes = refl; now = rw on refl; asks = asks; room = tt }

fill_offer : (i : Intent) (u : LocalMemory) → i.finished ≡ false → u.since.filled ≡ false → is_some (fill_ask i.wanted u) ≡ true → Offer i u
fill_offer i u on unfilled asks = record { chosen = act.Fill; goes = refl; now = rw (on, unfilled) refl; asks = asks; room = tt }

-- of writes that wait the first may leave
pub first_leaves : (es : List Pending) → eqb (length es) 0 ≡ false → is_some (drain_ask (slice_get (oldest_group es) 0)) ≡ true
unfolding in_front
first_leaves [] some = cc
first_leaves (e ∷ es) some = rw (eq-eqb e.group e.group refl) refl

drain_offer : (i : Intent) (u : LocalMemory) → i.finished ≡ false → u.since.filled ≡ false → eqb (length u.buffer.kept) 0 ≡ false → Offer i u
drain_offer i u on unfilled some = record { chosen = act.Drain 0; goes = refl; now = rw (on, unfilled) refl; asks = first_leaves u.buffer.kept some; room = tt }

-- a full bank has a copy to drop; one that dropped a copy since the last Step is not full
first_held : (c : LineCopy) (cs : List LineCopy) → is_held (line_number c.line) (c ∷ cs) ≡ true
unfolding is_held
first_held c cs = rw (eq-eqb (line_number c.line) (line_number c.line) refl) refl

drop_first : (i : Intent) (u : LocalMemory) (b : Bank) (cs : List LineCopy) → i.finished ≡ false → u.since.filled ≡ false → has_dropped b u.since ≡ false → copies_of b u ≡ cs → ltb (length cs) BANK_COPIES ≡ false → full_bank i.wanted u ≡ Some b → Offer i u
drop_first i u b [] on unfilled undropped is full needs = cc
drop_first i u b (c ∷ cs) on unfilled undropped is full needs =
    let held : is_held (line_number c.line) (copies_of b u) ≡ true = ap (is_held (line_number c.line)) is ∙ first_held c cs in
    record { chosen = act.Drop b c.line; goes = refl; now = rw (on, unfilled) refl; asks = rw (held, undropped) refl; room = needs }

drop_offer : (i : Intent) (u : LocalMemory) (b : Bank) → i.finished ≡ false → u.since.filled ≡ false → HasRooms u → ltb (length (copies_of b u)) BANK_COPIES ≡ false → full_bank i.wanted u ≡ Some b → Offer i u
drop_offer i u b on unfilled rooms full needs =
    ⊎_elim
    (λ (drops : has_dropped b u.since ≡ true). absurd (false≢true (sym full ∙ lt-ltb (length (copies_of b u)) BANK_COPIES (rooms unfilled b drops))))
    (λ (undropped : has_dropped b u.since ≡ false). drop_first i u b (copies_of b u) on unfilled undropped refl full needs)
    (cases_Bool (has_dropped b u.since))

-- entries that wait
more_some : (e : Pending) (es : List Pending) → eqb (length (e ∷ es)) 0 ≡ false
more_some e es = ne_eqb (length (e ∷ es)) 0 (λ none. absurd (omega (arith, none)))

full_some : (es : List Pending) → ltb (length es) WBUF_ENTRIES ≡ false → eqb (length es) 0 ≡ false
full_some [] full = cc
full_some (e ∷ es) full = more_some e es

any_some : (test : Pending → Bool) (es : List Pending) → list_any test es ≡ true → eqb (length es) 0 ≡ false
any_some test [] any = cc
any_some test (e ∷ es) any = more_some e es

-- a bank that lacks a line is filled, or full
bring_offer : (i : Intent) (u : LocalMemory) (b : Bank) → i.finished ≡ false → u.since.filled ≡ false → HasRooms u → (ltb (length (copies_of b u)) BANK_COPIES ≡ true → is_some (fill_ask i.wanted u) ≡ true) → (ltb (length (copies_of b u)) BANK_COPIES ≡ false → full_bank i.wanted u ≡ Some b) → Offer i u
bring_offer i u b on unfilled rooms brings waits =
    ⊎_elim
    (λ (room : ltb (length (copies_of b u)) BANK_COPIES ≡ true). fill_offer i u on unfilled (brings room))
    (λ (full : ltb (length (copies_of b u)) BANK_COPIES ≡ false). drop_offer i u b on unfilled rooms full (waits full))
    (cases_Bool (ltb (length (copies_of b u)) BANK_COPIES))

fills_wanted : (i : Intent) (u : LocalMemory) (w : Wanted) (k : Kind) → i.wanted ≡ Some w → w.kind ≡ k → is_some (fill_for k w u) ≡ true → is_some (fill_ask i.wanted u) ≡ true
fills_wanted i u w k wants is asks = ap (λ o. is_some (fill_ask o u)) wants ∙ ap (λ x. is_some (fill_for x w u)) is ∙ asks

needs_wanted : (i : Intent) (u : LocalMemory) (w : Wanted) (k : Kind) → i.wanted ≡ Some w → w.kind ≡ k → full_bank i.wanted u ≡ full_bank_for k (line_of w.address) u
needs_wanted i u w k wants is = ap (λ o. full_bank o u) wants ∙ ap (λ x. full_bank_for x (line_of w.address) u) is

-- where the wanted access is not ready
waiting_offer : (k : Kind) (i : Intent) (u : LocalMemory) (w : Wanted) → i.finished ≡ false → u.since.filled ≡ false → HasRooms u → i.wanted ≡ Some w → w.kind ≡ k → is_poll k ≡ false → is_ready k (line_of w.address) u ≡ false → Offer i u
waiting_offer kind.Fetch i u w on unfilled rooms wants is poll none = bring_offer i u Code on unfilled rooms (λ room. fills_wanted i u w kind.Fetch wants is (rw (none, room) refl)) (λ full. needs_wanted i u w kind.Fetch wants is ∙ rw (none, full) refl)
waiting_offer kind.Read i u w on unfilled rooms wants is poll none = bring_offer i u (data_bank (line_of w.address)) on unfilled rooms (λ room. fills_wanted i u w kind.Read wants is (rw (none, room) refl)) (λ full. needs_wanted i u w kind.Read wants is ∙ rw (none, full) refl)
waiting_offer kind.Write i u w on unfilled rooms wants is poll none =
    drain_offer i u on unfilled (full_some u.buffer.kept (or_parts (merges (line_of w.address) u.buffer) (ltb (length u.buffer.kept) WBUF_ENTRIES) none).1)
waiting_offer kind.Locked i u w on unfilled rooms wants is poll none =
    let l : ℕ = line_of w.address in
    ⊎_elim
    (λ (own : not (list_any (is_of_line l) u.buffer.kept) ≡ false). drain_offer i u on unfilled (any_some (is_of_line l) u.buffer.kept (not-false (list_any (is_of_line l) u.buffer.kept) own)))
    (λ (full : has_room l (data_copies l u) ≡ false). drop_offer i u (data_bank l) on unfilled rooms (or_parts (is_held l (data_copies l u)) (ltb (length (data_copies l u)) BANK_COPIES) full).1 (needs_wanted i u w kind.Locked wants is ∙ rw full refl))
    (and_cases (not (list_any (is_of_line l) u.buffer.kept)) (has_room l (data_copies l u)) none)
waiting_offer kind.Conditional i u w on unfilled rooms wants is poll none =
    let l : ℕ = line_of w.address in
    ⊎_elim
    (λ (own : not (list_any (is_of_line l) u.buffer.kept) ≡ false). drain_offer i u on unfilled (any_some (is_of_line l) u.buffer.kept (not-false (list_any (is_of_line l) u.buffer.kept) own)))
    (λ (closed : not (list_any (is_before u.buffer.newest) u.buffer.kept) ≡ false).
    drain_offer i u on unfilled (any_some (is_before u.buffer.newest) u.buffer.kept (not-false (list_any (is_before u.buffer.newest) u.buffer.kept) closed)))
    (and_cases (not (list_any (is_of_line l) u.buffer.kept)) (not (list_any (is_before u.buffer.newest) u.buffer.kept)) none)
waiting_offer kind.Barrier i u w on unfilled rooms wants is poll none = drain_offer i u on unfilled none
waiting_offer kind.WriteBarrier i u w on unfilled rooms wants is poll none = cc
waiting_offer kind.CodeBarrier i u w on unfilled rooms wants is poll none = drain_offer i u on unfilled none
waiting_offer kind.Signal i u w on unfilled rooms wants is poll none =
    drain_offer i u on unfilled (any_some (is_before u.buffer.newest) u.buffer.kept (not-false (list_any (is_before u.buffer.newest) u.buffer.kept) none))
waiting_offer kind.Console i u w on unfilled rooms wants is poll none = cc
waiting_offer kind.Poll i u w on unfilled rooms wants is poll none = cc

-- by what is wanted: an access, or none at a boundary
wanted_offer : (o : Option Wanted) (i : Intent) (u : LocalMemory) → i.wanted ≡ o → i.finished ≡ false → u.since.filled ≡ false → HasRooms u → wants_poll o ≡ false → (o ≡ None → i.boundary ≡ true) → Offer i u
wanted_offer None i u wants on unfilled rooms poll stands = step_offer i u on (rw (wants, stands refl) refl)
wanted_offer (Some w) i u wants on unfilled rooms poll stands =
    ⊎_elim
    (λ (is : is_ready w.kind (line_of w.address) u ≡ true). step_offer i u on (rw (wants, is) refl))
    (λ (none : is_ready w.kind (line_of w.address) u ≡ false). waiting_offer w.kind i u w on unfilled rooms wants refl poll none)
    (cases_Bool (is_ready w.kind (line_of w.address) u))

pub offered : (i : Intent) (u : LocalMemory) → i.finished ≡ false → IsReady i u → HasRooms u → wants_poll i.wanted ≡ false → (i.wanted ≡ None → i.boundary ≡ true) → Offer i u
offered i u on filled rooms poll stands =
    ⊎_elim
    (λ (is : u.since.filled ≡ true). step_offer i u on (filled is on))
    (λ (unfilled : u.since.filled ≡ false). wanted_offer i.wanted i u refl on unfilled rooms poll stands)
    (cases_Bool u.since.filled)
