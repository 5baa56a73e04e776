-- What a processor asks of the bus is legal by the history's words, and nothing else is.
use Rattle.std.proofs.Common.{true, false, ℕ, zero, suc, ◌%◌, ◌<◌, ◌≤◌, ◌≡◌, ⊎_elim, eqb, ltb, cond, Bool, not, ◌&&◌, ◌||◌, List, [], ◌∷◌, length, map, slice_get, Option, Some, None, is_some, refl, sym, ap, ◌∙◌, arith}
use Rattle.std.specs.List.{AllByRecursion}
use Rattle.std.proofs.lemmas.Bool.{cases_lt, le-ltb, lt-ltb, false≢true}
use Rattle.axp_bank.specs.Copies as copies
use Rattle.axp_bank.specs.Copies.{is_held}
use Rattle.axp_bank.specs.declared.copies.LineCopy.{LineCopy}
use Rattle.axp_base.specs.declared.limits.TheConstants.{BANK_COPIES}
use Rattle.axp_base.specs.Lines.{line_number, data_bank, in_bank, line_at, line_of}
use Rattle.axp_base.specs.declared.lines.Bank.{Bank}
use Rattle.axp_base.specs.declared.lines.Bank.TheVariants.{Even, Odd, Code}
use Rattle.axp_base.specs.declared.lines.Line.{Line}
use Rattle.axp_access.specs.declared.Act.{Act}
use Rattle.axp_access.specs.declared.Act.TheVariants as act
use Rattle.axp_access.specs.declared.Intent.{Intent}
use Rattle.axp_access.specs.declared.Record.{Record}
use Rattle.axp_access.specs.declared.Wanted.{Wanted}
use Rattle.axp_lsu.specs.declared.asks.Ask2.{Ask2}
use Rattle.axp_lsu.specs.declared.asks.Ask2.TheVariants as ask
use Rattle.axp_lsu.specs.Asking as asking
use Rattle.axp_lsu.specs.Offering as offering
use Rattle.axp_model.specs.Waits.{full_bank, full_bank_for}
use Rattle.axp_lsu.specs.Asking.{access_ask, act_ask, ask_of, drain_ask, fill_ask, fill_for, may_bring, step_ask}
use Rattle.axp_lsu.specs.Keeping.{LocalMemory, copies_of, data_copies, has_dropped}
use Rattle.axp_line.specs.declared.messages.Request.TheVariants as request
use Rattle.axp_line.specs.BusCalls as calls
use Rattle.axp_line.specs.BusCalls.{BusCall}
use Rattle.axp_model.specs.Entries.{Waiting, buffer, oldest}
use Rattle.axp_model.specs.Late.{late}
use Rattle.axp_model.specs.Late as model
use Rattle.axp_laws.specs.LateLaws.{is_among}
use Rattle.axp_model.specs.Legal.{has_room, holds_in, is_enabled, is_legal_act, is_fill_enabled, is_fill_enabled_for, is_timely, is_step_enabled, is_ready, since_step}
use Rattle.axp_base.specs.Lists.{is_empty}
use Rattle.axp_access.specs.Acts.{is_drop_of}
use Rattle.axp_laws.proofs.CopyLists.{copies_exactly}
use Rattle.axp_laws.proofs.RunRecords.{InBank, late_in}
use Rattle.axp_regs.specs.declared.asks.Kind.{Kind}
use Rattle.axp_regs.specs.declared.asks.Kind.TheVariants as kind
use Rattle.axp_wbuf.specs.Drains.{oldest_group}
use Rattle.axp_wbuf.specs.Pending.{Pending}
use Rattle.axp_world.specs.Deeds.{has_late}
use Rattle.axp_world.proofs.Agreement.{AreEntriesOf, BanksAgree, BufferAgrees, BusAgrees, SinceAgrees}

asked_if : (b : Bool) (x : Ask2) → is_some (cond b (Some x) None) ≡ b
asked_if true x = refl
asked_if false x = refl

-- a bank's lines, and its length
held_among : (l : ℕ) (cs : List LineCopy) → is_held l cs ≡ is_among l (map copies.line_of cs)
unfolding is_held
held_among l [] = refl
held_among l (c ∷ cs) = ap (λ b. eqb (copies.line_of c) l || b) (held_among l cs)

map_length : (cs : List LineCopy) → length (map copies.line_of cs) ≡ length cs
map_length [] = refl
map_length (c ∷ cs) = ap suc (map_length cs)

bank_length : (image : ℕ → ℕ) (p : ℕ) (h : List Record) (u : LocalMemory) → BanksAgree image p h u → (b : Bank) → in_bank b zero || in_bank b 1 ≡ true → length (copies_of b u) ≡ length (model.copies p b h)
bank_length image p h u banks Even is = sym (map_length u.even) ∙ ap (λ ls. length ls) banks.even_lines
bank_length image p h u banks Odd is = sym (map_length u.odd) ∙ ap (λ ls. length ls) banks.odd_lines
bank_length image p h u banks Code is = cc

-- a data bank is of this kind
data_is_data : (l : ℕ) → in_bank (data_bank l) zero || in_bank (data_bank l) 1 ≡ true
data_is_data l = by_test (eqb (l % 2) 0) where
  by_test : (b : Bool) → in_bank (cond b Even Odd) zero || in_bank (cond b Even Odd) 1 ≡ true
  by_test true = refl
  by_test false = refl

pub code_length : (image : ℕ → ℕ) (p : ℕ) (h : List Record) (u : LocalMemory) → BanksAgree image p h u → length u.code ≡ length (model.code_copies p h)
code_length image p h u banks = sym (map_length u.code) ∙ ap (λ ls. length ls) banks.code_lines

pub room_agrees : (image : ℕ → ℕ) (p l : ℕ) (h : List Record) (u : LocalMemory) → BanksAgree image p h u → ltb (length (data_copies l u)) BANK_COPIES ≡ has_room l p h
room_agrees image p l h u banks = ap (λ n. ltb n BANK_COPIES) (bank_length image p h u banks (data_bank l) (data_is_data l))

-- the condition of a Step, by the kind of its access
ready_agrees : (k : Kind) (image : ℕ → ℕ) (p l : ℕ) (h : List Record) (u : LocalMemory) → BufferAgrees p h u.buffer → BanksAgree image p h u → asking.is_ready k l u ≡ is_ready k l p h
ready_agrees kind.Fetch image p l h u buffers banks = banks.code_lines_held l
ready_agrees kind.Read image p l h u buffers banks = banks.lines l
ready_agrees kind.Write image p l h u buffers banks = buffers.takes l
ready_agrees kind.Locked image p l h u buffers banks = rw (buffers.line l, banks.lines l, room_agrees image p l h u banks) refl
ready_agrees kind.Conditional image p l h u buffers banks = rw (buffers.line l, buffers.closed) refl
ready_agrees kind.Barrier image p l h u buffers banks = buffers.none
ready_agrees kind.WriteBarrier image p l h u buffers banks = refl
ready_agrees kind.CodeBarrier image p l h u buffers banks = buffers.none
ready_agrees kind.Signal image p l h u buffers banks = ap not buffers.closed
ready_agrees kind.Console image p l h u buffers banks = refl
ready_agrees kind.Poll image p l h u buffers banks = refl

step_agrees : (o : Option Wanted) (boundary armed : Bool) (image : ℕ → ℕ) (p : ℕ) (h : List Record) (u : LocalMemory) → BufferAgrees p h u.buffer → BanksAgree image p h u → is_some (step_ask boundary o armed u) ≡ is_step_enabled boundary o p h
step_agrees None boundary armed image p h u buffers banks = asked_if boundary ask.Private
step_agrees (Some w) boundary armed image p h u buffers banks = asked_if (asking.is_ready w.kind (line_of w.address) u) (access_ask w.kind w armed u) ∙ ready_agrees w.kind image p (line_of w.address) h u buffers banks

-- a Fill
pub not_or : (a b : Bool) → (not a && (a || b)) ≡ (not a && b)
not_or true b = refl
not_or false b = refl

fill_for_agrees : (k : Kind) (w : Wanted) (image : ℕ → ℕ) (p : ℕ) (h : List Record) (u : LocalMemory) → BanksAgree image p h u → is_some (fill_for k w u) ≡ is_fill_enabled_for k (line_of w.address) p h
fill_for_agrees kind.Fetch w image p h u banks =
    asked_if (may_bring (line_of w.address) u.code) (ask.Bus (request.FillCode (line_at w.address)))
    ∙ not_or (is_held (line_of w.address) u.code) (ltb (length u.code) BANK_COPIES)
    ∙ rw (banks.code_lines_held (line_of w.address), code_length image p h u banks) refl
fill_for_agrees kind.Read w image p h u banks =
    asked_if (may_bring (line_of w.address) (data_copies (line_of w.address) u)) (ask.Bus (request.Fill (line_at w.address)))
    ∙ not_or (is_held (line_of w.address) (data_copies (line_of w.address) u)) (ltb (length (data_copies (line_of w.address) u)) BANK_COPIES)
    ∙ rw (banks.lines (line_of w.address), room_agrees image p (line_of w.address) h u banks) refl
fill_for_agrees _ w image p h u banks = refl

fill_agrees : (o : Option Wanted) (image : ℕ → ℕ) (p : ℕ) (h : List Record) (u : LocalMemory) → BanksAgree image p h u → is_some (fill_ask o u) ≡ is_fill_enabled o p h
fill_agrees None image p h u banks = refl
fill_agrees (Some w) image p h u banks = fill_for_agrees w.kind w image p h u banks

-- a Drain
drain_asks : (o : Option Pending) → is_some (drain_ask o) ≡ is_some o
drain_asks None = refl
drain_asks (Some e) = refl

entries_listed : (es : List Pending) (ws : List Waiting) (k : ℕ) → AreEntriesOf es ws → is_some (slice_get es k) ≡ ltb k (length ws)
entries_listed [] [] k are = sym (le-ltb k 0 (omega arith))
entries_listed [] (w ∷ ws) k are = absurd are
entries_listed (e ∷ es) [] k are = absurd are
entries_listed (e ∷ es) (w ∷ ws) zero are = sym (lt-ltb zero (suc (length ws)) (omega arith))
entries_listed (e ∷ es) (w ∷ ws) (suc k) are =
    entries_listed es ws k are.1
    ∙ ⊎_elim
    (λ (less : k < length ws). rw (lt-ltb k (length ws) less, lt-ltb (suc k) (suc (length ws)) (omega (arith, less))) refl)
    (λ (past : length ws ≤ k). rw (le-ltb k (length ws) past, le-ltb (suc k) (suc (length ws)) (omega (arith, past))) refl)
    (cases_lt k (length ws))

-- a Drop
pub drop_held : (b : Bank) (image : ℕ → ℕ) (p l : ℕ) (h : List Record) (u : LocalMemory) → BanksAgree image p h u → is_held l (copies_of b u) ≡ holds_in b l p h
drop_held Even image p l h u banks = held_among l u.even ∙ ap (is_among l) banks.even_lines ∙ (copies_exactly p Even h).members l
drop_held Odd image p l h u banks = held_among l u.odd ∙ ap (is_among l) banks.odd_lines ∙ (copies_exactly p Odd h).members l
drop_held Code image p l h u banks = banks.code_lines_held l

pub drop_since : (b : Bank) (p : ℕ) (h : List Record) (u : LocalMemory) → SinceAgrees p h u → has_dropped b u.since ≡ since_step (is_drop_of b) p h
drop_since Even p h u since = since.even
drop_since Odd p h u since = since.odd
drop_since Code p h u since = since.code

none_of_code : (pairs : List (Line × ℕ)) → AllByRecursion (InBank Code) pairs → is_empty pairs ≡ true
none_of_code [] all = refl
none_of_code (x ∷ pairs) all = absurd (false≢true all.0)

and_true : (b : Bool) → (b && true) ≡ b
and_true true = refl
and_true false = refl

take_agrees : (b : Bank) (image : ℕ → ℕ) (p : ℕ) (h : List Record) (cs : List BusCall) → BusAgrees image h cs → (is_some (asking.take_ask b) && not (is_empty (calls.late p b cs))) ≡ not (is_empty (late p b h))
take_agrees Even image p h cs bus = rw (bus.pairs p Even) refl
take_agrees Odd image p h cs bus = rw (bus.pairs p Odd) refl
take_agrees Code image p h cs bus = rw (none_of_code (late p Code h) (late_in p Code h)) refl

-- every act
may_agrees : (a : Act) (image : ℕ → ℕ) (p : ℕ) (h : List Record) (i : Intent) (u : LocalMemory) (cs : List BusCall) → BufferAgrees p h u.buffer → BanksAgree image p h u → SinceAgrees p h u → BusAgrees image h cs → (is_some (act_ask a i u) && has_late a cs p) ≡ is_enabled a i p h
may_agrees act.Step image p h i u cs buffers banks since bus = and_true (is_some (step_ask i.boundary i.wanted i.lock_flag u)) ∙ step_agrees i.wanted i.boundary i.lock_flag image p h u buffers banks
may_agrees act.Fill image p h i u cs buffers banks since bus = and_true (is_some (fill_ask i.wanted u)) ∙ fill_agrees i.wanted image p h u banks
may_agrees (act.Drain k) image p h i u cs buffers banks since bus =
    and_true (is_some (drain_ask (slice_get (oldest_group u.buffer.kept) k))) ∙ drain_asks (slice_get (oldest_group u.buffer.kept) k) ∙ entries_listed (oldest_group u.buffer.kept) (oldest (buffer p h).waiting) k buffers.oldest
may_agrees (act.Take b) image p h i u cs buffers banks since bus = take_agrees b image p h cs bus
may_agrees (act.Drop b line) image p h i u cs buffers banks since bus =
    and_true (is_some (act_ask (act.Drop b line) i u)) ∙ asked_if (is_held (line_number line) (copies_of b u) && not (has_dropped b u.since)) ask.Private ∙ rw (drop_held b image p (line_number line) h u banks, drop_since b p h u since) refl
may_agrees act.Poll image p h i u cs buffers banks since bus = and_true (is_some (act_ask act.Poll i u)) ∙ asked_if (i.boundary && not u.since.polled) (ask.Bus (request.Poll i.takes_interrupts)) ∙ rw since.polled refl
may_agrees act.Tick image p h i u cs buffers banks since bus = and_true (is_some (act_ask act.Tick i u)) ∙ asked_if (i.boundary && (i.takes_interrupts && not u.since.ticked)) ask.Private ∙ rw since.ticked refl

-- an act is asked, and not answered that nothing is late, exactly where it is legal
pub legal_agrees : (image : ℕ → ℕ) (p : ℕ) (h : List Record) (i : Intent) (u : LocalMemory) (cs : List BusCall) (a : Act) → BufferAgrees p h u.buffer → BanksAgree image p h u → SinceAgrees p h u → BusAgrees image h cs
    → (is_some (ask_of a i u) && has_late a cs p) ≡ is_legal_act a i p h
unfolding ask_of
legal_agrees image p h i u cs a buffers banks since bus =
    chosen (is_timely a i.finished u.since.filled) (act_ask a i u) (has_late a cs p)
    ∙ rw (may_agrees a image p h i u cs buffers banks since bus, since.filled) refl where
      chosen : (now : Bool) (o : Option Ask2) (some : Bool) → (is_some (cond now o None) && some) ≡ ((is_some o && some) && now)
      chosen true o some = sym (and_true (is_some o && some))
      chosen false o some = sym (none_right (is_some o && some)) where
        none_right : (b : Bool) → (b && false) ≡ false
        none_right true = refl
        none_right false = refl

-- the full bank that an access waits for
full_for_agrees : (k : Kind) (image : ℕ → ℕ) (p l : ℕ) (h : List Record) (u : LocalMemory) → BanksAgree image p h u → offering.full_bank_for k l u ≡ full_bank_for k l p h
full_for_agrees kind.Fetch image p l h u banks = rw (banks.code_lines_held l, code_length image p h u banks) refl
full_for_agrees kind.Read image p l h u banks = rw (banks.lines l, room_agrees image p l h u banks) refl
full_for_agrees kind.Locked image p l h u banks = rw (banks.lines l, room_agrees image p l h u banks) refl
full_for_agrees _ image p l h u banks = refl

pub full_agrees : (o : Option Wanted) (image : ℕ → ℕ) (p : ℕ) (h : List Record) (u : LocalMemory) → BanksAgree image p h u → offering.full_bank o u ≡ full_bank o p h
full_agrees None image p h u banks = refl
full_agrees (Some w) image p h u banks = full_for_agrees w.kind image p (line_of w.address) h u banks
