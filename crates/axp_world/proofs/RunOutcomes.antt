-- What a processor's act gives is what the memory model says of it.
use Rattle.std.proofs.Common.{true, false, ℕ, ◌+◌, ◌*◌, ◌^◌, ◌<◌, ◌≡◌, ltb, max, Bool, not, ◌&&◌, List, [], ◌∷◌, slice_get, Option, Some, None, is_some, refl, sym, ap, ◌∙◌, subst}
use Rattle.std.specs.Prelude.{Ok}
use mathlib.Core.Bool.{Bool-set}
use Rattle.std.proofs.lemmas.Bool.{and_parts, not-true, lt-ltb, false≢true}
use Rattle.axp_bank.specs.Copies.{get_of, has_older, is_older}
use Rattle.axp_bank.proofs.HeldCopyLemmas.{held_get}
use Rattle.axp_base.specs.Cpus.{cpu_by, cpu_number}
use Rattle.axp_base.specs.Lines.{line_number, line_at, line_by, line_numbered, line_of}
use Rattle.axp_base.specs.declared.lines.Bank.{Bank}
use Rattle.axp_base.specs.declared.lines.Bank.TheVariants.{Even, Odd, Code}
use Rattle.axp_base.specs.declared.lines.Line.{Line}
use Rattle.axp_base.specs.declared.lines.TheConstants.{LINE_BYTES}
use Rattle.axp_base.specs.declared.processors.Cpu.{Cpu}
use Rattle.axp_base.specs.declared.processors.TheConstants.{MAX_CPUS}
use Rattle.axp_access.specs.declared.Act.{Act}
use Rattle.axp_access.specs.declared.Act.TheVariants as act
use Rattle.axp_access.specs.declared.Intent.{Intent}
use Rattle.axp_access.specs.declared.Outcome.TheVariants as outcome
use Rattle.axp_access.specs.declared.Place.{Place}
use Rattle.axp_access.specs.declared.Place.TheVariants.{At, Entry}
use Rattle.axp_access.specs.declared.Record.{Record}
use Rattle.axp_access.specs.declared.Wanted.{Wanted}
use Rattle.axp_line.specs.Lines.{data_of}
use Rattle.axp_line.specs.declared.contents.LineData.{LineData}
use Rattle.axp_line.specs.declared.messages.Reply.{Reply}
use Rattle.axp_line.specs.declared.messages.Reply.TheVariants as reply
use Rattle.axp_line.specs.declared.messages.Request.TheVariants as request
use Rattle.axp_base.specs.Blocks.{is_allowed}
use Rattle.axp_lsu.specs.declared.asks.Ask2.{Ask2}
use Rattle.axp_lsu.specs.declared.asks.Ask2.TheVariants as ask
use Rattle.axp_lsu.specs.Asking as asking
use Rattle.axp_lsu.specs.Asking.{access_ask, act_ask, drain_ask, fill_ask, fill_for, may_bring, signal_to, step_ask, take_ask}
use Rattle.axp_lsu.specs.Going as going
use Rattle.axp_lsu.specs.Keeping.{LocalMemory, data_copies}
use Rattle.axp_line.specs.BusCalls as calls
use Rattle.axp_line.specs.BusCalls.{BusCall, Written}
use Rattle.axp_line.specs.BusReply.{PortState, first_late, port_state, reply_by, conditional_reply}
use Rattle.axp_model.specs.Entries.{Waiting, buffer, entry_for, has_line, oldest}
use Rattle.axp_model.specs.Late.{held, late}
use Rattle.axp_model.specs.Legal.{is_enabled, is_step_enabled, is_ready}
use Rattle.axp_model.specs.Locks.{is_signalled}
use Rattle.axp_model.specs.Processors.{IsInLine, WantsInLine}
use Rattle.axp_model.specs.Outcomes as model
use Rattle.axp_model.specs.Outcomes.{bank_for, outcome_by, step_outcome_by}
use Rattle.axp_model.specs.Turns.{code_stamp, read_place, stamp, turns}
use Rattle.axp_laws.proofs.RunFacts.{Fitting}
use Rattle.axp_regs.specs.declared.asks.Kind.{Kind}
use Rattle.axp_regs.specs.declared.asks.Kind.TheVariants as kind
use Rattle.axp_wbuf.specs.Drains.{oldest_group}
use Rattle.axp_wbuf.specs.Pending as pending
use Rattle.axp_wbuf.specs.Pending.{Pending}
use Rattle.axp_world.specs.Worlds.{reply_for}
use Rattle.axp_world.proofs.Agreement.{BanksAgree, BufferAgrees, BusAgrees, HasMemory, IsEntryOf}
use Rattle.axp_world.proofs.BusRecords.{some_if, want}
use Rattle.axp_world.proofs.RunValues.{code_stamp_agrees, fetched_agrees, locked_agrees, read_agrees, stamp_agrees}
use Rattle.axp_world.proofs.BusWrites.{entry_waits}

-- a signal names a processor
abbrev pub NamesTarget : Kind → ℕ → Type 0
NamesTarget kind.Signal v = v < MAX_CPUS
NamesTarget _ v = Unit {0}

abbrev pub WantsTarget : Option Wanted → Type 0
WantsTarget None = Unit {0}
WantsTarget (Some w) = NamesTarget w.kind w.value

-- the answer to what a processor asks
abbrev pub answer : (ℕ → ℕ) → List BusCall → Cpu → Ask2 → Option Reply
answer image cs c z = reply_for image cs (cpu_number c) (Ok z)

-- an access is its parts
access_same : (c : Cpu) (k : Kind) (a s v x : ℕ) (y : Bool) (at place : Place) → v ≡ x → at ≡ place
    → outcome.Access (record { cpu = c; kind = k; address = a; size = s; value = v; yes = y; place = at }) ≡ outcome.Access (record { cpu = c; kind = k; address = a; size = s; value = x; yes = y; place = place })
access_same c k a s v x y at place value there = rw (value, there) refl

at_same : (m n : ℕ) → m ≡ n → At m ≡ At n
at_same m n e = ap (λ t. At t) e

signal_same : (image : ℕ → ℕ) (cs : List BusCall) (c : Cpu) (a s v : ℕ) (armed : Bool) (u : LocalMemory) (h : List Record) → calls.turns cs ≡ turns h → (small : Bool) (tested : ltb v MAX_CPUS ≡ small) → ltb v MAX_CPUS ≡ true
    → going.step_outcome c (Some (want kind.Signal a s v)) u (answer image cs c (signal_to (cpu_by v small tested))) ≡ step_outcome_by kind.Signal image armed c (want kind.Signal a s v) h
unfolding reply_by
signal_same image cs c a s v armed u h count true tested below = access_same c kind.Signal a s v v false (At (calls.turns cs + 1)) (At (turns h + 1)) refl (ap (λ t. At (t + 1)) count)
signal_same image cs c a s v armed u h count false tested below = absurd (false≢true (sym tested ∙ below))

tried_same : (f : PortState) (c : Cpu) (a s v n : ℕ) (u : LocalMemory) (wrote : Option Written) (line : Line) → f.turns ≡ n → (success : Bool)
    → going.step_outcome c (Some (want kind.Conditional a s v)) u (Some (conditional_reply success f wrote line)) ≡ model.conditional_outcome c (want kind.Conditional a s v) success n
tried_same f c a s v n u wrote line count true = access_same c kind.Conditional a s v v true (At (f.turns + 1)) (At (n + 1)) refl (ap (λ t. At (t + 1)) count)
tried_same f c a s v n u wrote line count false = access_same c kind.Conditional a s v v false (At f.turns) (At n) refl (ap (λ t. At t) count)

-- the Step of a wanted access, by its kind
step_gives : (k : Kind) (image : ℕ → ℕ) (cs : List BusCall) (c : Cpu) (a s v : ℕ) (armed : Bool) (u : LocalMemory) (h : List Record) → Fitting h → BufferAgrees (cpu_number c) h u.buffer → BanksAgree image (cpu_number c) h u → BusAgrees image h cs
    → IsInLine a s → NamesTarget k v → is_ready k (line_of a) (cpu_number c) h ≡ true
    → going.step_outcome c (Some (want k a s v)) u (answer image cs c (access_ask k (want k a s v) armed u)) ≡ step_outcome_by k image armed c (want k a s v) h
unfolding reply_by
step_gives kind.Fetch image cs c a s v armed u h fit buffers banks bus inside target able =
    access_same c kind.Fetch a s (going.fetched_value (want kind.Fetch a s v) u) _ false _ (At (code_stamp (cpu_number c) (line_of a) h)) (fetched_agrees image c (want kind.Fetch a s v) h u banks inside able)
    (ap (λ t. At t) (code_stamp_agrees image (cpu_number c) (line_of a) h u banks able))
step_gives kind.Read image cs c a s v armed u h fit buffers banks bus inside target able =
    access_same c kind.Read a s (going.read_value (want kind.Read a s v) u) _ false _ (At (read_place (cpu_number c) (line_of a) h)) (read_agrees image c (want kind.Read a s v) h u fit buffers banks inside able)
    (ap (λ t. At (max t u.barrier)) (stamp_agrees image (cpu_number c) (line_of a) h u banks able) ∙ ap (λ t. At (max (stamp (cpu_number c) (line_of a) h) t)) banks.barrier)
step_gives kind.Locked image cs c a s v armed u h fit buffers banks bus inside target able =
    let none = not-true (has_line (line_of a) (buffer (cpu_number c) h).waiting) (and_parts (not (has_line (line_of a) (buffer (cpu_number c) h).waiting)) _ able).0 in
    access_same c kind.Locked a s _ _ false _ (At (turns h)) (locked_agrees image (calls.memory image cs) c (want kind.Locked a s v) h fit inside none (bus.bytes image)) (ap (λ t. At t) bus.count)
step_gives kind.Conditional image cs c a s v armed u h fit buffers banks bus inside target able =
    tried_same (port_state image cs (cpu_number c)) c a s v (turns h) u (calls.write_asked (request.Conditional a s v armed)) (line_at a) bus.count (armed && is_allowed a (calls.register (cpu_number c) cs))
    ∙ ap (λ b. model.conditional_outcome c (want kind.Conditional a s v) (armed && is_allowed a b) (turns h)) (bus.block (cpu_number c))
step_gives kind.Write image cs c a s v armed u h fit buffers banks bus inside target able = access_same c kind.Write a s v v false (Entry (pending.store_number (line_of a) u.buffer)) (Entry (entry_for (line_of a) (buffer (cpu_number c) h))) refl (ap (λ n. Entry n) (buffers.number (line_of a)))
step_gives kind.Barrier image cs c a s v armed u h fit buffers banks bus inside target able = access_same c kind.Barrier a s v v false (At (calls.turns cs)) (At (turns h)) refl (ap (λ t. At t) bus.count)
step_gives kind.CodeBarrier image cs c a s v armed u h fit buffers banks bus inside target able = access_same c kind.CodeBarrier a s v v false (At (calls.turns cs)) (At (turns h)) refl (ap (λ t. At t) bus.count)
step_gives kind.Console image cs c a s v armed u h fit buffers banks bus inside target able = access_same c kind.Console a s v v false (At (calls.turns cs)) (At (turns h)) refl (ap (λ t. At t) bus.count)
step_gives kind.WriteBarrier image cs c a s v armed u h fit buffers banks bus inside target able = refl
step_gives kind.Signal image cs c a s v armed u h fit buffers banks bus inside target able = signal_same image cs c a s v armed u h bus.count (ltb v MAX_CPUS) refl (lt-ltb v MAX_CPUS target)
step_gives kind.Poll image cs c a s v armed u h fit buffers banks bus inside target able = absurd (false≢true able)

wanted_gives : (o : Option Wanted) (boundary : Bool) (image : ℕ → ℕ) (cs : List BusCall) (c : Cpu) (armed : Bool) (u : LocalMemory) (h : List Record) (z : Ask2) → Fitting h → BufferAgrees (cpu_number c) h u.buffer → BanksAgree image (cpu_number c) h u → BusAgrees image h cs
    → WantsInLine o → WantsTarget o → step_ask boundary o armed u ≡ Some z → is_step_enabled boundary o (cpu_number c) h ≡ true
    → going.step_outcome c o u (answer image cs c z) ≡ model.step_outcome image armed c o h
wanted_gives None boundary image cs c armed u h z fit buffers banks bus inside target is able = refl
wanted_gives (Some w) boundary image cs c armed u h z fit buffers banks bus inside target is able =
    ap (λ y. going.step_outcome c (Some w) u (answer image cs c y)) (sym (some_if (asking.is_ready w.kind (line_of w.address) u) (access_ask w.kind w armed u) z is))
    ∙ step_gives w.kind image cs c w.address w.size w.value armed u h fit buffers banks bus inside target able

-- a Fill
fill_for_gives : (k : Kind) (image : ℕ → ℕ) (cs : List BusCall) (c : Cpu) (w : Wanted) (u : LocalMemory) (h : List Record) (z : Ask2) → BusAgrees image h cs → fill_for k w u ≡ Some z → going.fill_outcome (Some w) (answer image cs c z) ≡ model.fill_outcome (Some w) h
unfolding reply_by
fill_for_gives kind.Fetch image cs c w u h z bus is =
    ap (λ y. going.fill_outcome (Some w) (answer image cs c y)) (sym (some_if (may_bring (line_of w.address) u.code) (ask.Bus (request.FillCode (line_at w.address))) z is)) ∙ ap (λ t. outcome.Filled (bank_for w.kind (line_of w.address)) (line_at w.address) t) bus.count
fill_for_gives kind.Read image cs c w u h z bus is =
    ap (λ y. going.fill_outcome (Some w) (answer image cs c y)) (sym (some_if (may_bring (line_of w.address) (data_copies (line_of w.address) u)) (ask.Bus (request.Fill (line_at w.address))) z is)) ∙ ap (λ t. outcome.Filled (bank_for w.kind (line_of w.address)) (line_at w.address) t) bus.count
fill_for_gives _ image cs c w u h z bus is = cc

fill_gives : (o : Option Wanted) (image : ℕ → ℕ) (cs : List BusCall) (c : Cpu) (u : LocalMemory) (h : List Record) (z : Ask2) → BusAgrees image h cs → fill_ask o u ≡ Some z → going.fill_outcome o (answer image cs c z) ≡ model.fill_outcome o h
fill_gives None image cs c u h z bus is = cc
fill_gives (Some w) image cs c u h z bus is = fill_for_gives w.kind image cs c w u h z bus is

-- a Drain
line_by-addressed : (n : ℕ) (b : Bool) (tested : ltb (n * LINE_BYTES) (2 ^ 64) ≡ b) (h : ltb (n * LINE_BYTES) (2 ^ 64) ≡ true) → line_by n b tested ≡ record { number = n; addressed = h }
line_by-addressed n true tested h = ap (λ (p : ltb (n * LINE_BYTES) (2 ^ 64) ≡ true). record { number = n; addressed = p }) (Bool-set (ltb (n * LINE_BYTES) (2 ^ 64)) true tested h)
line_by-addressed n false tested h = absurd (false≢true (sym tested ∙ h))

-- the line of a line's number is the line
pub numbered_line : (l : Line) → line_numbered (line_number l) ≡ l
numbered_line l = line_by-addressed l.number (ltb (l.number * LINE_BYTES) (2 ^ 64)) refl l.addressed

drained_same : (e : Pending) (w : Waiting) (m n : ℕ) → IsEntryOf e w → m ≡ n → outcome.Drained e.number (line_numbered e.line) m ≡ outcome.Drained w.number w.line n
drained_same e w m n is count =
    ap (λ x. outcome.Drained x (line_numbered e.line) m) is.number
    ∙ ap (λ l. outcome.Drained w.number l m) (ap line_numbered is.line ∙ numbered_line w.line)
    ∙ ap (λ t. outcome.Drained w.number w.line t) count

drain_gives : (o : Option Pending) (image : ℕ → ℕ) (cs : List BusCall) (c : Cpu) (n : ℕ) (b : pending.Buffer) (h : List Record) (z : Ask2) → BufferAgrees (cpu_number c) h b → BusAgrees image h cs → slice_get (oldest_group b.kept) n ≡ o → drain_ask o ≡ Some z
    → going.drain_outcome o (answer image cs c z) ≡ model.drain_outcome (slice_get (oldest (buffer (cpu_number c) h).waiting) n) h
unfolding reply_by
drain_gives None image cs c n b h z buffers bus found is = cc
drain_gives (Some e) image cs c n b h z buffers bus found is =
    let same : ask.Bus (request.Drain (line_numbered e.line) (record { 0 = e.bits }) (data_of e.bytes)) ≡ z = cc in
    let waits = entry_waits (oldest_group b.kept) (oldest (buffer (cpu_number c) h).waiting) n e buffers.oldest found in
    ap (λ y. going.drain_outcome (Some e) (answer image cs c y)) (sym same)
    ∙ drained_same e waits.0 (calls.turns cs + 1) (turns h + 1) waits.2 (ap (λ t. t + 1) bus.count)
    ∙ ap (λ o. model.drain_outcome o h) (sym waits.1)

-- a Take
older_by : (image : ℕ → ℕ) (h : List Record) (l turn s : ℕ) (holds : Bool) (o : Option (ℕ × LineData)) → HasMemory image h l o s → is_some o ≡ holds → is_older turn o ≡ (holds && ltb s turn)
older_by image h l turn s holds None has is = rw (sym is) refl
older_by image h l turn s holds (Some (stamp, d)) has is = rw (sym is) (ap (λ n. ltb n turn) has.0)

older_agrees : (image : ℕ → ℕ) (p l turn : ℕ) (h : List Record) (u : LocalMemory) → BanksAgree image p h u → has_older l turn (data_copies l u) ≡ (held p l h && ltb (stamp p l h) turn)
older_agrees image p l turn h u banks = older_by image h l turn (stamp p l h) (held p l h) (get_of l (data_copies l u)) (banks.line_memory l) (sym (held_get l (data_copies l u)) ∙ banks.lines l)

first_gives : (image : ℕ → ℕ) (p : ℕ) (u : LocalMemory) (h : List Record) → BanksAgree image p h u → (pairs : List (Line × ℕ)) → (Some (first_late pairs) ≡ Some reply.Nothing → ⊥) → going.take_outcome u (Some (first_late pairs)) ≡ model.take_outcome p pairs h
first_gives image p u h banks [] something = absurd (something refl)
first_gives image p u h banks ((line, turn) ∷ pairs) something = ap (λ b. outcome.Taken line turn b) (older_agrees image p (line_number line) turn h u banks)

take_gives : (b : Bank) (image : ℕ → ℕ) (cs : List BusCall) (c : Cpu) (u : LocalMemory) (h : List Record) (z : Ask2) → BanksAgree image (cpu_number c) h u → BusAgrees image h cs → (answer image cs c z ≡ Some reply.Nothing → ⊥) → take_ask b ≡ Some z
    → going.take_outcome u (answer image cs c z) ≡ model.take_outcome (cpu_number c) (late (cpu_number c) b h) h
unfolding reply_by
take_gives Even image cs c u h z banks bus something is =
    let same : ask.Bus (request.Take Even) ≡ z = cc in
    ap (λ y. going.take_outcome u (answer image cs c y)) (sym same)
    ∙ first_gives image (cpu_number c) u h banks (calls.late (cpu_number c) Even cs) (subst (λ y. answer image cs c y ≡ Some reply.Nothing → ⊥) (sym same) something)
    ∙ ap (λ pairs. model.take_outcome (cpu_number c) pairs h) (bus.pairs (cpu_number c) Even)
take_gives Odd image cs c u h z banks bus something is =
    let same : ask.Bus (request.Take Odd) ≡ z = cc in
    ap (λ y. going.take_outcome u (answer image cs c y)) (sym same)
    ∙ first_gives image (cpu_number c) u h banks (calls.late (cpu_number c) Odd cs) (subst (λ y. answer image cs c y ≡ Some reply.Nothing → ⊥) (sym same) something)
    ∙ ap (λ pairs. model.take_outcome (cpu_number c) pairs h) (bus.pairs (cpu_number c) Odd)
take_gives Code image cs c u h z banks bus something is = cc

-- a Poll
poll_gives : (low : Bool) (image : ℕ → ℕ) (cs : List BusCall) (c : Cpu) (h : List Record) → BusAgrees image h cs
    → going.poll_outcome low (answer image cs c (ask.Bus (request.Poll low))) ≡ outcome.Polled (is_signalled (cpu_number c) h) (is_signalled (cpu_number c) h && low) (turns h)
unfolding reply_by
poll_gives low image cs c h bus = ap (λ b. outcome.Polled b (b && low) (calls.turns cs)) (bus.requested (cpu_number c)) ∙ ap (λ t. outcome.Polled (is_signalled (cpu_number c) h) (is_signalled (cpu_number c) h && low) t) bus.count

-- what an act that is asked and legal gives is what the memory model says
pub outcome_agrees : (image : ℕ → ℕ) (h : List Record) (a : Act) (c : Cpu) (i : Intent) (u : LocalMemory) (cs : List BusCall) (z : Ask2) → Fitting h → BufferAgrees (cpu_number c) h u.buffer → BanksAgree image (cpu_number c) h u → BusAgrees image h cs
    → WantsInLine i.wanted → WantsTarget i.wanted → (answer image cs c z ≡ Some reply.Nothing → ⊥) → act_ask a i u ≡ Some z → is_enabled a i (cpu_number c) h ≡ true
    → going.outcome_by a c i u (answer image cs c z) ≡ outcome_by a image i c h
outcome_agrees image h act.Step c i u cs z fit buffers banks bus inside target something is able = wanted_gives i.wanted i.boundary image cs c i.lock_flag u h z fit buffers banks bus inside target is able
outcome_agrees image h act.Fill c i u cs z fit buffers banks bus inside target something is able = fill_gives i.wanted image cs c u h z bus is
outcome_agrees image h (act.Drain k) c i u cs z fit buffers banks bus inside target something is able = drain_gives (slice_get (oldest_group u.buffer.kept) k) image cs c k u.buffer h z buffers bus refl is
outcome_agrees image h (act.Take b) c i u cs z fit buffers banks bus inside target something is able = take_gives b image cs c u h z banks bus something is
outcome_agrees image h (act.Drop b line) c i u cs z fit buffers banks bus inside target something is able = refl
outcome_agrees image h act.Poll c i u cs z fit buffers banks bus inside target something is able =
    ap (λ y. going.poll_outcome i.takes_interrupts (answer image cs c y)) (sym (some_if (i.boundary && not u.since.polled) (ask.Bus (request.Poll i.takes_interrupts)) z is)) ∙ poll_gives i.takes_interrupts image cs c h bus
outcome_agrees image h act.Tick c i u cs z fit buffers banks bus inside target something is able = refl
