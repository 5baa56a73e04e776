-- Banks after each act of their processor.
use Rattle.std.proofs.Common.{◌≡◌, ◌≢◌, ℕ, ◌^◌, ◌<◌, Bool, true, false, cond, not, ◌&&◌, eqb, ltb, List, [], ◌∷◌, slice_get, Option, Some, None, refl, sym, ap, ◌∙◌, subst}
use Rattle.std.specs.List.{list_any}
use Rattle.std.specs.Prelude.{Ok}
use Rattle.std.proofs.lemmas.Bool.{and_parts, eq-eqb, ne_eqb, false≢true}
use Rattle.axp_base.specs.Cpus.{cpu_number}
use Rattle.axp_base.specs.Lines.{data_bank, line_number, in_bank, line_at, line_numbered, line_of}
use Rattle.axp_base.specs.declared.lines.Bank.{Bank}
use Rattle.axp_base.specs.declared.lines.Bank.TheVariants.{Even, Odd, Code}
use Rattle.axp_base.specs.declared.lines.Line.{Line}
use Rattle.axp_base.specs.declared.processors.Cpu.{Cpu}
use Rattle.axp_access.specs.declared.Access.{Access}
use Rattle.axp_access.specs.declared.Act.{Act}
use Rattle.axp_access.specs.declared.Act.TheVariants as act
use Rattle.axp_access.specs.declared.Intent.{Intent}
use Rattle.axp_access.specs.declared.Outcome.{Outcome}
use Rattle.axp_access.specs.declared.Outcome.TheVariants as outcome
use Rattle.axp_access.specs.declared.Record.{Record}
use Rattle.axp_access.specs.declared.Wanted.{Wanted}
use Rattle.axp_bank.specs.Copies.{copy_of, dropped, has_room, is_held, put}
use Rattle.axp_bank.proofs.BankLemmas.{whole_empty}
use Rattle.axp_line.specs.Lines.{data_of}
use Rattle.axp_line.specs.declared.contents.LineData.{LineData}
use Rattle.axp_line.specs.declared.messages.Reply.{Reply}
use Rattle.axp_line.specs.declared.messages.Reply.TheVariants as reply
use Rattle.axp_line.specs.declared.messages.Request.{Request}
use Rattle.axp_line.specs.declared.messages.Request.TheVariants as request
use Rattle.axp_lsu.specs.Asking.{act_ask, drain_ask, fill_ask, may_bring, is_ready, step_ask}
use Rattle.axp_lsu.specs.Going.{after_late, drain_outcome, after_drain, fill_outcome, after_fill, after_act, outcome_by, poll_outcome, step_outcome, after_step, take_outcome}
use Rattle.axp_lsu.specs.Keeping.{LocalMemory, copies_of, data_copies, has_dropped, held_pairs, with_copies}
use Rattle.axp_lsu.specs.declared.asks.Ask2.{Ask2}
use Rattle.axp_lsu.specs.declared.asks.Ask2.TheVariants as ask
use Rattle.axp_base.specs.Blocks.{is_allowed}
use Rattle.axp_regs.specs.declared.asks.Kind.{Kind}
use Rattle.axp_regs.specs.declared.asks.Kind.TheVariants as kind
use Rattle.axp_wbuf.specs.Drains.{oldest_group, without}
use Rattle.axp_wbuf.specs.Pending.{Pending, is_of_line}
use Rattle.axp_line.specs.BusCalls.{BusCall, write_asked}
use Rattle.axp_line.specs.BusReply.{port_state, reply_by, conditional_reply}
use Rattle.axp_model.specs.Late.{code_held, held, takes_away}
use Rattle.axp_model.specs.Processors.{IsInLine, WantsInLine}
use Rattle.axp_model.specs.Records.{code_fences, drops, drops_code, fences, fills, fills_code, locks, turns_on}
use Rattle.axp_access.specs.Kinds.{is_barrier, is_code_barrier, is_locked, is_success}
use Rattle.axp_model.specs.Turns.{code_stamp, stamp, turns}
use Rattle.axp_laws.proofs.RunRecords.{bank_own, line_at-number}
use Rattle.axp_laws.proofs.RunFacts.{Fitting}
use Rattle.axp_world.specs.Worlds.{calls_for, reply_for}
use Rattle.axp_world.proofs.Agreement.{BusAgrees, HasMemory}
use Rattle.axp_world.proofs.BusLines.{bus_line}
use Rattle.axp_world.proofs.BankChanges.{code_line_brought, code_line_dropped, held_is_banked, line_brought, line_dropped, line_invalidated, line_rewritten}
use Rattle.axp_world.proofs.BankBarriers.{fence_shows}
use Rattle.axp_world.proofs.BankLeaves.{barrier_left, barrier_made, code_brought, code_lost, code_stamp_brought, held_brought, held_fenced, held_left, held_lost, held_taken, leaves_code, leaves_data, leaves_other_code, leaves_others, stamp_brought, stamp_left}
use Rattle.axp_world.proofs.BankShows.{KeptShows, nothing_changed, same_shows}
use Rattle.axp_world.proofs.BankSpares.{told_of_none}

-- a record of an act
abbrev pub of_act : Cpu → Act → Outcome → Record
of_act cpu a o = record { event = record { cpu = cpu; act = a }; outcome = o }

-- with it a processor's banks show what is held before it and after it, if the bus agrees after it
abbrev pub Goes : (ℕ → ℕ) → Cpu → Record → List Record → LocalMemory → LocalMemory → List BusCall → Type 0
Goes image cpu r h u v cs = Fitting (r ∷ h) → BusAgrees image (r ∷ h) cs → KeptShows image (r ∷ h) (cpu_number cpu) h u → KeptShows image (r ∷ h) (cpu_number cpu) (r ∷ h) v

cpu_is_own : (cpu : Cpu) → eqb (cpu_number cpu) (cpu_number cpu) ≡ true
cpu_is_own cpu = eq-eqb (cpu_number cpu) (cpu_number cpu) refl

-- an ask that was made under a condition
asked_if : (b : Bool) (x q : Ask2) → cond b (Some x) None ≡ Some q → (b ≡ true) × (x ≡ q)
asked_if true x q e = (refl, cc)
asked_if false x q e = cc

-- an access that moves no line
leaves_copies : (image : ℕ → ℕ) (cpu : Cpu) (h : List Record) (u : LocalMemory) (x : Access) → is_locked x.kind ≡ false → is_success x ≡ false → is_barrier x.kind ≡ false → is_code_barrier x.kind ≡ false
    → KeptShows image (of_act cpu act.Step (outcome.Access x) ∷ h) (cpu_number cpu) h u → KeptShows image (of_act cpu act.Step (outcome.Access x) ∷ h) (cpu_number cpu) (of_act cpu act.Step (outcome.Access x) ∷ h) u
leaves_copies image cpu h u x lock success fence code_fence was =
    let r : Record = of_act cpu act.Step (outcome.Access x) in
    let no_fence : fences r.outcome ≡ false = rw (fence, code_fence) refl in
    nothing_changed image (r ∷ h) (cpu_number cpu) r h u
    (leaves_data (cpu_number cpu) r h (cpu_is_own cpu) (λ l. refl) (λ l. rw lock refl) (λ l. rw success refl) (λ l. refl) no_fence (λ l s. refl))
    (leaves_code (cpu_number cpu) r h (cpu_is_own cpu) (λ l. refl) (λ l. refl) code_fence) (barrier_left (cpu_number cpu) r h (cpu_is_own cpu) no_fence) was

-- a record that is neither an access nor moves a line
idle : (image : ℕ → ℕ) (cpu : Cpu) (a : Act) (o : Outcome) (h : List Record) (u : LocalMemory) → ((l : ℕ) → drops l a ≡ false) → ((l : ℕ) → drops_code l a ≡ false) → ((l : ℕ) → fills l o ≡ false) → ((l : ℕ) → fills_code l o ≡ false) → ((l : ℕ) → locks l o ≡ false)
    → ((l : ℕ) → turns_on l o ≡ false) → fences o ≡ false → code_fences o ≡ false → ((l s : ℕ) → takes_away l s o ≡ false)
    → KeptShows image (of_act cpu a o ∷ h) (cpu_number cpu) h u → KeptShows image (of_act cpu a o ∷ h) (cpu_number cpu) (of_act cpu a o ∷ h) u
idle image cpu a o h u drop drop_code fill fill_code lock turn fence code_fence take was =
    let r : Record = of_act cpu a o in
    nothing_changed image (r ∷ h) (cpu_number cpu) r h u (leaves_data (cpu_number cpu) r h (cpu_is_own cpu) fill lock turn drop fence take)
    (leaves_code (cpu_number cpu) r h (cpu_is_own cpu) fill_code drop_code code_fence) (barrier_left (cpu_number cpu) r h (cpu_is_own cpu) fence) was

other_line : (n l : ℕ) (line : Line) → line_number line ≡ n → l ≢ line_number line → eqb n l ≡ false
other_line n l line is apart = ne_eqb n l (λ (same : n ≡ l). apart (sym same ∙ sym is))

this_line : (n : ℕ) (line : Line) → line_number line ≡ n → eqb n (line_number line) ≡ true
this_line n line is = eq-eqb n (line_number line) (sym is)

-- a wanted access, and what its Step gives with the bus's answer
abbrev wanting : Kind → ℕ → ℕ → ℕ → Wanted
wanting k a s v = record { kind = k; address = a; size = s; value = v }

abbrev of_step : Cpu → Cpu → Wanted → LocalMemory → Option Reply → Record
of_step cpu maker w u t = of_act cpu act.Step (step_outcome maker (Some w) u t)

-- a load-locked brings its line in
locked_goes : (image : ℕ → ℕ) (cpu maker : Cpu) (h : List Record) (u : LocalMemory) (cs : List BusCall) (a s v : ℕ) → has_room (line_of a) (data_copies (line_of a) u) ≡ true
    → Goes image cpu (of_step cpu maker (wanting kind.Locked a s v) u (reply_for image cs (cpu_number cpu) (Ok (ask.Bus (request.Locked a))))) h u (after_step (Some (wanting kind.Locked a s v)) (reply_for image cs (cpu_number cpu) (Ok (ask.Bus (request.Locked a)))) u) (calls_for image cs cpu (Ok (ask.Bus (request.Locked a))))
unfolding reply_by
locked_goes image cpu maker h u cs a s v room fit bus was =
    let p : ℕ = cpu_number cpu in
    let line : Line = line_at a in
    let is : line_number line ≡ line_of a = line_at-number a fit.0.1.addressed in
    let r : Record = of_step cpu maker (wanting kind.Locked a s v) u (reply_for image cs p (Ok (ask.Bus (request.Locked a)))) in
    line_brought image p (data_bank (line_of a)) r h u line _ _ (subst (λ n. in_bank (data_bank (line_of a)) n ≡ true) (sym is) (bank_own (line_of a)))
    (leaves_others (line_number line) p r h (cpu_is_own cpu) (λ l apart. refl) (λ l apart. other_line (line_of a) l line is apart) (λ l apart. refl) (λ l apart. refl) refl (λ l t apart. refl))
    (leaves_code p r h (cpu_is_own cpu) (λ l. refl) (λ l. refl) refl) (barrier_left p r h (cpu_is_own cpu) refl)
    (held_brought p (line_number line) r h (cpu_is_own cpu) (this_line (line_of a) line is)) (stamp_brought p (line_number line) r h (cpu_is_own cpu) (rw (this_line (line_of a) line is) refl))
    (subst (λ n. has_room n (data_copies (line_of a) u) ≡ true) (sym is) room) (bus_line image (r ∷ h) (calls_for image cs cpu (Ok (ask.Bus (request.Locked a)))) line (line_number line) _ _ bus refl refl refl) was

-- a store-conditional writes its line again, where it succeeds
abbrev conditional_call : (ℕ → ℕ) → Cpu → List BusCall → Request → Reply → List BusCall
conditional_call image cpu cs q t = record { cpu = cpu; ask = q; answer = t } ∷ cs

conditional_by : (b : Bool) (image : ℕ → ℕ) (cpu maker : Cpu) (h : List Record) (u : LocalMemory) (cs : List BusCall) (a s v : ℕ) (armed : Bool)
    → Goes image cpu (of_step cpu maker (wanting kind.Conditional a s v) u (Some (conditional_reply b (port_state image cs (cpu_number cpu)) (write_asked (request.Conditional a s v armed)) (line_at a)))) h u
    (after_step (Some (wanting kind.Conditional a s v)) (Some (conditional_reply b (port_state image cs (cpu_number cpu)) (write_asked (request.Conditional a s v armed)) (line_at a))) u)
    (conditional_call image cpu cs (request.Conditional a s v armed) (conditional_reply b (port_state image cs (cpu_number cpu)) (write_asked (request.Conditional a s v armed)) (line_at a)))
conditional_by true image cpu maker h u cs a s v armed fit bus was =
    let p : ℕ = cpu_number cpu in
    let t : Reply = conditional_reply true (port_state image cs p) (write_asked (request.Conditional a s v armed)) (line_at a) in
    let line : Line = line_at a in
    let is : line_number line ≡ line_of a = line_at-number a fit.0.1.addressed in
    let r : Record = of_step cpu maker (wanting kind.Conditional a s v) u (Some t) in
    line_rewritten image p r h u line _ _
    (leaves_others (line_number line) p r h (cpu_is_own cpu) (λ l apart. refl) (λ l apart. refl) (λ l apart. other_line (line_of a) l line is apart) (λ l apart. refl) refl (λ l t apart. refl))
    (leaves_code p r h (cpu_is_own cpu) (λ l. refl) (λ l. refl) refl) (barrier_left p r h (cpu_is_own cpu) refl)
    (held_left p (line_number line) r h (cpu_is_own cpu) refl refl refl refl refl) (stamp_brought p (line_number line) r h (cpu_is_own cpu) (this_line (line_of a) line is))
    (bus_line image (r ∷ h) (conditional_call image cpu cs (request.Conditional a s v armed) t) line (line_number line) _ _ bus refl refl refl) was
conditional_by false image cpu maker h u cs a s v armed fit bus was = leaves_copies image cpu h u _ refl refl refl refl was

conditional_goes : (image : ℕ → ℕ) (cpu maker : Cpu) (h : List Record) (u : LocalMemory) (cs : List BusCall) (a s v : ℕ) (armed : Bool)
    → Goes image cpu (of_step cpu maker (wanting kind.Conditional a s v) u (reply_for image cs (cpu_number cpu) (Ok (ask.Bus (request.Conditional a s v armed))))) h u
    (after_step (Some (wanting kind.Conditional a s v)) (reply_for image cs (cpu_number cpu) (Ok (ask.Bus (request.Conditional a s v armed)))) u) (calls_for image cs cpu (Ok (ask.Bus (request.Conditional a s v armed))))
unfolding reply_by
conditional_goes image cpu maker h u cs a s v armed = conditional_by (armed && is_allowed a (port_state image cs (cpu_number cpu)).block) image cpu maker h u cs a s v armed

-- a barrier delivers all that is late
barrier_goes : (image : ℕ → ℕ) (cpu maker : Cpu) (h : List Record) (u : LocalMemory) (cs : List BusCall) (a s v : ℕ) → BusAgrees image h cs
    → Goes image cpu (of_step cpu maker (wanting kind.Barrier a s v) u (reply_for image cs (cpu_number cpu) (Ok (ask.Bus (request.Barrier (held_pairs u)))))) h u
    (after_step (Some (wanting kind.Barrier a s v)) (reply_for image cs (cpu_number cpu) (Ok (ask.Bus (request.Barrier (held_pairs u))))) u) (calls_for image cs cpu (Ok (ask.Bus (request.Barrier (held_pairs u)))))
unfolding reply_by
barrier_goes image cpu maker h u cs a s v before fit bus was =
    let p : ℕ = cpu_number cpu in
    let r : Record = of_step cpu maker (wanting kind.Barrier a s v) u (reply_for image cs p (Ok (ask.Bus (request.Barrier (held_pairs u))))) in
    let code = leaves_code p r h (cpu_is_own cpu) (λ l. refl) (λ l. refl) refl in
    fence_shows image (r ∷ h) p r h cs u u.code before
    (record { holds = λ l. held_fenced p l r h (cpu_is_own cpu) refl refl refl refl refl; stamps = λ l. stamp_left p l r h (cpu_is_own cpu) refl refl refl; fence = barrier_made p r h (cpu_is_own cpu) refl })
    (same_shows image (r ∷ h) (λ l. code_held p l h) (λ l. code_held p l (r ∷ h)) (λ l. code_stamp p l h) (λ l. code_stamp p l (r ∷ h)) u.code code.holds code.stamps was.code) was

code_barrier_goes : (image : ℕ → ℕ) (cpu maker : Cpu) (h : List Record) (u : LocalMemory) (cs : List BusCall) (a s v : ℕ) → BusAgrees image h cs
    → Goes image cpu (of_step cpu maker (wanting kind.CodeBarrier a s v) u (reply_for image cs (cpu_number cpu) (Ok (ask.Bus (request.CodeBarrier (held_pairs u)))))) h u
    (after_step (Some (wanting kind.CodeBarrier a s v)) (reply_for image cs (cpu_number cpu) (Ok (ask.Bus (request.CodeBarrier (held_pairs u))))) u) (calls_for image cs cpu (Ok (ask.Bus (request.CodeBarrier (held_pairs u)))))
unfolding reply_by
code_barrier_goes image cpu maker h u cs a s v before fit bus was =
    let p : ℕ = cpu_number cpu in
    let r : Record = of_step cpu maker (wanting kind.CodeBarrier a s v) u (reply_for image cs p (Ok (ask.Bus (request.CodeBarrier (held_pairs u))))) in
    fence_shows image (r ∷ h) p r h cs u [] before
    (record { holds = λ l. held_fenced p l r h (cpu_is_own cpu) refl refl refl refl refl; stamps = λ l. stamp_left p l r h (cpu_is_own cpu) refl refl refl; fence = barrier_made p r h (cpu_is_own cpu) refl })
    (record { whole = whole_empty; each = λ l. rw (told_of_none l) (code_lost p l r h (cpu_is_own cpu) refl refl) }) was

-- a Step
access_goes : (k : Kind) (image : ℕ → ℕ) (cpu maker : Cpu) (h : List Record) (u : LocalMemory) (cs : List BusCall) (a s v : ℕ) (boundary armed : Bool) (q : Ask2) → BusAgrees image h cs → step_ask boundary (Some (wanting k a s v)) armed u ≡ Some q
    → Goes image cpu (of_step cpu maker (wanting k a s v) u (reply_for image cs (cpu_number cpu) (Ok q))) h u (after_step (Some (wanting k a s v)) (reply_for image cs (cpu_number cpu) (Ok q)) u) (calls_for image cs cpu (Ok q))
access_goes kind.Fetch image cpu maker h u cs a s v boundary armed q before asks = λ fit bus was. leaves_copies image cpu h u _ refl refl refl refl was
access_goes kind.Read image cpu maker h u cs a s v boundary armed q before asks = λ fit bus was. leaves_copies image cpu h u _ refl refl refl refl was
access_goes kind.Write image cpu maker h u cs a s v boundary armed q before asks = λ fit bus was. leaves_copies image cpu h u _ refl refl refl refl was
access_goes kind.WriteBarrier image cpu maker h u cs a s v boundary armed q before asks = λ fit bus was. leaves_copies image cpu h u _ refl refl refl refl was
access_goes kind.Signal image cpu maker h u cs a s v boundary armed q before asks = λ fit bus was. leaves_copies image cpu h u _ refl refl refl refl was
access_goes kind.Console image cpu maker h u cs a s v boundary armed q before asks = λ fit bus was. leaves_copies image cpu h u _ refl refl refl refl was
access_goes kind.Poll image cpu maker h u cs a s v boundary armed q before asks = λ fit bus was. leaves_copies image cpu h u _ refl refl refl refl was
access_goes kind.Locked image cpu maker h u cs a s v boundary armed q before asks =
    let both = asked_if (is_ready kind.Locked (line_of a) u) (ask.Bus (request.Locked a)) q asks in
    let room = (and_parts (not (list_any (is_of_line (line_of a)) u.buffer.kept)) (has_room (line_of a) (data_copies (line_of a) u)) both.0).1 in
    subst (λ x. Goes image cpu (of_step cpu maker (wanting kind.Locked a s v) u (reply_for image cs (cpu_number cpu) (Ok x))) h u (after_step (Some (wanting kind.Locked a s v)) (reply_for image cs (cpu_number cpu) (Ok x)) u) (calls_for image cs cpu (Ok x)))
    both.1 (locked_goes image cpu maker h u cs a s v room)
access_goes kind.Conditional image cpu maker h u cs a s v boundary armed q before asks =
    let both = asked_if (is_ready kind.Conditional (line_of a) u) (ask.Bus (request.Conditional a s v armed)) q asks in
    subst (λ x. Goes image cpu (of_step cpu maker (wanting kind.Conditional a s v) u (reply_for image cs (cpu_number cpu) (Ok x))) h u (after_step (Some (wanting kind.Conditional a s v)) (reply_for image cs (cpu_number cpu) (Ok x)) u) (calls_for image cs cpu (Ok x)))
    both.1 (conditional_goes image cpu maker h u cs a s v armed)
access_goes kind.Barrier image cpu maker h u cs a s v boundary armed q before asks =
    let both = asked_if (is_ready kind.Barrier (line_of a) u) (ask.Bus (request.Barrier (held_pairs u))) q asks in
    subst (λ x. Goes image cpu (of_step cpu maker (wanting kind.Barrier a s v) u (reply_for image cs (cpu_number cpu) (Ok x))) h u (after_step (Some (wanting kind.Barrier a s v)) (reply_for image cs (cpu_number cpu) (Ok x)) u) (calls_for image cs cpu (Ok x)))
    both.1 (barrier_goes image cpu maker h u cs a s v before)
access_goes kind.CodeBarrier image cpu maker h u cs a s v boundary armed q before asks =
    let both = asked_if (is_ready kind.CodeBarrier (line_of a) u) (ask.Bus (request.CodeBarrier (held_pairs u))) q asks in
    subst (λ x. Goes image cpu (of_step cpu maker (wanting kind.CodeBarrier a s v) u (reply_for image cs (cpu_number cpu) (Ok x))) h u (after_step (Some (wanting kind.CodeBarrier a s v)) (reply_for image cs (cpu_number cpu) (Ok x)) u) (calls_for image cs cpu (Ok x)))
    both.1 (code_barrier_goes image cpu maker h u cs a s v before)

step_goes : (o : Option Wanted) (image : ℕ → ℕ) (cpu maker : Cpu) (h : List Record) (u : LocalMemory) (cs : List BusCall) (boundary armed : Bool) (q : Ask2) → BusAgrees image h cs → step_ask boundary o armed u ≡ Some q
    → Goes image cpu (of_act cpu act.Step (step_outcome maker o u (reply_for image cs (cpu_number cpu) (Ok q)))) h u (after_step o (reply_for image cs (cpu_number cpu) (Ok q)) u) (calls_for image cs cpu (Ok q))
step_goes None image cpu maker h u cs boundary armed q before asks = λ fit bus was. idle image cpu act.Step outcome.NoAccess h u (λ l. refl) (λ l. refl) (λ l. refl) (λ l. refl) (λ l. refl) (λ l. refl) refl refl (λ l s. refl) was
step_goes (Some w) image cpu maker h u cs boundary armed q before asks = access_goes w.kind image cpu maker h u cs w.address w.size w.value boundary armed q before asks

-- a Fill brings a line in
abbrev of_fill : Cpu → Bank → Line → ℕ → Record
of_fill cpu b line turn = of_act cpu act.Fill (outcome.Filled b line turn)

data_filled : (b : Bank) (image : ℕ → ℕ) (cpu : Cpu) (h : List Record) (u : LocalMemory) (line : Line) (turn : ℕ) (d : LineData) → in_bank b (line_number line) ≡ true → has_room (line_number line) (copies_of b u) ≡ true
    → HasMemory image (of_fill cpu b line turn ∷ h) (line_number line) (Some (turn, d)) (turns h) → KeptShows image (of_fill cpu b line turn ∷ h) (cpu_number cpu) h u
    → KeptShows image (of_fill cpu b line turn ∷ h) (cpu_number cpu) (of_fill cpu b line turn ∷ h) (with_copies b (put (copy_of line turn d) (copies_of b u)) u)
data_filled Even image cpu h u line turn d mine room memory was =
    let p : ℕ = cpu_number cpu in
    let r : Record = of_fill cpu Even line turn in
    let here : fills (line_number line) r.outcome ≡ true = this_line (line_number line) line refl in
    line_brought image p Even r h u line turn d mine
    (leaves_others (line_number line) p r h (cpu_is_own cpu) (λ l apart. other_line (line_number line) l line refl apart) (λ l apart. refl) (λ l apart. refl) (λ l apart. refl) refl (λ l t apart. refl))
    (leaves_code p r h (cpu_is_own cpu) (λ l. refl) (λ l. refl) refl) (barrier_left p r h (cpu_is_own cpu) refl)
    (held_brought p (line_number line) r h (cpu_is_own cpu) (rw here refl)) (stamp_brought p (line_number line) r h (cpu_is_own cpu) (rw here refl)) room memory was
data_filled Odd image cpu h u line turn d mine room memory was =
    let p : ℕ = cpu_number cpu in
    let r : Record = of_fill cpu Odd line turn in
    let here : fills (line_number line) r.outcome ≡ true = this_line (line_number line) line refl in
    line_brought image p Odd r h u line turn d mine
    (leaves_others (line_number line) p r h (cpu_is_own cpu) (λ l apart. other_line (line_number line) l line refl apart) (λ l apart. refl) (λ l apart. refl) (λ l apart. refl) refl (λ l t apart. refl))
    (leaves_code p r h (cpu_is_own cpu) (λ l. refl) (λ l. refl) refl) (barrier_left p r h (cpu_is_own cpu) refl)
    (held_brought p (line_number line) r h (cpu_is_own cpu) (rw here refl)) (stamp_brought p (line_number line) r h (cpu_is_own cpu) (rw here refl)) room memory was
data_filled Code image cpu h u line turn d mine room memory was = absurd (false≢true mine)

code_filled : (image : ℕ → ℕ) (cpu : Cpu) (h : List Record) (u : LocalMemory) (line : Line) (turn : ℕ) (d : LineData) → has_room (line_number line) u.code ≡ true
    → HasMemory image (of_fill cpu Code line turn ∷ h) (line_number line) (Some (turn, d)) (turns h) → KeptShows image (of_fill cpu Code line turn ∷ h) (cpu_number cpu) h u
    → KeptShows image (of_fill cpu Code line turn ∷ h) (cpu_number cpu) (of_fill cpu Code line turn ∷ h) (with_copies Code (put (copy_of line turn d) u.code) u)
code_filled image cpu h u line turn d room memory was =
    let p : ℕ = cpu_number cpu in
    let r : Record = of_fill cpu Code line turn in
    let here : fills_code (line_number line) r.outcome ≡ true = this_line (line_number line) line refl in
    code_line_brought image p r h u line turn d
    (leaves_data p r h (cpu_is_own cpu) (λ l. refl) (λ l. refl) (λ l. refl) (λ l. refl) refl (λ l t. refl))
    (leaves_other_code (line_number line) p r h (cpu_is_own cpu) (λ l apart. other_line (line_number line) l line refl apart) (λ l apart. refl) refl) (barrier_left p r h (cpu_is_own cpu) refl)
    (code_brought p (line_number line) r h (cpu_is_own cpu) here) (code_stamp_brought p (line_number line) r h (cpu_is_own cpu) here) room memory was

data_fill_goes : (image : ℕ → ℕ) (cpu : Cpu) (h : List Record) (u : LocalMemory) (cs : List BusCall) (a s v : ℕ) → a < 2 ^ 64 → has_room (line_of a) (data_copies (line_of a) u) ≡ true
    → Goes image cpu (of_act cpu act.Fill (fill_outcome (Some (wanting kind.Read a s v)) (reply_for image cs (cpu_number cpu) (Ok (ask.Bus (request.Fill (line_at a))))))) h u
    (after_fill (Some (wanting kind.Read a s v)) (reply_for image cs (cpu_number cpu) (Ok (ask.Bus (request.Fill (line_at a))))) u) (calls_for image cs cpu (Ok (ask.Bus (request.Fill (line_at a)))))
unfolding reply_by
data_fill_goes image cpu h u cs a s v low room fit bus was =
    let line : Line = line_at a in
    let is : line_number line ≡ line_of a = line_at-number a low in
    data_filled (data_bank (line_of a)) image cpu h u line _ _ (subst (λ n. in_bank (data_bank (line_of a)) n ≡ true) (sym is) (bank_own (line_of a)))
    (subst (λ n. has_room n (data_copies (line_of a) u) ≡ true) (sym is) room)
    (bus_line image (of_fill cpu (data_bank (line_of a)) line (port_state image cs (cpu_number cpu)).turns ∷ h) (calls_for image cs cpu (Ok (ask.Bus (request.Fill line)))) line (line_number line) _ _ bus refl refl refl) was

code_fill_goes : (image : ℕ → ℕ) (cpu : Cpu) (h : List Record) (u : LocalMemory) (cs : List BusCall) (a s v : ℕ) → a < 2 ^ 64 → has_room (line_of a) u.code ≡ true
    → Goes image cpu (of_act cpu act.Fill (fill_outcome (Some (wanting kind.Fetch a s v)) (reply_for image cs (cpu_number cpu) (Ok (ask.Bus (request.FillCode (line_at a))))))) h u
    (after_fill (Some (wanting kind.Fetch a s v)) (reply_for image cs (cpu_number cpu) (Ok (ask.Bus (request.FillCode (line_at a))))) u) (calls_for image cs cpu (Ok (ask.Bus (request.FillCode (line_at a)))))
unfolding reply_by
code_fill_goes image cpu h u cs a s v low room fit bus was =
    let line : Line = line_at a in
    let is : line_number line ≡ line_of a = line_at-number a low in
    code_filled image cpu h u line _ _ (subst (λ n. has_room n u.code ≡ true) (sym is) room)
    (bus_line image (of_fill cpu Code line (port_state image cs (cpu_number cpu)).turns ∷ h) (calls_for image cs cpu (Ok (ask.Bus (request.FillCode line)))) line (line_number line) _ _ bus refl refl refl) was

wanted_fill_goes : (k : Kind) (image : ℕ → ℕ) (cpu : Cpu) (h : List Record) (u : LocalMemory) (cs : List BusCall) (a s v : ℕ) (q : Ask2) → IsInLine a s → fill_ask (Some (wanting k a s v)) u ≡ Some q
    → Goes image cpu (of_act cpu act.Fill (fill_outcome (Some (wanting k a s v)) (reply_for image cs (cpu_number cpu) (Ok q)))) h u (after_fill (Some (wanting k a s v)) (reply_for image cs (cpu_number cpu) (Ok q)) u) (calls_for image cs cpu (Ok q))
wanted_fill_goes kind.Fetch image cpu h u cs a s v q inside asks =
    let both = asked_if (may_bring (line_of a) u.code) (ask.Bus (request.FillCode (line_at a))) q asks in
    let room = (and_parts (not (is_held (line_of a) u.code)) (has_room (line_of a) u.code) both.0).1 in
    subst (λ x. Goes image cpu (of_act cpu act.Fill (fill_outcome (Some (wanting kind.Fetch a s v)) (reply_for image cs (cpu_number cpu) (Ok x)))) h u (after_fill (Some (wanting kind.Fetch a s v)) (reply_for image cs (cpu_number cpu) (Ok x)) u) (calls_for image cs cpu (Ok x)))
    both.1 (code_fill_goes image cpu h u cs a s v inside.addressed room)
wanted_fill_goes kind.Read image cpu h u cs a s v q inside asks =
    let both = asked_if (may_bring (line_of a) (data_copies (line_of a) u)) (ask.Bus (request.Fill (line_at a))) q asks in
    let room = (and_parts (not (is_held (line_of a) (data_copies (line_of a) u))) (has_room (line_of a) (data_copies (line_of a) u)) both.0).1 in
    subst (λ x. Goes image cpu (of_act cpu act.Fill (fill_outcome (Some (wanting kind.Read a s v)) (reply_for image cs (cpu_number cpu) (Ok x)))) h u (after_fill (Some (wanting kind.Read a s v)) (reply_for image cs (cpu_number cpu) (Ok x)) u) (calls_for image cs cpu (Ok x)))
    both.1 (data_fill_goes image cpu h u cs a s v inside.addressed room)
wanted_fill_goes _ image cpu h u cs a s v q inside asks = cc

fill_goes : (o : Option Wanted) (image : ℕ → ℕ) (cpu : Cpu) (h : List Record) (u : LocalMemory) (cs : List BusCall) (q : Ask2) → WantsInLine o → fill_ask o u ≡ Some q
    → Goes image cpu (of_act cpu act.Fill (fill_outcome o (reply_for image cs (cpu_number cpu) (Ok q)))) h u (after_fill o (reply_for image cs (cpu_number cpu) (Ok q)) u) (calls_for image cs cpu (Ok q))
fill_goes None image cpu h u cs q inside asks = cc
fill_goes (Some w) image cpu h u cs q inside asks = wanted_fill_goes w.kind image cpu h u cs w.address w.size w.value q inside asks

-- a Drain writes its entry's line again
abbrev drain_of : Pending → Ask2
drain_of e = ask.Bus (request.Drain (line_numbered e.line) (record { 0 = e.bits }) (data_of e.bytes))

entry_goes : (image : ℕ → ℕ) (cpu : Cpu) (h : List Record) (u : LocalMemory) (cs : List BusCall) (k : ℕ) (e : Pending)
    → Goes image cpu (of_act cpu (act.Drain k) (drain_outcome (Some e) (reply_for image cs (cpu_number cpu) (Ok (drain_of e))))) h u (after_drain k (Some e) (reply_for image cs (cpu_number cpu) (Ok (drain_of e))) u) (calls_for image cs cpu (Ok (drain_of e)))
unfolding reply_by
entry_goes image cpu h u cs k e fit bus was =
    let p : ℕ = cpu_number cpu in
    let line : Line = line_numbered e.line in
    let r : Record = of_act cpu (act.Drain k) (drain_outcome (Some e) (reply_for image cs (cpu_number cpu) (Ok (drain_of e)))) in
    let here : turns_on (line_number line) r.outcome ≡ true = this_line (line_number line) line refl in
    line_rewritten image p r h (record u { buffer = without k u.buffer }) line _ _
    (leaves_others (line_number line) p r h (cpu_is_own cpu) (λ l apart. refl) (λ l apart. refl) (λ l apart. other_line (line_number line) l line refl apart) (λ l apart. refl) refl (λ l t apart. refl))
    (leaves_code p r h (cpu_is_own cpu) (λ l. refl) (λ l. refl) refl) (barrier_left p r h (cpu_is_own cpu) refl)
    (held_left p (line_number line) r h (cpu_is_own cpu) refl refl refl refl refl) (stamp_brought p (line_number line) r h (cpu_is_own cpu) here)
    (bus_line image (r ∷ h) (calls_for image cs cpu (Ok (drain_of e))) line (line_number line) _ _ bus refl refl refl) was

drain_goes : (o : Option Pending) (image : ℕ → ℕ) (cpu : Cpu) (h : List Record) (u : LocalMemory) (cs : List BusCall) (k : ℕ) (q : Ask2) → drain_ask o ≡ Some q
    → Goes image cpu (of_act cpu (act.Drain k) (drain_outcome o (reply_for image cs (cpu_number cpu) (Ok q)))) h u (after_drain k o (reply_for image cs (cpu_number cpu) (Ok q)) u) (calls_for image cs cpu (Ok q))
drain_goes None image cpu h u cs k q asks = cc
drain_goes (Some e) image cpu h u cs k q asks =
    let same : drain_of e ≡ q = cc in
    subst (λ x. Goes image cpu (of_act cpu (act.Drain k) (drain_outcome (Some e) (reply_for image cs (cpu_number cpu) (Ok x)))) h u (after_drain k (Some e) (reply_for image cs (cpu_number cpu) (Ok x)) u) (calls_for image cs cpu (Ok x)))
    same (entry_goes image cpu h u cs k e)

-- a Take removes an older copy
take_goes : (o : Option Reply) (image : ℕ → ℕ) (cpu : Cpu) (h : List Record) (u : LocalMemory) (b : Bank) → KeptShows image (of_act cpu (act.Take b) (take_outcome u o) ∷ h) (cpu_number cpu) h u
    → KeptShows image (of_act cpu (act.Take b) (take_outcome u o) ∷ h) (cpu_number cpu) (of_act cpu (act.Take b) (take_outcome u o) ∷ h) (after_late o u)
take_goes (Some (reply.Late line turn)) image cpu h u b was =
    let p : ℕ = cpu_number cpu in
    let r : Record = of_act cpu (act.Take b) (take_outcome u (Some (reply.Late line turn))) in
    let here : takes_away (line_number line) (stamp p (line_number line) h) r.outcome ≡ ltb (stamp p (line_number line) h) turn = rw (this_line (line_number line) line refl) refl in
    line_invalidated image p r h u (line_number line) turn
    (leaves_others (line_number line) p r h (cpu_is_own cpu) (λ l apart. refl) (λ l apart. refl) (λ l apart. refl) (λ l apart. refl) refl (λ l s apart. rw (other_line (line_number line) l line refl apart) refl))
    (leaves_code p r h (cpu_is_own cpu) (λ l. refl) (λ l. refl) refl) (barrier_left p r h (cpu_is_own cpu) refl)
    (held_taken p (line_number line) r h (cpu_is_own cpu) refl refl refl refl ∙ ap (λ (x : Bool). held p (line_number line) h && not x) here) (stamp_left p (line_number line) r h (cpu_is_own cpu) refl refl refl) was
take_goes _ image cpu h u b was = idle image cpu (act.Take b) outcome.NoAccess h u (λ l. refl) (λ l. refl) (λ l. refl) (λ l. refl) (λ l. refl) (λ l. refl) refl refl (λ l s. refl) was

-- a Drop gives a held copy up
drop_goes : (b : Bank) (image : ℕ → ℕ) (cpu : Cpu) (h : List Record) (u : LocalMemory) (line : Line) → is_held (line_number line) (copies_of b u) ≡ true → KeptShows image (of_act cpu (act.Drop b line) outcome.Done ∷ h) (cpu_number cpu) h u
    → KeptShows image (of_act cpu (act.Drop b line) outcome.Done ∷ h) (cpu_number cpu) (of_act cpu (act.Drop b line) outcome.Done ∷ h) (with_copies b (dropped (line_number line) (copies_of b u)) u)
drop_goes Even image cpu h u line there was =
    let p : ℕ = cpu_number cpu in
    let r : Record = of_act cpu (act.Drop Even line) outcome.Done in
    line_dropped image p Even r h u (line_number line) ((held_is_banked image (r ∷ h) p h u (line_number line) was).0 there)
    (leaves_others (line_number line) p r h (cpu_is_own cpu) (λ l apart. refl) (λ l apart. refl) (λ l apart. refl) (λ l apart. other_line (line_number line) l line refl apart) refl (λ l s apart. refl))
    (leaves_code p r h (cpu_is_own cpu) (λ l. refl) (λ l. refl) refl) (barrier_left p r h (cpu_is_own cpu) refl)
    (held_lost p (line_number line) r h (cpu_is_own cpu) refl refl (rw (this_line (line_number line) line refl) refl)) was
drop_goes Odd image cpu h u line there was =
    let p : ℕ = cpu_number cpu in
    let r : Record = of_act cpu (act.Drop Odd line) outcome.Done in
    line_dropped image p Odd r h u (line_number line) ((held_is_banked image (r ∷ h) p h u (line_number line) was).1 there)
    (leaves_others (line_number line) p r h (cpu_is_own cpu) (λ l apart. refl) (λ l apart. refl) (λ l apart. refl) (λ l apart. other_line (line_number line) l line refl apart) refl (λ l s apart. refl))
    (leaves_code p r h (cpu_is_own cpu) (λ l. refl) (λ l. refl) refl) (barrier_left p r h (cpu_is_own cpu) refl)
    (held_lost p (line_number line) r h (cpu_is_own cpu) refl refl (rw (this_line (line_number line) line refl) refl)) was
drop_goes Code image cpu h u line there was =
    let p : ℕ = cpu_number cpu in
    let r : Record = of_act cpu (act.Drop Code line) outcome.Done in
    code_line_dropped image p r h u (line_number line)
    (leaves_data p r h (cpu_is_own cpu) (λ l. refl) (λ l. refl) (λ l. refl) (λ l. refl) refl (λ l s. refl))
    (leaves_other_code (line_number line) p r h (cpu_is_own cpu) (λ l apart. refl) (λ l apart. other_line (line_number line) l line refl apart) refl) (barrier_left p r h (cpu_is_own cpu) refl)
    (code_lost p (line_number line) r h (cpu_is_own cpu) refl (rw (this_line (line_number line) line refl) refl)) was

-- a Poll leaves the banks
poll_goes : (o : Option Reply) (image : ℕ → ℕ) (cpu : Cpu) (h : List Record) (u : LocalMemory) (low : Bool) → KeptShows image (of_act cpu act.Poll (poll_outcome low o) ∷ h) (cpu_number cpu) h u
    → KeptShows image (of_act cpu act.Poll (poll_outcome low o) ∷ h) (cpu_number cpu) (of_act cpu act.Poll (poll_outcome low o) ∷ h) u
poll_goes (Some (reply.Polled pending turn)) image cpu h u low was = idle image cpu act.Poll _ h u (λ l. refl) (λ l. refl) (λ l. refl) (λ l. refl) (λ l. refl) (λ l. refl) refl refl (λ l s. refl) was
poll_goes _ image cpu h u low was = idle image cpu act.Poll outcome.NoAccess h u (λ l. refl) (λ l. refl) (λ l. refl) (λ l. refl) (λ l. refl) (λ l. refl) refl refl (λ l s. refl) was

-- each act
pub act_goes : (a : Act) (image : ℕ → ℕ) (cpu maker : Cpu) (h : List Record) (i : Intent) (u : LocalMemory) (cs : List BusCall) (q : Ask2) → WantsInLine i.wanted → BusAgrees image h cs → act_ask a i u ≡ Some q
    → Goes image cpu (of_act cpu a (outcome_by a maker i u (reply_for image cs (cpu_number cpu) (Ok q)))) h u (after_act a i (reply_for image cs (cpu_number cpu) (Ok q)) u) (calls_for image cs cpu (Ok q))
act_goes act.Step image cpu maker h i u cs q inside before asks = step_goes i.wanted image cpu maker h u cs i.boundary i.lock_flag q before asks
act_goes act.Fill image cpu maker h i u cs q inside before asks = fill_goes i.wanted image cpu h u cs q inside asks
act_goes (act.Drain k) image cpu maker h i u cs q inside before asks = drain_goes (slice_get (oldest_group u.buffer.kept) k) image cpu h u cs k q asks
act_goes (act.Take b) image cpu maker h i u cs q inside before asks = λ fit bus was. take_goes (reply_for image cs (cpu_number cpu) (Ok q)) image cpu h u b was
act_goes (act.Drop b line) image cpu maker h i u cs q inside before asks = λ fit bus was.
    let both = asked_if (is_held (line_number line) (copies_of b u) && not (has_dropped b u.since)) ask.Private q asks in
    let there = (and_parts (is_held (line_number line) (copies_of b u)) (not (has_dropped b u.since)) both.0).0 in
    drop_goes b image cpu h u line there was
act_goes act.Poll image cpu maker h i u cs q inside before asks = λ fit bus was. poll_goes (reply_for image cs (cpu_number cpu) (Ok q)) image cpu h u i.takes_interrupts was
act_goes act.Tick image cpu maker h i u cs q inside before asks = λ fit bus was. idle image cpu act.Tick outcome.Done h u (λ l. refl) (λ l. refl) (λ l. refl) (λ l. refl) (λ l. refl) (λ l. refl) refl refl (λ l s. refl) was
