-- What a processor gives is printed: each number fits its field.
use Rattle.std.proofs.Common.{◌≡◌, ℕ, ◌+◌, ◌*◌, ◌%◌, ◌^◌, ◌<◌, ◌≤◌, ◌||◌, Bool, true, false, cond, List, [], ◌∷◌, length, slice_get, Option, Some, None, IfSome, ◌&&◌, not, arith, refl, sym, subst}
use Rattle.std.proofs.lemmas.Bool.{and_parts, cond_both, eqb-true}
use Rattle.std.specs.List.{AllByRecursion, find, list_any}
use Rattle.std.specs.Option.{option_map}
use Rattle.axp_access.specs.declared.Access.{Access}
use Rattle.axp_access.specs.declared.Act.{Act}
use Rattle.axp_access.specs.declared.Act.TheVariants as act
use Rattle.axp_access.specs.declared.Event.{Event}
use Rattle.axp_access.specs.declared.Intent.{Intent}
use Rattle.axp_access.specs.declared.Place.{Place}
use Rattle.axp_access.specs.declared.Wanted.{Wanted}
use Rattle.axp_access.specs.Spelling.{IsData, IsLine, IsMoved, IsNamed, IsOutcomeOf, IsSpelledAs, Spells}
use Rattle.axp_bank.specs.Copies as copies
use Rattle.axp_bank.specs.Copies.{get_of, is_held, is_of, shown, stamp_of}
use Rattle.axp_bank.specs.declared.copies.LineCopy.{LineCopy}
use Rattle.axp_base.specs.Lines.{data_bank, line_number, line_at, line_numbered, line_of}
use Rattle.axp_base.specs.declared.lines.Bank.{Bank}
use Rattle.axp_base.specs.declared.lines.Bank.TheVariants.{Even, Odd, Code}
use Rattle.axp_base.specs.declared.lines.Line.{Line}
use Rattle.axp_base.specs.declared.lines.TheConstants.{LINE_BYTES}
use Rattle.axp_base.specs.declared.processors.Cpu.{Cpu}
use Rattle.axp_base.specs.declared.processors.TheConstants.{MAX_BUDGET, MAX_CPUS}
use Rattle.axp_cpu.specs.Actors.{Actor, actor_intent, outcome_of}
use Rattle.axp_cpu.specs.ActorStands.{IsAt}
use Rattle.axp_cpu.specs.Seats.{wanted}
use Rattle.axp_cpu.specs.Soundness as sound
use Rattle.axp_cpu.specs.Soundness.{IsSoundAs}
use Rattle.axp_cpu.specs.declared.processors.Processor.{Processor}
use Rattle.axp_cpu.proofs.ActorLemmas.{steps_left, unfinished, wanted_sound}
use Rattle.axp_image.specs.declared.limits.TheConstants.{INSTRUCTION_BYTES, MAX_MEMORY}
use Rattle.axp_line.specs.declared.messages.Reply.{Reply}
use Rattle.axp_line.specs.declared.messages.Reply.TheVariants as reply
use Rattle.axp_line.specs.declared.messages.Request.TheVariants as request
use Rattle.axp_lsu.specs.Asking.{act_ask, ask_of, drain_ask, fill_ask, fill_for, take_ask}
use Rattle.axp_lsu.specs.Fitting.{ReplyFits, FitsSize, IsTurn, ShowsFitting}
use Rattle.axp_lsu.specs.Going as going
use Rattle.axp_lsu.specs.Going.{drain_outcome, fill_outcome, outcome_by, place_by, poll_outcome, shown_by, stamp_or_none, step_outcome, success_by, take_outcome, turn_in}
use Rattle.axp_lsu.specs.Keeping.{LocalMemory, copies_of, data_copies, has_dropped}
use Rattle.axp_lsu.specs.Within.{IsCopyWithin, IsEntryWithin, IsInMemory, IsKeptWithin, IsLineWithin}
use Rattle.axp_lsu.specs.declared.asks.Ask2.TheVariants as ask
use Rattle.axp_lsu.proofs.AskRangeLemmas.{line_address_within, oldest_within}
use Rattle.axp_lsu.proofs.ReplyFitLemmas.{act_fits, drain_fits, fits_if, fits_turn, none_fits}
use Rattle.axp_lsu.proofs.LineLemmas.{line_within}
use Rattle.axp_regs.specs.declared.asks.Kind.{Kind}
use Rattle.axp_regs.specs.declared.asks.Kind.TheVariants as kind
use Rattle.axp_wbuf.specs.Drains.{oldest_group}
use Rattle.axp_wbuf.specs.Pending.{AreInOrder, IsMade, IsTidy, Pending, is_at, number_at_line}
use Rattle.axp_wbuf.proofs.Fronts.{oldest_at, oldest_inside}
use Rattle.axp_wbuf.proofs.Pairs.{made_at}
use Rattle.axp_machine.proofs.LateLineLemmas.{IsToldWithin}

-- the access that a processor wants of a machine with the most processors
abbrev IsWantedAs : ℕ → Kind → Wanted → Type 0
IsWantedAs size k w = IsSoundAs size MAX_CPUS k w

sound_wants : (size cpus : ℕ) (k : Kind) (w : Wanted) → cpus ≤ MAX_CPUS → IsSoundAs size cpus k w → IsWantedAs size k w
sound_wants size cpus kind.Signal w few is = let target = is.value in record { bare = is.bare; value = omega (arith, few, target) }
sound_wants size cpus _ w few is = is

-- lines and addresses in memory
line_printed : (size : ℕ) (line : Line) → size ≤ MAX_MEMORY → IsLineWithin size line → IsLine line
line_printed size line most within = omega (arith, most, within)

abbrev access_of : Cpu → Kind → Wanted → ℕ → Bool → Place → Access
access_of cpu k w v done at = record { cpu = cpu; kind = k; address = w.address; size = w.size; value = v; yes = done; place = at }

address_printed : (size : ℕ) (w : Wanted) → size ≤ MAX_MEMORY → IsInMemory size w → w.address < 2 ^ 32
address_printed size w most inside = let within = inside.within in omega (arith, most, within)

data_printed : (size : ℕ) (cpu : Cpu) (k : Kind) (w : Wanted) (v : ℕ) (done : Bool) (at : Place) → size ≤ MAX_MEMORY → IsInMemory size w → v < 2 ^ (8 * w.size) → IsData (access_of cpu k w v done at)
data_printed size cpu k w v done at most inside small = record {
  sized = inside.sized;
  moved = record { size = refl; aligned = inside.aligned; address = address_printed size w most inside; value = small };
}

fetch_printed : (size : ℕ) (cpu : Cpu) (k : Kind) (w : Wanted) (v : ℕ) (done : Bool) (at : Place) → size ≤ MAX_MEMORY → sound.IsFetched size w → v < 2 ^ (8 * w.size) → IsMoved INSTRUCTION_BYTES (access_of cpu k w v done at)
fetch_printed size cpu k w v done at most fetched small = record {
  size = fetched.bytes;
  aligned = subst (λ n. w.address % n ≡ 0) fetched.bytes fetched.inside.aligned;
  address = address_printed size w most fetched.inside;
  value = subst (λ n. v < 2 ^ (8 * n)) fetched.bytes small;
}

-- stamps of copies, and the lines that are held
stamp_fits : (size n : ℕ) (cs : List LineCopy) → AllByRecursion (IsCopyWithin size) cs → IsTurn (stamp_or_none (stamp_of n cs))
unfolding get_of
stamp_fits size n [] all = omega arith
stamp_fits size n (c ∷ cs) all =
    cond_both (is_of n c) (Some c) (find (is_of n) cs) (λ o. IsTurn (stamp_or_none (option_map (λ s. s.0) (option_map shown o)))) (λ _. all.0.stamp) (λ _. stamp_fits size n cs all.1)

held_by : (size n : ℕ) (c : LineCopy) (own others : Bool) → is_of n c ≡ own → own || others ≡ true → IsCopyWithin size c → (others ≡ true → n * LINE_BYTES < size) → n * LINE_BYTES < size
held_by size n c true others is held one rest = let line = one.line in let same : copies.line_of c ≡ n = eqb-true (copies.line_of c) n is in omega (arith, line, same)
held_by size n c false others is held one rest = rest held

held_within : (size n : ℕ) (cs : List LineCopy) → AllByRecursion (IsCopyWithin size) cs → is_held n cs ≡ true → n * LINE_BYTES < size
unfolding is_held
held_within size n [] all held = cc
held_within size n (c ∷ cs) all held = held_by size n c (is_of n c) (list_any (is_of n) cs) refl held all.0 (λ rest. held_within size n cs all.1 rest)

copies_within : (size : ℕ) (b : Bank) (u : LocalMemory) → IsKeptWithin size u → AllByRecursion (IsCopyWithin size) (copies_of b u)
copies_within size Even u kept = kept.even
copies_within size Odd u kept = kept.odd
copies_within size Code u kept = kept.code

-- numbers of entries
number_fits : (made newest group line : ℕ) (es : List Pending) → AreInOrder made newest es → (1 ≤ number_at_line group line (made + 1) es) × (number_at_line group line (made + 1) es ≤ made + 1)
unfolding number_at_line
number_fits made newest group line [] order = (omega arith, omega arith)
number_fits made newest group line (e ∷ es) order =
    cond_both (is_at group line e) e.number (number_at_line group line (made + 1) es) (λ n. (1 ≤ n) × (n ≤ made + 1))
    (λ _. let begun = order.0.begun in let number = order.0.number in (omega (arith, begun), omega (arith, number)))
    (λ _. number_fits made newest group line es order.1.1)

-- what is known of a processor that acts
record Knows (size : ℕ) (u : LocalMemory) (r : Option Reply) : Type 0 where
  most : size ≤ MAX_MEMORY
  kept : IsKeptWithin size u
  tidy : IsTidy u.buffer
  few : u.buffer.made ≤ MAX_BUDGET
  told : IsToldWithin size r

-- a Step
access_printed : (size : ℕ) (k : Kind) (cpu : Cpu) (w : Wanted) (u : LocalMemory) (r : Option Reply) → Knows size u r → u.buffer.made < MAX_BUDGET → IsTurn (turn_in r) → IsWantedAs size k w → FitsSize k w.size (shown_by k w u r)
    → IsSpelledAs k (access_of cpu k w (shown_by k w u r) (success_by k r) (place_by k (line_of w.address) u r))
access_printed size kind.Fetch cpu w u r knows few turn wants fits =
    (fetch_printed size cpu kind.Fetch w _ false _ knows.most wants fits, (refl, stamp_fits size (line_of w.address) u.code knows.kept.code))
access_printed size kind.Read cpu w u r knows few turn wants fits =
    let stamp = stamp_fits size (line_of w.address) (data_copies (line_of w.address) u) (copies_within size (data_bank (line_of w.address)) u knows.kept) in
    let barrier = knows.kept.barrier in
    (data_printed size cpu kind.Read w _ false _ knows.most wants fits, (refl, omega (arith, stamp, barrier)))
access_printed size kind.Write cpu w u r knows few turn wants fits =
    let number = number_fits u.buffer.made u.buffer.newest u.buffer.newest (line_of w.address) u.buffer.kept knows.tidy.order in
    (data_printed size cpu kind.Write w _ false _ knows.most wants fits, (refl, record { least = number.0; most = omega (arith, few, number.1) }))
access_printed size kind.Locked cpu w u r knows few turn wants fits = (data_printed size cpu kind.Locked w _ false _ knows.most wants fits, (refl, turn))
access_printed size kind.Conditional cpu w u r knows few turn wants fits = (data_printed size cpu kind.Conditional w _ _ _ knows.most wants.within fits, turn)
access_printed size kind.Barrier cpu w u r knows few turn wants fits = let value = wants.value in (record { address = wants.bare.address; size = wants.bare.size }, (omega (arith, value), (refl, turn)))
access_printed size kind.WriteBarrier cpu w u r knows few turn wants fits = let value = wants.value in (record { address = wants.bare.address; size = wants.bare.size }, (omega (arith, value), (refl, refl)))
access_printed size kind.CodeBarrier cpu w u r knows few turn wants fits = let value = wants.value in (record { address = wants.bare.address; size = wants.bare.size }, (omega (arith, value), (refl, turn)))
access_printed size kind.Signal cpu w u r knows few turn wants fits = (record { address = wants.bare.address; size = wants.bare.size }, (wants.value, (refl, turn)))
access_printed size kind.Console cpu w u r knows few turn wants fits = (record { address = wants.bare.address; size = wants.bare.size }, (wants.value, (refl, turn)))
access_printed size kind.Poll cpu w u r knows few turn wants fits = absurd wants

-- a wanted access is one of the instruction table's, and there is a step left for it
abbrev IsWantedWell : ℕ → LocalMemory → Option Wanted → Type 0
IsWantedWell size u None = Unit {0}
IsWantedWell size u (Some w) = IsWantedAs size w.kind w × (u.buffer.made < MAX_BUDGET)

step_printed : (size : ℕ) (o : Option Wanted) (cpu : Cpu) (e : Event) (u : LocalMemory) (r : Option Reply) → cpu ≡ e.cpu → Knows size u r → IsTurn (turn_in r) → IsWantedWell size u o → ShowsFitting (step_outcome cpu o u r) → IsOutcomeOf act.Step e (step_outcome cpu o u r)
step_printed size None cpu e u r own knows turn wants fits = tt
step_printed size (Some w) cpu e u r own knows turn wants fits = (own, access_printed size w.kind cpu w u r knows wants.1 turn wants.0 fits)

-- a Fill
fill_line : (size : ℕ) (k : Kind) (w : Wanted) (u : LocalMemory) (r : Option Reply) → size ≤ MAX_MEMORY → IsWantedAs size k w → ReplyFits (fill_for k w u) r → IsLine (line_at w.address)
fill_line size kind.Fetch w u r most wants fits = line_printed size (line_at w.address) most (line_within size (line_of w.address) (line_address_within size w wants.inside))
fill_line size kind.Read w u r most wants fits = line_printed size (line_at w.address) most (line_within size (line_of w.address) (line_address_within size w wants))
fill_line size _ w u r most wants fits = absurd (none_fits r fits)

fill_printed : (size : ℕ) (o : Option Wanted) (e : Event) (u : LocalMemory) (r : Option Reply) → size ≤ MAX_MEMORY → IsTurn (turn_in r) → IsWantedWell size u o → ReplyFits (fill_ask o u) r → IsOutcomeOf act.Fill e (fill_outcome o r)
fill_printed size None e u r most turn wants fits = absurd (none_fits r fits)
fill_printed size (Some w) e u r most turn wants fits = (fill_line size w.kind w u r most wants.0 fits, turn)

-- a Drain
drain_printed : (size k : ℕ) (o : Option Pending) (e : Event) (u : LocalMemory) (r : Option Reply) → Knows size u r → IsTurn (turn_in r) → IfSome o (IsEntryWithin size) → slice_get u.buffer.kept k ≡ o → ReplyFits (drain_ask o) r → IsOutcomeOf (act.Drain k) e (drain_outcome o r)
drain_printed size k None e u r knows turn within at fits = absurd (none_fits r fits)
drain_printed size k (Some p) e u r knows turn within at fits =
    let is : IsMade u.buffer.made u.buffer.newest p = made_at u.buffer.made u.buffer.newest u.buffer.kept k p knows.tidy.order at in
    let begun = is.begun in
    let number = is.number in
    let few = knows.few in
    (record { least = omega (arith, begun); most = omega (arith, number, few) }, (line_printed size (line_numbered p.line) knows.most (line_within size p.line within), turn))

-- a Take
taken_printed : (size : ℕ) (b : Bank) (e : Event) (u : LocalMemory) (r : Option Reply) → Knows size u r → ReplyFits (Some (ask.Bus (request.Take b))) r → IsOutcomeOf (act.Take b) e (take_outcome u r)
taken_printed size b e u (Some (reply.Late line turn)) knows fits = (line_printed size line knows.most knows.told, fits)
taken_printed size b e u _ knows fits = absurd fits

take_printed : (size : ℕ) (b : Bank) (e : Event) (u : LocalMemory) (r : Option Reply) → Knows size u r → ReplyFits (take_ask b) r → IsOutcomeOf (act.Take b) e (take_outcome u r)
take_printed size Even e u r knows fits = taken_printed size Even e u r knows fits
take_printed size Odd e u r knows fits = taken_printed size Odd e u r knows fits
take_printed size Code e u r knows fits = absurd (none_fits r fits)

-- a Poll
poll_printed : (low : Bool) (e : Event) (r : Option Reply) → ReplyFits (Some (ask.Bus (request.Poll low))) r → IsOutcomeOf act.Poll e (poll_outcome low r)
poll_printed low e (Some (reply.Polled pending turn)) fits = fits
poll_printed low e _ fits = absurd fits

-- what each act gives
outcome_printed : (size : ℕ) (a : Act) (cpu : Cpu) (e : Event) (i : Intent) (u : LocalMemory) (r : Option Reply) → cpu ≡ e.cpu → Knows size u r → IsTurn (turn_in r) → IsWantedWell size u i.wanted → ReplyFits (act_ask a i u) r → ShowsFitting (outcome_by a cpu i u r)
    → IsOutcomeOf a e (outcome_by a cpu i u r)
outcome_printed size act.Step cpu e i u r own knows turn wants fits shows = step_printed size i.wanted cpu e u r own knows turn wants shows
outcome_printed size act.Fill cpu e i u r own knows turn wants fits shows = fill_printed size i.wanted e u r knows.most turn wants fits
outcome_printed size (act.Drain k) cpu e i u r own knows turn wants fits shows =
    let inside : k < length (oldest_group u.buffer.kept) = drain_fits (oldest_group u.buffer.kept) k r fits in
    drain_printed size k (slice_get (oldest_group u.buffer.kept) k) e u r knows turn (oldest_within size u k knows.kept) (sym (oldest_at u.buffer.kept k inside)) fits
outcome_printed size (act.Take b) cpu e i u r own knows turn wants fits shows = take_printed size b e u r knows fits
outcome_printed size (act.Drop b line) cpu e i u r own knows turn wants fits shows = tt
outcome_printed size act.Poll cpu e i u r own knows turn wants fits shows = poll_printed i.takes_interrupts e r (fits_if (i.boundary && not u.since.polled) (Some (ask.Bus (request.Poll i.takes_interrupts))) r fits)
outcome_printed size act.Tick cpu e i u r own knows turn wants fits shows = tt

-- and the act
is_asked : (b : Bool) (r : Option Reply) → ReplyFits (cond b (Some ask.Private) None) r → b ≡ true
is_asked true r fits = refl
is_asked false r fits = absurd (none_fits r fits)

act_printed : (size : ℕ) (a : Act) (i : Intent) (u : LocalMemory) (r : Option Reply) → Knows size u r → ReplyFits (act_ask a i u) r → IsNamed a
act_printed size act.Step i u r knows fits = tt
act_printed size act.Fill i u r knows fits = tt
act_printed size (act.Drain k) i u r knows fits =
    let few = knows.tidy.few in omega (arith, few, drain_fits (oldest_group u.buffer.kept) k r fits, oldest_inside u.buffer.kept)
act_printed size (act.Take Even) i u r knows fits = tt
act_printed size (act.Take Odd) i u r knows fits = tt
act_printed size (act.Take Code) i u r knows fits = none_fits r fits
act_printed size (act.Drop b line) i u r knows fits =
    let held = (and_parts (is_held (line_number line) (copies_of b u)) (not (has_dropped b u.since)) (is_asked _ r fits)).0 in
    line_printed size line knows.most (held_within size (line_number line) (copies_of b u) (copies_within size b u knows.kept) held)
act_printed size act.Poll i u r knows fits = tt
act_printed size act.Tick i u r knows fits = tt

-- a processor that wants an access has a step left
wanted_well : (p : Processor) (a : Actor) (o : Option Wanted) → IsAt p a → wanted a.seat ≡ o → IsWantedWell a.seat.size a.kept o
wanted_well p a None at is = tt
wanted_well p a (Some w) at is =
    let left = steps_left a.seat (unfinished a.seat w is) in
    let made = at.made in
    let budget = at.budget in
    (sound_wants a.seat.size a.seat.cpus w.kind w at.seat.few (wanted_sound p.sequencer a.seat w at.seat is), omega (arith, left, made, budget))

-- one line of a trace spells an event and what its processor gives for it
pub spells : (p : Processor) (a : Actor) (e : Event) (r : Option Reply) → IsAt p a → a.cpu ≡ e.cpu → IsTidy a.kept.buffer → ReplyFits (ask_of e.act (actor_intent a) a.kept) r → IsToldWithin a.seat.size r → ShowsFitting (outcome_of a e.act r) → Spells e (outcome_of a e.act r)
unfolding outcome_of going.outcome_of
spells p a e r at own tidy fits told shows =
    let made = at.made in
    let steps = at.steps in
    let budget = at.budget in
    let knows : Knows a.seat.size a.kept r = record { most = at.seat.most; kept = at.within; tidy = tidy; few = omega (arith, made, steps, budget); told = told } in
    let asked = act_fits e.act (actor_intent a) a.kept r fits in
    let turn = fits_turn (ask_of e.act (actor_intent a) a.kept) r fits in (
      act_printed a.seat.size e.act (actor_intent a) a.kept r knows asked,
      outcome_printed a.seat.size e.act a.cpu e (actor_intent a) a.kept r own knows turn (wanted_well p a (actor_intent a).wanted at refl) asked shows,
    )
