-- What the bus's calls sent to the console is what the history's accesses show.
use Rattle.std.proofs.Common.{◌≡◌, ℕ, ◌%◌, ◌^◌, Bool, not, ◌&&◌, List, [], ◌∷◌, ◌++◌, Option, Some, None, refl, sym, ap, ◌∙◌, arith}
use Rattle.std.specs.Prelude.{Ok}
use Rattle.std.proofs.lemmas.List.{append-nil}
use Rattle.axp_access.specs.declared.Act.{Act}
use Rattle.axp_access.specs.declared.Act.TheVariants as act
use Rattle.axp_access.specs.declared.Intent.{Intent}
use Rattle.axp_access.specs.declared.Record.{Record}
use Rattle.axp_access.specs.declared.Wanted.{Wanted}
use Rattle.axp_bank.specs.Copies.{is_held}
use Rattle.axp_base.specs.Cpus.{cpu_number, cpu_of}
use Rattle.axp_base.specs.Lines.{line_at, line_number, line_of}
use Rattle.axp_base.specs.declared.lines.Bank.{Bank}
use Rattle.axp_base.specs.declared.lines.Bank.TheVariants.{Even, Odd, Code}
use Rattle.axp_base.specs.declared.processors.Cpu.{Cpu}
use Rattle.axp_cpu.specs.Actors.{Actor, actor_intent, outcome_of}
use Rattle.axp_image.specs.Contents.{Contents, IsValid}
use Rattle.axp_line.specs.BusCalls as calls
use Rattle.axp_line.specs.BusCalls.{BusCall}
use Rattle.axp_line.specs.declared.messages.Reply.{Reply}
use Rattle.axp_line.specs.declared.messages.Reply.TheVariants as reply
use Rattle.axp_line.specs.declared.messages.Request.TheVariants as request
use Rattle.axp_lsu.specs.Asking.{access_ask, act_ask, drain_ask, fill_ask, fill_for, is_ready, may_bring, signal_to, step_ask, take_ask}
use Rattle.axp_lsu.specs.Going as going
use Rattle.axp_lsu.specs.Going.{drain_outcome, fill_outcome, outcome_by, poll_outcome, shown_by, step_outcome, take_outcome}
use Rattle.axp_lsu.specs.Keeping.{LocalMemory, copies_of, data_copies, entry_at, has_dropped}
use Rattle.axp_lsu.specs.declared.asks.Ask2.{Ask2}
use Rattle.axp_lsu.specs.declared.asks.Ask2.TheVariants as ask
use Rattle.axp_model.specs.Console.{printed, sent_by, sent_in}
use Rattle.axp_regs.specs.declared.asks.Kind.{Kind}
use Rattle.axp_regs.specs.declared.asks.Kind.TheVariants as kind
use Rattle.axp_wbuf.specs.Pending.{Pending}
use Rattle.axp_world.specs.Worlds.{IsPlayed, World, calls_for, image_bytes, world}
use Rattle.axp_world.proofs.BusRecords.{asked_act, some_if}
use Rattle.axp_world.proofs.PlayedRecords.{calls_after, shown}
use Rattle.axp_world.proofs.RunWants.{IsByteFor, WantsByte, intents_print_bytes}

-- what is sent by a request, where there is one
abbrev sent_for : Ask2 → List ℕ
sent_for ask.Private = []
sent_for (ask.Bus q) = calls.printed_by q

-- a Step
signal_sends : (o : Option Cpu) → sent_for (signal_to o) ≡ []
signal_sends None = refl
signal_sends (Some target) = refl

access_sends : (k : Kind) (w : Wanted) (armed : Bool) (u : LocalMemory) (r : Option Reply) → IsByteFor k w.value → sent_for (access_ask k w armed u) ≡ sent_by k (shown_by k w u r)
access_sends kind.Console w armed u r small = let same : w.value % 2 ^ 8 ≡ w.value = omega (arith, small) in ap (λ n. n ∷ []) same
access_sends kind.Signal w armed u r small = signal_sends (cpu_of w.value)
access_sends kind.Fetch w armed u r small = refl
access_sends kind.Read w armed u r small = refl
access_sends kind.Write w armed u r small = refl
access_sends kind.Locked w armed u r small = refl
access_sends kind.Conditional w armed u r small = refl
access_sends kind.Barrier w armed u r small = refl
access_sends kind.WriteBarrier w armed u r small = refl
access_sends kind.CodeBarrier w armed u r small = refl
access_sends kind.Poll w armed u r small = refl

step_sends : (boundary : Bool) (o : Option Wanted) (armed : Bool) (cpu : Cpu) (u : LocalMemory) (r : Option Reply) (z : Ask2) → WantsByte o → step_ask boundary o armed u ≡ Some z → sent_for z ≡ sent_in (step_outcome cpu o u r)
step_sends boundary None armed cpu u r z small is = ap sent_for (sym (some_if boundary ask.Private z is))
step_sends boundary (Some w) armed cpu u r z small is =
    ap sent_for (sym (some_if (is_ready w.kind (line_of w.address) u) (access_ask w.kind w armed u) z is)) ∙ access_sends w.kind w armed u r small

-- a Fill
fill_for_sends : (k : Kind) (w : Wanted) (u : LocalMemory) (z : Ask2) → fill_for k w u ≡ Some z → sent_for z ≡ []
fill_for_sends kind.Fetch w u z is = ap sent_for (sym (some_if (may_bring (line_of w.address) u.code) (ask.Bus (request.FillCode (line_at w.address))) z is))
fill_for_sends kind.Read w u z is = ap sent_for (sym (some_if (may_bring (line_of w.address) (data_copies (line_of w.address) u)) (ask.Bus (request.Fill (line_at w.address))) z is))
fill_for_sends _ w u z is = cc

fill_sends : (o : Option Wanted) (u : LocalMemory) (r : Option Reply) (z : Ask2) → fill_ask o u ≡ Some z → sent_for z ≡ sent_in (fill_outcome o r)
fill_sends None u r z is = cc
fill_sends (Some w) u r z is = fill_for_sends w.kind w u z is

-- a Drain
drain_sends : (o : Option Pending) (r : Option Reply) (z : Ask2) → drain_ask o ≡ Some z → sent_for z ≡ sent_in (drain_outcome o r)
drain_sends None r z is = cc
drain_sends (Some e) r ask.Private is = refl
drain_sends (Some e) r (ask.Bus q) is = cc

-- a Take
taken_sends : (u : LocalMemory) (r : Option Reply) → sent_in (take_outcome u r) ≡ []
taken_sends u None = refl
taken_sends u (Some (reply.Late line turn)) = refl
taken_sends u (Some _) = refl

take_asks : (b : Bank) (z : Ask2) → take_ask b ≡ Some z → sent_for z ≡ []
take_asks Even z is = let same : ask.Bus (request.Take Even) ≡ z = cc in ap sent_for (sym same)
take_asks Odd z is = let same : ask.Bus (request.Take Odd) ≡ z = cc in ap sent_for (sym same)
take_asks Code z is = cc

-- a Poll
polled_sends : (low : Bool) (r : Option Reply) → sent_in (poll_outcome low r) ≡ []
polled_sends low None = refl
polled_sends low (Some (reply.Polled pending turn)) = refl
polled_sends low (Some _) = refl

-- every act
act_sends : (a : Act) (cpu : Cpu) (i : Intent) (u : LocalMemory) (r : Option Reply) (z : Ask2) → WantsByte i.wanted → act_ask a i u ≡ Some z → sent_for z ≡ sent_in (outcome_by a cpu i u r)
act_sends act.Step cpu i u r z small is = step_sends i.boundary i.wanted i.lock_flag cpu u r z small is
act_sends act.Fill cpu i u r z small is = fill_sends i.wanted u r z is
act_sends (act.Drain k) cpu i u r z small is = drain_sends (entry_at k u) r z is
act_sends (act.Take b) cpu i u r z small is = take_asks b z is ∙ sym (taken_sends u r)
act_sends (act.Drop b line) cpu i u r z small is = ap sent_for (sym (some_if (is_held (line_number line) (copies_of b u) && not (has_dropped b u.since)) ask.Private z is))
act_sends act.Poll cpu i u r z small is = ap sent_for (sym (some_if (i.boundary && not u.since.polled) (ask.Bus (request.Poll i.takes_interrupts)) z is)) ∙ sym (polled_sends i.takes_interrupts r)
act_sends act.Tick cpu i u r z small is = ap sent_for (sym (some_if (i.boundary && (i.takes_interrupts && not u.since.ticked)) ask.Private z is))

-- the console after what was asked
console_after : (image : ℕ → ℕ) (cs : List BusCall) (cpu : Cpu) (z : Ask2) → calls.console (calls_for image cs cpu (Ok z)) ≡ calls.console cs ++ sent_for z
console_after image cs cpu ask.Private = sym (append-nil (calls.console cs))
console_after image cs cpu (ask.Bus q) = refl

console_step : (image : Contents) (cpus budget : ℕ) (r : Record) (h : List Record) → IsValid image → IsPlayed image cpus budget (r ∷ h) → calls.console (world image cpus budget h).calls ≡ printed h
    → calls.console (world image cpus budget (r ∷ h)).calls ≡ printed (r ∷ h)
unfolding outcome_of going.outcome_of
console_step image cpus budget r h valid played same =
    let w : World = world image cpus budget h in
    let a : Actor = w.actors (cpu_number r.event.cpu) in
    let s = shown image cpus w r.event r.outcome played.0 in
    let sends = act_sends r.event.act a.cpu (actor_intent a) a.kept _ s.ask (intents_print_bytes image cpus budget valid (cpu_number r.event.cpu) h) (asked_act a r.event.act s.ask s.asked).0 in
    ap calls.console (calls_after image w r.event r.outcome s)
    ∙ console_after (image_bytes image) w.calls r.event.cpu s.ask
    ∙ ap (λ bytes. bytes ++ sent_for s.ask) same
    ∙ ap (λ bytes. printed h ++ bytes) (sends ∙ sym (ap sent_in s.outcome))

pub console_agrees : (image : Contents) (cpus budget : ℕ) (h : List Record) → IsValid image → IsPlayed image cpus budget h → calls.console (world image cpus budget h).calls ≡ printed h
console_agrees image cpus budget [] valid played = refl
console_agrees image cpus budget (r ∷ h) valid played = console_step image cpus budget r h valid played (console_agrees image cpus budget h valid played.1)
