-- A line that comes late lies in memory, since all does that calls asked.
use Rattle.std.proofs.Common.{ℕ, ◌+◌, ◌/◌, ◌&&◌, eqb, Bool, true, false, List, [], ◌∷◌, ◌++◌, Option, Some, None, IfSome, arith}
use Rattle.std.proofs.lemmas.Bool.{cond_both}
use Rattle.std.specs.List.{AllByRecursion}
use Rattle.std.specs.Prelude.{Ok}
use Rattle.axp_base.specs.Cpus.{cpu_number}
use Rattle.axp_base.specs.Lines.{line_number, same_bank, in_bank, line_at}
use Rattle.axp_base.specs.declared.lines.Bank.{Bank}
use Rattle.axp_base.specs.declared.lines.Bank.TheVariants.{Even, Odd, Code}
use Rattle.axp_base.specs.declared.lines.Line.{Line}
use Rattle.axp_base.specs.declared.lines.TheConstants.{LINE_BYTES}
use Rattle.axp_base.specs.LatePairs.{others, late_by_other}
use Rattle.axp_line.specs.declared.messages.Reply.{Reply}
use Rattle.axp_line.specs.declared.messages.Reply.TheVariants as reply
use Rattle.axp_line.specs.declared.messages.Request.{Request}
use Rattle.axp_line.specs.declared.messages.Request.TheVariants as request
use Rattle.axp_base.specs.Blocks.{is_allowed}
use Rattle.axp_lsu.specs.Within.{IsLineWithin, IsRequestWithin}
use Rattle.axp_lsu.specs.declared.asks.Ask2.{Ask2}
use Rattle.axp_lsu.specs.declared.asks.Ask2.TheVariants as ask
use Rattle.axp_lsu.proofs.LineLemmas.{line_within}
use Rattle.axp_line.specs.BusCalls.{BusCall, Written, late, late_by_own, line_written, register, turns, write_asked, write_made}
use Rattle.axp_line.specs.BusReply.{PortState, first_late, port_state, conditional_reply, reply_by}
use Rattle.axp_world.specs.Worlds.{reply_for}
use Rattle.axp_machine.specs.Ties.{AreAskedWithin}

-- what a call writes
would_within : (size : ℕ) (q : Request) → IsRequestWithin size q → IfSome (line_written (write_asked q)) (IsLineWithin size)
would_within size (request.Drain line mask bytes) asked = asked
would_within size (request.Conditional address width value armed) asked = let below = asked.2 in line_within size (address / LINE_BYTES) (omega (arith, below))
would_within size _ asked = tt

written_within : (size : ℕ) (q : Request) (a : Reply) → IsRequestWithin size q → IfSome (line_written (write_made q a)) (IsLineWithin size)
written_within size q (reply.Stored turn bytes) asked = would_within size q asked
written_within size q _ asked = tt

-- what is late
abbrev IsPairWithin : ℕ → Line × ℕ → Type 0
IsPairWithin size pair = IsLineWithin size pair.0

others_within : (size : ℕ) (pairs : List (Line × ℕ)) → AllByRecursion (IsPairWithin size) pairs → AllByRecursion (IsPairWithin size) (others pairs)
others_within size [] all = tt
others_within size (pair ∷ pairs) all = all.1

pushed_within : (size : ℕ) (pair : Line × ℕ) (pairs : List (Line × ℕ)) → IsPairWithin size pair → AllByRecursion (IsPairWithin size) pairs → AllByRecursion (IsPairWithin size) (pairs ++ pair ∷ [])
pushed_within size pair [] one all = (one, tt)
pushed_within size pair (p ∷ pairs) one all = (all.0, pushed_within size pair pairs one all.1)

own_within : (size : ℕ) (b : Bank) (q : Request) (a : Reply) (pairs : List (Line × ℕ)) → AllByRecursion (IsPairWithin size) pairs → AllByRecursion (IsPairWithin size) (late_by_own b q a pairs)
own_within size b (request.Barrier held) a pairs all = tt
own_within size b (request.CodeBarrier held) a pairs all = tt
own_within size b (request.Take bank) (reply.Late line turn) pairs all =
    cond_both (same_bank b bank) (others pairs) pairs (λ z. AllByRecursion (IsPairWithin size) z) (λ _. others_within size pairs all) (λ _. all)
own_within size b _ _ pairs all = all

other_within : (size : ℕ) (b : Bank) (o : Option Line) (turn : ℕ) (pairs : List (Line × ℕ)) → IfSome o (IsLineWithin size) → AllByRecursion (IsPairWithin size) pairs → AllByRecursion (IsPairWithin size) (late_by_other b o turn pairs)
other_within size b None turn pairs one all = all
other_within size b (Some line) turn pairs one all =
    cond_both (in_bank b (line_number line)) (pairs ++ (line, turn) ∷ []) pairs (λ z. AllByRecursion (IsPairWithin size) z) (λ _. pushed_within size (line, turn) pairs one all) (λ _. all)

late_within : (size p : ℕ) (b : Bank) (cs : List BusCall) → AreAskedWithin size cs → AllByRecursion (IsPairWithin size) (late p b cs)
late_within size p b [] asked = tt
late_within size p b (c ∷ cs) asked =
    let before = late_within size p b cs asked.1 in
    cond_both (eqb (cpu_number c.cpu) p) (late_by_own b c.ask c.answer (late p b cs)) (late_by_other b (line_written (write_made c.ask c.answer)) (turns cs + 1) (late p b cs)) (λ z. AllByRecursion (IsPairWithin size) z)
    (λ _. own_within size b c.ask c.answer (late p b cs) before)
    (λ _. other_within size b (line_written (write_made c.ask c.answer)) (turns cs + 1) (late p b cs) (written_within size c.ask c.answer asked.0) before)

-- what is told of it
abbrev pub IsToldWithin : ℕ → Option Reply → Type 0
IsToldWithin size (Some (reply.Late line turn)) = IsLineWithin size line
IsToldWithin size _ = Unit {0}

first_within : (size : ℕ) (pairs : List (Line × ℕ)) → AllByRecursion (IsPairWithin size) pairs → IsToldWithin size (Some (first_late pairs))
first_within size [] all = tt
first_within size (pair ∷ pairs) all = all.0

tried_within : (size : ℕ) (stored : Bool) (f : PortState) (w : Option Written) (line : Line) → IsToldWithin size (Some (conditional_reply stored f w line))
tried_within size true f w line = tt
tried_within size false f w line = tt

pub told_within : (size : ℕ) (image : ℕ → ℕ) (cs : List BusCall) (p : ℕ) (q : Ask2) → AreAskedWithin size cs → IsToldWithin size (reply_for image cs p (Ok q))
unfolding reply_by
told_within size image cs p ask.Private asked = tt
told_within size image cs p (ask.Bus (request.Take Even)) asked = first_within size (late p Even cs) (late_within size p Even cs asked)
told_within size image cs p (ask.Bus (request.Take Odd)) asked = first_within size (late p Odd cs) (late_within size p Odd cs asked)
told_within size image cs p (ask.Bus (request.Take Code)) asked = tt
told_within size image cs p (ask.Bus (request.Conditional address width value armed)) asked =
    tried_within size (armed && is_allowed address (register p cs)) (port_state image cs p) (write_asked (request.Conditional address width value armed)) (line_at address)
told_within size image cs p (ask.Bus _) asked = tt
