-- Acts whose answer is no turn, and a Take, whose answer takes a late invalidation.
use Rattle.std.proofs.Common.{◌≡◌, ℕ, ◌+◌, ◌≤◌, Bool, true, false, eqb, cond, List, [], ◌∷◌, length, Option, Some, None, refl, sym, subst, arith}
use Rattle.std.specs.Prelude.{Ok}
use Rattle.std.proofs.lemmas.Bool.{eq-eqb}
use Rattle.std.proofs.lemmas.Option.{same_Some}
use Rattle.axp_base.specs.Cpus.{cpu_number}
use Rattle.axp_base.specs.declared.lines.Bank.{Bank}
use Rattle.axp_base.specs.declared.lines.Bank.TheVariants.{Even, Odd, Code}
use Rattle.axp_base.specs.declared.lines.Line.{Line}
use Rattle.axp_base.specs.declared.processors.Cpu.{Cpu}
use Rattle.axp_line.specs.declared.messages.Reply.TheVariants as reply
use Rattle.axp_line.specs.declared.messages.Request.TheVariants as request
use Rattle.axp_regs.specs.declared.asks.Kind.{Kind}
use Rattle.axp_regs.specs.declared.asks.Kind.TheVariants as kind
use Rattle.axp_access.specs.declared.Act.{Act}
use Rattle.axp_access.specs.declared.Act.TheVariants as act
use Rattle.axp_access.specs.declared.Intent.{Intent}
use Rattle.axp_access.specs.declared.Wanted.{Wanted}
use Rattle.axp_line.specs.BusCalls.{BusCall, late, late_by_own}
use Rattle.axp_line.specs.BusReply.{first_late, reply_by}
use Rattle.axp_base.specs.Lines.{same_bank}
use Rattle.axp_lsu.specs.Asking.{act_ask, fill_ask, fill_for, take_ask}
use Rattle.axp_lsu.specs.Keeping.{LocalMemory}
use Rattle.axp_lsu.specs.declared.asks.Ask2.{Ask2}
use Rattle.axp_lsu.specs.declared.asks.Ask2.TheVariants as ask
use Rattle.axp_world.specs.Worlds.{calls_for, reply_for}
use Rattle.axp_world.proofs.AskedActs.{some_if}
use Rattle.axp_world.proofs.CountCalls.{own_fewer, pairs, turned}

-- what is asked is answered with no turn
abbrev pub IsQuiet : (ℕ → ℕ) → List BusCall → ℕ → Ask2 → Type 0
IsQuiet image cs p q = turned (reply_for image cs p (Ok q)) ≡ 0

quiet_if : (image : ℕ → ℕ) (cs : List BusCall) (p : ℕ) (b : Bool) (m q : Ask2) → IsQuiet image cs p m → cond b (Some m) None ≡ Some q → IsQuiet image cs p q
quiet_if image cs p b m q quiet h = subst (λ x. IsQuiet image cs p x) (same_Some m q (some_if b (Some m) q h).1) quiet

fill_quiet : (image : ℕ → ℕ) (cs : List BusCall) (p : ℕ) (k : Kind) (w : Wanted) (u : LocalMemory) (q : Ask2) → fill_for k w u ≡ Some q → IsQuiet image cs p q
unfolding reply_by
fill_quiet image cs p kind.Fetch w u q h = quiet_if image cs p _ _ q refl h
fill_quiet image cs p kind.Read w u q h = quiet_if image cs p _ _ q refl h
fill_quiet image cs p _ w u q h = cc

wanted_quiet : (image : ℕ → ℕ) (cs : List BusCall) (p : ℕ) (o : Option Wanted) (u : LocalMemory) (q : Ask2) → fill_ask o u ≡ Some q → IsQuiet image cs p q
wanted_quiet image cs p None u q h = cc
wanted_quiet image cs p (Some w) u q h = fill_quiet image cs p w.kind w u q h

first_quiet : (xs : List (Line × ℕ)) → turned (Some (first_late xs)) ≡ 0
first_quiet [] = refl
first_quiet ((line, turn) ∷ xs) = refl

take_quiet : (image : ℕ → ℕ) (cs : List BusCall) (p : ℕ) (b : Bank) (q : Ask2) → take_ask b ≡ Some q → IsQuiet image cs p q
unfolding reply_by
take_quiet image cs p Even q h = subst (λ x. IsQuiet image cs p x) (same_Some (ask.Bus (request.Take Even)) q h) (first_quiet (late p Even cs))
take_quiet image cs p Odd q h = subst (λ x. IsQuiet image cs p x) (same_Some (ask.Bus (request.Take Odd)) q h) (first_quiet (late p Odd cs))
take_quiet image cs p Code q h = cc

-- neither a Step nor a Drain
abbrev pub is_aside : Act → Bool
is_aside act.Step = false
is_aside (act.Drain k) = false
is_aside _ = true

pub aside_quiet : (image : ℕ → ℕ) (cs : List BusCall) (p : ℕ) (e : Act) (i : Intent) (u : LocalMemory) (q : Ask2) → is_aside e ≡ true → act_ask e i u ≡ Some q → IsQuiet image cs p q
unfolding reply_by
aside_quiet image cs p act.Step i u q aside h = cc
aside_quiet image cs p act.Fill i u q aside h = wanted_quiet image cs p i.wanted u q h
aside_quiet image cs p (act.Drain k) i u q aside h = cc
aside_quiet image cs p (act.Take b) i u q aside h = take_quiet image cs p b q h
aside_quiet image cs p (act.Drop b line) i u q aside h = quiet_if image cs p _ ask.Private q refl h
aside_quiet image cs p act.Poll i u q aside h = quiet_if image cs p _ (ask.Bus (request.Poll i.takes_interrupts)) q refl h
aside_quiet image cs p act.Tick i u q aside h = quiet_if image cs p _ ask.Private q refl h

-- a Take that is answered with something takes a late pair of its bank
first_taken : (b : Bank) (xs : List (Line × ℕ)) → same_bank b b ≡ true → (Some (first_late xs) ≡ Some reply.Nothing → ⊥) → length (late_by_own b (request.Take b) (first_late xs) xs) + 1 ≡ length xs
first_taken b [] same some = absurd (some refl)
first_taken b ((line, turn) ∷ xs) same some = rw same (omega arith)

taken_by : (image : ℕ → ℕ) (cs : List BusCall) (cpu : Cpu) (b : Bank) (q : Ask2) → eqb (cpu_number cpu) (cpu_number cpu) ≡ true → take_ask b ≡ Some q → (reply_for image cs (cpu_number cpu) (Ok q) ≡ Some reply.Nothing → ⊥)
    → pairs (cpu_number cpu) (calls_for image cs cpu (Ok q)) + 1 ≤ pairs (cpu_number cpu) cs
unfolding reply_by
taken_by image cs cpu Even q own asks some =
    let is = same_Some (ask.Bus (request.Take Even)) q asks in
    let something = subst (λ x. reply_for image cs (cpu_number cpu) (Ok x) ≡ Some reply.Nothing → ⊥) (sym is) some in
    subst (λ x. pairs (cpu_number cpu) (calls_for image cs cpu (Ok x)) + 1 ≤ pairs (cpu_number cpu) cs) is
    (rw own (omega (arith, first_taken Even (late (cpu_number cpu) Even cs) refl something, own_fewer Odd (request.Take Even) (first_late (late (cpu_number cpu) Even cs)) (late (cpu_number cpu) Odd cs))))
taken_by image cs cpu Odd q own asks some =
    let is = same_Some (ask.Bus (request.Take Odd)) q asks in
    let something = subst (λ x. reply_for image cs (cpu_number cpu) (Ok x) ≡ Some reply.Nothing → ⊥) (sym is) some in
    subst (λ x. pairs (cpu_number cpu) (calls_for image cs cpu (Ok x)) + 1 ≤ pairs (cpu_number cpu) cs) is
    (rw own (omega (arith, first_taken Odd (late (cpu_number cpu) Odd cs) refl something, own_fewer Even (request.Take Odd) (first_late (late (cpu_number cpu) Odd cs)) (late (cpu_number cpu) Even cs))))
taken_by image cs cpu Code q own asks some = cc

pub pairs_taken : (image : ℕ → ℕ) (cs : List BusCall) (cpu : Cpu) (b : Bank) (q : Ask2) → take_ask b ≡ Some q → (reply_for image cs (cpu_number cpu) (Ok q) ≡ Some reply.Nothing → ⊥)
    → pairs (cpu_number cpu) (calls_for image cs cpu (Ok q)) + 1 ≤ pairs (cpu_number cpu) cs
pairs_taken image cs cpu b q asks some = taken_by image cs cpu b q (eq-eqb (cpu_number cpu) (cpu_number cpu) refl) asks some
