-- What a call of the bus does to the counts of turns and of late pairs.
use Rattle.std.proofs.Common.{◌≡◌, ℕ, ◌+◌, ◌%◌, ◌≤◌, Bool, true, false, eqb, cond, List, [], ◌∷◌, length, Option, Some, None, refl, ⊎_elim, arith}
use Rattle.std.specs.Prelude.{Ok}
use Rattle.std.proofs.lemmas.Bool.{cases_Bool}
use Rattle.std.proofs.lemmas.List.{length-append}
use Rattle.axp_base.specs.Cpus.{cpu_number}
use Rattle.axp_base.specs.Lines.{line_number, same_bank}
use Rattle.axp_base.specs.declared.lines.Bank.{Bank}
use Rattle.axp_base.specs.declared.lines.Bank.TheVariants.{Even, Odd}
use Rattle.axp_base.specs.declared.lines.Line.{Line}
use Rattle.axp_base.specs.declared.processors.Cpu.{Cpu}
use Rattle.axp_base.specs.LatePairs.{others, late_by_other}
use Rattle.axp_line.specs.declared.messages.Reply.{Reply}
use Rattle.axp_line.specs.declared.messages.Reply.TheVariants as reply
use Rattle.axp_line.specs.declared.messages.Request.{Request}
use Rattle.axp_line.specs.declared.messages.Request.TheVariants as request
use Rattle.axp_lsu.specs.declared.asks.Ask2.{Ask2}
use Rattle.axp_lsu.specs.declared.asks.Ask2.TheVariants as ask
use Rattle.axp_line.specs.BusCalls.{BusCall, is_turn, turns, late, late_by_own, line_written, write_asked, write_made}
use Rattle.axp_line.specs.BusReply.{bus_reply}
use Rattle.axp_world.specs.Worlds.{calls_for, reply_for}

-- the turn that an answer gave
abbrev pub turned : Option Reply → ℕ
turned None = 0
turned (Some r) = cond (is_turn r) 1 0

pub turned_most : (r : Option Reply) → turned r ≤ 1
turned_most None = omega arith
turned_most (Some r) = most_by (is_turn r) where
  most_by : (b : Bool) → cond b 1 0 ≤ 1
  most_by true = omega arith
  most_by false = omega arith

-- turns by the calls of processor p
abbrev pub own_turns : ℕ → List BusCall → ℕ
own_turns p [] = 0
own_turns p (c ∷ cs) = cond (eqb (cpu_number c.cpu) p) (own_turns p cs + turned (Some c.answer)) (own_turns p cs)

pub one_more : (b : Bool) (n : ℕ) → cond b (n + 1) n ≡ n + cond b 1 0
one_more true n = refl
one_more false n = omega arith

pub turns_after : (image : ℕ → ℕ) (cs : List BusCall) (cpu : Cpu) (q : Ask2) → turns (calls_for image cs cpu (Ok q)) ≡ turns cs + turned (reply_for image cs (cpu_number cpu) (Ok q))
turns_after image cs cpu ask.Private = omega arith
turns_after image cs cpu (ask.Bus m) = one_more (is_turn (bus_reply image cs (cpu_number cpu) m)) (turns cs)

pub own_after : (image : ℕ → ℕ) (cs : List BusCall) (cpu : Cpu) (p : ℕ) (q : Ask2) → eqb (cpu_number cpu) p ≡ true
    → own_turns p (calls_for image cs cpu (Ok q)) ≡ own_turns p cs + turned (reply_for image cs (cpu_number cpu) (Ok q))
own_after image cs cpu p ask.Private own = omega arith
own_after image cs cpu p (ask.Bus m) own = rw own refl

pub other_after : (image : ℕ → ℕ) (cs : List BusCall) (cpu : Cpu) (p : ℕ) (q : Ask2) → eqb (cpu_number cpu) p ≡ false
    → own_turns p (calls_for image cs cpu (Ok q)) ≡ own_turns p cs
other_after image cs cpu p ask.Private other = refl
other_after image cs cpu p (ask.Bus m) other = rw other refl

-- how many invalidations are late for processor p
abbrev pub pairs : ℕ → List BusCall → ℕ
pairs p cs = length (late p Even cs) + length (late p Odd cs)

others_fewer : (xs : List (Line × ℕ)) → length (others xs) ≤ length xs
others_fewer [] = omega arith
others_fewer (x ∷ xs) = omega arith

taken_fewer : (b bank : Bank) (xs : List (Line × ℕ)) → length (cond (same_bank b bank) (others xs) xs) ≤ length xs
taken_fewer b bank xs =
    ⊎_elim
    (λ (same : same_bank b bank ≡ true). rw same (others_fewer xs))
    (λ (else : same_bank b bank ≡ false). rw else (omega arith))
    (cases_Bool (same_bank b bank))

-- an own call adds none
pub own_fewer : (b : Bank) (m : Request) (r : Reply) (xs : List (Line × ℕ)) → length (late_by_own b m r xs) ≤ length xs
own_fewer b (request.Barrier held) r xs = omega arith
own_fewer b (request.CodeBarrier held) r xs = omega arith
own_fewer b (request.Take bank) (reply.Late line turn) xs = taken_fewer b bank xs
own_fewer b (request.Take bank) _ xs = omega arith
own_fewer b _ r xs = omega arith

pub pairs_own : (image : ℕ → ℕ) (cs : List BusCall) (cpu : Cpu) (p : ℕ) (q : Ask2) → eqb (cpu_number cpu) p ≡ true → pairs p (calls_for image cs cpu (Ok q)) ≤ pairs p cs
pairs_own image cs cpu p ask.Private own = omega arith
pairs_own image cs cpu p (ask.Bus m) own =
    rw own (omega (arith, own_fewer Even m (bus_reply image cs (cpu_number cpu) m) (late p Even cs), own_fewer Odd m (bus_reply image cs (cpu_number cpu) m) (late p Odd cs)))

-- another's adds one at most, and only with a turn
some_line : Option Line → ℕ
some_line None = 0
some_line (Some line) = 1

other_more : (o : Option Line) (turn : ℕ) (xs ys : List (Line × ℕ)) → length (late_by_other Even o turn xs) + length (late_by_other Odd o turn ys) ≤ length xs + length ys + some_line o
unfolding some_line
other_more None turn xs ys = omega arith
other_more (Some line) turn xs ys =
    ⊎_elim
    (λ (even : eqb (line_number line % 2) 0 ≡ true). rw even (omega (arith, length-append xs ((line, turn) ∷ []))))
    (λ (odd : eqb (line_number line % 2) 0 ≡ false). rw odd (omega (arith, length-append ys ((line, turn) ∷ []))))
    (cases_Bool (eqb (line_number line % 2) 0))

some_most : (o : Option Line) → some_line o ≤ 1
unfolding some_line
some_most None = omega arith
some_most (Some line) = omega arith

line_turned : (m : Request) (r : Reply) → some_line (line_written (write_made m r)) ≤ turned (Some r)
unfolding some_line
line_turned m (reply.Stored turn bytes) = some_most (line_written (write_asked m))
line_turned m _ = omega arith

pub pairs_other : (image : ℕ → ℕ) (cs : List BusCall) (cpu : Cpu) (p : ℕ) (q : Ask2) → eqb (cpu_number cpu) p ≡ false
    → pairs p (calls_for image cs cpu (Ok q)) ≤ pairs p cs + turned (reply_for image cs (cpu_number cpu) (Ok q))
pairs_other image cs cpu p ask.Private other = omega arith
pairs_other image cs cpu p (ask.Bus m) other =
    let r = bus_reply image cs (cpu_number cpu) m in
    rw other (omega (arith, other_more (line_written (write_made m r)) (turns cs + 1) (late p Even cs) (late p Odd cs), line_turned m r))
