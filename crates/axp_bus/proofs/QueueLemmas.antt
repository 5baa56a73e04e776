-- No queue has more pairs than turns were made, before a call and after it.
use Rattle.std.proofs.Common.{◌≡◌, ℕ, ◌+◌, ◌<◌, ◌≤◌, eqb, Bool, true, false, cond, List, [], ◌∷◌, ◌++◌, length, get_or, Option, Some, None, arith}
use Rattle.std.proofs.lemmas.List.{length-append}
use Rattle.axp_base.specs.Lines.{line_number, in_bank, same_bank}
use Rattle.axp_base.specs.declared.lines.Bank.{Bank}
use Rattle.axp_base.specs.declared.lines.Bank.TheVariants.{Even, Odd}
use Rattle.axp_base.specs.declared.lines.Line.{Line}
use Rattle.axp_inval.specs.Queues.{Queue, queue}
use Rattle.axp_base.specs.LatePairs.{AreBefore, others, late_by_other}
use Rattle.axp_line.specs.declared.messages.Request.{Request}
use Rattle.axp_line.specs.declared.messages.Request.TheVariants as request
use Rattle.axp_line.specs.declared.messages.Reply.{Reply}
use Rattle.axp_line.specs.declared.messages.Reply.TheVariants as reply
use Rattle.axp_line.specs.BusCalls.{is_turn, late_by_own, line_written, printed_by, write_made}
use Rattle.axp_bus.specs.Ports.{HasRoom, late_after}
use Rattle.axp_bus.specs.Buses.{NotedAll, HaveRoom, IsTidyQueue, AreTidy}
use Rattle.axp_bus.specs.declared.ports.Port.{Port}
use Rattle.axp_base.proofs.LatePairLemmas.{length-others}

-- the number of turns after a call
abbrev after : ℕ → Reply → ℕ
after turns a = cond (is_turn a) (turns + 1) turns

-- pairs of turns below a bound
before_more : (t t' : ℕ) (pairs : List (Line × ℕ)) → t ≤ t' → AreBefore t pairs → AreBefore t' pairs
before_more t t' [] more before = tt
before_more t t' (p ∷ pairs) more before = (omega (arith, before.0), before_more t t' pairs more before.1)

before_others : (t : ℕ) (pairs : List (Line × ℕ)) → AreBefore t pairs → AreBefore t (others pairs)
before_others t [] before = tt
before_others t (p ∷ pairs) before = before.1

before_joined : (t : ℕ) (pairs : List (Line × ℕ)) (p : Line × ℕ) → p.1 < t → AreBefore t pairs → AreBefore t (pairs ++ p ∷ [])
before_joined t [] p less before = (less, tt)
before_joined t (x ∷ pairs) p less before = (before.0, before_joined t pairs p less before.1)

-- a queue that stays, that loses its oldest pair, all, or that gets one more
tidy_more : (t t' room : ℕ) (pairs : List (Line × ℕ)) (most : ℕ) → t ≤ t' → IsTidyQueue t room (queue pairs most) → IsTidyQueue t' room (queue pairs most)
tidy_more t t' room pairs most more tidy = record { few = omega (arith, tidy.few); made = before_more (t + 1) (t' + 1) pairs (omega arith) tidy.made; room = tidy.room }

tidy_others : (t room : ℕ) (pairs : List (Line × ℕ)) (most : ℕ) → IsTidyQueue t room (queue pairs most) → IsTidyQueue t room (queue (others pairs) most)
tidy_others t room pairs most tidy = record { few = omega (arith, tidy.few, length-others pairs); made = before_others (t + 1) pairs tidy.made; room = tidy.room }

tidy_none : (t room : ℕ) (pairs : List (Line × ℕ)) (most : ℕ) → IsTidyQueue t room (queue pairs most) → IsTidyQueue t room (queue [] most)
tidy_none t room pairs most tidy = record { few = omega arith; made = tt; room = tidy.room }

tidy_joined : (t room : ℕ) (pairs : List (Line × ℕ)) (most : ℕ) (line : Line) → IsTidyQueue t room (queue pairs most) → IsTidyQueue (t + 1) room (queue (pairs ++ (line, t + 1) ∷ []) most)
tidy_joined t room pairs most line tidy =
    record {
      few = omega (arith, tidy.few, length-append pairs ((line, t + 1) ∷ []));
      made = before_joined (t + 1 + 1) pairs (line, t + 1) (omega arith) (before_more (t + 1) (t + 1 + 1) pairs (omega arith) tidy.made);
      room = tidy.room;
    }

-- after an own call
taken_if : (b : Bool) (t room : ℕ) (pairs : List (Line × ℕ)) (most : ℕ) → IsTidyQueue t room (queue pairs most) → IsTidyQueue t room (queue (cond b (others pairs) pairs) most)
taken_if true t room pairs most tidy = tidy_others t room pairs most tidy
taken_if false t room pairs most tidy = tidy

tidy_own : (bank : Bank) (q : Request) (a : Reply) (t room : ℕ) (pairs : List (Line × ℕ)) (most : ℕ) → IsTidyQueue t room (queue pairs most) → IsTidyQueue t room (queue (late_by_own bank q a pairs) most)
tidy_own bank (request.Barrier held) a t room pairs most tidy = tidy_none t room pairs most tidy
tidy_own bank (request.CodeBarrier held) a t room pairs most tidy = tidy_none t room pairs most tidy
tidy_own bank (request.Take b) (reply.Late line turn) t room pairs most tidy = taken_if (same_bank bank b) t room pairs most tidy
tidy_own bank _ _ t room pairs most tidy = tidy

-- after another's
joined_if : (b : Bool) (t room : ℕ) (pairs : List (Line × ℕ)) (most : ℕ) (line : Line) → IsTidyQueue t room (queue pairs most) → IsTidyQueue (t + 1) room (queue (cond b (pairs ++ (line, t + 1) ∷ []) pairs) most)
joined_if true t room pairs most line tidy = tidy_joined t room pairs most line tidy
joined_if false t room pairs most line tidy = tidy_more t (t + 1) room pairs most (omega arith) tidy

tidy_written : (bank : Bank) (line : Option Line) (t room : ℕ) (pairs : List (Line × ℕ)) (most : ℕ) → IsTidyQueue t room (queue pairs most) → IsTidyQueue (t + 1) room (queue (late_by_other bank line (t + 1) pairs) most)
tidy_written bank None t room pairs most tidy = tidy_more t (t + 1) room pairs most (omega arith) tidy
tidy_written bank (Some line) t room pairs most tidy = joined_if (in_bank bank (line_number line)) t room pairs most line tidy

after_more : (t : ℕ) (a : Reply) → t ≤ after t a
after_more t a = more (is_turn a) where
  more : (b : Bool) → t ≤ cond b (t + 1) t
  more true = omega arith
  more false = omega arith

tidy_other : (bank : Bank) (q : Request) (a : Reply) (t room : ℕ) (pairs : List (Line × ℕ)) (most : ℕ) → IsTidyQueue t room (queue pairs most)
    → IsTidyQueue (after t a) room (queue (late_by_other bank (line_written (write_made q a)) (t + 1) pairs) most)
tidy_other bank q (reply.Stored turn bytes) t room pairs most tidy = tidy_written bank (line_written (write_made q (reply.Stored turn bytes))) t room pairs most tidy
tidy_other bank q (reply.Signalled turn) t room pairs most tidy = tidy_more t (t + 1) room pairs most (omega arith) tidy
tidy_other bank q _ t room pairs most tidy = tidy

pub tidy_after : (own : Bool) (bank : Bank) (q : Request) (a : Reply) (t room : ℕ) (pairs : List (Line × ℕ)) (most : ℕ) → IsTidyQueue t room (queue pairs most)
    → IsTidyQueue (after t a) room (queue (late_after own bank q a (t + 1) pairs) most)
tidy_after true bank q a t room pairs most tidy = tidy_more t (after t a) room (late_by_own bank q a pairs) most (after_more t a) (tidy_own bank q a t room pairs most tidy)
tidy_after false bank q a t room pairs most tidy = tidy_other bank q a t room pairs most tidy

pub tidy_step : (t t' room cpu : ℕ) (q : Request) (a : Reply) (old new : List Port) → AreTidy t room old → length new ≡ length old → NotedAll cpu (t + 1) q a old new
    → t' ≡ after t a → AreTidy t' room new
tidy_step t t' room cpu q a old new tidy size noted more p d below =
    let here : p < length old = omega (arith, size) in
    let mine = noted p d here in
    let was = tidy p d here in
    rw more record {
      even = rw mine.even (tidy_after (eqb cpu p) Even q a t room (get_or old p d).even.pairs (get_or old p d).even.room was.even);
      odd = rw mine.odd (tidy_after (eqb cpu p) Odd q a t room (get_or old p d).odd.pairs (get_or old p d).odd.room was.odd);
    }

-- where there is room for the bus, there is room in each queue
queue_has_room : (t room : ℕ) (q : Queue) → t < room → IsTidyQueue t room q → HasRoom (t + 1) q
queue_has_room t room q less tidy = record { room = omega (arith, tidy.few, tidy.room); newest = tidy.made }

pub have_room : (t room : ℕ) (ports : List Port) → t < room → AreTidy t room ports → HaveRoom (t + 1) ports
have_room t room ports less tidy p d below =
    record { even = queue_has_room t room (get_or ports p d).even less (tidy p d below).even; odd = queue_has_room t room (get_or ports p d).odd less (tidy p d below).odd }

-- the counts of a bus after a call
pub after_within : (t room : ℕ) (a : Reply) → t < room → after t a ≤ room
after_within t room a less = within (is_turn a) where
  within : (b : Bool) → cond b (t + 1) t ≤ room
  within true = omega (arith, less)
  within false = omega (arith, less)

pub printed_few : (q : Request) → length (printed_by q) ≤ 1
printed_few (request.Console byte) = omega arith
printed_few _ = omega arith
