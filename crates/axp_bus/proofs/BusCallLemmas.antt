-- A bus stands for its calls, before one more and after it.
use Rattle.std.proofs.Common.{◌≡◌, ℕ, zero, suc, ◌+◌, ◌<◌, ◌≤◌, ◌++◌, eqb, Bool, true, false, cond, ◌||◌, List, [], ◌∷◌, Option, Some, None, length, get_or, slice_get, refl, ap, ap₂, sym, subst, ◌∙◌, arith}
use Rattle.std.proofs.lemmas.Option.{get_or_from_slice_get, slice_get_within}
use Rattle.axp_base.specs.Cpus.{cpu_number}
use Rattle.axp_base.specs.Parts.{number_at, part}
use Rattle.axp_base.specs.declared.lines.Bank.{Bank}
use Rattle.axp_base.specs.declared.lines.Bank.TheVariants.{Even, Odd, Code}
use Rattle.axp_base.specs.declared.lines.Line.{Line}
use Rattle.axp_base.specs.declared.processors.Cpu.{Cpu}
use Rattle.axp_inval.specs.Queues.{Queue}
use Rattle.axp_line.specs.declared.messages.Request.{Request}
use Rattle.axp_line.specs.declared.messages.Request.TheVariants as request
use Rattle.axp_line.specs.declared.messages.Reply.{Reply}
use Rattle.axp_line.specs.declared.messages.Reply.TheVariants as reply
use Rattle.axp_base.specs.LatePairs.{late_by_other}
use Rattle.axp_line.specs.BusCalls.{BusCall, is_touched, memory, turns, late, late_by_own, line_written, overwritten, reaches_quadword, write_made, is_turn, printed_by}
use Rattle.axp_line.specs.BusReply.{bus_reply, reply_by}
use Rattle.axp_bus.specs.Ports.{IsPort, late_after, late_for, late_in, late_of, lock_after, pending_after}
use Rattle.axp_bus.specs.Buses.{State, Agrees, NotedAll, port_state_of}
use Rattle.axp_bus.specs.Marks.{Marked}
use Rattle.axp_bus.specs.BusStands.{Stands, call_of}
use Rattle.axp_bus.specs.declared.ports.Port.{Port}
use Rattle.axp_bus.proofs.LineLemmas.{part_agrees}

pub reply_is : (b : State) (image : ℕ → ℕ) (cs : List BusCall) (p : ℕ) (port : Port) (q : Request) → Stands b image cs → p < length b.ports → port ≡ get_or b.ports p port
    → reply_by (port_state_of (memory image cs) b.turns port) q ≡ bus_reply image cs p q
reply_is b image cs p port q st below here =
    let is = subst (λ (l : Port). IsPort l p cs) (sym here) (st.ports p port below) in
    rw (st.turns, is.even, is.odd, is.lock, is.pending) refl

lanes_after : (old new : State) (image : ℕ → ℕ) (cs : List BusCall) (cpu : Cpu) (q : Request) (a : Reply) → Stands old image cs
    → NotedAll (cpu_number cpu) (old.turns + 1) q a old.ports new.ports → length new.ports ≡ length old.ports
    → (p : ℕ) (d : Port) → p < length new.ports → IsPort (get_or new.ports p d) p (call_of cpu q a ∷ cs)
lanes_after old new image cs cpu q a st noted size p d below =
    let here : p < length old.ports = omega (arith, size) in
    let mine = noted p d here in
    let was = st.ports p d here in
    let own = eqb (cpu_number cpu) p in
    record {
      even = ap (λ (x : Queue). x.pairs) mine.even ∙ ap₂ (λ t pairs. late_after own Even q a (t + 1) pairs) st.turns was.even;
      odd = ap (λ (x : Queue). x.pairs) mine.odd ∙ ap₂ (λ t pairs. late_after own Odd q a (t + 1) pairs) st.turns was.odd;
      lock = mine.lock ∙ ap (lock_after own q a) was.lock;
      pending = mine.pending ∙ ap (pending_after own p q) was.pending;
    }

pub stands_after : (old new : State) (image : ℕ → ℕ) (cs : List BusCall) (cpu : Cpu) (q : Request) (a : Reply) → Stands old image cs
    → a ≡ bus_reply image cs (cpu_number cpu) q
    → Agrees new.memory (overwritten (write_made q a) (memory image cs))
    → Marked (write_made q a) old.touched new.touched
    → new.turns ≡ cond (is_turn a) (old.turns + 1) old.turns
    → NotedAll (cpu_number cpu) (old.turns + 1) q a old.ports new.ports → length new.ports ≡ length old.ports
    → new.printed ≡ old.printed ++ printed_by q
    → Stands new image (call_of cpu q a ∷ cs)
stands_after old new image cs cpu q a st replied bytes marked counted noted size printed = record {
  memory = bytes;
  touched = λ x below.
      let here : x < length old.touched = omega (arith, below, marked.size) in
      marked.each x here ∙ ap (λ b. reaches_quadword x (write_made q a) || b) (st.touched x here);
  turns = counted ∙ ap (λ t. cond (is_turn a) (t + 1) t) st.turns;
  ports = lanes_after old new image cs cpu q a st noted size;
  printed = printed ∙ ap (λ bytes. bytes ++ printed_by q) st.printed;
  replied = (replied, st.replied);
}

-- nothing is late in the code bank
pub none_of_code : (p : ℕ) (cs : List BusCall) → late p Code cs ≡ []
none_of_code p [] = refl
none_of_code p (c ∷ cs) = rw (none_of_code p cs) (none_after (eqb (cpu_number c.cpu) p)) where
  by_own : (q : Request) (a : Reply) → late_by_own Code q a [] ≡ []
  by_own (request.Barrier held) a = refl
  by_own (request.CodeBarrier held) a = refl
  by_own (request.Take Even) (reply.Late line turn) = refl
  by_own (request.Take Odd) (reply.Late line turn) = refl
  by_own (request.Take Code) (reply.Late line turn) = refl
  by_own _ _ = refl

  by_other : (w : Option Line) → late_by_other Code w (turns cs + 1) [] ≡ []
  by_other None = refl
  by_other (Some line) = refl

  none_after : (own : Bool) → cond own (late_by_own Code c.ask c.answer []) (late_by_other Code (line_written (write_made c.ask c.answer)) (turns cs + 1) []) ≡ []
  none_after true = by_own c.ask c.answer
  none_after false = by_other (line_written (write_made c.ask c.answer))

-- what is late is what the calls left late
late_kept : (port : Port) (p : ℕ) (bank : Bank) (cs : List BusCall) → IsPort port p cs → late_in bank port ≡ late p bank cs
late_kept port p Even cs is = is.even
late_kept port p Odd cs is = is.odd
late_kept port p Code cs is = sym (none_of_code p cs)

none_past : {X : Type 0} {A : Type 0} (xs : List X) (i : ℕ) → i < length xs → slice_get xs i ≡ None → A
none_past (x ∷ xs) zero below is = cc
none_past (x ∷ xs) (suc i) below is = none_past xs i (omega (arith, below)) is
none_past [] i below is = absurd (omega (arith, below))

late_found : (b : State) (image : ℕ → ℕ) (cs : List BusCall) (p : ℕ) (bank : Bank) (found : Option Port) → Stands b image cs → p < length b.ports → slice_get b.ports p ≡ found
    → late_of bank found ≡ late p bank cs
late_found b image cs p bank None st below is = none_past b.ports p below is
late_found b image cs p bank (Some port) st below is =
    late_kept port p bank cs (subst (λ (l : Port). IsPort l p cs) (get_or_from_slice_get b.ports p port port is) (st.ports p port below))

pub late_is : (b : State) (image : ℕ → ℕ) (cs : List BusCall) (p : ℕ) (bank : Bank) → Stands b image cs → p < length b.ports → late_for p bank b.ports ≡ late p bank cs
late_is b image cs p bank st below = late_found b image cs p bank (slice_get b.ports p) st below refl

-- a mark that is kept says whether a call wrote its quadword
pub touched_is : (b : State) (image : ℕ → ℕ) (cs : List BusCall) (q : ℕ) (mark : Bool) → Stands b image cs → slice_get b.touched q ≡ Some mark → mark ≡ is_touched q cs
touched_is b image cs q mark st is = sym (get_or_from_slice_get b.touched q mark false is) ∙ st.touched q (slice_get_within b.touched q mark is)

-- bytes that lie in memory are those that the calls left
pub bytes_are : (b : State) (image : ℕ → ℕ) (cs : List BusCall) (address n : ℕ) → Stands b image cs → address + n ≤ length b.memory → part b.memory address n ≡ number_at (memory image cs) address n
bytes_are b image cs address n st most = part_agrees b.memory (memory image cs) address n most st.memory
