-- What the bus answers, by cases on the request.
use Rattle.std.proofs.Common.{◌≡◌, ◌↔◌, ℕ, ◌+◌, ◌≤◌, ◌&&◌, ◌⊎◌, inl, inr, eqb, Bool, true, false, cond, List, [], ◌∷◌, length, Option, refl, ⊎_elim, arith}
use Rattle.axp_base.specs.Cpus.{cpu_number}
use Rattle.axp_base.specs.declared.lines.Bank.{Bank}
use Rattle.axp_base.specs.declared.lines.Bank.TheVariants.{Even, Odd, Code}
use Rattle.axp_base.specs.declared.lines.Line.{Line}
use Rattle.axp_base.specs.declared.processors.Cpu.{Cpu}
use Rattle.axp_inval.specs.Queues.{queue}
use Rattle.axp_base.specs.LatePairs.{AreBefore}
use Rattle.axp_line.specs.declared.messages.Request.{Request}
use Rattle.axp_line.specs.declared.messages.Request.TheVariants as request
use Rattle.axp_base.specs.Blocks.{is_allowed}
use Rattle.axp_base.specs.Lines.{line_at}
use Rattle.axp_line.specs.BusCalls.{BusCall, Written, is_turn, late, memory, overwritten, register, turns, write_asked}
use Rattle.axp_line.specs.BusReply.{PortState, bus_reply, first_late, port_state, late_in, reply_by, conditional_reply}
use Rattle.axp_bus.specs.BusStands.{call_of}
use Rattle.axp_bus.specs.Buses.{IsTidyQueue}
use Rattle.axp_bus.specs.ReplyLaws.{Answers, HasNoLock, IsNothing, IsRefused, TakesNothing, TellsLine, turn_of}
use Rattle.axp_bus.proofs.LineLemmas.{line_told}
use Rattle.axp_bus.proofs.BusCallLemmas.{none_of_code}
use Rattle.axp_bus.proofs.QueueLemmas.{tidy_after}

-- answers fit
tried_fits : (b : Bool) (f : PortState) (w : Option Written) (line : Line) (address size value : ℕ) (armed : Bool) → Answers (request.Conditional address size value armed) (conditional_reply b f w line)
tried_fits true f w line address size value armed = tt
tried_fits false f w line address size value armed = tt

take_fits : (bank : Bank) (pairs : List (Line × ℕ)) → Answers (request.Take bank) (first_late pairs)
take_fits bank [] = tt
take_fits bank ((line, turn) ∷ pairs) = tt

pub answers_fit : (f : PortState) (q : Request) → Answers q (reply_by f q)
unfolding reply_by
answers_fit f (request.Fill line) = tt
answers_fit f (request.FillCode line) = tt
answers_fit f (request.Drain line mask bytes) = tt
answers_fit f (request.Locked address) = tt
answers_fit f (request.Conditional address size value armed) =
    tried_fits (armed && is_allowed address f.block) f (write_asked (request.Conditional address size value armed)) (line_at address) address size value armed
answers_fit f (request.Barrier held) = tt
answers_fit f (request.CodeBarrier held) = tt
answers_fit f (request.Take bank) = take_fits bank (late_in f bank)
answers_fit f (request.Poll below) = tt
answers_fit f (request.Signal target) = tt
answers_fit f (request.Console byte) = tt

-- turns
one_more : (b : Bool) (t n : ℕ) → t ≤ n → cond b (t + 1) t ≤ n + 1
one_more true t n most = omega (arith, most)
one_more false t n most = omega (arith, most)

pub turns_most : (cs : List BusCall) → turns cs ≤ length cs
turns_most [] = omega arith
turns_most (c ∷ cs) = omega (arith, one_more (is_turn c.answer) (turns cs) (length cs) (turns_most cs))

pub late_tidy : (p : ℕ) (bank : Bank) (cs : List BusCall) → IsTidyQueue (turns cs) 0 (queue (late p bank cs) 0)
late_tidy p bank [] = record { few = omega arith; made = tt; room = omega arith }
late_tidy p bank (c ∷ cs) = tidy_after (eqb (cpu_number c.cpu) p) bank c.ask c.answer (turns cs) 0 (late p bank cs) 0 (late_tidy p bank cs)

tried_turn : (b : Bool) (f : PortState) (w : Option Written) (line : Line) → turn_of (conditional_reply b f w line) ≤ f.turns + 1
tried_turn true f w line = omega arith
tried_turn false f w line = omega arith

first_turn : (t : ℕ) (pairs : List (Line × ℕ)) → AreBefore (t + 1) pairs → turn_of (first_late pairs) ≤ t + 1
first_turn t [] made = omega arith
first_turn t ((line, turn) ∷ pairs) made = omega (arith, made.0)

take_turn : (image : ℕ → ℕ) (cs : List BusCall) (p : ℕ) (bank : Bank) → turn_of (first_late (late_in (port_state image cs p) bank)) ≤ turns cs + 1
take_turn image cs p Even = first_turn (turns cs) (late p Even cs) (late_tidy p Even cs).made
take_turn image cs p Odd = first_turn (turns cs) (late p Odd cs) (late_tidy p Odd cs).made
take_turn image cs p Code = omega arith

pub reply_turn : (image : ℕ → ℕ) (cs : List BusCall) (p : ℕ) (q : Request) → turn_of (bus_reply image cs p q) ≤ turns cs + 1
unfolding reply_by
reply_turn image cs p (request.Fill line) = omega arith
reply_turn image cs p (request.FillCode line) = omega arith
reply_turn image cs p (request.Drain line mask bytes) = omega arith
reply_turn image cs p (request.Locked address) = omega arith
reply_turn image cs p (request.Conditional address size value armed) =
    tried_turn (armed && is_allowed address (register p cs)) (port_state image cs p) (write_asked (request.Conditional address size value armed)) (line_at address)
reply_turn image cs p (request.Barrier held) = omega arith
reply_turn image cs p (request.CodeBarrier held) = omega arith
reply_turn image cs p (request.Take bank) = take_turn image cs p bank
reply_turn image cs p (request.Poll below) = omega arith
reply_turn image cs p (request.Signal target) = omega arith
reply_turn image cs p (request.Console byte) = omega arith

-- nothing
first_nothing : (pairs : List (Line × ℕ)) → IsNothing (first_late pairs) ↔ (pairs ≡ [])
first_nothing [] = (λ _. refl, λ _. tt)
first_nothing ((line, turn) ∷ pairs) = (λ (none : ⊥). absurd none, λ e. cc)

take_nothing : (image : ℕ → ℕ) (cs : List BusCall) (p : ℕ) (bank : Bank) → IsNothing (first_late (late_in (port_state image cs p) bank)) ↔ (late p bank cs ≡ [])
take_nothing image cs p Even = first_nothing (late p Even cs)
take_nothing image cs p Odd = first_nothing (late p Odd cs)
take_nothing image cs p Code = (λ _. none_of_code p cs, λ _. tt)

tried_something : (b : Bool) (f : PortState) (w : Option Written) (line : Line) → IsNothing (conditional_reply b f w line) → ⊥
tried_something true f w line none = none
tried_something false f w line none = none

pub nothing_late : (image : ℕ → ℕ) (cs : List BusCall) (p : ℕ) (q : Request) → IsNothing (bus_reply image cs p q) ↔ TakesNothing p cs q
unfolding reply_by
nothing_late image cs p (request.Take bank) = take_nothing image cs p bank
nothing_late image cs p (request.Conditional address size value armed) =
    (tried_something (armed && is_allowed address (register p cs)) (port_state image cs p) (write_asked (request.Conditional address size value armed)) (line_at address), λ (none : ⊥). absurd none)
nothing_late image cs p _ = (λ (none : ⊥). none, λ (none : ⊥). none)

-- refused
tried_refused : (b c : Bool) (f : PortState) (w : Option Written) (line : Line) → IsRefused (conditional_reply (b && c) f w line) ↔ ((b ≡ false) ⊎ (c ≡ false))
tried_refused true true f w line = (λ (none : ⊥). absurd none, ⊎_elim (λ e. cc) (λ e. cc))
tried_refused true false f w line = (λ _. inr refl, λ _. tt)
tried_refused false c f w line = (λ _. inl refl, λ _. tt)

first_taken : (pairs : List (Line × ℕ)) → IsRefused (first_late pairs) → ⊥
first_taken [] none = none
first_taken ((line, turn) ∷ pairs) none = none

pub refused : (image : ℕ → ℕ) (cs : List BusCall) (p : ℕ) (q : Request) → IsRefused (bus_reply image cs p q) ↔ HasNoLock p cs q
unfolding reply_by
refused image cs p (request.Conditional address size value armed) =
    tried_refused armed (is_allowed address (register p cs)) (port_state image cs p) (write_asked (request.Conditional address size value armed)) (line_at address)
refused image cs p (request.Take bank) = (first_taken (late_in (port_state image cs p) bank), λ (none : ⊥). absurd none)
refused image cs p _ = (λ (none : ⊥). none, λ (none : ⊥). none)

-- lines that are told
tried_told : (b : Bool) (image : ℕ → ℕ) (cs : List BusCall) (p : ℕ) (cpu : Cpu) (address size value : ℕ) (armed : Bool)
    → TellsLine (memory image (call_of cpu (request.Conditional address size value armed) (conditional_reply b (port_state image cs p) (write_asked (request.Conditional address size value armed)) (line_at address)) ∷ cs))
    (request.Conditional address size value armed) (conditional_reply b (port_state image cs p) (write_asked (request.Conditional address size value armed)) (line_at address))
tried_told true image cs p cpu address size value armed = line_told (overwritten (write_asked (request.Conditional address size value armed)) (memory image cs)) (line_at address)
tried_told false image cs p cpu address size value armed = tt

pub told : (image : ℕ → ℕ) (cs : List BusCall) (cpu : Cpu) (q : Request)
    → TellsLine (memory image (call_of cpu q (bus_reply image cs (cpu_number cpu) q) ∷ cs)) q (bus_reply image cs (cpu_number cpu) q)
unfolding reply_by
told image cs cpu (request.Fill line) = line_told (memory image cs) line
told image cs cpu (request.FillCode line) = line_told (memory image cs) line
told image cs cpu (request.Drain line mask bytes) = line_told (overwritten (write_asked (request.Drain line mask bytes)) (memory image cs)) line
told image cs cpu (request.Locked address) = line_told (memory image cs) (line_at address)
told image cs cpu (request.Conditional address size value armed) =
    tried_told (armed && is_allowed address (register (cpu_number cpu) cs)) image cs (cpu_number cpu) cpu address size value armed
told image cs cpu _ = tt
