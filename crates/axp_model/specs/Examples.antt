-- Worked examples: what processors want, one access after the other, and the trace of one run, the
-- oldest record first. A line reads as it is printed: `cpu1 reads 0x4040 value 1 at 2` is
-- "1 step : r 00004040 8 0000000000000001 @2". A datum of which no size is said is a quadword.
use Rattle.std.specs.Prelude.{◌≡◌, ℕ, zero, suc, ◌+◌, ◌-◌, ◌==◌, nat_lt, nat_le, Bool, true, false, not, ◌&&◌, ◌||◌, if◌then◌else◌, List, [], ◌∷◌, ◌++◌, map, reverse, length, slice_get}
use Rattle.axp_base.specs.Parts.{byte}
use Rattle.axp_base.specs.declared.lines.Bank.{Bank}
use Rattle.axp_base.specs.declared.lines.Bank.TheVariants.{Even, Odd, Code}
use Rattle.axp_base.specs.declared.processors.Cpu.{Cpu}
use Rattle.axp_regs.specs.declared.asks.Kind.{Kind}
use Rattle.axp_regs.specs.declared.asks.Kind.TheVariants as kind
use Rattle.axp_access.specs.declared.Act.{Act}
use Rattle.axp_access.specs.declared.Act.TheVariants as act
use Rattle.axp_access.specs.declared.Event.{Event}
use Rattle.axp_access.specs.declared.Outcome.{Outcome}
use Rattle.axp_access.specs.declared.Outcome.TheVariants as outcome
use Rattle.axp_access.specs.declared.Place.{Place}
use Rattle.axp_access.specs.declared.Place.TheVariants.{At, Entry, Absent}
use Rattle.axp_access.specs.declared.Record.{Record}
use Rattle.axp_access.specs.declared.Wanted.{Wanted}
use Rattle.axp_access.specs.declared.entry_states.EntryState.TheVariants as entry
use Rattle.axp_model.specs.EntryStates.{entry_state}
use Rattle.axp_model.specs.Records.{is_of, makes_access}
use Rattle.axp_access.specs.Kinds.{is_locked, is_conditional}
use Rattle.axp_base.specs.Lines.{line_at}
use Rattle.axp_model.specs.Legal.{legal}
use Rattle.axp_access.specs.Acts.{is_step}
use Rattle.axp_model.specs.Outcomes.{outcome_of}
use Rattle.axp_access.specs.declared.Intent.{Intent}
use Rattle.axp_model.specs.Processors.{Processors}

-- the two processors
abbrev pub cpu0 : Cpu
cpu0 = record { number = 0; below = λ i. true }

abbrev pub cpu1 : Cpu
cpu1 = record { number = 1; below = λ i. true }

-- wanted accesses, named by the instructions that make them; and the fetch of an instruction
abbrev pub wanted : Kind → ℕ → ℕ → ℕ → Wanted
wanted k address size datum = record { kind = k; address = address; size = size; value = datum }

abbrev pub fetch : ℕ → Wanted
fetch address = wanted kind.Fetch address 4 0

abbrev pub ldq : ℕ → Wanted
ldq address = wanted kind.Read address 8 0

abbrev pub stq : ℕ → ℕ → Wanted
stq address datum = wanted kind.Write address 8 datum

abbrev pub stl : ℕ → ℕ → Wanted
stl address datum = wanted kind.Write address 4 datum

abbrev pub stb : ℕ → ℕ → Wanted
stb address datum = wanted kind.Write address 1 datum

abbrev pub ldq_l : ℕ → Wanted
ldq_l address = wanted kind.Locked address 8 0

abbrev pub stq_c : ℕ → ℕ → Wanted
stq_c address datum = wanted kind.Conditional address 8 datum

abbrev pub mb : Wanted
mb = wanted kind.Barrier 0 0 0

abbrev pub wmb : Wanted
wmb = wanted kind.WriteBarrier 0 0 0

abbrev pub imb : Wanted
imb = wanted kind.CodeBarrier 0 0 0

abbrev pub signal : ℕ → Wanted
signal target = wanted kind.Signal 0 0 target

abbrev pub console : ℕ → Wanted
console char = wanted kind.Console 0 0 char

-- events of a processor
abbrev pub event_of : Cpu → Act → Event
event_of c a = record { cpu = c; act = a }

abbrev pub step : Cpu → Event
step c = event_of c act.Step

abbrev pub drain : Cpu → ℕ → Event
drain c k = event_of c (act.Drain k)

-- the line of a Step that makes an access
abbrev pub access_line : Cpu → Wanted → ℕ → Bool → Place → Record
access_line c w datum success place = record {
  event = step c;
  outcome = outcome.Access (record { cpu = c; kind = w.kind; address = w.address; size = w.size; value = datum; yes = success; place = place });
}

-- a fetch, a read and an LDQ_L at a place
infix 75 ◌fetches◌word◌at◌
abbrev pub ◌fetches◌word◌at◌ : Cpu → ℕ → ℕ → ℕ → Record
◌fetches◌word◌at◌ c address datum turn = access_line c (fetch address) datum false (At turn)

infix 75 ◌reads◌value◌at◌
abbrev pub ◌reads◌value◌at◌ : Cpu → ℕ → ℕ → ℕ → Record
◌reads◌value◌at◌ c address datum turn = access_line c (ldq address) datum false (At turn)

infix 75 ◌locks◌value◌at◌
abbrev pub ◌locks◌value◌at◌ : Cpu → ℕ → ℕ → ℕ → Record
◌locks◌value◌at◌ c address datum turn = access_line c (ldq_l address) datum false (At turn)

-- a write that goes into an entry of the write buffer
infix 75 ◌writes◌value◌entry◌
abbrev pub ◌writes◌value◌entry◌ : Cpu → ℕ → ℕ → ℕ → Record
◌writes◌value◌entry◌ c address datum n = access_line c (stq address datum) datum false (Entry n)

infix 75 ◌writes_longword◌value◌entry◌
abbrev pub ◌writes_longword◌value◌entry◌ : Cpu → ℕ → ℕ → ℕ → Record
◌writes_longword◌value◌entry◌ c address datum n = access_line c (stl address datum) datum false (Entry n)

infix 75 ◌writes_byte◌value◌entry◌
abbrev pub ◌writes_byte◌value◌entry◌ : Cpu → ℕ → ℕ → ℕ → Record
◌writes_byte◌value◌entry◌ c address datum n = access_line c (stb address datum) datum false (Entry n)

-- an STQ_C that succeeds, one that fails
infix 75 ◌stores_conditionally◌value◌succeeds_at◌
abbrev pub ◌stores_conditionally◌value◌succeeds_at◌ : Cpu → ℕ → ℕ → ℕ → Record
◌stores_conditionally◌value◌succeeds_at◌ c address datum turn = access_line c (stq_c address datum) datum true (At turn)

infix 75 ◌stores_conditionally◌value◌fails_at◌
abbrev pub ◌stores_conditionally◌value◌fails_at◌ : Cpu → ℕ → ℕ → ℕ → Record
◌stores_conditionally◌value◌fails_at◌ c address datum turn = access_line c (stq_c address datum) datum false (At turn)

-- a barrier: an MB or IMB at a place, a WMB without one
infix 75 ◌makes◌at◌
abbrev pub ◌makes◌at◌ : Cpu → Wanted → ℕ → Record
◌makes◌at◌ c w turn = access_line c w 0 false (At turn)

infix 75 ◌makes◌without_place
abbrev pub ◌makes◌without_place : Cpu → Wanted → Record
◌makes◌without_place c w = access_line c w 0 false Absent

-- a Fill of the line of an address into a bank, when so many turns were made
infix 75 ◌fills◌line◌at◌
abbrev pub ◌fills◌line◌at◌ : Cpu → Bank → ℕ → ℕ → Record
◌fills◌line◌at◌ c b address turn = record { event = event_of c act.Fill; outcome = outcome.Filled b (line_at address) turn }

-- a Drain of the oldest group's entry of this position, from 0: the entry's number, its line, and the
-- turn that it becomes
infix 75 ◌drains◌entry◌line◌at◌
abbrev pub ◌drains◌entry◌line◌at◌ : Cpu → ℕ → ℕ → ℕ → ℕ → Record
◌drains◌entry◌line◌at◌ c k n address turn = record { event = drain c k; outcome = outcome.Drained n (line_at address) turn }

-- a Take from a data bank, by which the copy goes: the line, and the turn that wrote it
infix 75 ◌takes◌line◌at◌gone
abbrev pub ◌takes◌line◌at◌gone : Cpu → Bank → ℕ → ℕ → Record
◌takes◌line◌at◌gone c b address turn = record { event = event_of c (act.Take b); outcome = outcome.Taken (line_at address) turn true }

-- one that finds a younger copy, which is kept
infix 75 ◌takes◌line◌at◌kept
abbrev pub ◌takes◌line◌at◌kept : Cpu → Bank → ℕ → ℕ → Record
◌takes◌line◌at◌kept c b address turn = record { event = event_of c (act.Take b); outcome = outcome.Taken (line_at address) turn false }

-- a Drop of a bank's copy
infix 75 ◌drops◌line◌
abbrev pub ◌drops◌line◌ : Cpu → Bank → ℕ → Record
◌drops◌line◌ c b address = record { event = event_of c (act.Drop b (line_at address)); outcome = outcome.Done }

-- a signal to a processor, which is a turn, and a byte for the console
infix 75 ◌signals◌at◌
abbrev pub ◌signals◌at◌ : Cpu → ℕ → ℕ → Record
◌signals◌at◌ c target turn = access_line c (signal target) target false (At turn)

infix 75 ◌prints◌at◌
abbrev pub ◌prints◌at◌ : Cpu → ℕ → ℕ → Record
◌prints◌at◌ c char turn = access_line c (console char) char false (At turn)

-- memory at the start: longwords at some addresses, all other bytes 0
abbrev pub longwords : List (ℕ × ℕ) → ℕ → ℕ
longwords [] address = 0
longwords ((start, datum) ∷ rest) address = if nat_le start address && nat_lt address (start + 4) then byte datum (address - start) else longwords rest address

abbrev pub zeros : ℕ → ℕ
zeros = longwords []

-- what each processor wants, one access after the other: cpu0 and cpu1, or cpu0 alone
abbrev pub Programs : Type 0
Programs = ℕ → List Wanted

abbrev pub both : List Wanted → List Wanted → Programs
both first second zero = first
both first second (suc zero) = second
both first second (suc (suc p)) = []

abbrev pub alone : List Wanted → Programs
alone first = both first []

-- how many Steps processor p made
abbrev pub steps : ℕ → List Record → ℕ
steps p [] = 0
steps p (r ∷ h) = if is_of p r && is_step r.event.act then steps p h + 1 else steps p h

-- its lock flag, which an LDx_L sets and an STx_C clears
abbrev pub flag_after : Outcome → Bool → Bool
flag_after o flag = makes_access (λ a. is_locked a.kind) o || (flag && not (makes_access (λ a. is_conditional a.kind) o))

abbrev pub lock_flag : ℕ → List Record → Bool
lock_flag p [] = false
lock_flag p (r ∷ h) = if is_of p r then flag_after r.outcome (lock_flag p h) else lock_flag p h

-- what a processor is about to do: the next access of its list
abbrev pub intent : Programs → ℕ → List Record → Intent
intent programs p h = record {
  finished = length (programs p) == steps p h;
  boundary = false;
  takes_interrupts = false;
  lock_flag = lock_flag p h;
  wanted = slice_get (programs p) (steps p h);
}

-- the two processors with these programs
abbrev pub processors : Programs → Processors
processors programs = record { count = 2; intent = intent programs }

-- whether an event is legal after a history of these programs, and its record
abbrev pub may_follow : Programs → List Record → Event → Bool
may_follow programs h e = legal (processors programs) h e

abbrev pub record_of : (ℕ → ℕ) → Programs → List Record → Event → Record
record_of image programs h e = record { event = e; outcome = outcome_of image (processors programs) h e }

-- the history after events that follow one, as far as they are legal
abbrev pub run_from : (ℕ → ℕ) → Programs → List Record → List Event → List Record
run_from image programs h [] = h
run_from image programs h (e ∷ es) = if may_follow programs h e then run_from image programs (record_of image programs h e ∷ h) es else h

abbrev pub run : (ℕ → ℕ) → Programs → List Event → List Record
run image programs es = run_from image programs [] es

-- the trace is that of its own events: each is legal, and has this outcome
abbrev pub Shows : (ℕ → ℕ) → Programs → List Record → Type 0
Shows image programs trace = run image programs (map (λ r. r.event) trace) ≡ reverse trace

-- and this event is not legal after it
abbrev pub Refuses : (ℕ → ℕ) → Programs → List Record → Event → Type 0
Refuses image programs trace e = Shows image programs trace × (may_follow programs (reverse trace) e ≡ false)

-- Store buffering: each processor writes a quadword, then reads the other's. Both reads give the old
-- 0, as in no order of the four accesses one after the other: the writes wait in the write buffers.
abbrev pub StoreBuffering : Type 0
StoreBuffering =
    Shows zeros (both (stq 0x4000 1 ∷ ldq 0x4040 ∷ []) (stq 0x4040 1 ∷ ldq 0x4000 ∷ []))
    (cpu0 writes 0x4000 value 1 entry 1
    ∷ cpu1 writes 0x4040 value 1 entry 1
    ∷ cpu0 fills Odd line 0x4040 at 0
    ∷ cpu0 reads 0x4040 value 0 at 0
    ∷ cpu1 fills Even line 0x4000 at 0
    ∷ cpu1 reads 0x4000 value 0 at 0
    ∷ cpu0 drains 0 entry 1 line 0x4000 at 1
    ∷ cpu1 drains 0 entry 1 line 0x4040 at 2
    ∷ [])

-- Mixed sources: while the processor's own write waits, its read takes byte 0 from the write and the
-- others from an older copy, without the other's write. After the drain it has both writes.
abbrev pub MixedSources : Type 0
MixedSources =
    Shows zeros (both (ldq 0x4000 ∷ stb 0x4000 0x11 ∷ ldq 0x4000 ∷ ldq 0x4000 ∷ []) (stb 0x4001 0x22 ∷ []))
    (cpu0 fills Even line 0x4000 at 0
    ∷ cpu0 reads 0x4000 value 0 at 0
    ∷ cpu1 writes_byte 0x4001 value 0x22 entry 1
    ∷ cpu1 drains 0 entry 1 line 0x4000 at 1
    ∷ cpu0 writes_byte 0x4000 value 0x11 entry 1
    ∷ cpu0 reads 0x4000 value 0x11 at 0
    ∷ cpu0 drains 0 entry 1 line 0x4000 at 2
    ∷ cpu0 reads 0x4000 value 0x2211 at 2
    ∷ [])

-- Merging: the third write joins the entry of the first, and so reaches memory before the second: the
-- other processor reads what the third wrote, and then not yet what the second wrote.
abbrev pub Merging : Type 0
Merging =
    Shows zeros (both (stq 0x4000 1 ∷ stq 0x4040 1 ∷ stq 0x4000 2 ∷ []) (ldq 0x4000 ∷ ldq 0x4040 ∷ []))
    (cpu0 writes 0x4000 value 1 entry 1
    ∷ cpu0 writes 0x4040 value 1 entry 2
    ∷ cpu0 writes 0x4000 value 2 entry 1
    ∷ cpu0 drains 0 entry 1 line 0x4000 at 1
    ∷ cpu1 fills Even line 0x4000 at 1
    ∷ cpu1 reads 0x4000 value 2 at 1
    ∷ cpu1 fills Odd line 0x4040 at 1
    ∷ cpu1 reads 0x4040 value 0 at 1
    ∷ cpu0 drains 0 entry 2 line 0x4040 at 2
    ∷ [])

-- the writes of Merging, with a WMB after the first
abbrev pub writes_round_wmb : Programs
writes_round_wmb = alone (stq 0x4000 1 ∷ wmb ∷ stq 0x4040 1 ∷ stq 0x4000 2 ∷ [])

abbrev pub written_round_wmb : List Record
written_round_wmb =
    cpu0 writes 0x4000 value 1 entry 1
    ∷ cpu0 makes wmb without_place
    ∷ cpu0 writes 0x4040 value 1 entry 2
    ∷ cpu0 writes 0x4000 value 2 entry 3
    ∷ []

abbrev pub drained_round_wmb : List Record
drained_round_wmb =
    written_round_wmb
    ++ cpu0 drains 0 entry 1 line 0x4000 at 1
    ∷ cpu0 drains 1 entry 3 line 0x4000 at 2
    ∷ []

-- A write barrier between: the last write joins no entry from before the WMB, but gets entry 3. Once
-- entry 1 is drained, those after the WMB may be, in any order.
abbrev pub WriteBarrierBetween : Type 0
WriteBarrierBetween = Shows zeros writes_round_wmb drained_round_wmb

-- How far its entries have come: entries 1 and 3 are drained and entry 2 waits; none is numbered 0, and
-- entry 4 is not made yet. The other processor has none.
abbrev pub EntriesRoundWriteBarrier : Type 0
EntriesRoundWriteBarrier =
    (map (λ n. entry_state 0 n (reverse drained_round_wmb)) (0 ∷ 1 ∷ 2 ∷ 3 ∷ 4 ∷ []) ≡ entry.Unwritten ∷ entry.Drained ∷ entry.Waiting ∷ entry.Drained ∷ entry.Unwritten ∷ [])
    × (entry_state 1 1 (reverse drained_round_wmb) ≡ entry.Unwritten)

-- The younger group waits: while entry 1 does, it alone is the oldest group, so that the drain of a
-- second entry is refused.
abbrev pub YoungerGroupWaits : Type 0
YoungerGroupWaits = Refuses zeros writes_round_wmb written_round_wmb (drain cpu0 1)

-- writes to nine lines, of which the write buffer holds eight
abbrev pub nine_writes : Programs
nine_writes = alone (stq 0x4000 0 ∷ stq 0x4040 0 ∷ stq 0x4080 0 ∷ stq 0x40C0 0 ∷ stq 0x4100 0 ∷ stq 0x4140 0 ∷ stq 0x4180 0 ∷ stq 0x41C0 0 ∷ stq 0x4200 0 ∷ [])

abbrev pub eight_written : List Record
eight_written =
    cpu0 writes 0x4000 value 0 entry 1
    ∷ cpu0 writes 0x4040 value 0 entry 2
    ∷ cpu0 writes 0x4080 value 0 entry 3
    ∷ cpu0 writes 0x40C0 value 0 entry 4
    ∷ cpu0 writes 0x4100 value 0 entry 5
    ∷ cpu0 writes 0x4140 value 0 entry 6
    ∷ cpu0 writes 0x4180 value 0 entry 7
    ∷ cpu0 writes 0x41C0 value 0 entry 8
    ∷ []

-- A full write buffer: while eight entries wait, a write to a ninth line is refused. One to a line of
-- an entry would join it.
abbrev pub FullBuffer : Type 0
FullBuffer = Refuses zeros nine_writes eight_written (step cpu0)

-- Room again after one drain: the ninth write is made. Its entry has the number 9, since numbers are
-- not used again.
abbrev pub RoomAfterDrain : Type 0
RoomAfterDrain =
    Shows zeros nine_writes
    (eight_written
    ++ cpu0 drains 0 entry 1 line 0x4000 at 1
    ∷ cpu0 writes 0x4200 value 0 entry 9
    ∷ [])

-- A datum at 4040 is published by the pointer at 4000, which points to 4080 at first: cpu0 writes it,
-- makes an MB and writes the pointer. cpu1 has read the datum before, and now reads the pointer.
abbrev pub pointer_elsewhere : ℕ → ℕ
pointer_elsewhere = longwords ((0x4000, 0x00004080) ∷ (0x4004, 0xFFFFFC00) ∷ [])

abbrev pub publish : List Wanted
publish = stq 0x4040 1 ∷ mb ∷ stq 0x4000 0xFFFFFC0000004040 ∷ []

abbrev pub pointer_read : List Record
pointer_read =
    cpu1 fills Odd line 0x4040 at 0
    ∷ cpu1 reads 0x4040 value 0 at 0
    ∷ cpu0 writes 0x4040 value 1 entry 1
    ∷ cpu0 drains 0 entry 1 line 0x4040 at 1
    ∷ cpu0 makes mb at 1
    ∷ cpu0 writes 0x4000 value 0xFFFFFC0000004040 entry 2
    ∷ cpu0 drains 0 entry 2 line 0x4000 at 2
    ∷ cpu1 fills Even line 0x4000 at 2
    ∷ cpu1 reads 0x4000 value 0xFFFFFC0000004040 at 2
    ∷ []

-- A dependent load: the read by the new pointer gives the old datum. The copy of its line is from
-- before, and the invalidation comes late.
abbrev pub DependentLoad : Type 0
DependentLoad =
    Shows pointer_elsewhere (both publish (ldq 0x4040 ∷ ldq 0x4000 ∷ ldq 0x4040 ∷ []))
    (pointer_read
    ++ cpu1 reads 0x4040 value 0 at 0
    ∷ [])

-- Taken in time: with a Take before the read the old copy goes, and after another Fill the datum is
-- new.
abbrev pub TakenInTime : Type 0
TakenInTime =
    Shows pointer_elsewhere (both publish (ldq 0x4040 ∷ ldq 0x4000 ∷ ldq 0x4040 ∷ []))
    (pointer_read
    ++ cpu1 takes Odd line 0x4040 at 1 gone
    ∷ cpu1 fills Odd line 0x4040 at 2
    ∷ cpu1 reads 0x4040 value 1 at 2
    ∷ [])

-- A read wants a copy: after the Take and before the Fill it is refused, since the processor doesn't
-- hold the line.
abbrev pub ReadWantsCopy : Type 0
ReadWantsCopy =
    Refuses pointer_elsewhere (both publish (ldq 0x4040 ∷ ldq 0x4000 ∷ ldq 0x4040 ∷ []))
    (pointer_read
    ++ cpu1 takes Odd line 0x4040 at 1 gone
    ∷ [])
    (step cpu1)

-- A barrier between pointer and datum: the MB delivers what is late, so that the old copy goes, and
-- after another Fill the datum is new.
abbrev pub BarrierBetween : Type 0
BarrierBetween =
    Shows pointer_elsewhere (both publish (ldq 0x4040 ∷ ldq 0x4000 ∷ mb ∷ ldq 0x4040 ∷ []))
    (pointer_read
    ++ cpu1 makes mb at 2
    ∷ cpu1 fills Odd line 0x4040 at 2
    ∷ cpu1 reads 0x4040 value 1 at 2
    ∷ [])

-- A copy given up and filled again is younger than the turn that is late for its line: the Take keeps it.
abbrev pub DroppedAndFilled : Type 0
DroppedAndFilled =
    Shows zeros (both (stq 0x4040 1 ∷ []) (ldq 0x4040 ∷ ldq 0x4040 ∷ ldq 0x4040 ∷ []))
    (cpu1 fills Odd line 0x4040 at 0
    ∷ cpu1 reads 0x4040 value 0 at 0
    ∷ cpu0 writes 0x4040 value 1 entry 1
    ∷ cpu0 drains 0 entry 1 line 0x4040 at 1
    ∷ cpu1 drops Odd line 0x4040
    ∷ cpu1 fills Odd line 0x4040 at 1
    ∷ cpu1 reads 0x4040 value 1 at 1
    ∷ cpu1 takes Odd line 0x4040 at 1 kept
    ∷ cpu1 reads 0x4040 value 1 at 1
    ∷ [])

-- A second Drop from one bank with no Step between is not legal, also of another line.
abbrev pub OneDropAStep : Type 0
OneDropAStep =
    Refuses zeros (alone (ldq 0x4040 ∷ ldq 0x40C0 ∷ ldq 0x4040 ∷ []))
    (cpu0 fills Odd line 0x4040 at 0
    ∷ cpu0 reads 0x4040 value 0 at 0
    ∷ cpu0 fills Odd line 0x40C0 at 0
    ∷ cpu0 reads 0x40C0 value 0 at 0
    ∷ cpu0 drops Odd line 0x40C0
    ∷ [])
    (event_of cpu0 (act.Drop Odd (line_at 0x4040)))

-- A signal is a turn, and a write that waits may reach memory behind it; a byte for the console is none.
abbrev pub SignalIsATurn : Type 0
SignalIsATurn =
    Shows zeros (alone (stq 0x4000 1 ∷ signal 1 ∷ console 0x4B ∷ []))
    (cpu0 writes 0x4000 value 1 entry 1
    ∷ cpu0 signals 1 at 1
    ∷ cpu0 prints 0x4B at 1
    ∷ cpu0 drains 0 entry 1 line 0x4000 at 2
    ∷ [])

-- A write barrier closes a group, and a signal behind it waits until the group is empty.
abbrev pub SignalBehindBarrier : Type 0
SignalBehindBarrier =
    Refuses zeros (alone (stq 0x4000 1 ∷ wmb ∷ signal 1 ∷ []))
    (cpu0 writes 0x4000 value 1 entry 1
    ∷ cpu0 makes wmb without_place
    ∷ [])
    (step cpu0)

-- The lock range: the STQ_C fails, since the other processor wrote the line, though not the block of
-- 16 bytes that was locked.
abbrev pub LockRange : Type 0
LockRange =
    Shows zeros (both (ldq_l 0x4000 ∷ stq_c 0x4000 0 ∷ []) (stq 0x4010 0 ∷ []))
    (cpu0 locks 0x4000 value 0 at 0
    ∷ cpu1 writes 0x4010 value 0 entry 1
    ∷ cpu1 drains 0 entry 1 line 0x4000 at 1
    ∷ cpu0 stores_conditionally 0x4000 value 0 fails_at 1
    ∷ [])

-- Another block: the STQ_C fails, since it is not to the block of 16 bytes that was locked, though to
-- the same line, and nothing was written.
abbrev pub AnotherBlock : Type 0
AnotherBlock =
    Shows zeros (alone (ldq_l 0x4000 ∷ stq_c 0x4010 0 ∷ []))
    (cpu0 locks 0x4000 value 0 at 0
    ∷ cpu0 stores_conditionally 0x4010 value 0 fails_at 0
    ∷ [])

-- an own write to the locked line, between LDQ_L and STQ_C
abbrev pub store_between : Programs
store_between = alone (ldq_l 0x4000 ∷ stq 0x4008 0 ∷ stq_c 0x4000 0 ∷ [])

abbrev pub stored_between : List Record
stored_between =
    cpu0 locks 0x4000 value 0 at 0
    ∷ cpu0 writes 0x4008 value 0 entry 1
    ∷ []

-- The own store waits: while it does, the STQ_C to its line is refused, which would pass the older
-- write.
abbrev pub OwnStoreWaits : Type 0
OwnStoreWaits = Refuses zeros store_between stored_between (step cpu0)

-- The own store is drained: now the STQ_C is made. It succeeds, since a processor's own writes leave
-- its lock.
abbrev pub OwnStoreDrained : Type 0
OwnStoreDrained =
    Shows zeros store_between
    (stored_between
    ++ cpu0 drains 0 entry 1 line 0x4000 at 1
    ∷ cpu0 stores_conditionally 0x4000 value 0 succeeds_at 2
    ∷ [])

-- Code that writes the instruction at 2010 anew, and comes to it after a barrier: LDAH and LDA make the
-- new word, STL writes it, and the barrier is the instruction at 200C.
abbrev pub code_with : ℕ → ℕ → ℕ
code_with barrier_word = longwords ((0x2000, 0x243F203F) ∷ (0x2004, 0x20210002) ∷ (0x2008, 0xB03EE010) ∷ (0x200C, barrier_word) ∷ (0x2010, 0x203F0001) ∷ [])

abbrev pub code_written : ℕ → List Record
code_written barrier_word =
    cpu0 fills Code line 0x2000 at 0
    ∷ cpu0 fetches 0x2000 word 0x243F203F at 0
    ∷ cpu0 fetches 0x2004 word 0x20210002 at 0
    ∷ cpu0 fetches 0x2008 word 0xB03EE010 at 0
    ∷ cpu0 writes_longword 0x2010 value 0x203F0002 entry 1
    ∷ cpu0 fetches 0x200C word barrier_word at 0
    ∷ cpu0 drains 0 entry 1 line 0x2000 at 1
    ∷ []

abbrev pub write_code_then : Wanted → Programs
write_code_then barrier = alone (fetch 0x2000 ∷ fetch 0x2004 ∷ fetch 0x2008 ∷ stl 0x2010 0x203F0002 ∷ fetch 0x200C ∷ barrier ∷ fetch 0x2010 ∷ [])

-- Code after an MB: the new word has reached memory, and yet the fetch gives the old one, since an MB
-- leaves the code bank's copy.
abbrev pub CodeAfterMb : Type 0
CodeAfterMb =
    Shows (code_with 0x60004000) (write_code_then mb)
    (code_written 0x60004000
    ++ cpu0 makes mb at 1
    ∷ cpu0 fetches 0x2010 word 0x203F0001 at 0
    ∷ [])

-- Code after an IMB: the code bank's copies are gone, and after another Fill the fetch gives the new
-- word, which stands at turn 1.
abbrev pub CodeAfterImb : Type 0
CodeAfterImb =
    Shows (code_with 0x00000086) (write_code_then imb)
    (code_written 0x00000086
    ++ cpu0 makes imb at 1
    ∷ cpu0 fills Code line 0x2000 at 1
    ∷ cpu0 fetches 0x2010 word 0x203F0002 at 1
    ∷ [])
