-- What is said of offers.
use Rattle.std.specs.Prelude.{◌≡◌, ℕ, nat_lt, Bool, false, not, ◌&&◌, if◌then◌else◌, None, List, [], ◌++◌, length, map}
use Rattle.axp_access.specs.Acts.{is_drop_of, is_fill}
use Rattle.axp_access.specs.declared.Act.{Act}
use Rattle.axp_access.specs.declared.Act.TheVariants as act
use Rattle.axp_access.specs.declared.Record.{Record}
use Rattle.axp_access.specs.declared.offers.Offer.{Offer}
use Rattle.axp_base.specs.Cpus.{cpu_number}
use Rattle.axp_base.specs.Lists.{is_empty}
use Rattle.axp_base.specs.Lines.{line_numbered}
use Rattle.axp_base.specs.declared.lines.Bank.{Bank}
use Rattle.axp_base.specs.declared.lines.Bank.TheVariants.{Even, Odd, Code}
use Rattle.axp_base.specs.declared.lines.Line.{Line}
use Rattle.axp_base.specs.declared.processors.Cpu.{Cpu}
use Rattle.axp_line.specs.BusCalls.{late}
use Rattle.axp_cpu.specs.Seats.{is_finished}
use Rattle.axp_machine.specs.Runs.{Seen, is_spent, needs_of, processors_of, seat_of, world_of}
use Rattle.axp_model.specs.Entries.{buffer, oldest}
use Rattle.axp_model.specs.Late.{code_copies, copies}
use Rattle.axp_model.specs.Legal.{is_timely, legal, since_step}

-- an offer of no event
pub record OffersNothing (o : Offer) : Type 0 where
  pub spent : o.spent ≡ false
  pub step : o.step ≡ false
  pub fill : o.fill ≡ false
  pub drains : o.drains ≡ 0
  pub late : o.late ≡ (false, false)
  pub drops : o.drops.items ≡ []
  pub needs : o.needs ≡ None
  pub poll : o.poll ≡ false
  pub tick : o.tick ≡ false

-- something is late for a processor in a bank
abbrev pub is_late : Seen → Cpu → Bank → Bool
is_late m c bank = not (is_empty (late (cpu_number c) bank (world_of m).calls))

-- ---- the offer, by the records

-- an act of a processor is legal
abbrev pub may_make : Seen → Cpu → Act → Bool
may_make m c a = legal (processors_of m) m.records (record { cpu = c; act = a })

-- how many entries may be drained next
abbrev pub drains_of : Seen → Cpu → ℕ
drains_of m c =
    if nat_lt (cpu_number c) m.cpus && is_timely (act.Drain 0) (is_finished (seat_of m (cpu_number c))) (since_step is_fill (cpu_number c) m.records)
    then length (oldest (buffer (cpu_number c) m.records).waiting)
    else 0

-- the lines held in a bank, ascending
abbrev pub lines_in : Bank → ℕ → List Record → List ℕ
lines_in Code p h = code_copies p h
lines_in b p h = copies p b h

-- the copy of the line of this number in a bank
abbrev pub numbered_in : Bank → ℕ → Bank × Line
numbered_in b l = (b, line_numbered l)

-- the copies that a bank may give up: all, or none where it gave up one since the last Step
abbrev pub bank_drops : Bank → ℕ → List Record → List (Bank × Line)
bank_drops b p h = if since_step (is_drop_of b) p h then [] else map (numbered_in b) (lines_in b p h)

-- the copies that may be given up, by bank and ascending line; none of a finished processor, nor after a Fill
abbrev pub drops_of : Seen → Cpu → List (Bank × Line)
drops_of m c =
    if nat_lt (cpu_number c) m.cpus && (not (is_finished (seat_of m (cpu_number c))) && not (since_step is_fill (cpu_number c) m.records))
    then bank_drops Even (cpu_number c) m.records ++ bank_drops Odd (cpu_number c) m.records ++ bank_drops Code (cpu_number c) m.records
    else []

-- all that is legal of a processor
unfoldable pub offer_of : Seen → Cpu → Offer
offer_of m c = record {
  spent = is_spent m c;
  step = may_make m c act.Step;
  fill = may_make m c act.Fill;
  drains = drains_of m c;
  late = (may_make m c (act.Take Even), may_make m c (act.Take Odd));
  drops = record { items = drops_of m c };
  needs = needs_of m c;
  poll = may_make m c act.Poll;
  tick = may_make m c act.Tick;
}
