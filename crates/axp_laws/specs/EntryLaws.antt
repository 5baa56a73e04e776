-- What the entries of write buffers, write barriers, accesses and drains of a history show.
use Rattle.std.specs.Prelude.{Bool, is_some, ◌||◌, ◌&&◌, ◌≡◌, ℕ, ◌+◌, ◌<◌, ◌≤◌, true, if◌then◌else◌, Contains, List, [], ◌∷◌, ◌++◌, Option, None}
use Rattle.std.specs.List.{AllByRecursion}
use Rattle.axp_access.specs.Acts.{is_poll_act, is_step}
use Rattle.axp_access.specs.declared.Act.{Act}
use Rattle.axp_access.specs.declared.Intent.{Intent}
use Rattle.axp_base.specs.Cpus.{cpu_number}
use Rattle.axp_base.specs.Lines.{line_number, line_of}
use Rattle.axp_base.specs.declared.lines.Line.{Line}
use Rattle.axp_access.specs.declared.Access.{Access}
use Rattle.axp_access.specs.declared.Event.{Event}
use Rattle.axp_access.specs.declared.Outcome.TheVariants as outcome
use Rattle.axp_access.specs.declared.Record.{Record}
use Rattle.axp_model.specs.Records.{is_of, makes_access, access_in}
use Rattle.axp_access.specs.Kinds.{is_plain_write, is_write, is_write_barrier}
use Rattle.axp_model.specs.Turns.{turns, drained}
use Rattle.axp_model.specs.Entries.{Waiting, buffer, oldest, least_age}
use Rattle.axp_model.specs.Accesses.{accesses}
use Rattle.axp_access.specs.Numbering.{NumberedAccess, cpu_of}
use Rattle.axp_access.specs.Order.{precedes}

-- processor p's entry n was made, and no drain has named it
pub record IsUndrained (h : List Record) (p n : ℕ) : Type 0 where
  pub counted : 1 ≤ n
  pub made : n ≤ (buffer p h).made
  pub kept : drained h p n ≡ None

-- n is the number of one of the entries made
abbrev pub IsNumbered : ℕ → ℕ → Type 0
IsNumbered made n = (1 ≤ n) × (n ≤ made)

-- how many WMBs processor p has made
abbrev pub write_barriers : ℕ → List Record → ℕ
write_barriers p [] = 0
write_barriers p (r ∷ h) = if is_of p r && makes_access (λ a. is_write_barrier a.kind) r.outcome then write_barriers p h + 1 else write_barriers p h

-- f, which stands behind e, has a greater number and no lesser age
pub record IsBehind (f e : Waiting) : Type 0 where
  pub number : e.number < f.number
  pub age : e.age ≤ f.age

-- a plain write of processor p, made after the records `earlier`, made the entry
pub record WasMade (h : List Record) (p : ℕ) (e : Waiting) : Type 0 where
  pub later : List Record
  pub event : Event
  pub write : Access
  pub earlier : List Record
  pub split : h ≡ later ++ record { event = event; outcome = outcome.Access write } ∷ earlier
  pub own : cpu_number event.cpu ≡ p
  pub writes : is_plain_write write.kind ≡ true
  pub number : e.number ≡ (buffer p earlier).made + 1
  pub line : line_number e.line ≡ line_of write.address
  pub age : e.age ≡ write_barriers p earlier

-- of the accesses of a history one between u and v is a WMB of the processor that made u
pub record IsParted (h : List Record) (u v : NumberedAccess) : Type 0 where
  pub barrier : NumberedAccess
  pub known : Contains (accesses h) barrier
  pub wmb : is_write_barrier barrier.access.kind ≡ true
  pub own : cpu_of barrier ≡ cpu_of u
  pub after : u.number < barrier.number
  pub until : barrier.number < v.number

-- both are writes, u precedes v in issue order, and a WMB of their processor is between them
pub record ArePartedWrites (h : List Record) (u v : NumberedAccess) : Type 0 where
  pub first : precedes u v ≡ true
  pub earlier : is_write u.access ≡ true
  pub later : is_write v.access ≡ true
  pub parted : IsParted h u v

-- the access of a record, if it shows one
abbrev pub access_of : Record → Option Access
access_of r = access_in r.event.cpu r.outcome

-- the oldest group of these entries is their front, all of the least age, and the rest is of greater ages
pub record IsOldestInFront (es : List Waiting) : Type 0 where
  pub rest : List Waiting
  pub split : oldest es ++ rest ≡ es
  pub least : AllByRecursion (λ e. e.age ≡ least_age es) (oldest es)
  pub greater : AllByRecursion (λ e. least_age es < e.age) rest

-- processor p drained entry n, and the drain got and shows this turn, the next after the records `earlier`
pub record WasDrained (h : List Record) (p n turn : ℕ) : Type 0 where
  pub later : List Record
  pub event : Event
  pub line : Line
  pub earlier : List Record
  pub split : h ≡ later ++ record { event = event; outcome = outcome.Drained n line turn } ∷ earlier
  pub own : cpu_number event.cpu ≡ p
  pub next : turn ≡ turns earlier + 1

-- an act of a processor about to do this shows an access: a Poll, or a Step that makes a wanted access
abbrev pub shows_access : Intent → Act → Bool
shows_access i a = is_poll_act a || (is_step a && is_some i.wanted)
