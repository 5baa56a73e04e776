-- The accesses of a history, numbered, and the WMBs among them.
use Rattle.std.proofs.Common.{true, false, zero, suc, ℕ, ◌+◌, ◌<◌, ◌≤◌, ◌≡◌, ◌↔◌, ◌⊎◌, inl, inr, ⊎_elim, eqb, ltb, Bool, ◌&&◌, ◌||◌, List, [], ◌∷◌, length, map, slice_get, Option, Some, None, refl, sym, ap, ◌∙◌, subst, arith}
use Rattle.std.specs.List.{Contains, filter_map, cons_option}
use Rattle.std.specs.Prelude.{is_some}
use Rattle.std.proofs.lemmas.Bool.{cond_both, cases_Bool, and_parts, and_from, eqb-true, eq-eqb, ltb-true, lt-ltb, false≢true}
use Rattle.axp_base.specs.declared.lines.Line.{Line}
use Rattle.axp_base.specs.declared.processors.Cpu.{Cpu}
use Rattle.axp_regs.specs.declared.asks.Kind.{Kind}
use Rattle.axp_regs.specs.declared.asks.Kind.TheVariants as kind
use Rattle.axp_access.specs.declared.Access.{Access}
use Rattle.axp_access.specs.declared.Act.{Act}
use Rattle.axp_access.specs.declared.Act.TheVariants as act
use Rattle.axp_access.specs.declared.Wanted.{Wanted}
use Rattle.axp_model.specs.Entries.{Waiting, buffer, oldest}
use Rattle.axp_model.specs.Late.{late}
use Rattle.axp_access.specs.declared.Intent.{Intent}
use Rattle.axp_access.specs.Acts.{is_poll_act, is_step}
use Rattle.axp_model.specs.Outcomes.{IsRun, step_outcome_by, step_outcome, fill_outcome, drain_outcome, take_outcome, outcome_by, outcome_of}
use Rattle.axp_model.specs.Processors.{Processors}
use Rattle.axp_access.specs.declared.Record.{Record}
use Rattle.axp_model.specs.Records.{access_in}
use Rattle.axp_access.specs.Kinds.{is_write, is_plain_write, is_conditional, is_signal, is_write_barrier}
use Rattle.axp_model.specs.Accesses.{with_access, accesses}
use Rattle.axp_access.specs.Numbering.{NumberedAccess, cpu_of, next_access, write_barriers_in}
use Rattle.axp_access.specs.Order.{precedes}
use Rattle.axp_model.specs.Issue.{barrier_demands}
use Rattle.axp_laws.specs.EntryLaws.{IsParted, ArePartedWrites, access_of}
use Rattle.axp_laws.proofs.CauseMoments.{Among, among_of}
use Rattle.axp_laws.proofs.PollSignals.{contains_of}

-- each of a list is the next of those behind it
abbrev pub Listed : List NumberedAccess → Type 0
Listed [] = Unit {0}
Listed (u ∷ us) = (u ≡ next_access us u.access) × Listed us

listed_with : (o : Option Access) (us : List NumberedAccess) → Listed us → Listed (with_access o us)
listed_with None us l = l
listed_with (Some a) us l = (refl, l)

pub listed : (h : List Record) → Listed (accesses h)
listed [] = tt
listed (r ∷ h) = listed_with (access_in r.event.cpu r.outcome) (accesses h) (listed h)

number_is : (u : NumberedAccess) (us : List NumberedAccess) → u ≡ next_access us u.access → u.number ≡ length us + 1
number_is u us e = ap (λ z. z.number) e

parts_is : (u : NumberedAccess) (us : List NumberedAccess) → u ≡ next_access us u.access → u.parts ≡ write_barriers_in (cpu_of u) us
parts_is u us e = ap (λ z. z.parts) e

number_at : (us : List NumberedAccess) (k : ℕ) (u : NumberedAccess) → Listed us → slice_get us k ≡ Some u → u.number + k ≡ length us
number_at [] k u l e = cc
number_at (x ∷ us) zero u l e = let same : x ≡ u = cc in let number = ap (λ (z : NumberedAccess). z.number) same in omega (arith, number, number_is x us l.0)
number_at (x ∷ us) (suc k) u l e = omega (arith, number_at us k u l.1 e)

pub numbers_down : (h : List Record) (k : ℕ) (u : NumberedAccess) → slice_get (accesses h) k ≡ Some u → u.number + k ≡ length (accesses h)
numbers_down h k u e = number_at (accesses h) k u (listed h) e

access_with : (o : Option Access) (us : List NumberedAccess) → map (λ u. u.access) (with_access o us) ≡ cons_option o (map (λ u. u.access) us)
access_with None us = refl
access_with (Some a) us = refl

pub accesses_shown : (h : List Record) → map (λ u. u.access) (accesses h) ≡ filter_map access_of h
accesses_shown [] = refl
accesses_shown (r ∷ h) = access_with (access_of r) (accesses h) ∙ ap (λ as_. cons_option (access_of r) as_) (accesses_shown h)

number_most : (us : List NumberedAccess) (u : NumberedAccess) → Listed us → Among u us → u.number ≤ length us
number_most [] u l a = absurd a
number_most (x ∷ us) u l a = ⊎_elim (λ (same : x ≡ u). let number = ap (λ (z : NumberedAccess). z.number) same in omega (arith, number, number_is x us l.0)) (λ back. omega (arith, number_most us u l.1 back)) a

parts_grow : (p : ℕ) (x : NumberedAccess) (us : List NumberedAccess) → write_barriers_in p us ≤ write_barriers_in p (x ∷ us)
parts_grow p x us = cond_both (eqb (cpu_of x) p && is_write_barrier x.access.kind) (write_barriers_in p us + 1) (write_barriers_in p us) (λ n. write_barriers_in p us ≤ n) (λ _. omega arith) (λ _. omega arith)

-- an own access has no more WMBs before it than there are
parts_most : (us : List NumberedAccess) (u : NumberedAccess) → Listed us → Among u us → u.parts ≤ write_barriers_in (cpu_of u) us
parts_most [] u l a = absurd a
parts_most (x ∷ us) u l a =
    ⊎_elim
    (λ (same : x ≡ u). subst (λ (z : NumberedAccess). z.parts ≤ write_barriers_in (cpu_of z) (x ∷ us)) same (omega (arith, parts_is x us l.0, parts_grow (cpu_of x) x us)))
    (λ back. omega (arith, parts_most us u l.1 back, parts_grow (cpu_of u) x us))
    a

-- a WMB of the processor is behind the newest of these and after u
record HasParted (us : List NumberedAccess) (u : NumberedAccess) : Type 0 where
  barrier : NumberedAccess
  known : Among barrier us
  parts : is_write_barrier barrier.access.kind ≡ true
  own : cpu_of barrier ≡ cpu_of u
  after : u.number < barrier.number

abbrev Parts : List NumberedAccess → NumberedAccess → Type 0
Parts us u = (u.parts < write_barriers_in (cpu_of u) us) ↔ ((is_write_barrier u.access.kind ≡ true) ⊎ HasParted us u)

parts_here : (x : NumberedAccess) (us : List NumberedAccess) → Listed (x ∷ us) → Parts (x ∷ us) x
parts_here x us l =
    let was = parts_is x us l.0 in
    let number = number_is x us l.0 in (
      λ less. ⊎_elim
          (λ (yes_ : is_write_barrier x.access.kind ≡ true). inl yes_)
          (λ (no_ : is_write_barrier x.access.kind ≡ false).
          let same : write_barriers_in (cpu_of x) (x ∷ us) ≡ write_barriers_in (cpu_of x) us = rw (eq-eqb (cpu_of x) (cpu_of x) refl, no_) refl in
          absurd (omega (arith, was, same, less)))
          (cases_Bool (is_write_barrier x.access.kind)),
      λ either. ⊎_elim
          (λ (yes_ : is_write_barrier x.access.kind ≡ true).
          let more : write_barriers_in (cpu_of x) (x ∷ us) ≡ write_barriers_in (cpu_of x) us + 1 = rw (eq-eqb (cpu_of x) (cpu_of x) refl, yes_) refl in
          omega (arith, was, more))
          (λ (is : HasParted (x ∷ us) x). absurd (omega (arith, is.after, number, number_most (x ∷ us) is.barrier l is.known)))
          either,
    )

parts_back : (x : NumberedAccess) (us : List NumberedAccess) (u : NumberedAccess) → Listed (x ∷ us) → Among u us → Parts us u → Parts (x ∷ us) u
parts_back x us u l a was =
    let number = number_is x us l.0 in
    let most = parts_most us u l.1 a in
    let low = number_most us u l.1 a in
    ⊎_elim
    (λ (here : (eqb (cpu_of x) (cpu_of u) && is_write_barrier x.access.kind) ≡ true).
    let both = and_parts (eqb (cpu_of x) (cpu_of u)) (is_write_barrier x.access.kind) here in
    let more : write_barriers_in (cpu_of u) (x ∷ us) ≡ write_barriers_in (cpu_of u) us + 1 = rw here refl in (
      λ less. inr (record { barrier = x; known = inl refl; parts = both.1; own = eqb-true (cpu_of x) (cpu_of u) both.0; after = omega (arith, number, low) }),
      λ either. omega (arith, more, most),
    ))
    (λ (other : (eqb (cpu_of x) (cpu_of u) && is_write_barrier x.access.kind) ≡ false).
    let same : write_barriers_in (cpu_of u) (x ∷ us) ≡ write_barriers_in (cpu_of u) us = rw other refl in (
      λ less. ⊎_elim
          (λ yes_. inl yes_)
          (λ (is : HasParted us u). inr (record { barrier = is.barrier; known = inr is.known; parts = is.parts; own = is.own; after = is.after }))
          (was.0 (omega (arith, same, less))),
      λ either. let less = was.1 (⊎_elim
          (λ yes_. inl yes_)
          (λ (is : HasParted (x ∷ us) u). ⊎_elim
          (λ (itself : x ≡ is.barrier).
          absurd (false≢true (sym other ∙ subst (λ (z : NumberedAccess). (eqb (cpu_of z) (cpu_of u) && is_write_barrier z.access.kind) ≡ true) (sym itself) (and_from (eqb (cpu_of is.barrier) (cpu_of u)) (is_write_barrier is.barrier.access.kind) (eq-eqb (cpu_of is.barrier) (cpu_of u) is.own) is.parts))))
          (λ back. inr (record { barrier = is.barrier; known = back; parts = is.parts; own = is.own; after = is.after }))
          is.known)
          either) in omega (arith, same, less),
    ))
    (cases_Bool (eqb (cpu_of x) (cpu_of u) && is_write_barrier x.access.kind))

parts_of : (us : List NumberedAccess) (u : NumberedAccess) → Listed us → Among u us → Parts us u
parts_of [] u l a = absurd a
parts_of (x ∷ us) u l a = ⊎_elim (λ (same : x ≡ u). subst (λ (z : NumberedAccess). Parts (x ∷ us) z) same (parts_here x us l)) (λ back. parts_back x us u l back (parts_of us u l.1 back)) a

-- a WMB of the processor is among these, and between u and v
record HasBetween (us : List NumberedAccess) (u v : NumberedAccess) : Type 0 where
  barrier : NumberedAccess
  known : Among barrier us
  parts : is_write_barrier barrier.access.kind ≡ true
  own : cpu_of barrier ≡ cpu_of u
  after : u.number < barrier.number
  until : barrier.number < v.number

abbrev Between : List NumberedAccess → NumberedAccess → NumberedAccess → Type 0
Between us u v = (u.parts < v.parts) ↔ ((is_write_barrier u.access.kind ≡ true) ⊎ HasBetween us u v)

back_of : (x : NumberedAccess) (us : List NumberedAccess) (u : NumberedAccess) → Listed (x ∷ us) → Among u (x ∷ us) → u.number < length us + 1 → Among u us
back_of x us u l a less = ⊎_elim (λ (same : x ≡ u). let number = ap (λ (z : NumberedAccess). z.number) same in absurd (omega (arith, number, number_is x us l.0, less))) (λ back. back) a

-- where v is the newest
between_last : (x : NumberedAccess) (us : List NumberedAccess) (u : NumberedAccess) → Listed (x ∷ us) → Among u us → cpu_of u ≡ cpu_of x → Between (x ∷ us) u x
between_last x us u l a own =
    let number = number_is x us l.0 in
    let parts = parts_is x us l.0 in
    let counted : write_barriers_in (cpu_of u) us ≡ write_barriers_in (cpu_of x) us = ap (λ p. write_barriers_in p us) own in
    let was = parts_of us u l.1 a in (
      λ less. ⊎_elim
          (λ yes_. inl yes_)
          (λ (is : HasParted us u). inr (record { barrier = is.barrier; known = inr is.known; parts = is.parts; own = is.own; after = is.after; until = omega (arith, number, number_most us is.barrier l.1 is.known) }))
          (was.0 (omega (arith, parts, counted, less))),
      λ either. let less = was.1 (⊎_elim
          (λ yes_. inl yes_)
          (λ (is : HasBetween (x ∷ us) u x). inr (record { barrier = is.barrier; known = back_of x us is.barrier l is.known (omega (arith, number, is.until)); parts = is.parts; own = is.own; after = is.after }))
          either) in omega (arith, parts, counted, less),
    )

between_back : (x : NumberedAccess) (us : List NumberedAccess) (u v : NumberedAccess) → Listed (x ∷ us) → Among v us → Between us u v → Between (x ∷ us) u v
between_back x us u v l a was =
    let low = number_most us v l.1 a in (
      λ less. ⊎_elim
          (λ yes_. inl yes_)
          (λ (is : HasBetween us u v). inr (record { barrier = is.barrier; known = inr is.known; parts = is.parts; own = is.own; after = is.after; until = is.until }))
          (was.0 less),
      λ either. was.1 (⊎_elim
          (λ yes_. inl yes_)
          (λ (is : HasBetween (x ∷ us) u v). inr (record { barrier = is.barrier; known = back_of x us is.barrier l is.known (omega (arith, low, is.until)); parts = is.parts; own = is.own; after = is.after; until = is.until }))
          either),
    )

between : (us : List NumberedAccess) (u v : NumberedAccess) → Listed us → Among u us → Among v us → cpu_of u ≡ cpu_of v → u.number < v.number → Between us u v
between [] u v l a b own less = absurd a
between (x ∷ us) u v l a b own less =
    ⊎_elim
    (λ (same : x ≡ v).
    let number = ap (λ (z : NumberedAccess). z.number) same in
    subst (λ z. Between (x ∷ us) u z) same (between_last x us u l (back_of x us u l a (omega (arith, number, number_is x us l.0, less))) (own ∙ sym (ap (λ z. cpu_of z) same))))
    (λ back. between_back x us u v l back (between us u v l.1 (back_of x us u l a (omega (arith, less, number_most us v l.1 back))) back own less))
    b

-- in the words of the law
parted_of : (h : List Record) (u v : NumberedAccess) → HasBetween (accesses h) u v → IsParted h u v
parted_of h u v is = record { barrier = is.barrier; known = contains_of (accesses h) is.barrier is.known; wmb = is.parts; own = is.own; after = is.after; until = is.until }

between_of : (h : List Record) (u v : NumberedAccess) → IsParted h u v → HasBetween (accesses h) u v
between_of h u v is = record { barrier = is.barrier; known = among_of (accesses h) is.barrier is.known; parts = is.wmb; own = is.own; after = is.after; until = is.until }

pub parts_between : (h : List Record) (u v : NumberedAccess) → Contains (accesses h) u → Contains (accesses h) v → cpu_of u ≡ cpu_of v → u.number < v.number → (u.parts < v.parts) ↔ ((is_write_barrier u.access.kind ≡ true) ⊎ IsParted h u v)
parts_between h u v a b own less =
    let exactly = between (accesses h) u v (listed h) (among_of (accesses h) u a) (among_of (accesses h) v b) own less in (
      λ more. ⊎_elim (λ yes_. inl yes_) (λ is. inr (parted_of h u v is)) (exactly.0 more),
      λ either. exactly.1 (⊎_elim (λ yes_. inl yes_) (λ is. inr (between_of h u v is)) either),
    )

-- a write is no WMB
write_is_none : (k : Kind) (b : Bool) → ((is_plain_write k || (is_conditional k && b)) || is_signal k) ≡ true → is_write_barrier k ≡ true → ⊥
write_is_none kind.WriteBarrier b w e = absurd (false≢true w)
write_is_none _ b w e = absurd (false≢true e)

pub demands_between : (h : List Record) (u v : NumberedAccess) → Contains (accesses h) u → Contains (accesses h) v → (barrier_demands u v ≡ true) ↔ ArePartedWrites h u v
demands_between h u v a b = (
  λ demand.
      let x = and_parts (precedes u v) ((is_write u.access && is_write v.access) && ltb u.parts v.parts) demand in
      let y = and_parts (eqb (cpu_of u) (cpu_of v)) (ltb u.number v.number) x.0 in
      let z = and_parts (is_write u.access && is_write v.access) (ltb u.parts v.parts) x.1 in
      let w = and_parts (is_write u.access) (is_write v.access) z.0 in
      record {
        first = x.0;
        earlier = w.0;
        later = w.1;
        parted = ⊎_elim
            (λ yes_. absurd (write_is_none u.access.kind u.access.yes w.0 yes_))
            (λ is. is)
            ((parts_between h u v a b (eqb-true (cpu_of u) (cpu_of v) y.0) (ltb-true u.number v.number y.1)).0 (ltb-true u.parts v.parts z.1));
      },
  λ is.
      let y = and_parts (eqb (cpu_of u) (cpu_of v)) (ltb u.number v.number) is.first in
      let more = (parts_between h u v a b (eqb-true (cpu_of u) (cpu_of v) y.0) (ltb-true u.number v.number y.1)).1 (inr is.parted) in
      and_from (precedes u v) ((is_write u.access && is_write v.access) && ltb u.parts v.parts) is.first (and_from (is_write u.access && is_write v.access) (ltb u.parts v.parts) (and_from (is_write u.access) (is_write v.access) is.earlier is.later) (lt-ltb u.parts v.parts more)),
)

-- which records show an access
step_shows : (k : Kind) (image : ℕ → ℕ) (armed : Bool) (c : Cpu) (a s v : ℕ) (h : List Record) → is_some (access_in c (step_outcome_by k image armed c (record { kind = k; address = a; size = s; value = v }) h)) ≡ true
step_shows kind.Fetch image armed c a s v h = refl
step_shows _ image armed c a s v h = refl

want_shows : (image : ℕ → ℕ) (armed : Bool) (o : Option Wanted) (c : Cpu) (h : List Record) → is_some (access_in c (step_outcome image armed c o h)) ≡ is_some o
want_shows image armed None c h = refl
want_shows image armed (Some w) c h = step_shows w.kind image armed c w.address w.size w.value h

drain_shows : (c : Cpu) (h : List Record) (o : Option Waiting) → is_some (access_in c (drain_outcome o h)) ≡ false
drain_shows c h None = refl
drain_shows c h (Some w) = refl

take_shows : (c : Cpu) (p : ℕ) (h : List Record) (q : List (Line × ℕ)) → is_some (access_in c (take_outcome p q h)) ≡ false
take_shows c p h [] = refl
take_shows c p h ((line, turn) ∷ q) = refl

fill_shows : (c : Cpu) (o : Option Wanted) (h : List Record) → is_some (access_in c (fill_outcome o h)) ≡ false
fill_shows c None h = refl
fill_shows c (Some a) h = refl

by_shows : (a : Act) (image : ℕ → ℕ) (i : Intent) (c : Cpu) (h : List Record) → is_some (access_in c (outcome_by a image i c h)) ≡ (is_poll_act a || (is_step a && is_some i.wanted))
by_shows act.Step image i c h = want_shows image i.lock_flag i.wanted c h
by_shows act.Fill image i c h = fill_shows c i.wanted h
by_shows (act.Drain k) image i c h = drain_shows c h (slice_get (oldest (buffer c.number h).waiting) k)
by_shows (act.Take b) image i c h = take_shows c c.number h (late c.number b h)
by_shows (act.Drop b l) image i c h = refl
by_shows act.Poll image i c h = refl
by_shows act.Tick image i c h = refl

pub access_shown : (image : ℕ → ℕ) (ps : Processors) (r : Record) (h : List Record) → IsRun image ps (r ∷ h) → is_some (access_of r) ≡ (is_poll_act r.event.act || (is_step r.event.act && is_some (ps.intent r.event.cpu.number h).wanted))
unfolding outcome_of
access_shown image ps r h run = subst (λ o. is_some (access_in r.event.cpu o) ≡ (is_poll_act r.event.act || (is_step r.event.act && is_some (ps.intent r.event.cpu.number h).wanted))) (sym run.1) (by_shows r.event.act image (ps.intent r.event.cpu.number h) r.event.cpu h)
