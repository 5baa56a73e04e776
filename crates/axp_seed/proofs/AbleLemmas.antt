-- A processor that is not done has an act, whichever word chooses.
use Rattle.std.proofs.Common.{◌≡◌, ◌⊎◌, inl, inr, nat_le, ◌<◌, ℕ, Bool, true, false, cond, eqb, ltb, ◌&&◌, ◌||◌, List, [], ◌∷◌, Option, Some, is_some, refl, ap, sym, subst, ◌∙◌, arith}
use Rattle.std.specs.List.{find, list_any}
use Rattle.std.proofs.lemmas.Bool.{lt-ltb, ltb-true, or_parts}
use Rattle.axp_access.specs.Offers.{is_copy, is_offered}
use Rattle.axp_access.specs.declared.Act.{Act}
use Rattle.axp_access.specs.declared.Act.TheVariants as act
use Rattle.axp_access.specs.declared.offers.Offer.{Offer}
use Rattle.axp_base.specs.Cpus.{cpu_number}
use Rattle.axp_base.specs.Lines.{line_number, same_bank}
use Rattle.axp_base.specs.Lists.{is_empty}
use Rattle.axp_base.specs.declared.lines.Bank.{Bank}
use Rattle.axp_base.specs.declared.lines.Line.{Line}
use Rattle.axp_base.specs.declared.processors.Cpu.{Cpu}
use Rattle.axp_cpu.specs.Seats.{Seat, is_finished, next_wanted, wanted}
use Rattle.axp_image.specs.Contents.{IsValid}
use Rattle.axp_machine.specs.Offers.{may_make}
use Rattle.axp_machine.specs.Runs.{IsRun, Seen, is_spent, needs_of, processors_of, seat_of}
use Rattle.axp_model.specs.Entries.{buffer}
use Rattle.axp_model.specs.Legal.{is_done}
use Rattle.axp_model.specs.Waits.{full_bank}
use Rattle.axp_pick.specs.Choices.{drop_of, is_able, or_else, progress, room_made, where_legal}
use Rattle.axp_world.proofs.ProgressActs as acts
use Rattle.axp_world.specs.RunLaws.{MakesRoom, is_progress}

-- the first copy of a bank of which there is one
bank_found : (bank : Bank) (line : Line) (drops : List (Bank × Line)) → list_any (is_copy bank line) drops ≡ true → is_some (room_made (Some bank) drops) ≡ true
bank_found bank line [] any = cc
bank_found bank line (c ∷ drops) any = by_bank (same_bank bank c.0) (bank_found bank line drops) any where
  by_bank : (same : Bool) → (list_any (is_copy bank line) drops ≡ true → is_some (drop_of (find (λ (x : Bank × Line). same_bank bank x.0) drops)) ≡ true)
      → ((same && eqb (line_number c.1) (line_number line)) || list_any (is_copy bank line) drops) ≡ true
      → is_some (drop_of (cond same (Some c) (find (λ (x : Bank × Line). same_bank bank x.0) drops))) ≡ true
  by_bank true later any = refl
  by_bank false later any = later any

-- an act of progress that is offered brings the processor on
brings_on : (step fill drain : Bool) (room : Option Act) → (step ≡ true) ⊎ ((fill ≡ true) ⊎ ((drain ≡ true) ⊎ (is_some room ≡ true)))
    → is_some (or_else (where_legal step act.Step) (or_else (where_legal fill act.Fill) (or_else (where_legal drain (act.Drain 0)) room))) ≡ true
brings_on true fill drain room some = refl
brings_on false true drain room some = refl
brings_on false false true room some = refl
brings_on false false false room (inl is) = cc
brings_on false false false room (inr (inl is)) = cc
brings_on false false false room (inr (inr (inl is))) = cc
brings_on false false false room (inr (inr (inr is))) = is

any_below : (k n : ℕ) → ltb k n ≡ true → ltb 0 n ≡ true
any_below k n below = let less : k < n = ltb-true k n below in lt-ltb 0 n (omega (arith, less))

progress_some : (o : Offer) (a : Act) → is_progress a ≡ true → is_offered o a ≡ true → MakesRoom o.needs a → is_some (progress o) ≡ true
unfolding progress
progress_some o act.Step goes legal room = brings_on o.step o.fill (ltb 0 o.drains) (room_made o.needs o.drops.items) (inl legal)
progress_some o act.Fill goes legal room = brings_on o.step o.fill (ltb 0 o.drains) (room_made o.needs o.drops.items) (inr (inl legal))
progress_some o (act.Drain k) goes legal room = brings_on o.step o.fill (ltb 0 o.drains) (room_made o.needs o.drops.items) (inr (inr (inl (any_below k o.drains legal))))
progress_some o (act.Take b) goes legal room = cc
progress_some o (act.Drop bank line) goes legal room =
    brings_on o.step o.fill (ltb 0 o.drains) (room_made o.needs o.drops.items)
    (inr (inr (inr (ap (λ (n : Option Bank). is_some (room_made n o.drops.items)) room ∙ bank_found bank line o.drops.items legal))))
progress_some o act.Poll goes legal room = cc
progress_some o act.Tick goes legal room = cc

-- with a step left, the next access is the one that is wanted
next_is_wanted : (s : Seat) → is_finished s ≡ false → wanted s ≡ next_wanted s
next_is_wanted s on = rw (on, (or_parts (is_some s.start.halted) (nat_le s.budget s.steps) on).0) refl

by_spent : (o : Offer) (spent : Bool) → o.spent ≡ spent → (spent ≡ true → ltb 0 o.drains ≡ true) → (spent ≡ false → is_some (progress o) ≡ true) → is_able o ≡ true
unfolding is_able progress
by_spent o true same drains goes = rw same (drains refl)
by_spent o false same drains goes = rw same (goes refl)

not_both : (a b : Bool) → (a && b) ≡ false → a ≡ true → b ≡ false
not_both true b none is = none
not_both false b none is = cc

-- of an offer that is the processor's
pub able : (m : Seen) (c : Cpu) (o : Offer) → IsValid m.image → IsRun m → cpu_number c < m.cpus → is_done (processors_of m) m.records (cpu_number c) ≡ false
    → ((a : Act) → is_offered o a ≡ may_make m c a) → o.spent ≡ is_spent m c → o.needs ≡ needs_of m c → is_able o ≡ true
able m c o valid run below works legal spent needs =
    let p : ℕ = cpu_number c in
    let there : ltb p m.cpus ≡ true = lt-ltb p m.cpus below in
    let same : o.spent ≡ is_finished (seat_of m p) = spent ∙ rw there refl in
    by_spent o (is_finished (seat_of m p)) same
    (λ finished. legal (act.Drain 0) ∙ acts.finished_drains m.image m.cpus m.budget m.records c valid run below finished (not_both (is_finished (seat_of m p)) (is_empty (buffer p m.records).waiting) works finished))
    (λ on.
    let found = acts.progress m.image m.cpus m.budget m.records c valid run below on in
    let room : full_bank (wanted (seat_of m p)) p m.records ≡ o.needs = ap (λ w. full_bank w p m.records) (next_is_wanted (seat_of m p) on) ∙ sym (needs ∙ rw there refl) in
    progress_some o found.0 found.1 (legal found.0 ∙ found.2) (subst (λ (n : Option Bank). MakesRoom n found.0) room found.3))
