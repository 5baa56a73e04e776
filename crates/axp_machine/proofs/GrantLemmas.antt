-- What an event is granted, and what it then gives.
use Rattle.std.proofs.Common.{◌≡◌, ◌<◌, ◌≤◌, Bool, true, false, cond, ltb, Option, Some, None, refl, sym, ap, ◌∙◌, ⊎_elim}
use Rattle.std.specs.Prelude.{Result, Ok, Err}
use Rattle.std.proofs.lemmas.Bool.{cases_Bool, lt-ltb, le-ltb, ltb-true}
use Rattle.axp_access.specs.declared.Event.{Event}
use Rattle.axp_access.specs.declared.Outcome.{Outcome}
use Rattle.axp_base.specs.Cpus.{cpu_number}
use Rattle.axp_cpu.specs.Actors.{outcome_of}
use Rattle.axp_cpu.specs.declared.refusals.NotLegal.{NotLegal}
use Rattle.axp_line.specs.declared.messages.Reply.{Reply}
use Rattle.axp_line.specs.declared.messages.Reply.TheVariants as reply
use Rattle.axp_lsu.specs.declared.asks.Ask2.{Ask2}
use Rattle.axp_world.specs.Worlds as worlds
use Rattle.axp_world.specs.Worlds.{answer_by, asked, image_bytes, reply_at, reply_for}
use Rattle.axp_machine.specs.Playing.{granted, granted_by, granted_in, is_nothing, actor_of}
use Rattle.axp_machine.specs.Runs.{Seen, answer_of, world_of}

-- a granted event's answer is its outcome, a refused one's its refusal
abbrev pub passed : Result Ask2 NotLegal → Outcome → Result Outcome NotLegal
passed (Err refused) o = Err refused
passed (Ok q) o = Ok o

by_passed : (a : Result Ask2 NotLegal) (r : Option Reply) (o : Outcome) → answer_by a r o ≡ passed (granted_by a r) o
by_passed (Err refused) r o = refl
by_passed (Ok q) None o = refl
by_passed (Ok q) (Some reply.Nothing) o = refl
by_passed (Ok q) (Some _) o = refl

-- the outcome that the event has where it is granted
abbrev pub outcome_in : Seen → Event → Outcome
outcome_in m e = outcome_of (actor_of m (cpu_number e.cpu)) e.act (reply_at m.image (world_of m) e)

pub answer_passed : (m : Seen) (e : Event) → answer_of m e ≡ passed (granted_in m e) (outcome_in m e)
unfolding answer_of worlds.answer_of granted_in
answer_passed m e =
    ⊎_elim
    (λ (below : ltb (cpu_number e.cpu) m.cpus ≡ true). rw below (by_passed (asked (world_of m) e) (reply_at m.image (world_of m) e) (outcome_in m e)))
    (λ (past : ltb (cpu_number e.cpu) m.cpus ≡ false). rw past refl)
    (cases_Bool (ltb (cpu_number e.cpu) m.cpus))

pub answers : (m : Seen) (e : Event) (g : Result Ask2 NotLegal) → g ≡ granted_in m e → answer_of m e ≡ passed g (outcome_in m e)
answers m e g is = answer_passed m e ∙ ap (λ (x : Result Ask2 NotLegal). passed x (outcome_in m e)) (sym is)

-- an event of no processor of the machine
pub granted_past : (m : Seen) (e : Event) → m.cpus ≤ cpu_number e.cpu → Err (record {}) ≡ granted_in m e
unfolding granted_in
granted_past m e past = rw (le-ltb (cpu_number e.cpu) m.cpus past) refl

granted_below : (m : Seen) (e : Event) (a : Result Ask2 NotLegal) → cpu_number e.cpu < m.cpus → asked (world_of m) e ≡ a
    → granted_in m e ≡ granted_by a (reply_for (image_bytes m.image) (world_of m).calls (cpu_number e.cpu) a)
unfolding granted_in
granted_below m e a below is =
    rw (lt-ltb (cpu_number e.cpu) m.cpus below) (ap (λ (x : Result Ask2 NotLegal). granted_by x (reply_for (image_bytes m.image) (world_of m).calls (cpu_number e.cpu) x)) is)

-- one that its processor refuses
pub granted_refused : (m : Seen) (e : Event) (refused : NotLegal) → cpu_number e.cpu < m.cpus → asked (world_of m) e ≡ Err refused → Err refused ≡ granted_in m e
granted_refused m e refused below is = sym (granted_below m e (Err refused) below is)

by_nothing : (q : Ask2) (r : Option Reply) → granted_by (Ok q) r ≡ cond (is_nothing r) (Err (record {})) (Ok q)
by_nothing q None = refl
by_nothing q (Some reply.Nothing) = refl
by_nothing q (Some _) = refl

-- one that its processor allows
pub granted_asked : (m : Seen) (e : Event) (q : Ask2) (vain : Bool) → cpu_number e.cpu < m.cpus → asked (world_of m) e ≡ Ok q → vain ≡ is_nothing (reply_for (image_bytes m.image) (world_of m).calls (cpu_number e.cpu) (Ok q))
    → cond vain (Err (record {})) (Ok q) ≡ granted_in m e
granted_asked m e q vain below is tests =
    ap (λ b. cond b (Err (record {})) (Ok q)) tests ∙ sym (by_nothing q (reply_for (image_bytes m.image) (world_of m).calls (cpu_number e.cpu) (Ok q))) ∙ sym (granted_below m e (Ok q) below is)

-- what a granted event is
pub record IsGranted (m : Seen) (e : Event) (q : Ask2) : Type 0 where
  pub below : cpu_number e.cpu < m.cpus
  pub asked : asked (world_of m) e ≡ Ok q
  pub something : reply_for (image_bytes m.image) (world_of m).calls (cpu_number e.cpu) (Ok q) ≡ Some reply.Nothing → ⊥
  pub answer : answer_of m e ≡ Ok (outcome_in m e)

by_ok : (a : Result Ask2 NotLegal) (r : Option Reply) (q : Ask2) → granted_by a r ≡ Ok q → (a ≡ Ok q) × (r ≡ Some reply.Nothing → ⊥)
by_ok (Err refused) r q is = cc
by_ok (Ok x) None q is = let same : x ≡ q = cc in (ap (λ (y : Ask2). Ok y) same, λ e. cc)
by_ok (Ok x) (Some reply.Nothing) q is = cc
by_ok (Ok x) (Some _) q is = let same : x ≡ q = cc in (ap (λ (y : Ask2). Ok y) same, λ e. cc)

parts_below : (m : Seen) (e : Event) (q : Ask2) (b : Bool) → ltb (cpu_number e.cpu) m.cpus ≡ b → cond b (granted m.image (world_of m) e) (Err (record {})) ≡ Ok q
    → (cpu_number e.cpu < m.cpus) × ((asked (world_of m) e ≡ Ok q) × (reply_at m.image (world_of m) e ≡ Some reply.Nothing → ⊥))
parts_below m e q true below is = (ltb-true (cpu_number e.cpu) m.cpus below, by_ok (asked (world_of m) e) (reply_at m.image (world_of m) e) q is)
parts_below m e q false past is = cc

granted_parts : (m : Seen) (e : Event) (q : Ask2) → granted_in m e ≡ Ok q → (cpu_number e.cpu < m.cpus) × ((asked (world_of m) e ≡ Ok q) × (reply_at m.image (world_of m) e ≡ Some reply.Nothing → ⊥))
unfolding granted_in
granted_parts m e q is = parts_below m e q (ltb (cpu_number e.cpu) m.cpus) refl is

pub granted_is : (m : Seen) (e : Event) (q : Ask2) → granted_in m e ≡ Ok q → IsGranted m e q
granted_is m e q is =
    let parts = granted_parts m e q is in
    record {
      below = parts.0;
      asked = parts.1.0;
      something = λ none. parts.1.1 (ap (λ (a : Result Ask2 NotLegal). reply_for (image_bytes m.image) (world_of m).calls (cpu_number e.cpu) a) parts.1.0 ∙ none);
      answer = answers m e (Ok q) (sym is);
    }
