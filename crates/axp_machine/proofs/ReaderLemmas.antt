-- What the machine's readers read, and its parts at the start.
use Rattle.std.proofs.Common.{◌≡◌, ℕ, zero, suc, ◌+◌, ◌*◌, ◌<◌, ◌≤◌, ◌&&◌, Bool, List, reverse, [], ◌∷◌, ◌++◌, length, get_or, slice_get, Some, arith, sym, ap, ◌∙◌, subst, length-append}
use Rattle.std.proofs.lemmas.Option.{slice_get-get_or}
use Rattle.std.specs.Vec.{vec_capacity}
use Rattle.axp_base.specs.Cpus.{cpu_of}
use Rattle.axp_base.specs.declared.processors.TheConstants.{MAX_BUDGET, MAX_CPUS, MIN_CPUS}
use Rattle.axp_bus.specs.BusStands as bus
use Rattle.axp_cpu.specs.Actors.{first_actor}
use Rattle.axp_cpu.specs.ActorStands.{IsAt}
use Rattle.axp_cpu.specs.declared.processors.Processor.{Processor}
use Rattle.axp_image.specs.Contents.{Contents, IsValid}
use Rattle.axp_machine.specs.declared.machine.Machine.TheInside.{Inside}
use Rattle.axp_model.specs.Legal as model
use Rattle.axp_machine.specs.Playing.{is_done}
use Rattle.axp_machine.specs.Runs.{Seen, processors_of}
use Rattle.axp_machine.proofs.RunLemmas.{done_shown}
use Rattle.axp_machine.specs.Starts.{StartsAll}
use Rattle.axp_machine.specs.Ties.{Ties, history, seen}
use Rattle.axp_world.specs.declared.lengths.TheConstants.{EVENTS_PER_STEP}
use Rattle.axp_world.specs.Worlds.{cpu_or_first, image_bytes, world}

-- the processor at a place of the list is the world's
pub seated_at : (a : Inside) (c i : ℕ) (x : Processor) → Ties a → i ≡ c → c < length a.processors.items → x ≡ get_or a.processors.items i x → IsAt x ((world a.image (length a.processors.items) a.budget (history a)).actors c)
seated_at a c i x ties is below at =
    ties.seats c x (slice_get-get_or a.processors.items c x below ∙ ap Some (sym (at ∙ ap (λ j. get_or a.processors.items j x) is)))

pub below_seen : (a : Inside) (m : Seen) (c : ℕ) → seen a ≡ m → c < m.cpus → c < length a.processors.items
below_seen a m c shown below = subst (λ (s : Seen). c < s.cpus) (sym shown) below

-- one more processor looked at
pub done_more : (a : Inside) (m : Seen) (ps : List Processor) (n : ℕ) (d : Processor) (so_far tested : Bool) → Ties a → seen a ≡ m → ps ≡ a.processors.items → n < length ps
    → (IsAt (get_or ps n d) ((world a.image (length a.processors.items) a.budget (history a)).actors n) → tested ≡ is_done ((world a.image (length a.processors.items) a.budget (history a)).actors n)) → so_far ≡ model.are_done (processors_of m) m.records n
    → so_far && tested ≡ model.are_done (processors_of m) m.records (n + 1)
done_more a m ps n d so_far tested ties shown is below tests so_far_is =
    let at : slice_get a.processors.items n ≡ Some (get_or ps n d) = subst (λ (qs : List Processor). slice_get qs n ≡ Some (get_or ps n d)) is (slice_get-get_or ps n d below) in
    let count : length ps ≡ length a.processors.items = ap (λ (qs : List Processor). length qs) is in
    let most = ties.most_cpus in
    let done = tests (ties.seats n (get_or ps n d) at) ∙ done_shown (seen a) n ties.valid ties.run (omega (arith, below, count, most)) in
    let one : suc n ≡ n + 1 = omega arith in
    let before : so_far ≡ model.are_done (processors_of (seen a)) (history a) n = subst (λ (s : Seen). so_far ≡ model.are_done (processors_of s) s.records n) (sym shown) so_far_is in
    subst (λ (s : Seen). so_far && tested ≡ model.are_done (processors_of s) s.records (n + 1)) shown
    (rw (before, done) (ap (λ k. model.are_done (processors_of (seen a)) (history a) k) one))

-- what holds of each element of a list holds still where it holds of one more
pushed : (P : ℕ → Processor → Type 0) (ps : List Processor) (new : Processor) → P (length ps) new → ((p : ℕ) (x : Processor) → slice_get ps p ≡ Some x → P p x)
    → (p : ℕ) (x : Processor) → slice_get (ps ++ new ∷ []) p ≡ Some x → P p x
pushed P [] new here first zero x at = let same : new ≡ x = cc in subst (P 0) same here
pushed P [] new here first (suc p) x at = cc
pushed P (y ∷ ps) new here first zero x at = first 0 x at
pushed P (y ∷ ps) new here first (suc p) x at = pushed (λ q z. P (suc q) z) ps new here (λ q z e. first (suc q) z e) p x at

-- one more processor started
pub started_more : (image : Contents) (cpus budget : ℕ) (ps qs : List Processor) (new : Processor) (n : ℕ) → StartsAll image cpus budget n ps → IsAt new (first_actor image cpus budget (cpu_or_first (cpu_of n))) → qs ≡ ps ++ new ∷ [] → StartsAll image cpus budget (n + 1) qs
started_more image cpus budget ps qs new n starts at pushes = rw pushes (record {
  count = length-append ps (new ∷ []) ∙ omega (arith, starts.count);
  each = pushed (λ p x. IsAt x (first_actor image cpus budget (cpu_or_first (cpu_of p)))) ps new (rw starts.count at) starts.each;
})

-- a machine's parts at the start
pub ties_start : (a : Inside) (cpus : ℕ) → IsValid a.image → StartsAll a.image cpus a.budget cpus a.processors.items → bus.Stands a.bus (image_bytes a.image) [] → length a.bus.memory ≡ a.image.size → length a.bus.ports ≡ cpus → a.records.items ≡ []
    → MIN_CPUS ≤ cpus → cpus ≤ MAX_CPUS → 1 ≤ a.budget → a.budget ≤ MAX_BUDGET → vec_capacity a.records ≡ EVENTS_PER_STEP * cpus * a.budget → a.bus.room ≡ EVENTS_PER_STEP * cpus * a.budget
    → Ties a
ties_start a cpus valid starts stands size ports none least most some few room bus_room =
    let empty : history a ≡ [] = ap reverse none in
    record {
      valid = valid;
      seats = rw (empty, starts.count) starts.each;
      bus = rw empty stands;
      asked = rw empty tt;
      size = size;
      ports = ports ∙ sym starts.count;
      run = rw empty tt;
      least_cpus = rw starts.count least;
      most_cpus = rw starts.count most;
      least_budget = some;
      most_budget = few;
      room = rw starts.count room;
      bus_room = rw starts.count bus_room;
    }
