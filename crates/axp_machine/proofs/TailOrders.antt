-- The tail tells all that is left, and nothing else, in order.
use Rattle.std.proofs.Common.{◌≡◌, ℕ, zero, suc, ◌+◌, ◌*◌, ◌<◌, ◌≤◌, inl, inr, ⊎_elim, Bool, true, false, eqb, ltb, List, [], ◌∷◌, ◌++◌, Some, IfSome, refl, sym, subst, arith}
use Rattle.std.proofs.lemmas.Bool.{cases_Bool, cases_lt, lt-ltb}
use Rattle.std.proofs.lemmas.List.{append_assoc}
use Rattle.std.proofs.lemmas.List.Elements.{All-from_recursion, Contains-append_left, Contains-append_right}
use Rattle.std.specs.List.{All, AllByRecursion, Contains}
use Rattle.axp_access.specs.declared.tail_items.TailItem.{TailItem}
use Rattle.axp_base.specs.Cpus.{cpu_by, cpu_number}
use Rattle.axp_base.specs.declared.processors.TheConstants.{MAX_CPUS}
use Rattle.axp_laws.proofs.RunSteps.{each_map}
use Rattle.axp_regs.specs.declared.states.TheConstants.{ZERO_REGISTER}
use Rattle.axp_world.specs.Worlds.{cpu_or_first}
use Rattle.axp_machine.specs.Runs.{Seen, touches}
use Rattle.axp_machine.specs.TailOrder.{AreAscending, ComesBefore, IsLeft}
use Rattle.axp_machine.specs.Tails.{IsPlace, console_item, cpu_at, end_item, ended, item_at, memory_from, processors_from, quadword_item, quadword_items, quadwords, register_item, register_items, register_of, registers_from, tail_items}
use Rattle.axp_machine.specs.declared.machine.tails.TailAt.{TailAt}
use Rattle.axp_machine.specs.declared.machine.tails.TailAt.TheVariants as at

number_by : (p : ℕ) (small : Bool) (tested : ltb p MAX_CPUS ≡ small) → small ≡ true → cpu_number (cpu_or_first (cpu_by p small tested)) ≡ p
number_by p true tested is = refl
number_by p false tested is = cc

number_at : (p : ℕ) → p < MAX_CPUS → cpu_number (cpu_at p) ≡ p
number_at p less = number_by p (ltb p MAX_CPUS) refl (lt-ltb p MAX_CPUS less)

-- a number for each place, by which they are in order
abbrev rank : Seen → TailAt → ℕ
rank m (at.Processor p) = 32 * p
rank m (at.Register p n) = 32 * p + n + 1
rank m (at.Quadword q) = 32 * m.cpus + q
rank m at.Console = 32 * m.cpus + quadwords m
rank m at.End = 32 * m.cpus + quadwords m + 1
rank m at.Past = 32 * m.cpus + quadwords m + 2

-- of two places the items are in the order of their ranks
items_rank : (m : Seen) (place behind : TailAt) → m.cpus ≤ MAX_CPUS → IsPlace m place → IsPlace m behind → rank m place < rank m behind → IfSome (item_at m place) (λ i. IfSome (item_at m behind) (ComesBefore i))
items_rank m (at.Processor p) (at.Processor q) few is later less = rw (number_at p (omega (arith, few, is)), number_at q (omega (arith, few, later))) (omega (arith, less))
items_rank m (at.Processor p) (at.Register q n) few is later less =
    let below = later.processor in
    let short = later.register in
    rw (number_at p (omega (arith, few, is)), number_at q (omega (arith, few, below))) (omega (arith, less, short))
items_rank m (at.Register p n) (at.Processor q) few is later less =
    let below = is.processor in
    rw (number_at p (omega (arith, few, below)), number_at q (omega (arith, few, later))) (omega (arith, less))
items_rank m (at.Register p n) (at.Register q k) few is later less =
    let below = is.processor in
    let lower = later.processor in
    let short = later.register in
    let small = is.register in
    rw (number_at p (omega (arith, few, below)), number_at q (omega (arith, few, lower)))
    (⊎_elim (λ (lesser : p < q). inl lesser) (λ (from : q ≤ p). inr ((omega (arith, from, less, short, small)), (omega (arith, from, less, short, small)))) (cases_lt p q))
items_rank m (at.Quadword q) (at.Quadword k) few is later less = omega (arith, less)
items_rank m (at.Processor p) (at.Quadword k) few is later less = omega arith
items_rank m (at.Processor p) at.Console few is later less = omega arith
items_rank m (at.Processor p) at.End few is later less = omega arith
items_rank m (at.Register p n) (at.Quadword k) few is later less = omega arith
items_rank m (at.Register p n) at.Console few is later less = omega arith
items_rank m (at.Register p n) at.End few is later less = omega arith
items_rank m (at.Quadword q) at.Console few is later less = omega arith
items_rank m (at.Quadword q) at.End few is later less = omega arith
items_rank m at.Console at.End few is later less = omega arith
items_rank m (at.Quadword q) (at.Processor p) few is later less = absurd (omega (arith, less, later))
items_rank m (at.Quadword q) (at.Register p n) few is later less = let below = later.processor in let short = later.register in absurd (omega (arith, less, below, short))
items_rank m at.Console (at.Processor p) few is later less = absurd (omega (arith, less, later))
items_rank m at.Console (at.Register p n) few is later less = let below = later.processor in let short = later.register in absurd (omega (arith, less, below, short))
items_rank m at.Console (at.Quadword q) few is later less = let inside = later.inside in absurd (omega (arith, less, inside))
items_rank m at.Console at.Console few is later less = absurd (omega (arith, less))
items_rank m at.End (at.Processor p) few is later less = absurd (omega (arith, less, later))
items_rank m at.End (at.Register p n) few is later less = let below = later.processor in let short = later.register in absurd (omega (arith, less, below, short))
items_rank m at.End (at.Quadword q) few is later less = let inside = later.inside in absurd (omega (arith, less, inside))
items_rank m at.End at.Console few is later less = absurd (omega (arith, less))
items_rank m at.End at.End few is later less = absurd (omega (arith, less))
items_rank m at.Past behind few is later less = tt
items_rank m (at.Processor p) at.Past few is later less = tt
items_rank m (at.Register p n) at.Past few is later less = tt
items_rank m (at.Quadword q) at.Past few is later less = tt
items_rank m at.Console at.Past few is later less = tt
items_rank m at.End at.Past few is later less = tt

comes_before : (m : Seen) (place behind : TailAt) (i j : TailItem) → m.cpus ≤ MAX_CPUS → IsPlace m place → IsPlace m behind → item_at m place ≡ Some i → item_at m behind ≡ Some j → rank m place < rank m behind → ComesBefore i j
comes_before m place behind i j few is later shown other less =
    let told = subst (λ o. IfSome o (λ i. IfSome (item_at m behind) (ComesBefore i))) shown (items_rank m place behind few is later less) in
    subst (λ o. IfSome o (ComesBefore i)) other told

-- an item that stands at a place of this rank or behind it
record StandsFrom (m : Seen) (r : ℕ) (i : TailItem) : Type 0 where
  place : TailAt
  is : IsPlace m place
  shown : item_at m place ≡ Some i
  from : r ≤ rank m place

-- items in order, all of this rank or behind it
record AreInOrder (m : Seen) (r : ℕ) (is : List TailItem) : Type 0 where
  stand : AllByRecursion (StandsFrom m r) is
  order : AreAscending is

none_in_order : (m : Seen) (r : ℕ) → AreInOrder m r []
none_in_order m r = record { stand = tt; order = tt }

stands_sooner : (m : Seen) (r s : ℕ) → r ≤ s → (i : TailItem) → StandsFrom m s i → StandsFrom m r i
stands_sooner m r s less i stands = record { place = stands.place; is = stands.is; shown = stands.shown; from = let from = stands.from in omega (arith, less, from) }

in_order_sooner : (m : Seen) (r s : ℕ) (is : List TailItem) → r ≤ s → AreInOrder m s is → AreInOrder m r is
in_order_sooner m r s is less order = record { stand = each_map (StandsFrom m s) (StandsFrom m r) is (stands_sooner m r s less) order.stand; order = order.order }

-- one more in front
in_order_more : (m : Seen) (r : ℕ) (place : TailAt) (i : TailItem) (is : List TailItem) → m.cpus ≤ MAX_CPUS → IsPlace m place → item_at m place ≡ Some i → r ≤ rank m place → AreInOrder m (rank m place + 1) is → AreInOrder m r (i ∷ is)
in_order_more m r place i is few stands shown from order = record {
  stand = (record { place = place; is = stands; shown = shown; from = from }, each_map (StandsFrom m (rank m place + 1)) (StandsFrom m r) is (stands_sooner m r (rank m place + 1) (omega (arith, from))) order.stand);
  order = (each_map (StandsFrom m (rank m place + 1)) (ComesBefore i) is (λ j later. comes_before m place later.place i j few stands later.is shown later.shown (let past = later.from in omega (arith, past))) order.stand, order.order);
}

-- the console and the end
last_in_order : (m : Seen) → m.cpus ≤ MAX_CPUS → AreInOrder m (32 * m.cpus + quadwords m) (console_item m ∷ end_item m ∷ [])
last_in_order m few =
    in_order_more m (32 * m.cpus + quadwords m) at.Console (console_item m) (end_item m ∷ []) few tt refl (omega arith)
    (in_order_more m (32 * m.cpus + quadwords m + 1) at.End (end_item m) [] few tt refl (omega arith) (none_in_order m (32 * m.cpus + quadwords m + 1 + 1)))

-- memory
quadword_in_order : (m : Seen) (q : ℕ) (rest : List TailItem) → m.cpus ≤ MAX_CPUS → q < quadwords m → AreInOrder m (32 * m.cpus + q + 1) rest → AreInOrder m (32 * m.cpus + q) (quadword_items m q ++ rest)
quadword_in_order m q rest few inside order =
    ⊎_elim
    (λ (written : touches m q ≡ true).
    rw written (in_order_more m (32 * m.cpus + q) (at.Quadword q) (quadword_item m q) rest few (record { inside = inside; touched = written }) refl (omega arith) order))
    (λ (other : touches m q ≡ false). rw other (in_order_sooner m (32 * m.cpus + q) (32 * m.cpus + q + 1) rest (omega arith) order))
    (cases_Bool (touches m q))

memory_in_order : (m : Seen) (k q : ℕ) (rest : List TailItem) → m.cpus ≤ MAX_CPUS → q + k ≡ quadwords m → AreInOrder m (32 * m.cpus + quadwords m) rest → AreInOrder m (32 * m.cpus + q) (memory_from m q k ++ rest)
unfolding memory_from
memory_in_order m zero q rest few all order = in_order_sooner m (32 * m.cpus + q) (32 * m.cpus + quadwords m) rest (omega (arith, all)) order
memory_in_order m (suc k) q rest few all order =
    let later = memory_in_order m k (q + 1) rest few (omega (arith, all)) order in
    let next : 32 * m.cpus + (q + 1) ≡ 32 * m.cpus + q + 1 = omega arith in
    subst (AreInOrder m (32 * m.cpus + q)) (sym (append_assoc (quadword_items m q) (memory_from m (q + 1) k) rest))
    (quadword_in_order m q (memory_from m (q + 1) k ++ rest) few (omega (arith, all)) (subst (λ r. AreInOrder m r (memory_from m (q + 1) k ++ rest)) next later))

-- registers
register_in_order : (m : Seen) (p n : ℕ) (rest : List TailItem) → m.cpus ≤ MAX_CPUS → p < m.cpus → n < ZERO_REGISTER → AreInOrder m (32 * p + n + 1 + 1) rest → AreInOrder m (32 * p + n + 1) (register_items m p n ++ rest)
register_in_order m p n rest few below short order =
    ⊎_elim
    (λ (zeroed : eqb (register_of m p n) 0 ≡ true). rw zeroed (in_order_sooner m (32 * p + n + 1) (32 * p + n + 1 + 1) rest (omega arith) order))
    (λ (filled : eqb (register_of m p n) 0 ≡ false).
    rw filled (in_order_more m (32 * p + n + 1) (at.Register p n) (register_item m p n) rest few (record { processor = below; register = short; filled = filled }) refl (omega arith) order))
    (cases_Bool (eqb (register_of m p n) 0))

registers_in_order : (m : Seen) (k p n : ℕ) (rest : List TailItem) → m.cpus ≤ MAX_CPUS → p < m.cpus → n + k ≡ ZERO_REGISTER → AreInOrder m (32 * p + 32) rest → AreInOrder m (32 * p + n + 1) (registers_from m p n k ++ rest)
unfolding registers_from
registers_in_order m zero p n rest few below all order = in_order_sooner m (32 * p + n + 1) (32 * p + 32) rest (omega (arith, all)) order
registers_in_order m (suc k) p n rest few below all order =
    let later = registers_in_order m k p (n + 1) rest few below (omega (arith, all)) order in
    let next : 32 * p + (n + 1) + 1 ≡ 32 * p + n + 1 + 1 = omega arith in
    subst (AreInOrder m (32 * p + n + 1)) (sym (append_assoc (register_items m p n) (registers_from m p (n + 1) k) rest))
    (register_in_order m p n (registers_from m p (n + 1) k ++ rest) few below (omega (arith, all)) (subst (λ r. AreInOrder m r (registers_from m p (n + 1) k ++ rest)) next later))

-- processors
processors_in_order : (m : Seen) (k p : ℕ) (rest : List TailItem) → m.cpus ≤ MAX_CPUS → p + k ≡ m.cpus → AreInOrder m (32 * m.cpus) rest → AreInOrder m (32 * p) (processors_from m p k ++ rest)
unfolding processors_from
processors_in_order m zero p rest few all order = in_order_sooner m (32 * p) (32 * m.cpus) rest (omega (arith, all)) order
processors_in_order m (suc k) p rest few all order =
    let later = processors_in_order m k (p + 1) rest few (omega (arith, all)) order in
    let below : p < m.cpus = omega (arith, all) in
    let next : 32 * (p + 1) ≡ 32 * p + 32 = omega arith in
    let first : 32 * p + 0 + 1 ≡ 32 * p + 1 = omega arith in
    let all_of = registers_in_order m ZERO_REGISTER p 0 (processors_from m (p + 1) k ++ rest) few below refl (subst (λ r. AreInOrder m r (processors_from m (p + 1) k ++ rest)) next later) in
    in_order_more m (32 * p) (at.Processor p) (ended m p) (registers_from m p 0 ZERO_REGISTER ++ processors_from m (p + 1) k ++ rest) few below refl (omega arith)
    (subst (AreInOrder m (32 * p + 1)) (sym (append_assoc (registers_from m p 0 ZERO_REGISTER) (processors_from m (p + 1) k) rest)) (subst (λ r. AreInOrder m r (registers_from m p 0 ZERO_REGISTER ++ (processors_from m (p + 1) k ++ rest))) first all_of))

tail_in_order : (m : Seen) → m.cpus ≤ MAX_CPUS → AreInOrder m 0 (tail_items m)
unfolding tail_items
tail_in_order m few =
    let start : 32 * m.cpus + 0 ≡ 32 * m.cpus = omega arith in
    processors_in_order m m.cpus 0 (memory_from m 0 (quadwords m) ++ (console_item m ∷ end_item m ∷ [])) few (omega arith)
    (subst (λ r. AreInOrder m r (memory_from m 0 (quadwords m) ++ (console_item m ∷ end_item m ∷ []))) start (memory_in_order m (quadwords m) 0 (console_item m ∷ end_item m ∷ []) few (omega arith) (last_in_order m few)))

pub tail_ascends : (m : Seen) → m.cpus ≤ MAX_CPUS → AreAscending (tail_items m)
tail_ascends m few = (tail_in_order m few).order

pub tail_is_left : (m : Seen) → m.cpus ≤ MAX_CPUS → All (IsLeft m) (tail_items m)
tail_is_left m few = All-from_recursion (IsLeft m) (tail_items m) (each_map (StandsFrom m 0) (IsLeft m) (tail_items m) (λ i stands. (stands.place, stands.is, stands.shown)) (tail_in_order m few).stand)

-- the first of a list is in it
first_in : (i : TailItem) (is : List TailItem) → Contains (i ∷ is) i
first_in i is = Contains-append_left (i ∷ []) is i (0, omega arith, refl)

behind_in : (i j : TailItem) (is : List TailItem) → Contains is j → Contains (i ∷ is) j
behind_in i j is = Contains-append_right (i ∷ []) is j

-- each quadword that was written is told
quadword_told : (m : Seen) (k q at_it : ℕ) → q ≤ at_it → at_it < q + k → touches m at_it ≡ true → Contains (memory_from m q k) (quadword_item m at_it)
unfolding memory_from
quadword_told m zero q at_it from below written = absurd (omega (arith, from, below))
quadword_told m (suc k) q at_it from below written =
    ⊎_elim
    (λ (later : q < at_it). Contains-append_right (quadword_items m q) (memory_from m (q + 1) k) (quadword_item m at_it) (quadword_told m k (q + 1) at_it (omega (arith, later)) (omega (arith, below)) written))
    (λ (here : at_it ≤ q).
    let same : at_it ≡ q = omega (arith, from, here) in
    let told : Contains (quadword_items m at_it) (quadword_item m at_it) = rw written (first_in (quadword_item m at_it) []) in
    Contains-append_left (quadword_items m q) (memory_from m (q + 1) k) (quadword_item m at_it) (subst (λ n. Contains (quadword_items m n) (quadword_item m at_it)) same told))
    (cases_lt q at_it)

-- each register that is not 0
register_told : (m : Seen) (k p n at_it : ℕ) → n ≤ at_it → at_it < n + k → eqb (register_of m p at_it) 0 ≡ false → Contains (registers_from m p n k) (register_item m p at_it)
unfolding registers_from
register_told m zero p n at_it from below filled = absurd (omega (arith, from, below))
register_told m (suc k) p n at_it from below filled =
    ⊎_elim
    (λ (later : n < at_it). Contains-append_right (register_items m p n) (registers_from m p (n + 1) k) (register_item m p at_it) (register_told m k p (n + 1) at_it (omega (arith, later)) (omega (arith, below)) filled))
    (λ (here : at_it ≤ n).
    let same : at_it ≡ n = omega (arith, from, here) in
    let told : Contains (register_items m p at_it) (register_item m p at_it) = rw filled (first_in (register_item m p at_it) []) in
    Contains-append_left (register_items m p n) (registers_from m p (n + 1) k) (register_item m p at_it) (subst (λ x. Contains (register_items m p x) (register_item m p at_it)) same told))
    (cases_lt n at_it)

-- all that is told of each processor
processor_told : (m : Seen) (k p at_it : ℕ) (i : TailItem) → p ≤ at_it → at_it < p + k → Contains (ended m at_it ∷ registers_from m at_it 0 ZERO_REGISTER) i → Contains (processors_from m p k) i
unfolding processors_from
processor_told m zero p at_it i from below told = absurd (omega (arith, from, below))
processor_told m (suc k) p at_it i from below told =
    ⊎_elim
    (λ (later : p < at_it).
    behind_in (ended m p) i (registers_from m p 0 ZERO_REGISTER ++ processors_from m (p + 1) k)
    (Contains-append_right (registers_from m p 0 ZERO_REGISTER) (processors_from m (p + 1) k) i (processor_told m k (p + 1) at_it i (omega (arith, later)) (omega (arith, below)) told)))
    (λ (here : at_it ≤ p).
    let same : at_it ≡ p = omega (arith, from, here) in
    Contains-append_left (ended m p ∷ registers_from m p 0 ZERO_REGISTER) (processors_from m (p + 1) k) i (subst (λ x. Contains (ended m x ∷ registers_from m x 0 ZERO_REGISTER) i) same told))
    (cases_lt p at_it)

of_processors : (m : Seen) (p : ℕ) (i : TailItem) → p < m.cpus → Contains (ended m p ∷ registers_from m p 0 ZERO_REGISTER) i → Contains (tail_items m) i
unfolding tail_items
of_processors m p i below told =
    Contains-append_left (processors_from m 0 m.cpus) (memory_from m 0 (quadwords m) ++ (console_item m ∷ end_item m ∷ [])) i (processor_told m m.cpus 0 p i (omega arith) (omega (arith, below)) told)

of_memory : (m : Seen) (i : TailItem) → Contains (memory_from m 0 (quadwords m) ++ (console_item m ∷ end_item m ∷ [])) i → Contains (tail_items m) i
unfolding tail_items
of_memory m i told = Contains-append_right (processors_from m 0 m.cpus) (memory_from m 0 (quadwords m) ++ (console_item m ∷ end_item m ∷ [])) i told

-- all that is left is told
pub left_is_told : (m : Seen) (place : TailAt) → IsPlace m place → IfSome (item_at m place) (Contains (tail_items m))
left_is_told m (at.Processor p) is = of_processors m p (ended m p) is (first_in (ended m p) (registers_from m p 0 ZERO_REGISTER))
left_is_told m (at.Register p n) is =
    of_processors m p (register_item m p n) is.processor
    (behind_in (ended m p) (register_item m p n) (registers_from m p 0 ZERO_REGISTER) (register_told m ZERO_REGISTER p 0 n (omega arith) is.register is.filled))
left_is_told m (at.Quadword q) is =
    of_memory m (quadword_item m q)
    (Contains-append_left (memory_from m 0 (quadwords m)) (console_item m ∷ end_item m ∷ []) (quadword_item m q) (quadword_told m (quadwords m) 0 q (omega arith) (let inside = is.inside in omega (arith, inside)) is.touched))
left_is_told m at.Console is =
    of_memory m (console_item m) (Contains-append_right (memory_from m 0 (quadwords m)) (console_item m ∷ end_item m ∷ []) (console_item m) (first_in (console_item m) (end_item m ∷ [])))
left_is_told m at.End is =
    of_memory m (end_item m) (Contains-append_right (memory_from m 0 (quadwords m)) (console_item m ∷ end_item m ∷ []) (end_item m) (behind_in (console_item m) (end_item m) (end_item m ∷ []) (first_in (end_item m) [])))
left_is_told m at.Past is = tt

pub all_left_told : (m : Seen) (i : TailItem) → IsLeft m i → Contains (tail_items m) i
all_left_told m i left = subst (λ o. IfSome o (Contains (tail_items m))) left.2 (left_is_told m left.0 left.1)
