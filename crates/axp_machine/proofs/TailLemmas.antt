-- The items of the tail from a place on, and those from the next.
use Rattle.std.proofs.Common.{◌≡◌, ℕ, zero, suc, ◌+◌, ◌-◌, ◌<◌, ◌≤◌, false, List, [], ◌∷◌, ◌++◌, drop, slice_get, Option, Some, None, refl, sym, ap, ◌∙◌, arith}
use Rattle.std.specs.Prelude.{Result, Ok, Err, IfOk}
use Rattle.std.proofs.lemmas.Bool.{lt-ltb, le-ltb}
use Rattle.std.proofs.lemmas.List.{append_assoc}
use Rattle.axp_access.specs.declared.tail_items.TailItem.{TailItem}
use Rattle.axp_base.specs.declared.byte_lists.NoMemory.{NoMemory}
use Rattle.axp_image.specs.Contents.{IsValid}
use Rattle.axp_line.specs.BusCalls as calls
use Rattle.axp_model.specs.Console.{printed}
use Rattle.axp_regs.specs.declared.states.TheConstants.{ZERO_REGISTER}
use Rattle.axp_world.proofs.BusConsole.{console_agrees}
use Rattle.axp_machine.specs.Runs.{Seen, IsRun, touches, world_of}
use Rattle.axp_machine.specs.Tails.{IsNext, IsPlace, IsRegister, IsWritten, ended, from_processor, from_quadword, from_register, item_at, items_from, memory_from, place_behind, processors_from, quadword_item, quadword_items, quadwords, register_item, register_items, register_of, registers_from, tail_items}
use Rattle.axp_machine.specs.declared.machine.tails.TailAt.{TailAt}
use Rattle.axp_machine.specs.declared.machine.tails.TailAt.TheVariants as at

-- what the bus sent to the console is what the records did
pub console_shown : (m : Seen) (bytes : List ℕ) → IsValid m.image → IsRun m → bytes ≡ calls.console (world_of m).calls → bytes ≡ printed m.records
console_shown m bytes valid run is = is ∙ console_agrees m.image m.cpus m.budget m.records valid run

-- of so many, none is passed
all_left : (n : ℕ) → n - 0 ≡ n
all_left n = omega arith

-- the first place
pub first_items : (m : Seen) → from_processor m 0 ≡ tail_items m
unfolding from_processor from_quadword tail_items
first_items m = rw (all_left m.cpus, all_left (quadwords m)) refl

-- one less of so many is left
one_left : (n k : ℕ) → k < n → n - k ≡ suc (n - (k + 1))
one_left n k less = omega (arith, less)

none_left : (n k : ℕ) → n ≤ k → n - k ≡ 0
none_left n k past = omega (arith, past)

-- processors
pub processor_first : (m : Seen) (p : ℕ) → p < m.cpus → from_processor m p ≡ ended m p ∷ from_register m p 0
unfolding from_processor from_register processors_from
processor_first m p less = rw (one_left m.cpus p less)
    (ap (λ is. ended m p ∷ is) (append_assoc (registers_from m p 0 ZERO_REGISTER) (processors_from m (p + 1) (m.cpus - (p + 1))) (from_quadword m 0)))

pub processor_past : (m : Seen) (p : ℕ) → m.cpus ≤ p → from_quadword m 0 ≡ from_processor m p
unfolding from_processor processors_from
processor_past m p past = rw (none_left m.cpus p past) refl

-- registers
pub register_one : (m : Seen) (p n : ℕ) → n < ZERO_REGISTER → from_register m p n ≡ register_items m p n ++ from_register m p (n + 1)
unfolding from_register registers_from
register_one m p n less = rw (one_left ZERO_REGISTER n less)
    (append_assoc (register_items m p n) (registers_from m p (n + 1) (ZERO_REGISTER - (n + 1))) (from_processor m (p + 1)))

pub register_past : (m : Seen) (p n : ℕ) → ZERO_REGISTER ≤ n → from_processor m (p + 1) ≡ from_register m p n
unfolding from_register registers_from
register_past m p n past = rw (none_left ZERO_REGISTER n past) refl

-- a register that is 0 is passed over
pub register_skipped : (m : Seen) (p n : ℕ) → n < ZERO_REGISTER → register_of m p n ≡ 0 → from_register m p n ≡ from_register m p (n + 1)
register_skipped m p n less is = register_one m p n less ∙ rw is refl

pub register_first : (m : Seen) (p n : ℕ) → IsRegister m p n → from_register m p n ≡ register_item m p n ∷ from_register m p (n + 1)
register_first m p n is = register_one m p n is.register ∙ rw is.filled refl

-- the register is that of a processor which the machine has
pub register_place : (m : Seen) (p n : ℕ) → p < m.cpus → items_from m (at.Register p n) ≡ from_register m p n
register_place m p n less = rw (lt-ltb p m.cpus less) refl

pub register_absent : (m : Seen) (p n : ℕ) → m.cpus ≤ p → from_quadword m 0 ≡ items_from m (at.Register p n)
register_absent m p n past = rw (le-ltb p m.cpus past) refl

-- quadwords
pub quadword_one : (m : Seen) (q : ℕ) → q < quadwords m → from_quadword m q ≡ quadword_items m q ++ from_quadword m (q + 1)
unfolding from_quadword memory_from
quadword_one m q less = rw (one_left (quadwords m) q less)
    (append_assoc (quadword_items m q) (memory_from m (q + 1) (quadwords m - (q + 1))) _)

pub quadword_past : (m : Seen) (q : ℕ) → quadwords m ≤ q → items_from m at.Console ≡ from_quadword m q
unfolding from_quadword memory_from
quadword_past m q past = rw (none_left (quadwords m) q past) refl

-- one that no turn touched is passed over
pub quadword_skipped : (m : Seen) (q : ℕ) → q < quadwords m → touches m q ≡ false → from_quadword m q ≡ from_quadword m (q + 1)
quadword_skipped m q less is = quadword_one m q less ∙ rw is refl

pub quadword_first : (m : Seen) (q : ℕ) → IsWritten m q → from_quadword m q ≡ quadword_item m q ∷ from_quadword m (q + 1)
quadword_first m q is = quadword_one m q is.inside ∙ rw is.touched refl

-- the item before these, if there is one
abbrev pub with_item : Option TailItem → List TailItem → List TailItem
with_item None is = []
with_item (Some i) is = i ∷ is

-- what stands at a place comes before what stands behind it
pub place_first : (m : Seen) (place : TailAt) → IsPlace m place → items_from m place ≡ with_item (item_at m place) (items_from m (place_behind place))
place_first m (at.Processor p) is = processor_first m p is ∙ ap (λ rest. ended m p ∷ rest) (sym (register_place m p 0 is))
place_first m (at.Register p n) is =
    register_place m p n is.processor ∙ register_first m p n is ∙ ap (λ rest. register_item m p n ∷ rest) (sym (register_place m p (n + 1) is.processor))
place_first m (at.Quadword q) is = quadword_first m q is
place_first m at.Console is = refl
place_first m at.End is = refl
place_first m at.Past is = refl

-- only behind the last item there is none
behind_last : (m : Seen) (place : TailAt) → item_at m place ≡ None → items_from m (place_behind place) ≡ []
behind_last m (at.Processor p) none = cc
behind_last m (at.Register p n) none = cc
behind_last m (at.Quadword q) none = cc
behind_last m at.Console none = cc
behind_last m at.End none = cc
behind_last m at.Past none = refl

-- the next item
pub next_is : (m : Seen) (start place next : TailAt) (i : TailItem) → IsPlace m place → items_from m place ≡ items_from m start → Some i ≡ item_at m place → next ≡ place_behind place → IsNext m start (Some (i, next))
next_is m start place next i is same shown behind =
    sym same ∙ place_first m place is ∙ ap (λ o. with_item o (items_from m (place_behind place))) (sym shown) ∙ ap (λ (x : TailAt). i ∷ items_from m x) (sym behind)

pub next_none : (m : Seen) (start place : TailAt) → IsPlace m place → items_from m place ≡ items_from m start → None ≡ item_at m place → IsNext m start None
next_none m start place is same shown = sym same ∙ place_first m place is ∙ ap (λ o. with_item o (items_from m (place_behind place))) (sym shown)

-- the item of a number
first_of : (xs rest : List TailItem) (k : ℕ) (o : Option TailItem) → drop k xs ≡ with_item o rest → slice_get xs k ≡ o
first_of [] rest zero None is = refl
first_of [] rest zero (Some i) is = cc
first_of (x ∷ xs) rest zero None is = cc
first_of (x ∷ xs) rest zero (Some i) is = let same : x ≡ i = cc in ap Some same
first_of [] rest (suc k) None is = refl
first_of [] rest (suc k) (Some i) is = cc
first_of (x ∷ xs) rest (suc k) o is = first_of xs rest k o is

rest_of : (xs rest : List TailItem) (k : ℕ) (i : TailItem) → drop k xs ≡ i ∷ rest → drop (suc k) xs ≡ rest
rest_of [] rest zero i is = cc
rest_of (x ∷ xs) rest zero i is = cc
rest_of [] rest (suc k) i is = cc
rest_of (x ∷ xs) rest (suc k) i is = rest_of xs rest k i is

-- behind the end there is nothing
none_of : (xs : List TailItem) (j k : ℕ) → drop k xs ≡ [] → k ≤ j → drop j xs ≡ []
none_of [] zero k is less = refl
none_of [] (suc j) k is less = refl
none_of (x ∷ xs) zero zero is less = cc
none_of (x ∷ xs) zero (suc k) is less = absurd (omega (arith, less))
none_of (x ∷ xs) (suc j) zero is less = cc
none_of (x ∷ xs) (suc j) (suc k) is less = none_of xs j k is (omega (arith, less))

-- at the end there is none of a greater number
pub past_is : (m : Seen) (place : TailAt) (k j : ℕ) → place ≡ at.Past → items_from m place ≡ drop k (tail_items m) → k ≤ j → items_from m place ≡ drop j (tail_items m)
past_is m place k j is same less =
    let none : items_from m place ≡ [] = ap (λ (x : TailAt). items_from m x) is in
    none ∙ sym (none_of (tail_items m) j k (sym same ∙ none) less)

-- what stands behind a place of the number k
pub behind_is : (m : Seen) (place next : TailAt) (k : ℕ) → IsPlace m place → items_from m place ≡ drop k (tail_items m) → next ≡ place_behind place → items_from m next ≡ drop (suc k) (tail_items m)
behind_is m place next k is same behind =
    ap (λ (x : TailAt). items_from m x) behind ∙ sym (by_item (item_at m place) refl) where
      by_item : (o : Option TailItem) → item_at m place ≡ o → drop (suc k) (tail_items m) ≡ items_from m (place_behind place)
      by_item None none = none_of (tail_items m) (suc k) k (sym same ∙ place_first m place is ∙ ap (λ o. with_item o (items_from m (place_behind place))) none) (omega arith) ∙ sym (behind_last m place none)
      by_item (Some i) some = rest_of (tail_items m) (items_from m (place_behind place)) k i (sym same ∙ place_first m place is ∙ ap (λ o. with_item o (items_from m (place_behind place))) some)

-- the item at a place is that of its number
pub numbered_is : (m : Seen) (place : TailAt) (k : ℕ) (r : Result (Option TailItem) NoMemory) → IsPlace m place → items_from m place ≡ drop k (tail_items m) → IfOk r (λ o. o ≡ item_at m place) → IfOk r (λ o. o ≡ slice_get (tail_items m) k)
numbered_is m place k (Ok o) is same shown = shown ∙ sym (first_of (tail_items m) (items_from m (place_behind place)) k (item_at m place) (sym same ∙ place_first m place is))
numbered_is m place k (Err e) is same shown = tt
