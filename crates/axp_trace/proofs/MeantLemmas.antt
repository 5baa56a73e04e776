-- What the words of an outcome mean is printed.
use Rattle.std.proofs.Common.{◌≡◌, ℕ, ◌-◌, ◌*◌, ◌%◌, ◌^◌, ◌<◌, ◌≤◌, Bool, true, false, List, [], ◌∷◌, codes, Option, Some, None, IfSome, refl, arith, if◌then◌else◌}
use Rattle.std.specs.Str.{bytes_eq}
use Rattle.axp_base.specs.declared.lines.Bank.{Bank}
use Rattle.axp_base.specs.declared.lines.Line.{Line}
use Rattle.axp_base.specs.declared.processors.TheConstants.{MAX_CPUS}
use Rattle.axp_access.specs.declared.Act.{Act}
use Rattle.axp_access.specs.declared.Act.TheVariants as act
use Rattle.axp_access.specs.declared.Event.{Event}
use Rattle.axp_access.specs.declared.Place.TheVariants.{At}
use Rattle.axp_access.specs.Spelling.{IsLine, IsTurn, IsEntry, IsMoved, IsSpelledAs, IsOutcomeOf}
use Rattle.axp_regs.specs.declared.asks.Kind.{Kind}
use Rattle.axp_regs.specs.declared.asks.Kind.TheVariants as kind
use Rattle.axp_trace.specs.Digits.{number_of, hex_number_of, number_within}
use Rattle.axp_trace.specs.Fields.{bank_in, turn_in, entry_in, moved_in, data_in, bare_of}
use Rattle.axp_trace.specs.Records.{placed_by, stored_by, alone_in, fence_in, fetch_in, conditional_in, message_in, memory_in, step_in, filled_by, drained_by, taken_by, polled_by, named_line, outcome_in}
use Rattle.axp_trace.specs.declared.fields.Moved.{Moved}
use Rattle.axp_trace.proofs.ActNameLemmas.{either}
use Rattle.axp_trace.proofs.DigitLemmas.{hex_number_small, within_limits}
use Rattle.axp_trace.proofs.RecordLemmas.{made}
use Rattle.axp_trace.proofs.WordLemmas.{IsMovedWell, turn_read, entry_read, line_read, moved_read, moved_size}

-- ---- accesses

-- an access of such bytes at a turn
placed_read : (e : Event) (k : Kind) (m : Option Moved) (success : Bool) (word : List ℕ) (P : Moved → Type 0) → IfSome m P → ((m : Moved) (turn : ℕ) → P m → IsTurn turn → IsSpelledAs k (made e.cpu k m.address m.size m.value success (At turn))) → IfSome (placed_by e.cpu (Some k) m success (turn_in word)) (IsOutcomeOf act.Step e)
placed_read e k None success word P h f = tt
placed_read e k (Some m) success word P h f = by (turn_in word) (turn_read word)
  where
    by : (t : Option ℕ) → IfSome t IsTurn → IfSome (placed_by e.cpu (Some k) (Some m) success t) (IsOutcomeOf act.Step e)
    by None small = tt
    by (Some turn) small = (refl, f m turn h small)

stored_read : (e : Event) (m : Option Moved) (word : List ℕ) → IfSome m IsMovedWell → IfSome (stored_by e.cpu m (entry_in word)) (IsOutcomeOf act.Step e)
stored_read e None word h = tt
stored_read e (Some m) word h = by (entry_in word) (entry_read word)
  where
    by : (n : Option ℕ) → IfSome n IsEntry → IfSome (stored_by e.cpu (Some m) n) (IsOutcomeOf act.Step e)
    by None small = tt
    by (Some n) small = (refl, (record { sized = h.sized; moved = record { size = refl; aligned = h.aligned; address = h.address; value = h.value } }, (refl, small)))

data_is : (a b c : List ℕ) → IfSome (data_in a b c) IsMovedWell
data_is a b c = moved_read a c (number_of b)

abbrev IsNumberBelow : ℕ → Moved → Type 0
IsNumberBelow limit m = (m.address ≡ 0) × ((m.size ≡ 0) × (m.value < limit))

bare_is : (limit : ℕ) (n : Option ℕ) → IfSome n (λ n. n < limit) → IfSome (bare_of n) (IsNumberBelow limit)
bare_is limit None h = tt
bare_is limit (Some n) h = (refl, (refl, h))

alone_read : (e : Event) (letter : List ℕ) → IfSome (alone_in e.cpu letter) (IsOutcomeOf act.Step e)
alone_read e letter = either (IsOutcomeOf act.Step e) (bytes_eq letter (codes "n")) _ _ tt (either (IsOutcomeOf act.Step e) (bytes_eq letter (codes "s")) _ _ (refl, (record { address = refl; size = refl }, (refl, (refl, refl)))) tt)

fence_read : (e : Event) (letter turn : List ℕ) → IfSome (fence_in e.cpu letter turn) (IsOutcomeOf act.Step e)
fence_read e letter turn = by (bytes_eq letter (codes "m")) (bytes_eq letter (codes "b"))
  where
    by : (m b : Bool) → IfSome (placed_by e.cpu (if m then Some kind.Barrier else if b then Some kind.CodeBarrier else None) (bare_of (Some 0)) false (turn_in turn)) (IsOutcomeOf act.Step e)
    by true b = placed_read e kind.Barrier (bare_of (Some 0)) false turn (λ m. (m.address ≡ 0) × ((m.size ≡ 0) × (m.value ≡ 0))) (refl, (refl, refl)) (λ m t h small. (record { address = h.0; size = h.1.0 }, (h.1.1, (refl, small))))
    by false true = placed_read e kind.CodeBarrier (bare_of (Some 0)) false turn (λ m. (m.address ≡ 0) × ((m.size ≡ 0) × (m.value ≡ 0))) (refl, (refl, refl)) (λ m t h small. (record { address = h.0; size = h.1.0 }, (h.1.1, (refl, small))))
    by false false = tt

message_read : (e : Event) (letter value turn : List ℕ) → IfSome (message_in e.cpu letter value turn) (IsOutcomeOf act.Step e)
message_read e letter value turn =
    either (IsOutcomeOf act.Step e) (bytes_eq letter (codes "g")) _ _
    (placed_read e kind.Signal (bare_of (number_within 0 (MAX_CPUS - 1) value)) false turn (IsNumberBelow MAX_CPUS) (bare_is MAX_CPUS (number_within 0 (MAX_CPUS - 1) value) (target (number_within 0 (MAX_CPUS - 1) value) (within_limits 0 (MAX_CPUS - 1) (number_of value)))) (λ m t h small. (record { address = h.0; size = h.1.0 }, (h.1.1, (refl, small)))))
    (either (IsOutcomeOf act.Step e) (bytes_eq letter (codes "p")) _ _
    (placed_read e kind.Console (bare_of (hex_number_of 2 value)) false turn (IsNumberBelow (2 ^ 8)) (bare_is (2 ^ 8) (hex_number_of 2 value) (hex_number_small 2 value)) (λ m t h small. (record { address = h.0; size = h.1.0 }, (h.1.1, (refl, small)))))
    tt)
  where
    target : (n : Option ℕ) → IfSome n (λ k. (0 ≤ k) × (k ≤ MAX_CPUS - 1)) → IfSome n (λ k. k < MAX_CPUS)
    target None h = tt
    target (Some n) h = let most = h.1 in omega arith

record IsWord (m : Moved) : Type 0 where
  size : m.size ≡ 4
  well : IsMovedWell m

fetch_read : (e : Event) (address word turn : List ℕ) → IfSome (fetch_in e.cpu address word turn) (IsOutcomeOf act.Step e)
fetch_read e address word turn = placed_read e kind.Fetch (moved_in (hex_number_of 8 address) (Some 4) word) false turn IsWord (both (moved_in (hex_number_of 8 address) (Some 4) word) (moved_read address word (Some 4)) (moved_size (hex_number_of 8 address) word 4)) (λ m t h small. (whole m.address m.value m.size t h.size h.well.aligned h.well.address h.well.value, (refl, small)))
  where
    whole : (address value size t : ℕ) → size ≡ 4 → address % size ≡ 0 → address < 2 ^ 32 → value < 2 ^ (8 * size) → IsMoved 4 (made e.cpu kind.Fetch address size value false (At t))
    whole address value size t is aligned low small = record { size = is; aligned = rw is at aligned; address = low; value = rw is at small }

    both : (m : Option Moved) → IfSome m IsMovedWell → IfSome m (λ m. m.size ≡ 4) → IfSome m IsWord
    both None h s = tt
    both (Some m) h s = record { size = s; well = h }

memory_read : (e : Event) (letter : List ℕ) (m : Option Moved) (place : List ℕ) → IfSome m IsMovedWell → IfSome (memory_in e.cpu letter m place) (IsOutcomeOf act.Step e)
memory_read e letter m place h = either (IsOutcomeOf act.Step e) (bytes_eq letter (codes "w")) _ _ (stored_read e m place h) (by (bytes_eq letter (codes "r")) (bytes_eq letter (codes "l")))
  where
    by : (r l : Bool) → IfSome (placed_by e.cpu (if r then Some kind.Read else if l then Some kind.Locked else None) m false (turn_in place)) (IsOutcomeOf act.Step e)
    by true l = placed_read e kind.Read m false place IsMovedWell h (λ m t h small. (record { sized = h.sized; moved = record { size = refl; aligned = h.aligned; address = h.address; value = h.value } }, (refl, small)))
    by false true = placed_read e kind.Locked m false place IsMovedWell h (λ m t h small. (record { sized = h.sized; moved = record { size = refl; aligned = h.aligned; address = h.address; value = h.value } }, (refl, small)))
    by false false = tt

conditional_read : (e : Event) (m : Option Moved) (success turn : List ℕ) → IfSome m IsMovedWell → IfSome (conditional_in e.cpu m success turn) (IsOutcomeOf act.Step e)
conditional_read e m success turn h = placed_read e kind.Conditional m (bytes_eq success (codes "yes")) turn IsMovedWell h (λ m t h small. (record { sized = h.sized; moved = record { size = refl; aligned = h.aligned; address = h.address; value = h.value } }, small))

step_read : (e : Event) (words : List (List ℕ)) → IfSome (step_in e.cpu words) (IsOutcomeOf act.Step e)
step_read e [] = tt
step_read e (a ∷ []) = alone_read e a
step_read e (a ∷ b ∷ []) = fence_read e a b
step_read e (a ∷ b ∷ c ∷ []) = message_read e a b c
step_read e (a ∷ b ∷ c ∷ d ∷ []) = fetch_read e b c d
step_read e (a ∷ b ∷ c ∷ d ∷ f ∷ []) = memory_read e a (data_in b c d) f (data_is b c d)
step_read e (a ∷ b ∷ c ∷ d ∷ f ∷ g ∷ []) = conditional_read e (data_in b c d) f g (data_is b c d)
step_read e (a ∷ b ∷ c ∷ d ∷ f ∷ g ∷ i ∷ more) = tt

-- ---- the other outcomes

filled_read : (e : Event) (b : Option Bank) (l : Option Line) (t : Option ℕ) → IfSome l IsLine → IfSome t IsTurn → IfSome (filled_by b l t) (IsOutcomeOf act.Fill e)
filled_read e None l t low small = tt
filled_read e (Some b) None t low small = tt
filled_read e (Some b) (Some l) None low small = tt
filled_read e (Some b) (Some l) (Some t) low small = (low, small)

drained_read : (e : Event) (k : ℕ) (n : Option ℕ) (l : Option Line) (t : Option ℕ) → IfSome n IsEntry → IfSome l IsLine → IfSome t IsTurn → IfSome (drained_by n l t) (IsOutcomeOf (act.Drain k) e)
drained_read e k None l t is low small = tt
drained_read e k (Some n) None t is low small = tt
drained_read e k (Some n) (Some l) None is low small = tt
drained_read e k (Some n) (Some l) (Some t) is low small = (is, (low, small))

taken_read : (e : Event) (b : Bank) (l : Option Line) (t : Option ℕ) (gone : Bool) → IfSome l IsLine → IfSome t IsTurn → IfSome (taken_by l t gone) (IsOutcomeOf (act.Take b) e)
taken_read e b None t gone low small = tt
taken_read e b (Some l) None gone low small = tt
taken_read e b (Some l) (Some t) gone low small = (low, small)

polled_read : (e : Event) (pending entered : Bool) (t : Option ℕ) → IfSome t IsTurn → IfSome (polled_by pending entered t) (IsOutcomeOf act.Poll e)
polled_read e pending entered None small = tt
polled_read e pending entered (Some t) small = small

-- what the words behind the colon mean is an outcome of the event
pub outcome_read : (does : Act) (e : Event) (words : List (List ℕ)) → IfSome (outcome_in e.cpu does words) (IsOutcomeOf does e)
outcome_read act.Step e words = step_read e words
outcome_read act.Fill e [] = tt
outcome_read act.Fill e (a ∷ []) = tt
outcome_read act.Fill e (a ∷ b ∷ []) = tt
outcome_read act.Fill e (a ∷ b ∷ c ∷ []) = filled_read e (bank_in a) (named_line b) (turn_in c) (line_read (hex_number_of 8 b)) (turn_read c)
outcome_read act.Fill e (a ∷ b ∷ c ∷ d ∷ more) = tt
outcome_read (act.Drain k) e [] = tt
outcome_read (act.Drain k) e (a ∷ []) = tt
outcome_read (act.Drain k) e (a ∷ b ∷ []) = tt
outcome_read (act.Drain k) e (a ∷ b ∷ c ∷ []) = drained_read e k (entry_in a) (named_line b) (turn_in c) (entry_read a) (line_read (hex_number_of 8 b)) (turn_read c)
outcome_read (act.Drain k) e (a ∷ b ∷ c ∷ d ∷ more) = tt
outcome_read (act.Take x) e [] = tt
outcome_read (act.Take x) e (a ∷ []) = tt
outcome_read (act.Take x) e (a ∷ b ∷ []) = tt
outcome_read (act.Take x) e (a ∷ b ∷ c ∷ []) = taken_read e x (named_line a) (turn_in b) (bytes_eq c (codes "gone")) (line_read (hex_number_of 8 a)) (turn_read b)
outcome_read (act.Take x) e (a ∷ b ∷ c ∷ d ∷ more) = tt
outcome_read (act.Drop x l) e [] = tt
outcome_read (act.Drop x l) e (a ∷ []) = tt
outcome_read (act.Drop x l) e (a ∷ b ∷ more) = tt
outcome_read act.Poll e [] = tt
outcome_read act.Poll e (a ∷ []) = tt
outcome_read act.Poll e (a ∷ b ∷ []) = tt
outcome_read act.Poll e (a ∷ b ∷ c ∷ []) = polled_read e (bytes_eq a (codes "1")) (bytes_eq c (codes "enter")) (turn_in b) (turn_read b)
outcome_read act.Poll e (a ∷ b ∷ c ∷ d ∷ more) = tt
outcome_read act.Tick e [] = tt
outcome_read act.Tick e (a ∷ []) = tt
outcome_read act.Tick e (a ∷ b ∷ more) = tt
