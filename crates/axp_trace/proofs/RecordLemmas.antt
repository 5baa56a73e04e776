-- A line is read as a record exactly where it is its text.
use Rattle.std.proofs.Common.{◌≡◌, ℕ, ◌-◌, ◌*◌, Bool, true, false, List, [], ◌∷◌, ◌++◌, codes, decimal, Some, refl, sym, ap, ◌∙◌, arith, inl, inr}
use Rattle.std.specs.Str.{bytes_eq}
use Rattle.axp_base.specs.declared.lines.Bank.{Bank}
use Rattle.axp_base.specs.declared.lines.Bank.TheVariants.{Even, Odd, Code}
use Rattle.axp_base.specs.declared.lines.Line.{Line}
use Rattle.axp_base.specs.declared.processors.Cpu.{Cpu}
use Rattle.axp_base.specs.declared.processors.TheConstants.{MAX_CPUS}
use Rattle.axp_access.specs.declared.Access.{Access}
use Rattle.axp_access.specs.declared.Act.{Act}
use Rattle.axp_access.specs.declared.Act.TheVariants as act
use Rattle.axp_access.specs.declared.Event.{Event}
use Rattle.axp_access.specs.declared.Outcome.{Outcome}
use Rattle.axp_access.specs.declared.Outcome.TheVariants as outcome
use Rattle.axp_access.specs.declared.Place.{Place}
use Rattle.axp_access.specs.declared.Place.TheVariants.{At, Entry, Absent}
use Rattle.axp_access.specs.Spelling.{IsLine, IsTurn, IsEntry, IsSpelledAs, IsSpelled, IsOutcomeOf}
use Rattle.axp_regs.specs.declared.asks.Kind.{Kind}
use Rattle.axp_regs.specs.declared.asks.Kind.TheVariants as kind
use Rattle.axp_trace.specs.Digits.{hex}
use Rattle.axp_trace.specs.Fields.{words_of}
use Rattle.axp_trace.specs.Lines.{bank_text, address_text, turn_text, entry_text, success_text, move_text, access_text, copy_text, bit_text, poll_text, outcome_text}
use Rattle.axp_trace.specs.Records.{access_of, step_in, taken_by, polled_by, filled_in, drained_in, taken_in, polled_in, outcome_in}
use Rattle.axp_trace.proofs.DigitLemmas.{hex_number_back, number_back}
use Rattle.axp_trace.proofs.WordLemmas.{words_of-decimal, words_of-hex, words_of-marked, words_of-both, turn_back, entry_back, bank_back, address_back, moved_back, data_back}

-- the words of a place behind a blank
words_of-turn : (xs : List ℕ) (turn : ℕ) → words_of (xs ++ turn_text turn) ≡ words_of xs ++ (64 ∷ decimal turn) ∷ []
unfolding turn_text
words_of-turn xs turn = words_of-both xs (64 ∷ decimal turn) ∙ ap (λ ws. words_of xs ++ ws) (words_of-marked 64 turn (omega arith))

-- ---- what is printed is read

words_of-bank : (b : Bank) → words_of (bank_text b) ≡ bank_text b ∷ []
words_of-bank Even = refl
words_of-bank Odd = refl
words_of-bank Code = refl

words_of-address : (l : Line) → words_of (address_text l) ≡ address_text l ∷ []
words_of-address l = words_of-hex 8 _

words_of-entry : (n : ℕ) → words_of (entry_text n) ≡ entry_text n ∷ []
words_of-entry n = words_of-marked 101 n (omega arith)

filled_back : (b : Bank) (l : Line) (turn : ℕ) → IsLine l → IsTurn turn → filled_in (words_of (outcome_text (outcome.Filled b l turn))) ≡ Some (outcome.Filled b l turn)
unfolding outcome_text
filled_back b l turn low small =
    let words : words_of (bank_text b ++ 32 ∷ address_text l ++ turn_text turn) ≡ bank_text b ∷ address_text l ∷ (64 ∷ decimal turn) ∷ [] =
    words_of-turn (bank_text b ++ 32 ∷ address_text l) turn ∙ rw (words_of-both (bank_text b) (address_text l), words_of-bank b, words_of-address l) refl in
    ap filled_in words ∙ rw (bank_back b, address_back l low, turn_back turn small) refl

drained_back : (n : ℕ) (l : Line) (turn : ℕ) → IsEntry n → IsLine l → IsTurn turn → drained_in (words_of (outcome_text (outcome.Drained n l turn))) ≡ Some (outcome.Drained n l turn)
unfolding outcome_text
drained_back n l turn made low small =
    let words : words_of (entry_text n ++ 32 ∷ address_text l ++ turn_text turn) ≡ entry_text n ∷ address_text l ∷ (64 ∷ decimal turn) ∷ [] =
    words_of-turn (entry_text n ++ 32 ∷ address_text l) turn ∙ rw (words_of-both (entry_text n) (address_text l), words_of-entry n, words_of-address l) refl in
    ap drained_in words ∙ rw (entry_back n made, address_back l low, turn_back turn small) refl

taken_back : (l : Line) (turn : ℕ) (gone : Bool) → IsLine l → IsTurn turn → taken_in (words_of (outcome_text (outcome.Taken l turn gone))) ≡ Some (outcome.Taken l turn gone)
unfolding outcome_text
taken_back l turn gone low small =
    let words : words_of (address_text l ++ turn_text turn ++ 32 ∷ copy_text gone) ≡ address_text l ∷ (64 ∷ decimal turn) ∷ copy_text gone ∷ [] =
    words_of-both (address_text l ++ turn_text turn) (copy_text gone) ∙ rw (words_of-turn (address_text l) turn, words_of-address l, fate gone) refl in
    ap taken_in words ∙ rw (address_back l low, turn_back turn small) (told gone)
  where
    fate : (g : Bool) → words_of (copy_text g) ≡ copy_text g ∷ []
    fate true = refl
    fate false = refl

    told : (g : Bool) → taken_by (Some l) (Some turn) (bytes_eq (copy_text g) (codes "gone")) ≡ Some (outcome.Taken l turn g)
    told true = refl
    told false = refl

polled_back : (pending entered : Bool) (turn : ℕ) → IsTurn turn → polled_in (words_of (outcome_text (outcome.Polled pending entered turn))) ≡ Some (outcome.Polled pending entered turn)
unfolding outcome_text
polled_back pending entered turn small =
    let words : words_of (bit_text pending ++ turn_text turn ++ 32 ∷ poll_text entered) ≡ bit_text pending ∷ (64 ∷ decimal turn) ∷ poll_text entered ∷ [] =
    words_of-both (bit_text pending ++ turn_text turn) (poll_text entered) ∙ rw (words_of-turn (bit_text pending) turn, bit pending, answer entered) refl in
    ap polled_in words ∙ rw (turn_back turn small) (told pending entered)
  where
    bit : (b : Bool) → words_of (bit_text b) ≡ bit_text b ∷ []
    bit true = refl
    bit false = refl

    answer : (b : Bool) → words_of (poll_text b) ≡ poll_text b ∷ []
    answer true = refl
    answer false = refl

    told : (p e : Bool) → polled_by (bytes_eq (bit_text p) (codes "1")) (bytes_eq (poll_text e) (codes "enter")) (Some turn) ≡ Some (outcome.Polled p e turn)
    told true true = refl
    told true false = refl
    told false true = refl
    told false false = refl

-- ---- accesses

abbrev pub made : Cpu → Kind → ℕ → ℕ → ℕ → Bool → Place → Access
made cpu k address size value success place = record { cpu = cpu; kind = k; address = address; size = size; value = value; yes = success; place = place }

moved_words : (address size value : ℕ) → words_of (hex 8 address ++ 32 ∷ decimal size ++ 32 ∷ hex (2 * size) value) ≡ hex 8 address ∷ decimal size ∷ hex (2 * size) value ∷ []
moved_words address size value = words_of-both (hex 8 address ++ 32 ∷ decimal size) (hex (2 * size) value) ∙ rw (words_of-both (hex 8 address) (decimal size), words_of-hex 8 address, words_of-decimal size, words_of-hex (2 * size) value) refl

-- an access without memory and without success, of the number that it sends
bare_is : (cpu : Cpu) (k : Kind) (address size value number : ℕ) (success : Bool) (place : Place) → address ≡ 0 → size ≡ 0 → value ≡ number → success ≡ false → Some (access_of cpu k (record { address = 0; size = 0; value = number }) false place) ≡ Some (outcome.Access (made cpu k address size value success place))
bare_is cpu k address size value number success place a b c d = rw (a, b, c, d) refl

abbrev IsBack : Cpu → Access → Type 0
IsBack cpu a = step_in cpu (words_of (access_text a)) ≡ Some (outcome.Access a)

read_back : (cpu : Cpu) (address size value turn : ℕ) (success : Bool) → IsSpelled (made cpu kind.Read address size value success (At turn)) → IsBack cpu (made cpu kind.Read address size value success (At turn))
unfolding access_text move_text
read_back cpu address size value turn success h =
    let words : words_of (codes "r " ++ (hex 8 address ++ 32 ∷ decimal size ++ 32 ∷ hex (2 * size) value) ++ turn_text turn) ≡ codes "r" ∷ hex 8 address ∷ decimal size ∷ hex (2 * size) value ∷ (64 ∷ decimal turn) ∷ [] =
    words_of-turn (codes "r " ++ (hex 8 address ++ 32 ∷ decimal size ++ 32 ∷ hex (2 * size) value)) turn ∙ ap (λ ws. codes "r" ∷ ws ++ (64 ∷ decimal turn) ∷ []) (moved_words address size value) in
    ap (step_in cpu) words
    ∙ rw (data_back address size value h.0.sized h.0.moved.aligned h.0.moved.address h.0.moved.value, turn_back turn h.1.1) (ap (λ s. Some (outcome.Access (made cpu kind.Read address size value s (At turn)))) (sym h.1.0))

locked_back : (cpu : Cpu) (address size value turn : ℕ) (success : Bool) → IsSpelled (made cpu kind.Locked address size value success (At turn)) → IsBack cpu (made cpu kind.Locked address size value success (At turn))
unfolding access_text move_text
locked_back cpu address size value turn success h =
    let words : words_of (codes "l " ++ (hex 8 address ++ 32 ∷ decimal size ++ 32 ∷ hex (2 * size) value) ++ turn_text turn) ≡ codes "l" ∷ hex 8 address ∷ decimal size ∷ hex (2 * size) value ∷ (64 ∷ decimal turn) ∷ [] =
    words_of-turn (codes "l " ++ (hex 8 address ++ 32 ∷ decimal size ++ 32 ∷ hex (2 * size) value)) turn ∙ ap (λ ws. codes "l" ∷ ws ++ (64 ∷ decimal turn) ∷ []) (moved_words address size value) in
    ap (step_in cpu) words
    ∙ rw (data_back address size value h.0.sized h.0.moved.aligned h.0.moved.address h.0.moved.value, turn_back turn h.1.1) (ap (λ s. Some (outcome.Access (made cpu kind.Locked address size value s (At turn)))) (sym h.1.0))

write_back : (cpu : Cpu) (address size value n : ℕ) (success : Bool) → IsSpelled (made cpu kind.Write address size value success (Entry n)) → IsBack cpu (made cpu kind.Write address size value success (Entry n))
unfolding access_text move_text
write_back cpu address size value n success h =
    let words : words_of (codes "w " ++ (hex 8 address ++ 32 ∷ decimal size ++ 32 ∷ hex (2 * size) value) ++ 32 ∷ entry_text n) ≡ codes "w" ∷ hex 8 address ∷ decimal size ∷ hex (2 * size) value ∷ entry_text n ∷ [] =
    words_of-both (codes "w " ++ (hex 8 address ++ 32 ∷ decimal size ++ 32 ∷ hex (2 * size) value)) (entry_text n) ∙ ap (λ ws. codes "w" ∷ ws ++ words_of (entry_text n)) (moved_words address size value) ∙ rw (words_of-entry n) refl in
    ap (step_in cpu) words
    ∙ rw (data_back address size value h.0.sized h.0.moved.aligned h.0.moved.address h.0.moved.value, entry_back n h.1.1) (ap (λ s. Some (outcome.Access (made cpu kind.Write address size value s (Entry n)))) (sym h.1.0))

conditional_back : (cpu : Cpu) (address size value turn : ℕ) (success : Bool) → IsSpelled (made cpu kind.Conditional address size value success (At turn)) → IsBack cpu (made cpu kind.Conditional address size value success (At turn))
unfolding access_text move_text
conditional_back cpu address size value turn success h =
    let words : words_of (codes "c " ++ (hex 8 address ++ 32 ∷ decimal size ++ 32 ∷ hex (2 * size) value) ++ 32 ∷ success_text success ++ turn_text turn) ≡ codes "c" ∷ hex 8 address ∷ decimal size ∷ hex (2 * size) value ∷ success_text success ∷ (64 ∷ decimal turn) ∷ [] =
    words_of-turn (codes "c " ++ (hex 8 address ++ 32 ∷ decimal size ++ 32 ∷ hex (2 * size) value) ++ 32 ∷ success_text success) turn
    ∙ ap (λ ws. ws ++ (64 ∷ decimal turn) ∷ []) (words_of-both (codes "c " ++ (hex 8 address ++ 32 ∷ decimal size ++ 32 ∷ hex (2 * size) value)) (success_text success) ∙ ap (λ ws. codes "c" ∷ ws ++ words_of (success_text success)) (moved_words address size value))
    ∙ ap (λ ws. codes "c" ∷ hex 8 address ∷ decimal size ∷ hex (2 * size) value ∷ ws ++ (64 ∷ decimal turn) ∷ []) (word success) in
    ap (step_in cpu) words
    ∙ rw (data_back address size value h.0.sized h.0.moved.aligned h.0.moved.address h.0.moved.value, turn_back turn h.1) (told success)
  where
    word : (b : Bool) → words_of (success_text b) ≡ success_text b ∷ []
    word true = refl
    word false = refl

    told : (b : Bool) → Some (access_of cpu kind.Conditional (record { address = address; size = size; value = value }) (bytes_eq (success_text b) (codes "yes")) (At turn)) ≡ Some (outcome.Access (made cpu kind.Conditional address size value b (At turn)))
    told true = refl
    told false = refl

fetch_back : (cpu : Cpu) (address size value turn : ℕ) (success : Bool) → IsSpelled (made cpu kind.Fetch address size value success (At turn)) → IsBack cpu (made cpu kind.Fetch address size value success (At turn))
unfolding access_text move_text
fetch_back cpu address size value turn success h =
    let both : words_of (hex 8 address ++ 32 ∷ hex 8 value) ≡ hex 8 address ∷ hex 8 value ∷ [] =
    words_of-both (hex 8 address) (hex 8 value) ∙ rw (words_of-hex 8 address, words_of-hex 8 value) refl in
    let words : words_of (codes "i " ++ hex 8 address ++ 32 ∷ hex 8 value ++ turn_text turn) ≡ codes "i" ∷ hex 8 address ∷ hex 8 value ∷ (64 ∷ decimal turn) ∷ [] =
    words_of-turn (codes "i " ++ hex 8 address ++ 32 ∷ hex 8 value) turn ∙ ap (λ ws. codes "i" ∷ ws ++ (64 ∷ decimal turn) ∷ []) both in
    ap (step_in cpu) words
    ∙ rw (moved_back address 4 value (inr (inr (inl refl))) h.0.aligned h.0.address h.0.value, turn_back turn h.1.1) (rw (h.0.size, h.1.0) refl)

signal_back : (cpu : Cpu) (address size value turn : ℕ) (success : Bool) → IsSpelled (made cpu kind.Signal address size value success (At turn)) → IsBack cpu (made cpu kind.Signal address size value success (At turn))
unfolding access_text move_text
signal_back cpu address size value turn success h =
    let words : words_of (codes "g " ++ decimal value ++ turn_text turn) ≡ codes "g" ∷ decimal value ∷ (64 ∷ decimal turn) ∷ [] =
    words_of-turn (codes "g " ++ decimal value) turn ∙ ap (λ ws. codes "g" ∷ ws ++ (64 ∷ decimal turn) ∷ []) (words_of-decimal value) in
    let small = h.1.0 in
    ap (step_in cpu) words
    ∙ rw (number_back 0 (MAX_CPUS - 1) value (omega arith) (omega arith) (omega arith), turn_back turn h.1.1.1) (bare_is cpu kind.Signal address size value value success (At turn) h.0.address h.0.size refl h.1.1.0)

console_back : (cpu : Cpu) (address size value turn : ℕ) (success : Bool) → IsSpelled (made cpu kind.Console address size value success (At turn)) → IsBack cpu (made cpu kind.Console address size value success (At turn))
unfolding access_text move_text
console_back cpu address size value turn success h =
    let words : words_of (codes "p " ++ hex 2 value ++ turn_text turn) ≡ codes "p" ∷ hex 2 value ∷ (64 ∷ decimal turn) ∷ [] =
    words_of-turn (codes "p " ++ hex 2 value) turn ∙ ap (λ ws. codes "p" ∷ ws ++ (64 ∷ decimal turn) ∷ []) (words_of-hex 2 value) in
    ap (step_in cpu) words
    ∙ rw (hex_number_back 2 value h.1.0, turn_back turn h.1.1.1) (bare_is cpu kind.Console address size value value success (At turn) h.0.address h.0.size refl h.1.1.0)

barrier_back : (cpu : Cpu) (address size value turn : ℕ) (success : Bool) → IsSpelled (made cpu kind.Barrier address size value success (At turn)) → IsBack cpu (made cpu kind.Barrier address size value success (At turn))
unfolding access_text move_text
barrier_back cpu address size value turn success h =
    ap (step_in cpu) (words_of-turn (codes "m") turn)
    ∙ rw (turn_back turn h.1.1.1) (bare_is cpu kind.Barrier address size value 0 success (At turn) h.0.address h.0.size h.1.0 h.1.1.0)

code_barrier_back : (cpu : Cpu) (address size value turn : ℕ) (success : Bool) → IsSpelled (made cpu kind.CodeBarrier address size value success (At turn)) → IsBack cpu (made cpu kind.CodeBarrier address size value success (At turn))
unfolding access_text move_text
code_barrier_back cpu address size value turn success h =
    ap (step_in cpu) (words_of-turn (codes "b") turn)
    ∙ rw (turn_back turn h.1.1.1) (bare_is cpu kind.CodeBarrier address size value 0 success (At turn) h.0.address h.0.size h.1.0 h.1.1.0)

write_barrier_back : (cpu : Cpu) (address size value : ℕ) (success : Bool) → IsSpelled (made cpu kind.WriteBarrier address size value success Absent) → IsBack cpu (made cpu kind.WriteBarrier address size value success Absent)
unfolding access_text move_text
write_barrier_back cpu address size value success h = bare_is cpu kind.WriteBarrier address size value 0 success Absent h.0.address h.0.size h.1.0 h.1.1.0

access_back : (cpu : Cpu) (k : Kind) (address size value : ℕ) (success : Bool) (place : Place) → IsSpelledAs k (made cpu k address size value success place) → IsBack cpu (made cpu k address size value success place)
access_back cpu kind.Fetch a n v s (At t) h = fetch_back cpu a n v t s h
access_back cpu kind.Fetch a n v s (Entry e) h = absurd h.1.1
access_back cpu kind.Fetch a n v s Absent h = absurd h.1.1
access_back cpu kind.Read a n v s (At t) h = read_back cpu a n v t s h
access_back cpu kind.Read a n v s (Entry e) h = absurd h.1.1
access_back cpu kind.Read a n v s Absent h = absurd h.1.1
access_back cpu kind.Locked a n v s (At t) h = locked_back cpu a n v t s h
access_back cpu kind.Locked a n v s (Entry e) h = absurd h.1.1
access_back cpu kind.Locked a n v s Absent h = absurd h.1.1
access_back cpu kind.Conditional a n v s (At t) h = conditional_back cpu a n v t s h
access_back cpu kind.Conditional a n v s (Entry e) h = absurd h.1
access_back cpu kind.Conditional a n v s Absent h = absurd h.1
access_back cpu kind.Barrier a n v s (At t) h = barrier_back cpu a n v t s h
access_back cpu kind.Barrier a n v s (Entry e) h = absurd h.1.1.1
access_back cpu kind.Barrier a n v s Absent h = absurd h.1.1.1
access_back cpu kind.CodeBarrier a n v s (At t) h = code_barrier_back cpu a n v t s h
access_back cpu kind.CodeBarrier a n v s (Entry e) h = absurd h.1.1.1
access_back cpu kind.CodeBarrier a n v s Absent h = absurd h.1.1.1
access_back cpu kind.Signal a n v s (At t) h = signal_back cpu a n v t s h
access_back cpu kind.Signal a n v s (Entry e) h = absurd h.1.1.1
access_back cpu kind.Signal a n v s Absent h = absurd h.1.1.1
access_back cpu kind.Console a n v s (At t) h = console_back cpu a n v t s h
access_back cpu kind.Console a n v s (Entry e) h = absurd h.1.1.1
access_back cpu kind.Console a n v s Absent h = absurd h.1.1.1
access_back cpu kind.Write a n v s (At t) h = absurd h.1.1
access_back cpu kind.Write a n v s (Entry e) h = write_back cpu a n v e s h
access_back cpu kind.Write a n v s Absent h = absurd h.1.1
access_back cpu kind.WriteBarrier a n v s (At t) h = let none = h.1.1.1 in cc
access_back cpu kind.WriteBarrier a n v s (Entry e) h = let none = h.1.1.1 in cc
access_back cpu kind.WriteBarrier a n v s Absent h = write_barrier_back cpu a n v s h
access_back cpu kind.Poll a n v s place h = absurd h

-- what came of a step
step_back : (e : Event) (a : Access) → a.cpu ≡ e.cpu → IsSpelled a → step_in e.cpu (words_of (access_text a)) ≡ Some (outcome.Access a)
step_back e a same h = ap (λ c. step_in c (words_of (access_text a))) (sym same) ∙ access_back a.cpu a.kind a.address a.size a.value a.yes a.place h

-- the words of an outcome mean the outcome
pub outcome_back : (does : Act) (e : Event) (o : Outcome) → IsOutcomeOf does e o → outcome_in e.cpu does (words_of (outcome_text o)) ≡ Some o
unfolding outcome_text
outcome_back act.Step e (outcome.Access a) h = step_back e a h.0 h.1
outcome_back act.Step e outcome.NoAccess h = refl
outcome_back act.Step e (outcome.Filled b l t) h = absurd h
outcome_back act.Step e (outcome.Drained n l t) h = absurd h
outcome_back act.Step e (outcome.Taken l t g) h = absurd h
outcome_back act.Step e outcome.Done h = absurd h
outcome_back act.Step e (outcome.Polled p x t) h = absurd h
outcome_back act.Fill e (outcome.Access a) h = absurd h
outcome_back act.Fill e outcome.NoAccess h = absurd h
outcome_back act.Fill e (outcome.Filled b l t) h = filled_back b l t h.0 h.1
outcome_back act.Fill e (outcome.Drained n l t) h = absurd h
outcome_back act.Fill e (outcome.Taken l t g) h = absurd h
outcome_back act.Fill e outcome.Done h = absurd h
outcome_back act.Fill e (outcome.Polled p x t) h = absurd h
outcome_back (act.Drain k) e (outcome.Access a) h = absurd h
outcome_back (act.Drain k) e outcome.NoAccess h = absurd h
outcome_back (act.Drain k) e (outcome.Filled b l t) h = absurd h
outcome_back (act.Drain k) e (outcome.Drained n l t) h = drained_back n l t h.0 h.1.0 h.1.1
outcome_back (act.Drain k) e (outcome.Taken l t g) h = absurd h
outcome_back (act.Drain k) e outcome.Done h = absurd h
outcome_back (act.Drain k) e (outcome.Polled p x t) h = absurd h
outcome_back (act.Take c) e (outcome.Access a) h = absurd h
outcome_back (act.Take c) e outcome.NoAccess h = absurd h
outcome_back (act.Take c) e (outcome.Filled b l t) h = absurd h
outcome_back (act.Take c) e (outcome.Drained n l t) h = absurd h
outcome_back (act.Take c) e (outcome.Taken l t g) h = taken_back l t g h.0 h.1
outcome_back (act.Take c) e outcome.Done h = absurd h
outcome_back (act.Take c) e (outcome.Polled p x t) h = absurd h
outcome_back (act.Drop c m) e (outcome.Access a) h = absurd h
outcome_back (act.Drop c m) e outcome.NoAccess h = absurd h
outcome_back (act.Drop c m) e (outcome.Filled b l t) h = absurd h
outcome_back (act.Drop c m) e (outcome.Drained n l t) h = absurd h
outcome_back (act.Drop c m) e (outcome.Taken l t g) h = absurd h
outcome_back (act.Drop c m) e outcome.Done h = refl
outcome_back (act.Drop c m) e (outcome.Polled p x t) h = absurd h
outcome_back act.Poll e (outcome.Access a) h = absurd h
outcome_back act.Poll e outcome.NoAccess h = absurd h
outcome_back act.Poll e (outcome.Filled b l t) h = absurd h
outcome_back act.Poll e (outcome.Drained n l t) h = absurd h
outcome_back act.Poll e (outcome.Taken l t g) h = absurd h
outcome_back act.Poll e outcome.Done h = absurd h
outcome_back act.Poll e (outcome.Polled p x t) h = polled_back p x t h
outcome_back act.Tick e (outcome.Access a) h = absurd h
outcome_back act.Tick e outcome.NoAccess h = absurd h
outcome_back act.Tick e (outcome.Filled b l t) h = absurd h
outcome_back act.Tick e (outcome.Drained n l t) h = absurd h
outcome_back act.Tick e (outcome.Taken l t g) h = absurd h
outcome_back act.Tick e outcome.Done h = refl
outcome_back act.Tick e (outcome.Polled p x t) h = absurd h
