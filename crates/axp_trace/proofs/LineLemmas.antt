-- No line has a line feed in it: its bytes are blanks, digits, letters and the like.
use Rattle.std.proofs.Common.{◌≡◌, ◌≢◌, ℕ, zero, suc, ◌*◌, ◌/◌, ◌%◌, ◌^◌, ◌<◌, ◌≤◌, ◌==◌, Bool, true, false, nat_le, ◌&&◌, if◌then◌else◌, List, [], ◌∷◌, ◌++◌, codes, decimal, Option, Some, None, refl, sym, ap, ◌∙◌, arith, ⊎_elim}
use Rattle.std.specs.List.{All}
use Rattle.std.proofs.lemmas.Bool.{and_parts, and_from, le-leb, leb-true, cases_lt, lt-ltb, le-ltb, ltb-true}
use Rattle.std.proofs.lemmas.List.Elements.{All-append, All-nil, All-cons, All-weaker, All-head, All-tail}
use Rattle.std.specs.Fmt.{digit_glyph, digits, digits_onto}
use Rattle.axp_base.specs.Cpus.{cpu_number}
use Rattle.axp_base.specs.declared.lines.Bank.{Bank}
use Rattle.axp_base.specs.declared.lines.Bank.TheVariants.{Even, Odd, Code}
use Rattle.axp_base.specs.declared.processors.Cpu.{Cpu}
use Rattle.axp_base.specs.declared.processors.TheConstants.{MAX_CPUS}
use Rattle.axp_access.specs.declared.Access.{Access}
use Rattle.axp_access.specs.declared.Act.{Act}
use Rattle.axp_access.specs.declared.Act.TheVariants as act
use Rattle.axp_access.specs.declared.Event.{Event}
use Rattle.axp_regs.specs.declared.asks.Kind.{Kind}
use Rattle.axp_regs.specs.declared.asks.Kind.TheVariants as kind
use Rattle.axp_access.specs.declared.Outcome.{Outcome}
use Rattle.axp_access.specs.declared.Outcome.TheVariants as outcome
use Rattle.axp_access.specs.declared.tail_items.TailItem.{TailItem}
use Rattle.axp_access.specs.declared.tail_items.TailItem.TheVariants as item
use Rattle.axp_access.specs.declared.Place.{Place}
use Rattle.axp_access.specs.declared.Place.TheVariants.{At, Entry, Absent}
use Rattle.axp_trace.specs.Digits.{hex, hex_digit, hex_pairs}
use Rattle.axp_trace.specs.Lines.{bank_text, bank_number_text, act_text, event_text, turn_text, place_text, data_text, success_text, move_text, access_text, copy_text, bit_text, poll_text, outcome_text, line_text, events_header, trace_header, end_text, halted_of, processor_line, register_line, memory_line, end_line, not_legal_line, incomplete_line, read_fault_line, console_text, console_line, tail_line, usage_line, too_long_line, bad_image_line, bad_trace_line, differs_line, given_line, right_line}
use Rattle.axp_trace.specs.declared.files.TheConstants.{LINE_FEED}

-- each byte is a blank or above: a test, so that it computes on what is written out
abbrev plain : List ℕ → Bool
plain [] = true
plain (b ∷ bs) = nat_le 32 b && plain bs

plain_feed : (xs : List ℕ) → plain xs ≡ true → All (λ b. b ≢ LINE_FEED) xs
plain_feed [] h = All-nil (λ b. b ≢ LINE_FEED)
plain_feed (x ∷ xs) h =
    let parts = and_parts (nat_le 32 x) (plain xs) h in
    let high = leb-true 32 x parts.0 in
    let other : x ≢ LINE_FEED = omega arith in
    All-cons (λ b. b ≢ LINE_FEED) x xs other (plain_feed xs parts.1)

plain-append : (xs ys : List ℕ) → plain (xs ++ ys) ≡ (plain xs && plain ys)
plain-append [] ys = refl
plain-append (x ∷ xs) ys = ap (λ t. nat_le 32 x && t) (plain-append xs ys) ∙ sym (and_assoc (nat_le 32 x) (plain xs) (plain ys))
  where
    and_assoc : (p q r : Bool) → ((p && q) && r) ≡ (p && (q && r))
    and_assoc true q r = refl
    and_assoc false q r = refl

plain_high : (xs : List ℕ) → All (λ b. 32 ≤ b) xs → plain xs ≡ true
plain_high [] h = refl
plain_high (x ∷ xs) h = and_from (nat_le 32 x) (plain xs) (le-leb 32 x (All-head (λ b. 32 ≤ b) x xs h)) (plain_high xs (All-tail (λ b. 32 ≤ b) x xs h))

high_glyph : (d : ℕ) → 48 ≤ digit_glyph false d
high_glyph d = ⊎_elim (λ low. rw (lt-ltb d 10 low) (omega arith)) (λ high. rw (le-ltb d 10 high) (omega arith)) (cases_lt d 10)

high_digits : (k n : ℕ) (acc : List ℕ) → All (λ d. 48 ≤ d) acc → All (λ d. 48 ≤ d) (digits_onto k 10 false n acc)
high_digits zero n acc h = h
high_digits (suc k) n acc h = either (n / 10 == 0) _ _ more (high_digits k (n / 10) _ more)
  where
    more : All (λ d. 48 ≤ d) (digit_glyph false (n % 10) ∷ acc)
    more = All-cons (λ d. 48 ≤ d) (digit_glyph false (n % 10)) acc (high_glyph (n % 10)) h

    either : (b : Bool) (xs ys : List ℕ) → All (λ d. 48 ≤ d) xs → All (λ d. 48 ≤ d) ys → All (λ d. 48 ≤ d) (if b then xs else ys)
    either true xs ys p q = p
    either false xs ys p q = q

-- the bytes of a number are digits or letters
pub high_decimal : (n : ℕ) → All (λ d. 48 ≤ d) (decimal n)
unfolding digits
high_decimal n = high_digits 64 n [] (All-nil (λ d. 48 ≤ d))

high_digit : (d : ℕ) → 48 ≤ hex_digit d
high_digit d = ⊎_elim (λ low. rw (lt-ltb d 10 low) (omega arith)) (λ high. rw (le-ltb d 10 high) (omega arith)) (cases_lt d 10)

pub high_hex : (k n : ℕ) → All (λ d. 48 ≤ d) (hex k n)
unfolding hex
high_hex zero n = All-nil (λ d. 48 ≤ d)
high_hex (suc k) n = All-cons (λ d. 48 ≤ d) _ (hex k n) (high_digit (n / 2 ^ (4 * k) % 16)) (high_hex k n)

plain_digits : (xs : List ℕ) → All (λ d. 48 ≤ d) xs → plain xs ≡ true
plain_digits xs h = plain_high xs (All-weaker (λ d. 48 ≤ d) (λ d. 32 ≤ d) (λ d h. omega arith) xs h)

plain_decimal : (n : ℕ) → plain (decimal n) ≡ true
plain_decimal n = plain_digits (decimal n) (high_decimal n)

plain_hex : (k n : ℕ) → plain (hex k n) ≡ true
plain_hex k n = plain_digits (hex k n) (high_hex k n)

pub small_cpu : (c : Cpu) → cpu_number c < MAX_CPUS
small_cpu c = ltb-true c.number MAX_CPUS c.below

plain_bank : (b : Bank) → plain (bank_text b) ≡ true
plain_bank Even = refl
plain_bank Odd = refl
plain_bank Code = refl

plain_bank_number : (b : Bank) → plain (bank_number_text b) ≡ true
plain_bank_number Even = refl
plain_bank_number Odd = refl
plain_bank_number Code = refl

plain_act : (a : Act) → plain (act_text a) ≡ true
unfolding act_text
plain_act act.Step = refl
plain_act act.Fill = refl
plain_act (act.Drain k) = plain_decimal k
plain_act (act.Take b) = plain_bank_number b
plain_act (act.Drop b l) = simp (plain-append, plain_bank, plain_hex)
plain_act act.Poll = refl
plain_act act.Tick = refl

plain_event : (e : Event) → plain (event_text e) ≡ true
unfolding event_text
plain_event e = simp (plain-append, plain_decimal, plain_act)

plain_turn : (turn : ℕ) → plain (turn_text turn) ≡ true
unfolding turn_text
plain_turn turn = plain_decimal turn

plain_place : (p : Place) → plain (place_text p) ≡ true
plain_place (At turn) = plain_turn turn
plain_place (Entry n) = plain_decimal n
plain_place Absent = refl

plain_data : (a : Access) → plain (data_text a) ≡ true
plain_data a = simp (plain-append, plain_hex, plain_decimal)

plain_success : (yes : Bool) → plain (success_text yes) ≡ true
plain_success true = refl
plain_success false = refl

plain_move : (k : Kind) (a : Access) → plain (move_text k a) ≡ true
unfolding move_text
plain_move kind.Fetch a = simp (plain-append, plain_hex)
plain_move kind.Read a = plain_data a
plain_move kind.Write a = plain_data a
plain_move kind.Locked a = plain_data a
plain_move kind.Conditional a = simp (plain-append, plain_hex, plain_decimal, plain_success)
plain_move kind.Barrier a = refl
plain_move kind.WriteBarrier a = refl
plain_move kind.CodeBarrier a = refl
plain_move kind.Signal a = plain_decimal a.value
plain_move kind.Console a = plain_hex 2 a.value
plain_move kind.Poll a = refl

plain_access : (a : Access) → plain (access_text a) ≡ true
unfolding access_text
plain_access a = simp (plain-append, plain_move, plain_place)

plain_copy : (gone : Bool) → plain (copy_text gone) ≡ true
plain_copy true = refl
plain_copy false = refl

plain_bit : (bit : Bool) → plain (bit_text bit) ≡ true
plain_bit true = refl
plain_bit false = refl

plain_poll : (entered : Bool) → plain (poll_text entered) ≡ true
plain_poll true = refl
plain_poll false = refl

plain_outcome : (o : Outcome) → plain (outcome_text o) ≡ true
unfolding outcome_text
plain_outcome (outcome.Access a) = plain_access a
plain_outcome outcome.NoAccess = refl
plain_outcome (outcome.Filled bank line turn) = simp (plain-append, plain_bank, plain_hex, plain_turn)
plain_outcome (outcome.Drained entry line turn) = simp (plain-append, plain_hex, plain_decimal, plain_turn)
plain_outcome (outcome.Taken line turn gone) = simp (plain-append, plain_hex, plain_turn, plain_copy)
plain_outcome outcome.Done = refl
plain_outcome (outcome.Polled pending entered turn) = simp (plain-append, plain_bit, plain_turn, plain_poll)

plain_line : (e : Event) (o : Outcome) → plain (line_text e o) ≡ true
unfolding line_text
plain_line e o = simp (plain-append, plain_event, plain_outcome)

plain_end : (halted : Option ℕ) → plain (end_text halted) ≡ true
plain_end (Some code) = plain_decimal code
plain_end None = refl

-- no line has a line feed
pub whole_event : (e : Event) → All (λ b. b ≢ LINE_FEED) (event_text e)
whole_event e = plain_feed (event_text e) (plain_event e)

pub whole_line : (e : Event) (o : Outcome) → All (λ b. b ≢ LINE_FEED) (line_text e o)
whole_line e o = plain_feed (line_text e o) (plain_line e o)

pub whole_events_header : (cpus budget : ℕ) → All (λ b. b ≢ LINE_FEED) (events_header cpus budget)
unfolding events_header
whole_events_header cpus budget = plain_feed (events_header cpus budget) (simp (plain-append, plain_decimal))

pub whole_trace_header : (cpus budget memory : ℕ) → All (λ b. b ≢ LINE_FEED) (trace_header cpus budget memory)
unfolding trace_header
whole_trace_header cpus budget memory = plain_feed (trace_header cpus budget memory) (simp (plain-append, plain_decimal))

plain_processor : (cpu : ℕ) (halted : Option ℕ) (steps pc : ℕ) → plain (processor_line cpu halted steps pc) ≡ true
unfolding processor_line
plain_processor cpu halted steps pc = simp (plain-append, plain_decimal, plain_end, plain_hex)

plain_register : (cpu n value : ℕ) → plain (register_line cpu n value) ≡ true
unfolding register_line
plain_register cpu n value = simp (plain-append, plain_decimal, plain_hex)

plain_memory : (address value : ℕ) → plain (memory_line address value) ≡ true
unfolding memory_line
plain_memory address value = simp (plain-append, plain_hex)

plain_pairs : (bytes : List ℕ) → plain (hex_pairs bytes) ≡ true
plain_pairs [] = refl
plain_pairs (b ∷ bs) = plain-append (hex 2 b) (hex_pairs bs) ∙ and_from (plain (hex 2 b)) (plain (hex_pairs bs)) (plain_hex 2 b) (plain_pairs bs)

plain_console_text : (bytes : List ℕ) → plain (console_text bytes) ≡ true
plain_console_text [] = refl
plain_console_text (b ∷ bs) = plain_pairs (b ∷ bs)

plain_console : (bytes : List ℕ) → plain (console_line bytes) ≡ true
unfolding console_line
plain_console bytes = plain_console_text bytes

plain_events : (events : ℕ) → plain (end_line events) ≡ true
unfolding end_line
plain_events events = plain_decimal events

plain_tail : (i : TailItem) → plain (tail_line i) ≡ true
plain_tail (item.Cpu cpu halt steps pc) = plain_processor (cpu_number cpu) (halted_of halt) steps pc
plain_tail (item.Reg cpu n value) = plain_register (cpu_number cpu) n value
plain_tail (item.Mem address value) = plain_memory address value
plain_tail (item.Console bytes) = plain_console bytes
plain_tail (item.End events) = plain_events events

pub whole_tail : (i : TailItem) → All (λ b. b ≢ LINE_FEED) (tail_line i)
whole_tail i = plain_feed (tail_line i) (plain_tail i)

pub whole_usage : All (λ b. b ≢ LINE_FEED) usage_line
unfolding usage_line
whole_usage = plain_feed usage_line refl

pub whole_read_fault : All (λ b. b ≢ LINE_FEED) read_fault_line
unfolding read_fault_line
whole_read_fault = plain_feed read_fault_line refl

pub whole_too_long : All (λ b. b ≢ LINE_FEED) too_long_line
unfolding too_long_line
whole_too_long = plain_feed too_long_line refl

pub whole_bad_image : (kind : List ℕ) (offset : ℕ) → All (λ b. b ≢ LINE_FEED) kind → All (λ b. b ≢ LINE_FEED) (bad_image_line kind offset)
unfolding bad_image_line
whole_bad_image kind offset h =
    let named = All-append (λ b. b ≢ LINE_FEED) (codes "axp: bad image ") kind (plain_feed (codes "axp: bad image ") refl) h in
    let put = All-append (λ b. b ≢ LINE_FEED) (codes "axp: bad image " ++ kind) (codes " at ") named (plain_feed (codes " at ") refl) in
    All-append (λ b. b ≢ LINE_FEED) (codes "axp: bad image " ++ kind ++ codes " at ") (decimal offset) put (plain_feed (decimal offset) (plain_decimal offset))

pub whole_bad_trace : (line : ℕ) → All (λ b. b ≢ LINE_FEED) (bad_trace_line line)
unfolding bad_trace_line
whole_bad_trace line = plain_feed (bad_trace_line line) (plain_decimal line)

pub whole_not_legal : (event : ℕ) → All (λ b. b ≢ LINE_FEED) (not_legal_line event)
unfolding not_legal_line
whole_not_legal event = plain_feed (not_legal_line event) (plain_decimal event)

pub whole_incomplete : (events : ℕ) → All (λ b. b ≢ LINE_FEED) (incomplete_line events)
unfolding incomplete_line
whole_incomplete events = plain_feed (incomplete_line events) (plain_decimal events)

pub whole_differs : (line : ℕ) → All (λ b. b ≢ LINE_FEED) (differs_line line)
unfolding differs_line
whole_differs line = plain_feed (differs_line line) (plain_decimal line)

pub whole_given : (line : List ℕ) → All (λ b. b ≢ LINE_FEED) line → All (λ b. b ≢ LINE_FEED) (given_line line)
unfolding given_line
whole_given line h = All-append (λ b. b ≢ LINE_FEED) (codes "trace: ") line (plain_feed (codes "trace: ") refl) h

pub whole_right : (line : List ℕ) → All (λ b. b ≢ LINE_FEED) line → All (λ b. b ≢ LINE_FEED) (right_line line)
unfolding right_line
whole_right line h = All-append (λ b. b ≢ LINE_FEED) (codes "right: ") line (plain_feed (codes "right: ") refl) h
