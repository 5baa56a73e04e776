-- A line is read as an item of the tail exactly where it is its text.
use Rattle.std.proofs.Common.{◌≡◌, ℕ, zero, suc, ◌*◌, ◌%◌, ◌/◌, ◌<◌, ◌≤◌, ◌^◌, ◌↔◌, ◌&&◌, ◌⊎◌, true, List, [], ◌∷◌, ◌++◌, codes, decimal, Option, Some, None, IfSome, refl, sym, ap, ◌∙◌, arith, ⊎_elim, inl, inr, subst, append_assoc}
use Rattle.std.specs.Str.{bytes_eq}
use Rattle.std.specs.List.{All}
use Rattle.std.proofs.lemmas.Bool.{cases_Bool, and_parts, and_from}
use Rattle.std.proofs.lemmas.List.Elements.{All-nil, All-cons, All-head, All-tail}
use Rattle.std.proofs.lemmas.Slice.Eq.{bytes_eq-Decides}
use Rattle.axp_base.specs.Cpus.{cpu_number}
use Rattle.axp_base.specs.declared.parts.TheConstants.{QUADWORD_BYTES}
use Rattle.axp_base.specs.declared.processors.Cpu.{Cpu}
use Rattle.axp_access.specs.declared.tail_items.TailItem.{TailItem}
use Rattle.axp_access.specs.declared.tail_items.TailItem.TheVariants.{Cpu as Ended, Reg, Mem, Console, End}
use Rattle.axp_trace.specs.Digits.{hex, hex_digit, hex_value, number_of, hex_number_of, number_within, hex_pairs, pairs_value}
use Rattle.axp_trace.specs.Fields.{words_of, cut_at, cpu_in, moved_in}
use Rattle.axp_trace.specs.Lines.{end_text, processor_line, register_line, memory_line, console_text, console_line, end_line, tail_line}
use Rattle.axp_trace.specs.Tails.{ended_by, register_by, quadword_by, end_by, processor_in, item_in, console_if, console_in, is_cpu_below, tail_if, item_or, tail_of, IsPrinted, IsItem}
use Rattle.axp_trace.specs.declared.fields.Moved.{Moved}
use Rattle.axp_trace.specs.declared.fields.TheConstants.{MOST_NUMBER}
use Rattle.axp_trace.specs.declared.tails.TheConstants.{MOST_HALT, MOST_REGISTER}
use Rattle.axp_trace.proofs.ConsoleLemmas.{two_digits}
use Rattle.axp_trace.proofs.DigitLemmas.{hex_number_back, hex_number_small, number_back, within_limits, small_digit, hex_back}
use Rattle.axp_trace.proofs.ReadBackLemmas.{same_bytes}
use Rattle.axp_trace.proofs.WordLemmas.{words_of-decimal, words_of-hex, words_of-both, cpu_back, moved_back, IsMovedWell, moved_read, moved_size}

-- ---- what is printed is read

pc_words : (xs : List ℕ) (pc : ℕ) → words_of (xs ++ codes " pc " ++ hex 16 pc) ≡ words_of xs ++ codes "pc" ∷ hex 16 pc ∷ []
pc_words xs pc =
    ap words_of (append_assoc xs (codes " pc ") (hex 16 pc))
    ∙ words_of-both xs (codes "pc " ++ hex 16 pc)
    ∙ ap (λ ws. words_of xs ++ codes "pc" ∷ ws) (words_of-hex 16 pc)

steps_words : (xs : List ℕ) (n : ℕ) → words_of (xs ++ codes " steps " ++ decimal n) ≡ words_of xs ++ codes "steps" ∷ decimal n ∷ []
steps_words xs n =
    ap words_of (append_assoc xs (codes " steps ") (decimal n))
    ∙ words_of-both xs (codes "steps " ++ decimal n)
    ∙ ap (λ ws. words_of xs ++ codes "steps" ∷ ws) (words_of-decimal n)

-- the words of how a processor ended
end_words : Option ℕ → List (List ℕ)
end_words (Some code) = codes "halt" ∷ decimal code ∷ []
end_words None = codes "spent" ∷ []

how_words : (xs : List ℕ) (halted : Option ℕ) → words_of (xs ++ end_text halted) ≡ words_of xs ++ end_words halted
unfolding end_words
how_words xs (Some code) = words_of-both xs (codes "halt " ++ decimal code) ∙ ap (λ ws. words_of xs ++ codes "halt" ∷ ws) (words_of-decimal code)
how_words xs None = words_of-both xs (codes "spent")

processor_words : (cpu : ℕ) (halted : Option ℕ) (steps pc : ℕ) → words_of (processor_line cpu halted steps pc) ≡ codes "cpu" ∷ decimal cpu ∷ (end_words halted ++ codes "steps" ∷ decimal steps ∷ codes "pc" ∷ hex 16 pc ∷ [])
unfolding processor_line end_words
processor_words cpu halted steps pc =
    let first : words_of (codes "cpu " ++ decimal cpu) ≡ codes "cpu" ∷ decimal cpu ∷ [] = ap (λ ws. codes "cpu" ∷ ws) (words_of-decimal cpu) in
    let how : words_of (codes "cpu " ++ decimal cpu ++ end_text halted) ≡ codes "cpu" ∷ decimal cpu ∷ end_words halted = how_words (codes "cpu " ++ decimal cpu) halted ∙ ap (λ ws. ws ++ end_words halted) first in
    let made : words_of (codes "cpu " ++ decimal cpu ++ end_text halted ++ codes " steps " ++ decimal steps) ≡ codes "cpu" ∷ decimal cpu ∷ (end_words halted ++ codes "steps" ∷ decimal steps ∷ []) = steps_words (codes "cpu " ++ decimal cpu ++ end_text halted) steps ∙ ap (λ ws. ws ++ codes "steps" ∷ decimal steps ∷ []) how in
    pc_words (codes "cpu " ++ decimal cpu ++ end_text halted ++ codes " steps " ++ decimal steps) pc
    ∙ ap (λ ws. ws ++ codes "pc" ∷ hex 16 pc ∷ []) made
    ∙ ap (λ ws. codes "cpu" ∷ decimal cpu ∷ ws) (append_assoc (end_words halted) (codes "steps" ∷ decimal steps ∷ []) (codes "pc" ∷ hex 16 pc ∷ []))

steps_back : (n : ℕ) → n < 2 ^ 32 → number_within 0 MOST_NUMBER (decimal n) ≡ Some n
steps_back n small = number_back 0 MOST_NUMBER n (omega arith) (omega arith) (omega arith)

ended_back : (cpu : Cpu) (halt steps pc : ℕ) → halt ≤ MOST_HALT → steps < 2 ^ 32 → pc < 2 ^ 64 → item_in (words_of (tail_line (Ended cpu halt steps pc))) ≡ Some (Ended cpu halt steps pc)
unfolding end_words
ended_back cpu zero steps pc low small fits = ap item_in (processor_words (cpu_number cpu) None steps pc) ∙ rw (cpu_back cpu, steps_back steps small, hex_number_back 16 pc fits) refl
ended_back cpu (suc code) steps pc low small fits =
    ap item_in (processor_words (cpu_number cpu) (Some (suc code)) steps pc)
    ∙ rw (number_back 1 MOST_HALT (suc code) (omega arith) low (omega arith), cpu_back cpu, steps_back steps small, hex_number_back 16 pc fits) refl

register_back : (cpu : Cpu) (n value : ℕ) → n ≤ MOST_REGISTER → value < 2 ^ 64 → item_in (words_of (tail_line (Reg cpu n value))) ≡ Some (Reg cpu n value)
unfolding register_line
register_back cpu n value low fits =
    let words : words_of (codes "reg " ++ decimal (cpu_number cpu) ++ 32 ∷ decimal n ++ 32 ∷ hex 16 value) ≡ codes "reg" ∷ decimal (cpu_number cpu) ∷ decimal n ∷ hex 16 value ∷ [] =
    words_of-both (codes "reg " ++ decimal (cpu_number cpu) ++ 32 ∷ decimal n) (hex 16 value)
    ∙ rw (words_of-both (decimal (cpu_number cpu)) (decimal n), words_of-decimal (cpu_number cpu), words_of-decimal n, words_of-hex 16 value) refl in
    ap item_in words ∙ rw (cpu_back cpu, number_back 0 MOST_REGISTER n (omega arith) low (omega arith), hex_number_back 16 value fits) refl

quadword_back : (address value : ℕ) → address % QUADWORD_BYTES ≡ 0 → address < 2 ^ 32 → value < 2 ^ 64 → item_in (words_of (tail_line (Mem address value))) ≡ Some (Mem address value)
unfolding memory_line
quadword_back address value aligned low fits =
    let words : words_of (codes "mem " ++ hex 8 address ++ 32 ∷ hex 16 value) ≡ codes "mem" ∷ hex 8 address ∷ hex 16 value ∷ [] =
    words_of-both (codes "mem " ++ hex 8 address) (hex 16 value) ∙ rw (words_of-hex 8 address, words_of-hex 16 value) refl in
    ap item_in words ∙ ap quadword_by (moved_back address 8 value (inr (inr (inr refl))) aligned low fits)

end_back : (events : ℕ) → events < 2 ^ 32 → item_in (words_of (tail_line (End events))) ≡ Some (End events)
unfolding end_line
end_back events small = ap (λ ws. item_in (codes "end" ∷ ws)) (words_of-decimal events) ∙ rw (steps_back events small) refl

-- an item's own line is not the console's, and its words mean it
kept_item : (cpus : ℕ) (i : TailItem) → is_cpu_below cpus i ≡ true → item_in (words_of (tail_line i)) ≡ Some i → tail_if cpus (tail_line i) (item_in (words_of (tail_line i))) ≡ Some i
kept_item cpus i below back = ap (tail_if cpus (tail_line i)) back ∙ rw (and_from (is_cpu_below cpus i) (bytes_eq (tail_line i) (tail_line i)) below (same_bytes (tail_line i))) refl

pairs_back : (bytes : List ℕ) → All (λ b. b < 2 ^ 8) bytes → pairs_value (hex_pairs bytes) ≡ bytes
pairs_back [] h = refl
pairs_back (b ∷ bs) h =
    let small = All-head (λ b. b < 2 ^ 8) b bs h in
    let digits = two_digits b small in
    let byte : hex_value (hex_digit (b / 16) ∷ hex_digit (b % 16) ∷ []) ≡ b = sym (ap hex_value digits) ∙ hex_back 2 b small in
    ap (λ d. pairs_value (d ++ hex_pairs bs)) digits ∙ rw (byte, pairs_back bs (All-tail (λ b. b < 2 ^ 8) b bs h)) refl

text_back : (bytes : List ℕ) → All (λ b. b < 2 ^ 8) bytes → pairs_value (console_text bytes) ≡ bytes
text_back [] h = refl
text_back (b ∷ bs) h = pairs_back (b ∷ bs) h

console_back : (bytes : List ℕ) → All (λ b. b < 2 ^ 8) bytes → console_in (console_line bytes) (cut_at 32 (console_line bytes)) ≡ Some (Console bytes)
unfolding console_line
console_back bytes h = ap (console_if (console_line bytes)) (text_back bytes h) ∙ rw (same_bytes (console_line bytes)) refl

pub tail_back : (cpus : ℕ) (i : TailItem) → IsItem cpus i → tail_of cpus (tail_line i) ≡ Some i
unfolding tail_of processor_line register_line memory_line console_line end_line
tail_back cpus (Ended cpu halt steps pc) h = kept_item cpus (Ended cpu halt steps pc) h.cpu (ended_back cpu halt steps pc h.printed.0 h.printed.1.0 h.printed.1.1)
tail_back cpus (Reg cpu n value) h = kept_item cpus (Reg cpu n value) h.cpu (register_back cpu n value h.printed.0 h.printed.1)
tail_back cpus (Mem address value) h = kept_item cpus (Mem address value) h.cpu (quadword_back address value h.printed.0 h.printed.1.0 h.printed.1.1)
tail_back cpus (Console bytes) h = ap (λ i. item_or i (tail_if cpus (console_line bytes) (item_in (words_of (console_line bytes))))) (console_back bytes h.printed)
tail_back cpus (End events) h = kept_item cpus (End events) h.cpu (end_back events h.printed)

-- ---- what is read is printed

pairs_small : (word : List ℕ) → All (λ b. b < 2 ^ 8) (pairs_value word)
pairs_small [] = All-nil (λ b. b < 2 ^ 8)
pairs_small (c ∷ []) = All-nil (λ b. b < 2 ^ 8)
pairs_small (c ∷ d ∷ cs) = let high = small_digit c in let low = small_digit d in All-cons (λ b. b < 2 ^ 8) (hex_value (c ∷ d ∷ [])) (pairs_value cs) (omega arith) (pairs_small cs)

steps_read : (n : Option ℕ) → IfSome n (λ k. (0 ≤ k) × (k ≤ MOST_NUMBER)) → IfSome n (λ k. k < 2 ^ 32)
steps_read None h = tt
steps_read (Some n) h = let most = h.1 in omega arith

most_read : (least most : ℕ) (n : Option ℕ) → IfSome n (λ k. (least ≤ k) × (k ≤ most)) → IfSome n (λ k. k ≤ most)
most_read least most None h = tt
most_read least most (Some n) h = h.1

ended_read : (cpu : Option Cpu) (halt steps pc : Option ℕ) → IfSome halt (λ k. k ≤ MOST_HALT) → IfSome steps (λ k. k < 2 ^ 32) → IfSome pc (λ k. k < 2 ^ 64) → IfSome (ended_by cpu halt steps pc) IsPrinted
ended_read None halt steps pc h s p = tt
ended_read (Some cpu) None steps pc h s p = tt
ended_read (Some cpu) (Some halt) None pc h s p = tt
ended_read (Some cpu) (Some halt) (Some steps) None h s p = tt
ended_read (Some cpu) (Some halt) (Some steps) (Some pc) h s p = (h, (s, p))

register_read : (cpu : Option Cpu) (n value : Option ℕ) → IfSome n (λ k. k ≤ MOST_REGISTER) → IfSome value (λ k. k < 2 ^ 64) → IfSome (register_by cpu n value) IsPrinted
register_read None n value h v = tt
register_read (Some cpu) None value h v = tt
register_read (Some cpu) (Some n) None h v = tt
register_read (Some cpu) (Some n) (Some value) h v = (h, v)

quadword_read : (m : Option Moved) → IfSome m IsMovedWell → IfSome m (λ m. m.size ≡ 8) → IfSome (quadword_by m) IsPrinted
quadword_read None h s = tt
quadword_read (Some m) h s = (aligned m.address m.size s h.aligned, (h.address, small m.value m.size s h.value))
  where
    aligned : (address size : ℕ) → size ≡ 8 → address % size ≡ 0 → address % 8 ≡ 0
    aligned address size is h = rw is at h

    small : (value size : ℕ) → size ≡ 8 → value < 2 ^ (8 * size) → value < 2 ^ 64
    small value size is h = rw is at h

events_read : (n : Option ℕ) → IfSome n (λ k. k < 2 ^ 32) → IfSome (end_by n) IsPrinted
events_read None h = tt
events_read (Some n) h = h

number_read : (word : List ℕ) → IfSome (number_within 0 MOST_NUMBER word) (λ k. k < 2 ^ 32)
number_read word = steps_read (number_within 0 MOST_NUMBER word) (within_limits 0 MOST_NUMBER (number_of word))

processor_read : (cpu : List ℕ) (words : List (List ℕ)) → IfSome (processor_in cpu words) IsPrinted
processor_read cpu [] = tt
processor_read cpu (a ∷ []) = tt
processor_read cpu (a ∷ b ∷ []) = tt
processor_read cpu (a ∷ b ∷ c ∷ []) = tt
processor_read cpu (a ∷ b ∷ c ∷ d ∷ []) = tt
processor_read cpu (a ∷ b ∷ steps ∷ c ∷ pc ∷ []) = ended_read (cpu_in (number_of cpu)) (Some 0) (number_within 0 MOST_NUMBER steps) (hex_number_of 16 pc) (omega arith) (number_read steps) (hex_number_small 16 pc)
processor_read cpu (a ∷ halt ∷ b ∷ steps ∷ c ∷ pc ∷ []) = ended_read (cpu_in (number_of cpu)) (number_within 1 MOST_HALT halt) (number_within 0 MOST_NUMBER steps) (hex_number_of 16 pc) (most_read 1 MOST_HALT (number_within 1 MOST_HALT halt) (within_limits 1 MOST_HALT (number_of halt))) (number_read steps) (hex_number_small 16 pc)
processor_read cpu (a ∷ b ∷ c ∷ d ∷ e ∷ f ∷ g ∷ more) = tt

item_read : (words : List (List ℕ)) → IfSome (item_in words) IsPrinted
item_read [] = tt
item_read (a ∷ []) = tt
item_read (a ∷ events ∷ []) = events_read (number_within 0 MOST_NUMBER events) (number_read events)
item_read (a ∷ address ∷ value ∷ []) = quadword_read (moved_in (hex_number_of 8 address) (Some 8) value) (moved_read address value (Some 8)) (moved_size (hex_number_of 8 address) value 8)
item_read (a ∷ cpu ∷ n ∷ value ∷ []) = register_read (cpu_in (number_of cpu)) (number_within 0 MOST_REGISTER n) (hex_number_of 16 value) (most_read 0 MOST_REGISTER (number_within 0 MOST_REGISTER n) (within_limits 0 MOST_REGISTER (number_of n))) (hex_number_small 16 value)
item_read (a ∷ cpu ∷ b ∷ c ∷ d ∷ more) = processor_read cpu (b ∷ c ∷ d ∷ more)

one_of : (x y : Option TailItem) (i : TailItem) → item_or x y ≡ Some i → (x ≡ Some i) ⊎ (y ≡ Some i)
one_of None y i h = inr h
one_of (Some j) y i h = inl h

console_read : (cpus : ℕ) (line : List ℕ) (p : Option (List ℕ × List ℕ)) (i : TailItem) → console_in line p ≡ Some i → (line ≡ tail_line i) × IsItem cpus i
console_read cpus line None i h = cc
console_read cpus line (Some p) i h = ⊎_elim
    (λ yes.
    let same : Some (Console (pairs_value p.1)) ≡ Some i = rw yes at h in
    let it : Console (pairs_value p.1) ≡ i = cc in
    rw (← it) (sym ((bytes_eq-Decides (console_line (pairs_value p.1)) line).0 yes), record { printed = pairs_small p.1; cpu = refl }))
    (λ no. let other : None ≡ Some i = rw no at h in cc)
    (cases_Bool (bytes_eq (console_line (pairs_value p.1)) line))

kept_tail : (cpus : ℕ) (line : List ℕ) (o : Option TailItem) (i : TailItem) → tail_if cpus line o ≡ Some i → (line ≡ tail_line i) × ((is_cpu_below cpus i ≡ true) × (o ≡ Some i))
kept_tail cpus line None i h = cc
kept_tail cpus line (Some g) i h = ⊎_elim
    (λ yes.
    let same : Some g ≡ Some i = rw yes at h in
    let it : g ≡ i = cc in
    let parts = and_parts (is_cpu_below cpus g) (bytes_eq (tail_line g) line) yes in
    rw (← it) (sym ((bytes_eq-Decides (tail_line g) line).0 parts.1), (parts.0, refl)))
    (λ no. let other : None ≡ Some i = rw no at h in cc)
    (cases_Bool (is_cpu_below cpus g && bytes_eq (tail_line g) line))

pub tail_is_text : (cpus : ℕ) (line : List ℕ) (i : TailItem) → (tail_of cpus line ≡ Some i) ↔ ((line ≡ tail_line i) × IsItem cpus i)
unfolding tail_of
tail_is_text cpus line i = (
  λ h. ⊎_elim
      (λ e. console_read cpus line (cut_at 32 line) i e)
      (λ e. let kept = kept_tail cpus line (item_in (words_of line)) i e in
      let printed : IsPrinted i = subst (λ o. IfSome o IsPrinted) kept.1.1 (item_read (words_of line)) in
      (kept.0, record { printed = printed; cpu = kept.1.0 }))
      (one_of (console_in line (cut_at 32 line)) (tail_if cpus line (item_in (words_of line))) i h),
  λ h. ap (tail_of cpus) h.0 ∙ tail_back cpus i h.1,
)
