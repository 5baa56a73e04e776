-- The words of a line, and what they mean.
use Rattle.std.proofs.Common.{◌≡◌, ◌≢◌, ℕ, ◌+◌, ◌<◌, ◌==◌, false, List, [], ◌∷◌, ◌++◌, length, map, Bor, refl, sym, ap, ◌∙◌, arith, append_assoc, ne_eqb, length-append, Some, None, Option, Ok, Err, Result}
use Rattle.std.specs.Result.{OkIff, result_ok}
use Rattle.axp_base.specs.declared.processors.Cpu.{Cpu}
use Rattle.axp_trace.specs.Digits.{number_of}
use Rattle.std.specs.List.{All}
use Rattle.std.proofs.lemmas.List.{map-append, length-map}
use Rattle.std.proofs.lemmas.List.Elements.{All-weaker}
use Rattle.std.proofs.lemmas.List.Splits.{slice_split_at, slice_split_none, length-slice_split}
use Rattle.axp_trace.specs.Fields.{words_of, cpu_in}
use Rattle.axp_trace.specs.Records.{step_in}
use Rattle.axp_trace.specs.Reading.{event_by, event_in, header_in}

no_blank : (word : List ℕ) → All (λ b. b ≢ 32) word → All (λ b. (b == 32) ≡ false) word
no_blank word free = All-weaker (λ b. b ≢ 32) (λ b. (b == 32) ≡ false) (λ b h. ne_eqb b 32 h) word free

-- a word and a blank, put before a line
pub words_of-begin : (word more : List ℕ) → All (λ b. b ≢ 32) word → words_of (word ++ 32 ∷ more) ≡ word ∷ words_of more
words_of-begin word more free = slice_split_at (λ b. b == 32) word 32 more (no_blank word free) refl

-- a line of one word
pub words_of-one : (word : List ℕ) → All (λ b. b ≢ 32) word → words_of word ≡ word ∷ []
words_of-one word free = slice_split_none (λ b. b == 32) word (no_blank word free)

-- one turn of the loop that takes words off a line
pub words_turn : (all : List (List ℕ)) (words pushed : List (Bor (List ℕ))) (word : Bor (List ℕ)) (rest more : List ℕ) → all ≡ map (λ w. w.now) words ++ words_of rest → pushed ≡ words ++ word ∷ [] → rest ≡ word.now ++ 32 ∷ more → All (λ b. b ≢ 32) word.now → all ≡ map (λ w. w.now) pushed ++ words_of more
words_turn all words pushed word rest more h is parted free =
    let first : words_of rest ≡ word.now ∷ words_of more = ap words_of parted ∙ words_of-begin word.now more free in
    h ∙ ap (λ ws. map (λ w. w.now) words ++ ws) first ∙ sym (rw (is, map-append) (append_assoc (map (λ w. w.now) words) (word.now ∷ []) (words_of more)))

-- its end
pub words_end : (all : List (List ℕ)) (words pushed : List (Bor (List ℕ))) (word : Bor (List ℕ)) → all ≡ map (λ w. w.now) words ++ words_of word.now → pushed ≡ words ++ word ∷ [] → All (λ b. b ≢ 32) word.now → map (λ w. w.now) pushed ≡ all
words_end all words pushed word h is free = rw (is, map-append) (sym (h ∙ ap (λ ws. map (λ w. w.now) words ++ ws) (words_of-one word.now free)))

-- a line has more words than were taken off
pub words_more : (line rest : List ℕ) (words : List (Bor (List ℕ))) → words_of line ≡ map (λ w. w.now) words ++ words_of rest → length words < length (words_of line)
words_more line rest words h =
    let some : length (words_of rest) ≡ _ + 1 = length-slice_split (λ b. b == 32) rest in
    rw h (simp (length-append, length-map) (omega arith))

-- what a number that fits in a byte is cut down to
pub narrowed : {E : Type 0} (m n : ℕ) (r : Result ℕ E) → OkIff r (n < 256) n → Some m ≡ result_ok r → m ≡ n
narrowed m n (Ok x) h e = let same = h.1 in cc
narrowed m n (Err x) h e = cc

event_by-none : (cpu : Option Cpu) → event_by cpu None ≡ None
event_by-none None = refl
event_by-none (Some cpu) = refl

-- no event has so many words
pub event_in_long : (words : List (List ℕ)) → 8 < length words → event_in words ≡ None
event_in_long [] h = absurd (omega arith)
event_in_long (a ∷ []) h = absurd (omega arith)
event_in_long (a ∷ b ∷ []) h = absurd (omega arith)
event_in_long (a ∷ b ∷ c ∷ []) h = absurd (omega arith)
event_in_long (a ∷ b ∷ c ∷ d ∷ []) h = absurd (omega arith)
event_in_long (a ∷ b ∷ c ∷ d ∷ e ∷ more) h = event_by-none (cpu_in (number_of a))

-- no header has so many words
pub header_in_long : (words : List (List ℕ)) → 8 < length words → header_in words ≡ None
header_in_long [] h = absurd (omega arith)
header_in_long (a ∷ []) h = absurd (omega arith)
header_in_long (a ∷ b ∷ []) h = absurd (omega arith)
header_in_long (a ∷ b ∷ c ∷ []) h = absurd (omega arith)
header_in_long (a ∷ b ∷ c ∷ d ∷ []) h = absurd (omega arith)
header_in_long (a ∷ b ∷ c ∷ d ∷ e ∷ []) h = absurd (omega arith)
header_in_long (a ∷ b ∷ c ∷ d ∷ e ∷ f ∷ []) h = absurd (omega arith)
header_in_long (a ∷ b ∷ c ∷ d ∷ e ∷ f ∷ g ∷ []) h = absurd (omega arith)
header_in_long (a ∷ b ∷ c ∷ d ∷ e ∷ f ∷ g ∷ i ∷ []) h = absurd (omega arith)
header_in_long (a ∷ b ∷ c ∷ d ∷ e ∷ f ∷ g ∷ i ∷ j ∷ more) h = refl

-- no outcome of a step has so many words
pub step_in_long : (cpu : Cpu) (words : List (List ℕ)) → 6 < length words → step_in cpu words ≡ None
step_in_long cpu [] h = absurd (omega arith)
step_in_long cpu (a ∷ []) h = absurd (omega arith)
step_in_long cpu (a ∷ b ∷ []) h = absurd (omega arith)
step_in_long cpu (a ∷ b ∷ c ∷ []) h = absurd (omega arith)
step_in_long cpu (a ∷ b ∷ c ∷ d ∷ []) h = absurd (omega arith)
step_in_long cpu (a ∷ b ∷ c ∷ d ∷ e ∷ []) h = absurd (omega arith)
step_in_long cpu (a ∷ b ∷ c ∷ d ∷ e ∷ f ∷ []) h = absurd (omega arith)
step_in_long cpu (a ∷ b ∷ c ∷ d ∷ e ∷ f ∷ g ∷ more) h = refl
