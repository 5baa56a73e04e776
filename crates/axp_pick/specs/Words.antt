-- The words of a seed: those of the PCG generator XSL RR 128/64 (O'Neill, "PCG: a family of simple fast space-efficient statistically good algorithms for random number generation").
use Rattle.std.specs.Prelude.{ℕ, zero, suc}
use Rattle.rand_pcg.specs.Lcg.{Lcg, increment_of, started}
use Rattle.rand_pcg.specs.Pcg.{multiplier_128, pcg64}

-- the generator before the first word of a seed's stream
unfoldable pub first_words : ℕ → ℕ → Lcg
first_words seed stream = started 128 multiplier_128 seed (increment_of 128 stream)

-- the next word, and the generator behind it
unfoldable pub next_word : Lcg → ℕ
next_word words = (pcg64 words).0

unfoldable pub words_behind : Lcg → Lcg
words_behind words = (pcg64 words).1

-- the generator behind n words
abbrev pub words_after : ℕ → Lcg → Lcg
words_after zero words = words
words_after (suc n) words = words_after n (words_behind words)

-- word n of a seed's stream, from 0
abbrev pub word_of_seed : ℕ → ℕ → ℕ → ℕ
word_of_seed seed stream n = next_word (words_after n (first_words seed stream))
