-- How large words and states are, and the increments of streams.
use Rattle.std.proofs.Common.{◌≡◌, ℕ, zero, suc, ◌+◌, ◌-◌, ◌*◌, ◌/◌, ◌%◌, ◌^◌, ◌<◌, refl, ◌∙◌, arith, bit_xor, mod-lt, div-le_self}
use Rattle.std.specs.Int.{w64, rotate_right}
use Rattle.std.proofs.lemmas.Nat.{or_lt, xor_lt}
use Rattle.std.proofs.lemmas.Grind.{or_after_shift}
use Rattle.rand_pcg.specs.Lcg.{Lcg, next_state, increment_of}
use Rattle.rand_pcg.specs.Pcg.{multiplier_128, output_xsl_rr}
use Rattle.axp_pick.specs.Words.{first_words, next_word, word_of_seed, words_after, words_behind}

state_small : (m increment state : ℕ) → next_state 128 m increment state < 2 ^ 128
state_small m increment state = omega arith

rotated_small : (n by : ℕ) → n < 2 ^ 64 → rotate_right w64 n by < 2 ^ 64
rotated_small n by small =
    let right = n / 2 ^ (by % 64) in
    let left = n * 2 ^ ((64 - by % 64) % 64) % 2 ^ 64 in
    let right_small : right < 2 ^ 64 = omega (arith, div-le_self n (2 ^ (by % 64))) in
    let left_small : left < 2 ^ 64 = mod-lt (n * 2 ^ ((64 - by % 64) % 64)) (omega arith) in
    or_lt 64 right left right_small left_small

output_small : (state : ℕ) → state < 2 ^ 128 → output_xsl_rr state < 2 ^ 64
output_small state small =
    rotated_small (bit_xor (state / 2 ^ 64) (state % 2 ^ 64)) (state / 2 ^ 122)
    (xor_lt 64 (state / 2 ^ 64) (state % 2 ^ 64) (omega arith) (omega arith))

next_small : (words : Lcg) → next_word words < 2 ^ 64
unfolding next_word
next_small words = output_small _ (state_small multiplier_128 words.increment words.state)

pub word_small : (seed stream n : ℕ) → word_of_seed seed stream n < 2 ^ 64
word_small seed stream n = next_small (words_after n (first_words seed stream))

behind_small : (n : ℕ) (words : Lcg) → words.state < 2 ^ 128 → (words_after n words).state < 2 ^ 128
unfolding words_behind
behind_small zero words small = small
behind_small (suc n) words small = behind_small n (words_behind words) (state_small multiplier_128 words.increment words.state)

pub state_within : (seed stream n : ℕ) → (words_after n (first_words seed stream)).state < 2 ^ 128
unfolding first_words
state_within seed stream n = behind_small n (first_words seed stream) (state_small multiplier_128 (increment_of 128 stream) ((seed + increment_of 128 stream) % 2 ^ 128))

increment_stays : (n : ℕ) (words : Lcg) → (words_after n words).increment ≡ words.increment
unfolding words_behind
increment_stays zero words = refl
increment_stays (suc n) words = increment_stays n (words_behind words)

-- two times the stream and one
pub increment_known : (seed stream n : ℕ) → stream < 2 ^ 127 → (words_after n (first_words seed stream)).increment ≡ stream * 2 + 1
unfolding first_words
increment_known seed stream n fits = increment_stays n (first_words seed stream) ∙ or_after_shift stream 2 (2 ^ 128) 1 refl (omega arith) (omega arith)

-- words of the reference implementation for the seed 42 and the stream 54
pub reference_words : (word_of_seed 42 54 0 ≡ 0x86b1da1d72062b68) × (word_of_seed 42 54 1 ≡ 0x1304aa46c9853d39) × (word_of_seed 42 54 2 ≡ 0xa3670e9e0dd50358)
unfolding first_words next_word words_behind
reference_words = (refl, refl, refl)

-- words that were computed by hand
pub worked_words : (word_of_seed 0 0 0 ≡ 0xd4feb4e5a4bcfe09) × (word_of_seed 0 1 0 ≡ 0xacdbf879b3c73375) × (word_of_seed (2 ^ 64 - 1) 1 3 ≡ 0x9d90309fed0ccb16)
unfolding first_words next_word words_behind
worked_words = (refl, refl, refl)
