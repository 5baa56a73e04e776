-- A line is read as a header exactly where it is its text.
use Rattle.std.proofs.Common.{◌≡◌, ℕ, ◌≤◌, ◌↔◌, Bool, true, false, List, [], ◌∷◌, ◌++◌, codes, decimal, Option, Some, None, IfSome, refl, sym, ap, ◌∙◌, arith, ⊎_elim, subst, append_assoc}
use Rattle.std.specs.Str.{bytes_eq}
use Rattle.std.proofs.lemmas.Bool.{cases_Bool}
use Rattle.std.proofs.lemmas.Slice.Eq.{bytes_eq-Decides}
use Rattle.axp_base.specs.declared.processors.TheConstants.{MIN_CPUS, MAX_CPUS, MAX_BUDGET}
use Rattle.axp_trace.specs.Digits.{number_of, number_within}
use Rattle.axp_trace.specs.Fields.{words_of}
use Rattle.axp_trace.specs.Lines.{events_header, trace_header}
use Rattle.axp_trace.specs.Reading.{header_text, cpus_in, budget_in, header_by, header_in, header_if, header_of, IsMemory, HasRange}
use Rattle.axp_trace.specs.declared.fields.TheConstants.{MOST_NUMBER}
use Rattle.axp_trace.specs.declared.headers.Header.{Header}
use Rattle.axp_trace.proofs.DigitLemmas.{number_back, within_limits}
use Rattle.axp_trace.proofs.ReadBackLemmas.{same_bytes}
use Rattle.axp_trace.proofs.WordLemmas.{words_of-decimal, words_of-both}

budget_words : (xs : List ℕ) (n : ℕ) → words_of (xs ++ codes " budget " ++ decimal n) ≡ words_of xs ++ codes "budget" ∷ decimal n ∷ []
budget_words xs n =
    ap words_of (append_assoc xs (codes " budget ") (decimal n))
    ∙ words_of-both xs (codes "budget " ++ decimal n)
    ∙ ap (λ ws. words_of xs ++ codes "budget" ∷ ws) (words_of-decimal n)

memory_words : (xs : List ℕ) (n : ℕ) → words_of (xs ++ codes " memory " ++ decimal n) ≡ words_of xs ++ codes "memory" ∷ decimal n ∷ []
memory_words xs n =
    ap words_of (append_assoc xs (codes " memory ") (decimal n))
    ∙ words_of-both xs (codes "memory " ++ decimal n)
    ∙ ap (λ ws. words_of xs ++ codes "memory" ∷ ws) (words_of-decimal n)

-- a header's words mean the header
events_words : (cpus budget : ℕ) → words_of (events_header cpus budget) ≡ codes "axp-events" ∷ codes "1" ∷ codes "cpus" ∷ decimal cpus ∷ codes "budget" ∷ decimal budget ∷ []
unfolding events_header
events_words cpus budget =
    budget_words (codes "axp-events 1 cpus " ++ decimal cpus) budget
    ∙ ap (λ ws. codes "axp-events" ∷ codes "1" ∷ codes "cpus" ∷ ws ++ codes "budget" ∷ decimal budget ∷ []) (words_of-decimal cpus)

trace_words : (cpus budget memory : ℕ) → words_of (trace_header cpus budget memory) ≡ codes "axp-trace" ∷ codes "1" ∷ codes "cpus" ∷ decimal cpus ∷ codes "budget" ∷ decimal budget ∷ codes "memory" ∷ decimal memory ∷ []
unfolding trace_header
trace_words cpus budget memory =
    memory_words (codes "axp-trace 1 cpus " ++ decimal cpus ++ codes " budget " ++ decimal budget) memory
    ∙ ap (λ ws. ws ++ codes "memory" ∷ decimal memory ∷ []) (budget_words (codes "axp-trace 1 cpus " ++ decimal cpus) budget
    ∙ ap (λ ws. codes "axp-trace" ∷ codes "1" ∷ codes "cpus" ∷ ws ++ codes "budget" ∷ decimal budget ∷ []) (words_of-decimal cpus))

cpus_back : (n : ℕ) → MIN_CPUS ≤ n → n ≤ MAX_CPUS → cpus_in (decimal n) ≡ Some n
cpus_back n low high = number_back MIN_CPUS MAX_CPUS n low high (omega arith)

budget_back : (n : ℕ) → 1 ≤ n → n ≤ MAX_BUDGET → budget_in (decimal n) ≡ Some n
budget_back n low high = number_back 1 MAX_BUDGET n low high (omega arith)

header_in_back : (h : Header) → HasRange h → header_in (words_of (header_text h)) ≡ Some h
header_in_back h r = by h.full h.memory r.memory
  where
    cpus : cpus_in (decimal h.cpus) ≡ Some h.cpus
    cpus = cpus_back h.cpus r.least_cpus r.most_cpus

    budget : budget_in (decimal h.budget) ≡ Some h.budget
    budget = budget_back h.budget r.least_budget r.most_budget

    by : (full : Bool) (memory : ℕ) → IsMemory full memory → header_in (words_of (header_text (record { full = full; cpus = h.cpus; budget = h.budget; memory = memory }))) ≡ Some (record { full = full; cpus = h.cpus; budget = h.budget; memory = memory })
    by true memory small = ap header_in (trace_words h.cpus h.budget memory) ∙ rw (cpus, budget, number_back 0 MOST_NUMBER memory (omega arith) (omega arith) (omega arith)) refl
    by false memory none = ap header_in (events_words h.cpus h.budget) ∙ rw (cpus, budget, none) refl

-- what the words of a line mean is in range
meant_in_range : (full : Bool) (cpus budget memory : Option ℕ) → IfSome cpus (λ n. (MIN_CPUS ≤ n) × (n ≤ MAX_CPUS)) → IfSome budget (λ n. (1 ≤ n) × (n ≤ MAX_BUDGET)) → IfSome memory (IsMemory full) → IfSome (header_by full cpus budget memory) HasRange
meant_in_range full None budget memory c b m = tt
meant_in_range full (Some cpus) None memory c b m = tt
meant_in_range full (Some cpus) (Some budget) None c b m = tt
meant_in_range full (Some cpus) (Some budget) (Some memory) c b m = record { least_cpus = c.0; most_cpus = c.1; least_budget = b.0; most_budget = b.1; memory = m }

memory_read : (n : Option ℕ) → IfSome n (λ k. (0 ≤ k) × (k ≤ MOST_NUMBER)) → IfSome n (IsMemory true)
memory_read None h = tt
memory_read (Some n) h = let most = h.1 in omega arith

header_in_range : (words : List (List ℕ)) → IfSome (header_in words) HasRange
header_in_range [] = tt
header_in_range (a ∷ []) = tt
header_in_range (a ∷ b ∷ []) = tt
header_in_range (a ∷ b ∷ c ∷ []) = tt
header_in_range (a ∷ b ∷ c ∷ cpus ∷ []) = tt
header_in_range (a ∷ b ∷ c ∷ cpus ∷ d ∷ []) = tt
header_in_range (a ∷ b ∷ c ∷ cpus ∷ d ∷ budget ∷ []) = meant_in_range false (cpus_in cpus) (budget_in budget) (Some 0) (within_limits MIN_CPUS MAX_CPUS (number_of cpus)) (within_limits 1 MAX_BUDGET (number_of budget)) refl
header_in_range (a ∷ b ∷ c ∷ cpus ∷ d ∷ budget ∷ f ∷ []) = tt
header_in_range (a ∷ b ∷ c ∷ cpus ∷ d ∷ budget ∷ f ∷ memory ∷ []) = meant_in_range true (cpus_in cpus) (budget_in budget) (number_within 0 MOST_NUMBER memory) (within_limits MIN_CPUS MAX_CPUS (number_of cpus)) (within_limits 1 MAX_BUDGET (number_of budget)) (memory_read (number_within 0 MOST_NUMBER memory) (within_limits 0 MOST_NUMBER (number_of memory)))
header_in_range (a ∷ b ∷ c ∷ cpus ∷ d ∷ budget ∷ f ∷ memory ∷ g ∷ more) = tt

kept_header : (line : List ℕ) (o : Option Header) (h : Header) → header_if line o ≡ Some h → (line ≡ header_text h) × (o ≡ Some h)
kept_header line None h e = cc
kept_header line (Some g) h e = ⊎_elim
    (λ yes.
    let same : Some g ≡ Some h = rw yes at e in
    let it : g ≡ h = cc in
    rw (← it) (sym ((bytes_eq-Decides (header_text g) line).0 yes), refl))
    (λ no. let other : None ≡ Some h = rw no at e in cc)
    (cases_Bool (bytes_eq (header_text g) line))

header_back : (h : Header) → HasRange h → header_of (header_text h) ≡ Some h
unfolding header_of
header_back h r = ap (header_if (header_text h)) (header_in_back h r) ∙ rw (same_bytes (header_text h)) refl

pub header_is_text : (line : List ℕ) (h : Header) → (header_of line ≡ Some h) ↔ ((line ≡ header_text h) × HasRange h)
unfolding header_of
header_is_text line h = (
  λ e. let kept = kept_header line (header_in (words_of line)) h e in (kept.0, subst (λ o. IfSome o HasRange) kept.1 (header_in_range (words_of line))),
  λ k. ap header_of k.0 ∙ header_back h k.1,
)
