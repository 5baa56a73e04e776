-- What is found in a list of entries.
use Rattle.std.proofs.Common.{◌≡◌, ◌≢◌, ℕ, List, [], ◌∷◌, ◌&&◌, ◌||◌, ◌⊎◌, inl, inr, Bool, true, false, cond, refl, sym, ap, ◌∙◌, ⊎_elim}
use Rattle.std.specs.Prelude.{◌==◌, ◌↔◌, fold, All, Option, Some, None, IsNone, IfSome}
use Rattle.std.proofs.lemmas.Bool.{ne_eqb, cond-true, cond-false}
use Rattle.std.proofs.lemmas.List.Elements.{All-nil, All-cons, All-head, All-tail}
use Rattle.std.proofs.lemmas.List.Sums.{fold-append}
use Rattle.axp_pte.specs.Entries.{has_asm, pte_word}
use Rattle.axp_pte.specs.declared.entries.Pte.{Pte}
use Rattle.axp_tb.specs.Buffers.{found, is_match, IsLastMatch}
use Rattle.axp_tb.specs.declared.entries.TbEntry.{TbEntry}

-- what is found with one entry more
abbrev pub step : ℕ → ℕ → Option Pte → TbEntry → Option Pte
step page asn earlier entry = cond (is_match page asn entry) (Some entry.pte) earlier

abbrev Differs : ℕ → ℕ → TbEntry → Type 0
Differs page asn entry = is_match page asn entry ≡ false

abbrev NoneMatch : ℕ → ℕ → List TbEntry → Type 0
NoneMatch page asn xs = All (λ entry. is_match page asn entry ≡ false) xs

step_match : (page asn : ℕ) (earlier : Option Pte) (x : TbEntry) → is_match page asn x ≡ true → step page asn earlier x ≡ Some x.pte
step_match page asn earlier x h = cond-true (is_match page asn x) (Some x.pte) earlier h

pub step_other : (page asn : ℕ) (earlier : Option Pte) (x : TbEntry) → is_match page asn x ≡ false → step page asn earlier x ≡ earlier
step_other page asn earlier x h = cond-false (is_match page asn x) (Some x.pte) earlier h

none_later : (page asn : ℕ) (earlier : Option Pte) (xs : List TbEntry) → NoneMatch page asn xs → fold (step page asn) earlier xs ≡ earlier
none_later page asn earlier [] h = refl
none_later page asn earlier (x ∷ xs) h =
    none_later page asn (step page asn earlier x) xs (All-tail (Differs page asn) x xs h) ∙ step_other page asn earlier x (All-head (Differs page asn) x xs h)

-- either no entry matches, or what is found is the last that does
record Last (page asn : ℕ) (xs : List TbEntry) (r : Option Pte) : Type 0 where
  pub pte : Pte
  pub gives : r ≡ Some pte
  pub is_last : IsLastMatch xs page asn pte

after_one : (page asn : ℕ) (x : TbEntry) (xs : List TbEntry) (pte : Pte) → IsLastMatch xs page asn pte → IsLastMatch (x ∷ xs) page asn pte
after_one page asn x xs pte (before, entry, after, parts, matching, same, none) =
    (x ∷ before, entry, after, ap (λ ys. x ∷ ys) parts, matching, same, none)

last_at : (page asn : ℕ) (earlier : Option Pte) (x : TbEntry) (xs : List TbEntry) (b : Bool) → is_match page asn x ≡ b
    → ((fold (step page asn) (step page asn earlier x) xs ≡ step page asn earlier x) × NoneMatch page asn xs) ⊎ Last page asn xs (fold (step page asn) (step page asn earlier x) xs)
    → ((fold (step page asn) earlier (x ∷ xs) ≡ earlier) × NoneMatch page asn (x ∷ xs)) ⊎ Last page asn (x ∷ xs) (fold (step page asn) earlier (x ∷ xs))
last_at page asn earlier x xs b h (inr later) =
    inr (record { pte = later.pte; gives = later.gives; is_last = after_one page asn x xs later.pte later.is_last })
last_at page asn earlier x xs true h (inl none) =
    inr (record { pte = x.pte; gives = none.0 ∙ step_match page asn earlier x h; is_last = ([], x, xs, refl, h, refl, none.1) })
last_at page asn earlier x xs false h (inl none) =
    inl (none.0 ∙ step_other page asn earlier x h, All-cons (Differs page asn) x xs h none.1)

last_by : (page asn : ℕ) (earlier : Option Pte) (xs : List TbEntry)
    → ((fold (step page asn) earlier xs ≡ earlier) × NoneMatch page asn xs) ⊎ Last page asn xs (fold (step page asn) earlier xs)
last_by page asn earlier [] = inl (refl, All-nil (Differs page asn))
last_by page asn earlier (x ∷ xs) = last_at page asn earlier x xs (is_match page asn x) refl (last_by page asn (step page asn earlier x) xs)

same_pte : (a b : Pte) (r : Option Pte) → r ≡ Some a → r ≡ Some b → a ≡ b
same_pte a b r h k = let both : Some a ≡ Some b = sym h ∙ k in cc

not_both : {P : Type 0} (a : Pte) (r : Option Pte) → r ≡ None → r ≡ Some a → P
not_both a r h k = let both : None ≡ Some a = sym h ∙ k in cc

last_to : (page asn : ℕ) (xs : List TbEntry) (a b : Pte) → a ≡ b → IsLastMatch xs page asn a → IsLastMatch xs page asn b
last_to page asn xs a b e (before, entry, after, parts, matching, same, none) = (before, entry, after, parts, matching, same ∙ e, none)

found_some_to : (xs : List TbEntry) (page asn : ℕ) (pte : Pte) → found xs page asn ≡ Some pte → IsLastMatch xs page asn pte
found_some_to xs page asn pte h =
    ⊎_elim
    (λ none. not_both pte (found xs page asn) none.0 h)
    (λ last. last_to page asn xs last.pte pte (same_pte last.pte pte (found xs page asn) last.gives h) last.is_last)
    (last_by page asn None xs)

found_some_from : (xs : List TbEntry) (page asn : ℕ) (pte : Pte) → IsLastMatch xs page asn pte → found xs page asn ≡ Some pte
found_some_from xs page asn pte (before, entry, after, parts, matching, same, none) =
    ap (λ ys. fold (step page asn) None ys) parts
    ∙ fold-append (step page asn) None before (entry ∷ after)
    ∙ none_later page asn (step page asn (fold (step page asn) None before) entry) after none
    ∙ step_match page asn (fold (step page asn) None before) entry matching
    ∙ ap Some same

pub found_some : (xs : List TbEntry) (page asn : ℕ) (pte : Pte) → (found xs page asn ≡ Some pte) ↔ IsLastMatch xs page asn pte
found_some xs page asn pte = (found_some_to xs page asn pte, found_some_from xs page asn pte)

pub found_none : (xs : List TbEntry) (page asn : ℕ) → (found xs page asn ≡ None) ↔ NoneMatch page asn xs
found_none xs page asn = (
  λ h. ⊎_elim (λ none. none.1) (λ last. not_both last.pte (found xs page asn) h last.gives) (last_by page asn None xs),
  λ none. none_later page asn None xs none,
)

-- the same of a result
pub result_none : (r : Option Pte) (xs : List TbEntry) (page asn : ℕ) → r ≡ found xs page asn → IsNone r ↔ NoneMatch page asn xs
result_none None xs page asn h = (λ _. (found_none xs page asn).0 (sym h), λ _. refl)
result_none (Some pte) xs page asn h = (λ no. cc, λ none. not_both pte (found xs page asn) ((found_none xs page asn).1 none) (sym h))

pub result_last : (r : Option Pte) (xs : List TbEntry) (page asn : ℕ) → r ≡ found xs page asn → IfSome r (λ pte. IsLastMatch xs page asn pte)
result_last None xs page asn h = tt
result_last (Some pte) xs page asn h = found_some_to xs page asn pte (sym h)

-- an entry of another page does not match
pub other_page_differs : (p a : ℕ) (x : TbEntry) → x.page ≢ p → is_match p a x ≡ false
other_page_differs p a x h = ap (λ b. b && ((x.asn == a) || has_asm (pte_word x.pte))) (ne_eqb x.page p h)
