-- What is found after entries are dropped.
use Rattle.std.proofs.Common.{◌≡◌, ◌≢◌, ℕ, List, [], ◌∷◌, ◌&&◌, ◌||◌, Bool, true, false, not, cond, filter, arith, refl, sym, ap, ◌∙◌}
use Rattle.std.specs.Prelude.{◌==◌, ◌↔◌, fold, All, Contains, Option, Some, None}
use Rattle.std.proofs.lemmas.Bool.{eqb-true, or_right, not_from_false}
use Rattle.std.proofs.lemmas.List.Elements.{All-nil, All-cons, All-weaker, All-contains, All-filter, All-contains_itself, Contains-append_right, filter_passes}
use Rattle.std.specs.List.Retain.{RetainsInTurn}
use Rattle.arrayvec.proofs.ArrayVecLemmas.{filter-from_retain}
use Rattle.axp_pte.specs.Entries.{has_asm, pte_word}
use Rattle.axp_pte.specs.declared.entries.Pte.{Pte}
use Rattle.axp_tb.specs.Buffers.{found, is_match, without_page, without_process}
use Rattle.axp_tb.specs.declared.entries.TbEntry.{TbEntry}
use Rattle.axp_tb.proofs.SearchLemmas.{step, step_other, other_page_differs, found_none}

-- what `retain` leaves
pub process_retained : {F : Type 0} (R : F → TbEntry → Bool → F → TbEntry → Type 0) (f : F) (xs ys : List TbEntry) → RetainsInTurn R f xs ys
    → ((x : TbEntry) (b : Bool) (f' : F) (y : TbEntry) → R f x b f' y → (b ≡ has_asm (pte_word x.pte)) × (f' ≡ f) × (y ≡ x)) → ys ≡ without_process xs
process_retained R f xs ys h says = filter-from_retain R (λ entry. has_asm (pte_word entry.pte)) f says xs ys h

pub page_retained : {F : Type 0} (R : F → TbEntry → Bool → F → TbEntry → Type 0) (f : F) (page asn : ℕ) (xs ys : List TbEntry) → RetainsInTurn R f xs ys
    → ((x : TbEntry) (b : Bool) (f' : F) (y : TbEntry) → R f x b f' y → (b ≡ not (is_match page asn x)) × (f' ≡ f) × (y ≡ x)) → ys ≡ without_page xs page asn
page_retained R f page asn xs ys h says = filter-from_retain R (λ entry. not (is_match page asn entry)) f says xs ys h

-- a filter keeps exactly what passes its test
kept_at : {X : Type 0} (q : X → Bool) (x y : X) (xs : List X) (b : Bool) → q x ≡ b → Contains (filter q xs) y → Contains (filter q (x ∷ xs)) y
kept_at q x y xs true h inside = rw h (Contains-append_right (x ∷ []) (filter q xs) y inside)
kept_at q x y xs false h inside = rw h inside

kept_first : {X : Type 0} (q : X → Bool) (x : X) (xs : List X) → q x ≡ true → Contains (filter q (x ∷ xs)) x
kept_first q x xs h = rw h (0, omega arith, refl)

all_kept : {X : Type 0} (q : X → Bool) (xs : List X) → All (λ x. q x ≡ true → Contains (filter q xs) x) xs
all_kept q [] = All-nil (λ y. q y ≡ true → Contains (filter q []) y)
all_kept q (x ∷ xs) =
    All-cons (λ y. q y ≡ true → Contains (filter q (x ∷ xs)) y) x xs (kept_first q x xs) (All-weaker (λ y. q y ≡ true → Contains (filter q xs) y) (λ y. q y ≡ true → Contains (filter q (x ∷ xs)) y) (λ y inside h. kept_at q x y xs (q x) refl (inside h)) xs (all_kept q xs))

kept_exactly : {X : Type 0} (q : X → Bool) (xs : List X) (x : X) → Contains (filter q xs) x ↔ (Contains xs x × (q x ≡ true))
kept_exactly q xs x = (
  λ inside. (All-contains (Contains xs) (filter q xs) x (All-filter q (Contains xs) xs (All-contains_itself xs)) inside, All-contains (λ y. q y ≡ true) (filter q xs) x (filter_passes q xs) inside),
  λ both. All-contains (λ y. q y ≡ true → Contains (filter q xs) y) xs x (all_kept q xs) both.0 both.1,
)

pub process_keeps : (xs : List TbEntry) (x : TbEntry) → Contains (without_process xs) x ↔ (Contains xs x × (has_asm (pte_word x.pte) ≡ true))
process_keeps xs x = kept_exactly (λ entry. has_asm (pte_word entry.pte)) xs x

not_true : (b : Bool) → not b ≡ true → b ≡ false
not_true true h = cc
not_true false h = refl

pub page_keeps : (xs : List TbEntry) (page asn : ℕ) (x : TbEntry) → Contains (without_page xs page asn) x ↔ (Contains xs x × (is_match page asn x ≡ false))
page_keeps xs page asn x =
    let exactly = kept_exactly (λ entry. not (is_match page asn entry)) xs x in (
      λ inside. ((exactly.0 inside).0, not_true (is_match page asn x) (exactly.0 inside).1),
      λ both. exactly.1 (both.0, not_from_false (is_match page asn x) both.1),
    )

pub page_gone : (xs : List TbEntry) (page asn : ℕ) → found (without_page xs page asn) page asn ≡ None
page_gone xs page asn =
    (found_none (without_page xs page asn) page asn).1
    (All-weaker (λ x. not (is_match page asn x) ≡ true) (λ x. is_match page asn x ≡ false) (λ x h. not_true (is_match page asn x) h) (without_page xs page asn) (filter_passes (λ entry. not (is_match page asn entry)) xs))

-- what is found past an entry that was dropped, and past one that was not
past : (page asn p a : ℕ) (earlier : Option Pte) (x : TbEntry) (xs : List TbEntry) (b : Bool) → p ≢ page → is_match page asn x ≡ b
    → ((e : Option Pte) → fold (step p a) e (without_page xs page asn) ≡ fold (step p a) e xs)
    → fold (step p a) earlier (without_page (x ∷ xs) page asn) ≡ fold (step p a) (step p a earlier x) xs
past page asn p a earlier x xs true differ h rest =
    let same_page : x.page ≡ page = matching_page page (x.page) ((x.asn == asn) || has_asm (pte_word x.pte)) h in
    let dropped : without_page (x ∷ xs) page asn ≡ without_page xs page asn = rw h refl in
    ap (λ ys. fold (step p a) earlier ys) dropped ∙ rest earlier
    ∙ ap (λ e. fold (step p a) e xs) (sym (step_other p a earlier x (other_page_differs p a x (λ e. differ (sym e ∙ same_page)))))
  where
    matching_page : (page n : ℕ) (other : Bool) → ((n == page) && other) ≡ true → n ≡ page
    matching_page page n other h = eqb-true n page (left (n == page) other h)
      where
        left : (x y : Bool) → (x && y) ≡ true → x ≡ true
        left true y h = refl
        left false y h = cc
past page asn p a earlier x xs false differ h rest =
    let kept : without_page (x ∷ xs) page asn ≡ x ∷ without_page xs page asn = rw h refl in
    ap (λ ys. fold (step p a) earlier ys) kept ∙ rest (step p a earlier x)

found_past : (page asn p a : ℕ) → p ≢ page → (xs : List TbEntry) (earlier : Option Pte) → fold (step p a) earlier (without_page xs page asn) ≡ fold (step p a) earlier xs
found_past page asn p a differ [] earlier = refl
found_past page asn p a differ (x ∷ xs) earlier = past page asn p a earlier x xs (is_match page asn x) differ refl (found_past page asn p a differ xs)

pub other_page_stays : (xs : List TbEntry) (page asn p a : ℕ) → p ≢ page → found (without_page xs page asn) p a ≡ found xs p a
other_page_stays xs page asn p a differ = found_past page asn p a differ xs None

-- an entry with ASM matches the same in every address space
same_step : (page asn other : ℕ) (earlier : Option Pte) (x : TbEntry) → has_asm (pte_word x.pte) ≡ true → step page asn earlier x ≡ step page other earlier x
same_step page asn other earlier x h =
    ap (λ b. cond ((x.page == page) && b) (Some x.pte) earlier) (or_right (x.asn == asn) (has_asm (pte_word x.pte)) h ∙ sym (or_right (x.asn == other) (has_asm (pte_word x.pte)) h))

same_past : (page asn other : ℕ) (earlier : Option Pte) (x : TbEntry) (xs : List TbEntry) (b : Bool) → has_asm (pte_word x.pte) ≡ b
    → ((e : Option Pte) → fold (step page asn) e (without_process xs) ≡ fold (step page other) e (without_process xs))
    → fold (step page asn) earlier (without_process (x ∷ xs)) ≡ fold (step page other) earlier (without_process (x ∷ xs))
same_past page asn other earlier x xs true h rest =
    let kept : without_process (x ∷ xs) ≡ x ∷ without_process xs = rw h refl in
    rw kept (rest (step page asn earlier x) ∙ ap (λ e. fold (step page other) e (without_process xs)) (same_step page asn other earlier x h))
same_past page asn other earlier x xs false h rest =
    let dropped : without_process (x ∷ xs) ≡ without_process xs = rw h refl in
    rw dropped (rest earlier)

found_same : (page asn other : ℕ) (xs : List TbEntry) (earlier : Option Pte) → fold (step page asn) earlier (without_process xs) ≡ fold (step page other) earlier (without_process xs)
found_same page asn other [] earlier = refl
found_same page asn other (x ∷ xs) earlier = same_past page asn other earlier x xs (has_asm (pte_word x.pte)) refl (found_same page asn other xs)

pub same_in_every_address_space : (xs : List TbEntry) (page asn other : ℕ) → found (without_process xs) page asn ≡ found (without_process xs) page other
same_in_every_address_space xs page asn other = found_same page asn other xs None
