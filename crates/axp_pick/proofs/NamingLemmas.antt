-- Each act that is offered has a word that chooses it.
use Rattle.std.proofs.Common.{◌≡◌, ℕ, zero, suc, ◌+◌, ◌*◌, ◌^◌, ◌<◌, Bool, true, false, ◌&&◌, ◌||◌, eqb, nat_lt, List, [], ◌∷◌, length, Option, Some, refl, sym, ap, ◌∙◌, arith, mod-eq_of_lt}
use Rattle.std.specs.Prelude.{slice_get}
use Rattle.std.specs.List.{list_any}
use Rattle.std.proofs.lemmas.Bool.{true≢false, and_parts, eqb-true, ltb-true}
use mathlib.Core.Bool.{Bool-set}
use Rattle.axp_access.specs.Offers.{is_copy, is_offered}
use Rattle.axp_access.specs.declared.Act.{Act}
use Rattle.axp_access.specs.declared.Act.TheVariants as act
use Rattle.axp_access.specs.declared.offers.Offer.{Offer}
use Rattle.axp_base.specs.Lines.{line_by, line_number, line_numbered, same_bank}
use Rattle.axp_base.specs.declared.lines.Bank.{Bank}
use Rattle.axp_base.specs.declared.lines.Bank.TheVariants.{Even, Odd, Code}
use Rattle.axp_base.specs.declared.lines.Line.{Line}
use Rattle.axp_base.specs.declared.lines.TheConstants.{LINE_BYTES}
use Rattle.axp_pick.specs.Choices.{choice, drain_of, drop_at, drop_of, index_field, kind_field, named, or_else, progress, rarity_field, where_legal}

-- some word chooses the act
abbrev pub IsChosen : Offer → Act → Type 0
IsChosen o a = (word : ℕ) × (word < 2 ^ 64) × (choice o word ≡ Some a)

-- the word of a kind and an index
abbrev word_at : ℕ → ℕ → ℕ
word_at kind index = kind * 2 ^ 16 + index * 2 ^ 32

kind_at : (kind index : ℕ) → kind < 16 → kind_field (word_at kind index) ≡ kind
kind_at kind index fits = omega arith

rarity_at : (kind index : ℕ) → kind < 16 → rarity_field (word_at kind index) ≡ 0
rarity_at kind index fits = omega arith

index_at : (kind index : ℕ) → kind < 16 → index_field (word_at kind index) ≡ index
index_at kind index fits = omega arith

-- what a processor that goes on does by a word of these fields
going : (o : Offer) (kind index : ℕ) → o.spent ≡ false → kind < 16 → choice o (word_at kind index) ≡ or_else (named kind 0 index o) (progress o)
unfolding choice
going o kind index unspent fits = rw (unspent, kind_at kind index fits, rarity_at kind index fits, index_at kind index fits) refl

by_name : (o : Offer) (kind index : ℕ) (a : Act) → o.spent ≡ false → kind < 16 → index < 2 ^ 32 → named kind 0 index o ≡ Some a → IsChosen o a
by_name o kind index a unspent low small name = (word_at kind index, omega arith, going o kind index unspent low ∙ ap (λ p. or_else p (progress o)) name)

unnamed : (o : Offer) (p : Option Act) → or_else (named 0 0 0 o) p ≡ p
unfolding named
unnamed o p = refl

by_progress : (o : Offer) (a : Act) → o.spent ≡ false → progress o ≡ Some a → IsChosen o a
by_progress o a unspent brings_on = (word_at 0 0, omega arith, going o 0 0 unspent (omega arith) ∙ unnamed o (progress o) ∙ brings_on)

legal_is : (b : Bool) (a : Act) → b ≡ true → where_legal b a ≡ Some a
legal_is b a legal = rw legal refl

-- ---- drains

drain_found : (k n : ℕ) → k < n → drain_of k n ≡ Some (act.Drain k)
drain_found k zero less = absurd (omega arith)
drain_found k (suc n) less = ap (λ m. Some (act.Drain m)) (mod-eq_of_lt less)

pub finished_is_drained : (o : Offer) (k : ℕ) → o.spent ≡ true → k < o.drains → k < 2 ^ 32 → IsChosen o (act.Drain k)
unfolding choice
finished_is_drained o k spent less small = (word_at 0 k, omega arith, rw (spent, index_at 0 k (omega arith)) (drain_found k o.drains less))

-- ---- drops

line_made : (l : Line) (b : Bool) (h : nat_lt (line_number l * LINE_BYTES) (2 ^ 64) ≡ b) → l ≡ line_by (line_number l) b h
line_made l true h =
    ap (λ (p : nat_lt (line_number l * LINE_BYTES) (2 ^ 64) ≡ true). let m : Line = record { number = line_number l; addressed = p } in m)
    (Bool-set (nat_lt (line_number l * LINE_BYTES) (2 ^ 64)) true l.addressed h)
line_made l false h = absurd (true≢false (sym l.addressed ∙ h))

same_line : (a b : Line) → line_number a ≡ line_number b → a ≡ b
same_line a b e = made a ∙ ap line_numbered e ∙ sym (made b) where
  made : (l : Line) → l ≡ line_numbered (line_number l)
  made l = line_made l (nat_lt (line_number l * LINE_BYTES) (2 ^ 64)) refl

same_bank_is : (a b : Bank) → same_bank a b ≡ true → b ≡ a
same_bank_is Even Even h = refl
same_bank_is Odd Odd h = refl
same_bank_is Code Code h = refl
same_bank_is Even Odd h = absurd cc
same_bank_is Even Code h = absurd cc
same_bank_is Odd Even h = absurd cc
same_bank_is Odd Code h = absurd cc
same_bank_is Code Even h = absurd cc
same_bank_is Code Odd h = absurd cc

copy_is : (bank : Bank) (line : Line) (c : Bank × Line) → is_copy bank line c ≡ true → c ≡ (bank, line)
copy_is bank line (b, l) h =
    let parts = and_parts (same_bank bank b) (eqb (line_number l) (line_number line)) h in
    let banks : b ≡ bank = same_bank_is bank b parts.0 in
    let lines : l ≡ line = same_line l line (eqb-true (line_number l) (line_number line) parts.1) in
    rw (banks, lines) refl

-- a copy that is there stands at some place
place_of : (bank : Bank) (line : Line) (cs : List (Bank × Line)) → list_any (is_copy bank line) cs ≡ true
    → (k : ℕ) × (k < length cs) × (slice_get cs k ≡ Some (bank, line))
place_of bank line [] h = absurd cc
place_of bank line (c ∷ cs) h = by (is_copy bank line c) refl (λ later. place_of bank line cs later) h where
  by : (b : Bool) → is_copy bank line c ≡ b → (list_any (is_copy bank line) cs ≡ true → (k : ℕ) × (k < length cs) × (slice_get cs k ≡ Some (bank, line)))
      → (b || list_any (is_copy bank line) cs) ≡ true → (k : ℕ) × (k < length (c ∷ cs)) × (slice_get (c ∷ cs) k ≡ Some (bank, line))
  by true here behind any = (0, omega arith, ap (λ d. Some d) (copy_is bank line c here))
  by false other behind any = let later = behind any in (suc later.0, omega (arith, later.1), later.2)

drop_found : (k : ℕ) (copy : Bank × Line) (cs : List (Bank × Line)) → k < length cs → slice_get cs k ≡ Some copy → drop_at k cs ≡ Some (act.Drop copy.0 copy.1)
drop_found k copy [] less got = absurd (omega arith)
drop_found k copy (c ∷ cs) less got = ap (λ m. drop_of (slice_get (c ∷ cs) m)) (mod-eq_of_lt less) ∙ ap drop_of got

-- ---- each act

step_brings_on : (o : Offer) → o.step ≡ true → progress o ≡ Some act.Step
unfolding progress
step_brings_on o legal = rw legal refl

fill_brings_on : (o : Offer) → o.step ≡ false → o.fill ≡ true → progress o ≡ Some act.Fill
unfolding progress
fill_brings_on o no_step legal = rw (no_step, legal) refl

one_of_two : (step fill : Bool) → (step && fill) ≡ false → fill ≡ true → step ≡ false
one_of_two true fill h legal = absurd (true≢false (sym legal ∙ h))
one_of_two false fill h legal = refl

-- an act that is offered to a processor that goes on
pub offered_is_chosen : (o : Offer) (a : Act) → o.spent ≡ false → (o.step && o.fill) ≡ false → o.drains < 2 ^ 32 → length o.drops.items < 2 ^ 32 → is_offered o a ≡ true → IsChosen o a
unfolding named
offered_is_chosen o act.Step unspent apart drains drops legal = by_progress o act.Step unspent (step_brings_on o legal)
offered_is_chosen o act.Fill unspent apart drains drops legal = by_progress o act.Fill unspent (fill_brings_on o (one_of_two o.step o.fill apart legal) legal)
offered_is_chosen o (act.Drain k) unspent apart drains drops legal =
    let less = ltb-true k o.drains legal in
    by_name o 8 k (act.Drain k) unspent (omega arith) (omega (arith, less)) (drain_found k o.drains less)
offered_is_chosen o (act.Take Even) unspent apart drains drops legal = by_name o 11 0 (act.Take Even) unspent (omega arith) (omega arith) (legal_is o.late.0 (act.Take Even) legal)
offered_is_chosen o (act.Take Odd) unspent apart drains drops legal = by_name o 12 0 (act.Take Odd) unspent (omega arith) (omega arith) (legal_is o.late.1 (act.Take Odd) legal)
offered_is_chosen o (act.Take Code) unspent apart drains drops legal = absurd (true≢false (sym legal))
offered_is_chosen o (act.Drop bank line) unspent apart drains drops legal =
    let place = place_of bank line o.drops.items legal in
    by_name o 13 place.0 (act.Drop bank line) unspent (omega arith) (omega (arith, place.1)) (drop_found place.0 (bank, line) o.drops.items place.1 place.2)
offered_is_chosen o act.Poll unspent apart drains drops legal = by_name o 14 0 act.Poll unspent (omega arith) (omega arith) (legal_is o.poll act.Poll legal)
offered_is_chosen o act.Tick unspent apart drains drops legal = by_name o 15 0 act.Tick unspent (omega arith) (omega arith) (rw legal refl)
