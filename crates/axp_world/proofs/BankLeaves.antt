-- What the newest record leaves and changes of the words of held lines.
use Rattle.std.proofs.Common.{◌≡◌, ◌≢◌, ℕ, Bool, true, false, not, ◌&&◌, ◌||◌, List, ◌∷◌, refl, ap}
use Rattle.axp_base.specs.Lines.{data_bank}
use Rattle.axp_access.specs.declared.Record.{Record}
use Rattle.axp_base.specs.LatePairs.{has_later}
use Rattle.axp_model.specs.Late.{code_held, held, late, loses_copy, takes_away}
use Rattle.axp_model.specs.Records.{is_of, code_fences, drops, drops_code, fences, fills, fills_code, locks, turns_on}
use Rattle.axp_model.specs.Turns.{barrier, code_stamp, stamp, turns}
use Rattle.axp_world.proofs.BankShows.{LeavesCode, LeavesData, LeavesOtherCode, LeavesOthers}

and_true : (b : Bool) → (b && true) ≡ b
and_true true = refl
and_true false = refl

and_false : (b : Bool) → (b && false) ≡ false
and_false true = refl
and_false false = refl

or_false : (b : Bool) → (b || false) ≡ b
or_false true = refl
or_false false = refl

-- one line, by an own record
pub held_left : (p l : ℕ) (r : Record) (h : List Record) → is_of p r ≡ true → fills l r.outcome ≡ false → locks l r.outcome ≡ false → drops l r.event.act ≡ false → fences r.outcome ≡ false → takes_away l (stamp p l h) r.outcome ≡ false → held p l (r ∷ h) ≡ held p l h
held_left p l r h own fill lock drop fence take = rw own (rw fill (rw lock (rw drop (rw fence (rw take (and_true (held p l h)))))))

pub held_brought : (p l : ℕ) (r : Record) (h : List Record) → is_of p r ≡ true → (fills l r.outcome || locks l r.outcome) ≡ true → held p l (r ∷ h) ≡ true
held_brought p l r h own brought = rw own (rw brought refl)

pub held_lost : (p l : ℕ) (r : Record) (h : List Record) → is_of p r ≡ true → fills l r.outcome ≡ false → locks l r.outcome ≡ false → loses_copy l (stamp p l h) (late p (data_bank l) h) r ≡ true → held p l (r ∷ h) ≡ false
held_lost p l r h own fill lock lost = rw own (rw fill (rw lock (rw lost (and_false (held p l h)))))

pub held_fenced : (p l : ℕ) (r : Record) (h : List Record) → is_of p r ≡ true → fills l r.outcome ≡ false → locks l r.outcome ≡ false → drops l r.event.act ≡ false → fences r.outcome ≡ true → takes_away l (stamp p l h) r.outcome ≡ false
    → held p l (r ∷ h) ≡ (held p l h && not (has_later l (stamp p l h) (late p (data_bank l) h)))
held_fenced p l r h own fill lock drop fence take =
    rw own (rw fill (rw lock (rw drop (rw fence (rw take (ap (λ (b : Bool). held p l h && not b) (or_false (has_later l (stamp p l h) (late p (data_bank l) h)))))))))

pub held_taken : (p l : ℕ) (r : Record) (h : List Record) → is_of p r ≡ true → fills l r.outcome ≡ false → locks l r.outcome ≡ false → drops l r.event.act ≡ false → fences r.outcome ≡ false
    → held p l (r ∷ h) ≡ (held p l h && not (takes_away l (stamp p l h) r.outcome))
held_taken p l r h own fill lock drop fence = rw own (rw fill (rw lock (rw drop (rw fence refl))))

pub stamp_left : (p l : ℕ) (r : Record) (h : List Record) → is_of p r ≡ true → fills l r.outcome ≡ false → locks l r.outcome ≡ false → turns_on l r.outcome ≡ false → stamp p l (r ∷ h) ≡ stamp p l h
stamp_left p l r h own fill lock turn = rw own (rw fill (rw lock (rw turn refl)))

pub stamp_brought : (p l : ℕ) (r : Record) (h : List Record) → is_of p r ≡ true → (fills l r.outcome || (locks l r.outcome || turns_on l r.outcome)) ≡ true → stamp p l (r ∷ h) ≡ turns (r ∷ h)
stamp_brought p l r h own brought = rw own (rw brought refl)

pub code_left : (p l : ℕ) (r : Record) (h : List Record) → is_of p r ≡ true → fills_code l r.outcome ≡ false → drops_code l r.event.act ≡ false → code_fences r.outcome ≡ false → code_held p l (r ∷ h) ≡ code_held p l h
code_left p l r h own fill drop fence = rw own (rw fill (rw drop (rw fence (and_true (code_held p l h)))))

pub code_lost : (p l : ℕ) (r : Record) (h : List Record) → is_of p r ≡ true → fills_code l r.outcome ≡ false → (drops_code l r.event.act || code_fences r.outcome) ≡ true → code_held p l (r ∷ h) ≡ false
code_lost p l r h own fill lost = rw own (rw fill (rw lost (and_false (code_held p l h))))

pub code_brought : (p l : ℕ) (r : Record) (h : List Record) → is_of p r ≡ true → fills_code l r.outcome ≡ true → code_held p l (r ∷ h) ≡ true
code_brought p l r h own fill = rw own (rw fill refl)

pub code_stamp_left : (p l : ℕ) (r : Record) (h : List Record) → is_of p r ≡ true → fills_code l r.outcome ≡ false → code_stamp p l (r ∷ h) ≡ code_stamp p l h
code_stamp_left p l r h own fill = rw own (rw fill refl)

pub code_stamp_brought : (p l : ℕ) (r : Record) (h : List Record) → is_of p r ≡ true → fills_code l r.outcome ≡ true → code_stamp p l (r ∷ h) ≡ turns h
code_stamp_brought p l r h own fill = rw own (rw fill refl)

pub barrier_left : (p : ℕ) (r : Record) (h : List Record) → is_of p r ≡ true → fences r.outcome ≡ false → barrier p (r ∷ h) ≡ barrier p h
barrier_left p r h own fence = rw own (rw fence refl)

pub barrier_made : (p : ℕ) (r : Record) (h : List Record) → is_of p r ≡ true → fences r.outcome ≡ true → barrier p (r ∷ h) ≡ turns h
barrier_made p r h own fence = rw own (rw fence refl)

-- all lines
pub leaves_data : (p : ℕ) (r : Record) (h : List Record) → is_of p r ≡ true → ((l : ℕ) → fills l r.outcome ≡ false) → ((l : ℕ) → locks l r.outcome ≡ false) → ((l : ℕ) → turns_on l r.outcome ≡ false) → ((l : ℕ) → drops l r.event.act ≡ false)
    → fences r.outcome ≡ false → ((l s : ℕ) → takes_away l s r.outcome ≡ false) → LeavesData p r h
leaves_data p r h own fill lock turn drop fence take = record {
  holds = λ l. held_left p l r h own (fill l) (lock l) (drop l) fence (take l (stamp p l h));
  stamps = λ l. stamp_left p l r h own (fill l) (lock l) (turn l);
}

pub leaves_code : (p : ℕ) (r : Record) (h : List Record) → is_of p r ≡ true → ((l : ℕ) → fills_code l r.outcome ≡ false) → ((l : ℕ) → drops_code l r.event.act ≡ false) → code_fences r.outcome ≡ false → LeavesCode p r h
leaves_code p r h own fill drop fence = record { holds = λ l. code_left p l r h own (fill l) (drop l) fence; stamps = λ l. code_stamp_left p l r h own (fill l) }

-- all lines but one
pub leaves_others : (k p : ℕ) (r : Record) (h : List Record) → is_of p r ≡ true → ((l : ℕ) → l ≢ k → fills l r.outcome ≡ false) → ((l : ℕ) → l ≢ k → locks l r.outcome ≡ false) → ((l : ℕ) → l ≢ k → turns_on l r.outcome ≡ false) → ((l : ℕ) → l ≢ k → drops l r.event.act ≡ false)
    → fences r.outcome ≡ false → ((l s : ℕ) → l ≢ k → takes_away l s r.outcome ≡ false) → LeavesOthers k p r h
leaves_others k p r h own fill lock turn drop fence take = record {
  holds = λ l apart. held_left p l r h own (fill l apart) (lock l apart) (drop l apart) fence (take l (stamp p l h) apart);
  stamps = λ l apart. stamp_left p l r h own (fill l apart) (lock l apart) (turn l apart);
}

pub leaves_other_code : (k p : ℕ) (r : Record) (h : List Record) → is_of p r ≡ true → ((l : ℕ) → l ≢ k → fills_code l r.outcome ≡ false) → ((l : ℕ) → l ≢ k → drops_code l r.event.act ≡ false) → code_fences r.outcome ≡ false → LeavesOtherCode k p r h
leaves_other_code k p r h own fill drop fence = record { holds = λ l apart. code_left p l r h own (fill l apart) (drop l apart) fence; stamps = λ l apart. code_stamp_left p l r h own (fill l apart) }

-- another's record leaves all
pub other_leaves_data : (p : ℕ) (r : Record) (h : List Record) → is_of p r ≡ false → LeavesData p r h
other_leaves_data p r h other = record { holds = λ l. rw other refl; stamps = λ l. rw other refl }

pub other_leaves_code : (p : ℕ) (r : Record) (h : List Record) → is_of p r ≡ false → LeavesCode p r h
other_leaves_code p r h other = record { holds = λ l. rw other refl; stamps = λ l. rw other refl }

pub other_leaves_barrier : (p : ℕ) (r : Record) (h : List Record) → is_of p r ≡ false → barrier p (r ∷ h) ≡ barrier p h
other_leaves_barrier p r h other = rw other refl
