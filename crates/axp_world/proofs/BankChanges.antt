-- Banks after a line is brought in, written again, invalidated or dropped.
use Rattle.std.proofs.Common.{◌≡◌, ℕ, ◌<◌, ◌≤◌, Bool, true, false, not, ◌&&◌, ltb, List, ◌∷◌, Option, Some, None, refl, sym, ◌∙◌, arith, ⊎_elim}
use Rattle.std.specs.Option.{is_some}
use Rattle.std.proofs.lemmas.Bool.{and_parts, cases_Bool, cases_lt, lt-ltb, le-ltb, false≢true}
use Rattle.axp_base.specs.Lines.{data_bank, line_number, in_bank}
use Rattle.axp_base.specs.declared.lines.Bank.{Bank}
use Rattle.axp_base.specs.declared.lines.Bank.TheVariants.{Even, Odd, Code}
use Rattle.axp_base.specs.declared.lines.Line.{Line}
use Rattle.axp_access.specs.declared.Record.{Record}
use Rattle.axp_bank.specs.Copies.{Whole, copy_of, dropped, get_of, has_room, invalidated, is_held, put, refreshed}
use Rattle.axp_bank.specs.declared.copies.LineCopy.{LineCopy}
use Rattle.axp_bank.proofs.BankLemmas.{get_none, refreshed_none, whole_dropped, whole_refreshed}
use Rattle.axp_bank.proofs.HeldCopyLemmas.{get_dropped, get_dropped_other, get_put, get_put_other, get_refreshed, get_refreshed_other, held_get, invalidated_absent, invalidated_kept, invalidated_older, invalidated_other, whole_invalidated, whole_put}
use Rattle.axp_line.specs.declared.contents.LineData.{LineData}
use Rattle.axp_lsu.specs.Keeping.{LocalMemory, copies_of, data_copies, with_copies}
use Rattle.axp_model.specs.Late.{code_held, held}
use Rattle.axp_model.specs.Turns.{barrier, code_stamp, stamp, turns}
use Rattle.axp_laws.proofs.RunRecords.{bank_own}
use Rattle.axp_world.proofs.Agreement.{HasMemory}
use Rattle.axp_world.proofs.BankShows.{CopiesShow, KeptShows, LeavesCode, LeavesData, LeavesOtherCode, LeavesOthers, Shows, code_changed, data_changed}

-- a bank's copies
whole_of : (image : ℕ → ℕ) (g : List Record) (p : ℕ) (h : List Record) (u : LocalMemory) (b : Bank) → KeptShows image g p h u → Whole (copies_of b u)
whole_of image g p h u Even shows = shows.even.whole
whole_of image g p h u Odd shows = shows.odd.whole
whole_of image g p h u Code shows = shows.code.whole

shows_is : (image : ℕ → ℕ) (g : List Record) (l turn : ℕ) (holds : Bool) (o : Option (ℕ × LineData)) → Shows image g l o holds turn → is_some o ≡ holds
shows_is image g l turn holds None shows = sym shows
shows_is image g l turn holds (Some c) shows = sym shows.0

pub is_held_by : (image : ℕ → ℕ) (g : List Record) (holds : ℕ → Bool) (turn : ℕ → ℕ) (cs : List LineCopy) (l : ℕ) → CopiesShow image g holds turn cs → is_held l cs ≡ holds l
is_held_by image g holds turn cs l shows = held_get l cs ∙ shows_is image g l (turn l) (holds l) (get_of l cs) (shows.each l)

pub held_in : (image : ℕ → ℕ) (g : List Record) (p : ℕ) (h : List Record) (u : LocalMemory) (b : Bank) (l : ℕ) → in_bank b l ≡ true → KeptShows image g p h u → is_held l (copies_of b u) ≡ held p l h
held_in image g p h u Even l mine shows = is_held_by image g (λ l. in_bank Even l && held p l h) (λ l. stamp p l h) u.even l shows.even ∙ (rw mine refl)
held_in image g p h u Odd l mine shows = is_held_by image g (λ l. in_bank Odd l && held p l h) (λ l. stamp p l h) u.odd l shows.odd ∙ (rw mine refl)
held_in image g p h u Code l mine shows = absurd (false≢true mine)

pub shown_in : (image : ℕ → ℕ) (g : List Record) (p : ℕ) (h : List Record) (u : LocalMemory) (b : Bank) (l : ℕ) → in_bank b l ≡ true → KeptShows image g p h u → Shows image g l (get_of l (copies_of b u)) (held p l h) (stamp p l h)
shown_in image g p h u Even l mine shows = let here = shows.even.each l in rw mine at here
shown_in image g p h u Odd l mine shows = let here = shows.odd.each l in rw mine at here
shown_in image g p h u Code l mine shows = absurd (false≢true mine)

-- a held line of a data bank is of the bank
pub held_is_banked : (image : ℕ → ℕ) (g : List Record) (p : ℕ) (h : List Record) (u : LocalMemory) (l : ℕ) → KeptShows image g p h u → (is_held l u.even ≡ true → in_bank Even l ≡ true) × (is_held l u.odd ≡ true → in_bank Odd l ≡ true)
held_is_banked image g p h u l shows = (
  λ e. (and_parts (in_bank Even l) (held p l h) (sym (is_held_by image g (λ l. in_bank Even l && held p l h) (λ l. stamp p l h) u.even l shows.even) ∙ e)).0,
  λ e. (and_parts (in_bank Odd l) (held p l h) (sym (is_held_by image g (λ l. in_bank Odd l && held p l h) (λ l. stamp p l h) u.odd l shows.odd) ∙ e)).0,
)

-- a line comes in
pub line_brought : (image : ℕ → ℕ) (p : ℕ) (b : Bank) (r : Record) (h : List Record) (u : LocalMemory) (line : Line) (turn : ℕ) (d : LineData) → in_bank b (line_number line) ≡ true → LeavesOthers (line_number line) p r h → LeavesCode p r h → barrier p (r ∷ h) ≡ barrier p h
    → held p (line_number line) (r ∷ h) ≡ true → stamp p (line_number line) (r ∷ h) ≡ turns (r ∷ h) → has_room (line_number line) (copies_of b u) ≡ true → HasMemory image (r ∷ h) (line_number line) (Some (turn, d)) (turns (r ∷ h))
    → KeptShows image (r ∷ h) p h u → KeptShows image (r ∷ h) p (r ∷ h) (with_copies b (put (copy_of line turn d) (copies_of b u)) u)
line_brought image p b r h u line turn d mine others code fence holds stamps room memory was =
    let c : LineCopy = copy_of line turn d in
    data_changed image (r ∷ h) (line_number line) p b r h u (put c (copies_of b u)) mine others code fence (whole_put c (copies_of b u) (whole_of image (r ∷ h) p h u b was)) (λ l apart. get_put_other l c (copies_of b u) apart)
    (rw (get_put c (copies_of b u) room, holds, stamps) (refl, memory)) was

pub code_line_brought : (image : ℕ → ℕ) (p : ℕ) (r : Record) (h : List Record) (u : LocalMemory) (line : Line) (turn : ℕ) (d : LineData) → LeavesData p r h → LeavesOtherCode (line_number line) p r h → barrier p (r ∷ h) ≡ barrier p h
    → code_held p (line_number line) (r ∷ h) ≡ true → code_stamp p (line_number line) (r ∷ h) ≡ turns (r ∷ h) → has_room (line_number line) u.code ≡ true → HasMemory image (r ∷ h) (line_number line) (Some (turn, d)) (turns (r ∷ h))
    → KeptShows image (r ∷ h) p h u → KeptShows image (r ∷ h) p (r ∷ h) (with_copies Code (put (copy_of line turn d) u.code) u)
code_line_brought image p r h u line turn d leaves others fence holds stamps room memory was =
    let c : LineCopy = copy_of line turn d in
    code_changed image (r ∷ h) (line_number line) p r h u (put c u.code) leaves others fence (whole_put c u.code was.code.whole) (λ l apart. get_put_other l c u.code apart)
    (rw (get_put c u.code room, holds, stamps) (refl, memory)) was

-- a line is written again, where it is held
pub line_rewritten : (image : ℕ → ℕ) (p : ℕ) (r : Record) (h : List Record) (u : LocalMemory) (line : Line) (turn : ℕ) (d : LineData) → LeavesOthers (line_number line) p r h → LeavesCode p r h → barrier p (r ∷ h) ≡ barrier p h
    → held p (line_number line) (r ∷ h) ≡ held p (line_number line) h → stamp p (line_number line) (r ∷ h) ≡ turns (r ∷ h) → HasMemory image (r ∷ h) (line_number line) (Some (turn, d)) (turns (r ∷ h))
    → KeptShows image (r ∷ h) p h u → KeptShows image (r ∷ h) p (r ∷ h) (with_copies (data_bank (line_number line)) (refreshed (copy_of line turn d) (data_copies (line_number line) u)) u)
line_rewritten image p r h u line turn d others code fence holds stamps memory was =
    data_changed image (r ∷ h) (line_number line) p (data_bank (line_number line)) r h u (refreshed c cs) (bank_own (line_number line)) others code fence (whole_refreshed c cs (whole_of image (r ∷ h) p h u (data_bank (line_number line)) was))
    (λ l apart. get_refreshed_other l c cs apart)
    (⊎_elim
    (λ (there : is_held (line_number line) cs ≡ true). rw (get_refreshed c cs there, holds, stamps) (sym same ∙ there, memory))
    (λ (none : is_held (line_number line) cs ≡ false). rw (refreshed_none c cs none, get_none (line_number line) cs none, holds) (sym same ∙ none))
    (cases_Bool (is_held (line_number line) cs)))
    was where
      c : LineCopy
      c = copy_of line turn d

      cs : List LineCopy
      cs = data_copies (line_number line) u

      same : is_held (line_number line) cs ≡ held p (line_number line) h
      same = held_in image (r ∷ h) p h u (data_bank (line_number line)) (line_number line) (bank_own (line_number line)) was

-- a line is invalidated, where its copy is older
invalidated_shows : (image : ℕ → ℕ) (g : List Record) (l turn made : ℕ) (holds now : Bool) (cs : List LineCopy) (o : Option (ℕ × LineData)) → get_of l cs ≡ o → now ≡ (holds && not (ltb made turn)) → Shows image g l o holds made → Shows image g l (get_of l (invalidated l turn cs)) now made
invalidated_shows image g l turn made holds now cs None told is shows = rw (invalidated_absent l turn cs told, told, is, shows) refl
invalidated_shows image g l turn made holds now cs (Some (s, d)) told is shows =
    ⊎_elim
    (λ (less : s < turn).
    let older : ltb made turn ≡ true = lt-ltb made turn (omega (arith, less, shows.1.0)) in
    rw (invalidated_older l turn cs s d told less, is, older, shows.0) refl)
    (λ (more : turn ≤ s).
    let newer : ltb made turn ≡ false = le-ltb made turn (omega (arith, more, shows.1.0)) in
    rw (invalidated_kept l turn cs s d told more, told, is, newer, shows.0) (refl, shows.1))
    (cases_lt s turn)

pub line_invalidated : (image : ℕ → ℕ) (p : ℕ) (r : Record) (h : List Record) (u : LocalMemory) (l turn : ℕ) → LeavesOthers l p r h → LeavesCode p r h → barrier p (r ∷ h) ≡ barrier p h
    → held p l (r ∷ h) ≡ (held p l h && not (ltb (stamp p l h) turn)) → stamp p l (r ∷ h) ≡ stamp p l h
    → KeptShows image (r ∷ h) p h u → KeptShows image (r ∷ h) p (r ∷ h) (with_copies (data_bank l) (invalidated l turn (data_copies l u)) u)
line_invalidated image p r h u l turn others code fence holds stamps was =
    data_changed image (r ∷ h) l p (data_bank l) r h u (invalidated l turn (data_copies l u)) (bank_own l) others code fence (whole_invalidated l turn (data_copies l u) (whole_of image (r ∷ h) p h u (data_bank l) was))
    (λ k apart. invalidated_other k l turn (data_copies l u) apart)
    (rw stamps (invalidated_shows image (r ∷ h) l turn (stamp p l h) (held p l h) (held p l (r ∷ h)) (data_copies l u) (get_of l (data_copies l u)) refl holds (shown_in image (r ∷ h) p h u (data_bank l) l (bank_own l) was))) was

-- a line is dropped
pub line_dropped : (image : ℕ → ℕ) (p : ℕ) (b : Bank) (r : Record) (h : List Record) (u : LocalMemory) (l : ℕ) → in_bank b l ≡ true → LeavesOthers l p r h → LeavesCode p r h → barrier p (r ∷ h) ≡ barrier p h → held p l (r ∷ h) ≡ false
    → KeptShows image (r ∷ h) p h u → KeptShows image (r ∷ h) p (r ∷ h) (with_copies b (dropped l (copies_of b u)) u)
line_dropped image p b r h u l mine others code fence lost was =
    data_changed image (r ∷ h) l p b r h u (dropped l (copies_of b u)) mine others code fence (whole_dropped l (copies_of b u) (whole_of image (r ∷ h) p h u b was)) (λ k apart. get_dropped_other k l (copies_of b u) apart)
    (rw (get_dropped l (copies_of b u)) lost) was

pub code_line_dropped : (image : ℕ → ℕ) (p : ℕ) (r : Record) (h : List Record) (u : LocalMemory) (l : ℕ) → LeavesData p r h → LeavesOtherCode l p r h → barrier p (r ∷ h) ≡ barrier p h → code_held p l (r ∷ h) ≡ false
    → KeptShows image (r ∷ h) p h u → KeptShows image (r ∷ h) p (r ∷ h) (with_copies Code (dropped l u.code) u)
code_line_dropped image p r h u l leaves others fence lost was =
    code_changed image (r ∷ h) l p r h u (dropped l u.code) leaves others fence (whole_dropped l u.code was.code.whole) (λ k apart. get_dropped_other k l u.code apart)
    (rw (get_dropped l u.code) lost) was
