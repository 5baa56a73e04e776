-- What a processor's banks show of the lines that it holds, and how one changed line or a barrier leaves that.
use Rattle.std.proofs.Common.{◌≡◌, ◌≢◌, ℕ, ◌≤◌, Bool, true, false, ◌&&◌, List, [], ◌∷◌, Option, Some, None, refl, sym, ap, ◌∙◌, subst, ⊎_elim}
use Rattle.std.proofs.lemmas.Bool.{cases_eq, not-true, false≢true}
use Rattle.axp_base.specs.declared.lines.Bank.{Bank}
use Rattle.axp_base.specs.declared.lines.Bank.TheVariants.{Even, Odd, Code}
use Rattle.axp_access.specs.declared.Record.{Record}
use Rattle.axp_bank.specs.Copies.{Whole, get_of}
use Rattle.axp_bank.specs.declared.copies.LineCopy.{LineCopy}
use Rattle.axp_line.specs.declared.contents.LineData.{LineData}
use Rattle.axp_lsu.specs.Keeping.{LocalMemory, copies_of, with_copies}
use Rattle.axp_model.specs.Late.{held, code_held}
use Rattle.axp_base.specs.Lines.{in_bank}
use Rattle.axp_model.specs.Sources.{byte_of_source}
use Rattle.axp_model.specs.Turns.{turns, stamp, barrier, code_stamp}
use Rattle.axp_laws.proofs.SourceClosedForm.{memory_stays}
use Rattle.axp_laws.proofs.OrderCounts.{stamp_most, code_stamp_most}
use Rattle.axp_laws.proofs.RunFacts.{Fitting}
use Rattle.axp_world.proofs.Agreement.{HasMemory}

-- a copy is there exactly where its line is held, and has what memory had after so many turns
abbrev pub Shows : (ℕ → ℕ) → List Record → ℕ → Option (ℕ × LineData) → Bool → ℕ → Type 0
Shows image g l None holds turn = holds ≡ false
Shows image g l (Some c) holds turn = (holds ≡ true) × HasMemory image g l (Some c) turn

-- so is it of each line in a bank
pub record CopiesShow (image : ℕ → ℕ) (g : List Record) (holds : ℕ → Bool) (turn : ℕ → ℕ) (cs : List LineCopy) : Type 0 where
  pub whole : Whole cs
  pub each : (l : ℕ) → Shows image g l (get_of l cs) (holds l) (turn l)

-- the three banks and the turn of the last barrier, by the words on history h and memory as history g has it
pub record BanksShow (image : ℕ → ℕ) (g : List Record) (p : ℕ) (h : List Record) (evens odds codes : List LineCopy) (fence : ℕ) : Type 0 where
  pub even : CopiesShow image g (λ l. in_bank Even l && held p l h) (λ l. stamp p l h) evens
  pub odd : CopiesShow image g (λ l. in_bank Odd l && held p l h) (λ l. stamp p l h) odds
  pub code : CopiesShow image g (λ l. code_held p l h) (λ l. code_stamp p l h) codes
  pub fenced : fence ≡ barrier p h

abbrev pub KeptShows : (ℕ → ℕ) → List Record → ℕ → List Record → LocalMemory → Type 0
KeptShows image g p h u = BanksShow image g p h u.even u.odd u.code u.barrier

-- memory after turns that were made stays
shows_carried : (image : ℕ → ℕ) (r : Record) (h : List Record) (l turn : ℕ) (holds : Bool) (o : Option (ℕ × LineData)) → Fitting (r ∷ h) → turn ≤ turns h → Shows image h l o holds turn → Shows image (r ∷ h) l o holds turn
shows_carried image r h l turn holds None fit made shows = shows
shows_carried image r h l turn holds (Some c) fit made shows =
    (shows.0, (shows.1.0, λ at on. shows.1.1 at on ∙ ap (byte_of_source image at) (sym (memory_stays turn at (r ∷ []) h fit made))))

copies_carried : (image : ℕ → ℕ) (r : Record) (h : List Record) (holds : ℕ → Bool) (turn : ℕ → ℕ) (cs : List LineCopy) → Fitting (r ∷ h) → ((l : ℕ) → turn l ≤ turns h) → CopiesShow image h holds turn cs → CopiesShow image (r ∷ h) holds turn cs
copies_carried image r h holds turn cs fit made was = record { whole = was.whole; each = λ l. shows_carried image r h l (turn l) (holds l) (get_of l cs) fit (made l) (was.each l) }

pub carried : (image : ℕ → ℕ) (p : ℕ) (r : Record) (h : List Record) (u : LocalMemory) → Fitting (r ∷ h) → KeptShows image h p h u → KeptShows image (r ∷ h) p h u
carried image p r h u fit was = record {
  even = copies_carried image r h (λ l. in_bank Even l && held p l h) (λ l. stamp p l h) u.even fit (λ l. stamp_most p l h) was.even;
  odd = copies_carried image r h (λ l. in_bank Odd l && held p l h) (λ l. stamp p l h) u.odd fit (λ l. stamp_most p l h) was.odd;
  code = copies_carried image r h (λ l. code_held p l h) (λ l. code_stamp p l h) u.code fit (λ l. code_stamp_most p l h) was.code;
  fenced = was.fenced;
}

-- what the newest record leaves of the words on each line, but for line k
pub record LeavesData (p : ℕ) (r : Record) (h : List Record) : Type 0 where
  pub holds : (l : ℕ) → held p l (r ∷ h) ≡ held p l h
  pub stamps : (l : ℕ) → stamp p l (r ∷ h) ≡ stamp p l h

pub record LeavesCode (p : ℕ) (r : Record) (h : List Record) : Type 0 where
  pub holds : (l : ℕ) → code_held p l (r ∷ h) ≡ code_held p l h
  pub stamps : (l : ℕ) → code_stamp p l (r ∷ h) ≡ code_stamp p l h

pub record LeavesOthers (k p : ℕ) (r : Record) (h : List Record) : Type 0 where
  pub holds : (l : ℕ) → l ≢ k → held p l (r ∷ h) ≡ held p l h
  pub stamps : (l : ℕ) → l ≢ k → stamp p l (r ∷ h) ≡ stamp p l h

pub record LeavesOtherCode (k p : ℕ) (r : Record) (h : List Record) : Type 0 where
  pub holds : (l : ℕ) → l ≢ k → code_held p l (r ∷ h) ≡ code_held p l h
  pub stamps : (l : ℕ) → l ≢ k → code_stamp p l (r ∷ h) ≡ code_stamp p l h

-- a bank whose words are as they were
pub same_shows : (image : ℕ → ℕ) (g : List Record) (holds now : ℕ → Bool) (turn next : ℕ → ℕ) (cs : List LineCopy) → ((l : ℕ) → now l ≡ holds l) → ((l : ℕ) → next l ≡ turn l) → CopiesShow image g holds turn cs → CopiesShow image g now next cs
same_shows image g holds now turn next cs held_same turn_same was = record { whole = was.whole; each = λ l. rw (held_same l, turn_same l) (was.each l) }

-- a bank where one line changed
line_changed : (image : ℕ → ℕ) (g : List Record) (k : ℕ) (holds now : ℕ → Bool) (turn next : ℕ → ℕ) (cs ds : List LineCopy) → ((l : ℕ) → l ≢ k → now l ≡ holds l) → ((l : ℕ) → l ≢ k → next l ≡ turn l)
    → Whole ds → ((l : ℕ) → l ≢ k → get_of l ds ≡ get_of l cs) → Shows image g k (get_of k ds) (now k) (next k) → CopiesShow image g holds turn cs → CopiesShow image g now next ds
line_changed image g k holds now turn next cs ds held_same turn_same whole told here was = record {
  whole = whole;
  each = λ l. ⊎_elim
      (λ (same : l ≡ k). subst (λ n. Shows image g n (get_of n ds) (now n) (next n)) (sym same) here)
      (λ (apart : l ≢ k). rw (told l apart, held_same l apart, turn_same l apart) (was.each l))
      (cases_eq l k);
}

-- a line that is not held has no turn to show
none_shows : (image : ℕ → ℕ) (g : List Record) (l turn next : ℕ) (o : Option (ℕ × LineData)) → Shows image g l o false turn → Shows image g l o false next
none_shows image g l turn next None shows = shows
none_shows image g l turn next (Some c) shows = absurd (false≢true shows.0)

-- the bank that the changed line is not of
other_bank : (image : ℕ → ℕ) (g : List Record) (k : ℕ) (b : Bank) (holds now : ℕ → Bool) (turn next : ℕ → ℕ) (cs : List LineCopy) → in_bank b k ≡ false → ((l : ℕ) → l ≢ k → now l ≡ holds l) → ((l : ℕ) → l ≢ k → next l ≡ turn l)
    → CopiesShow image g (λ l. in_bank b l && holds l) turn cs → CopiesShow image g (λ l. in_bank b l && now l) next cs
other_bank image g k b holds now turn next cs off held_same turn_same was =
    line_changed image g k (λ l. in_bank b l && holds l) (λ l. in_bank b l && now l) turn next cs cs (λ l apart. ap (λ (x : Bool). in_bank b l && x) (held_same l apart)) turn_same was.whole (λ l apart. refl)
    (rw off (none_shows image g k (turn k) (next k) (get_of k cs) (rw off at (was.each k)))) was

-- the bank that it is of
own_bank : (image : ℕ → ℕ) (g : List Record) (k : ℕ) (b : Bank) (holds now : ℕ → Bool) (turn next : ℕ → ℕ) (cs ds : List LineCopy) → in_bank b k ≡ true → ((l : ℕ) → l ≢ k → now l ≡ holds l) → ((l : ℕ) → l ≢ k → next l ≡ turn l)
    → Whole ds → ((l : ℕ) → l ≢ k → get_of l ds ≡ get_of l cs) → Shows image g k (get_of k ds) (now k) (next k) → CopiesShow image g (λ l. in_bank b l && holds l) turn cs → CopiesShow image g (λ l. in_bank b l && now l) next ds
own_bank image g k b holds now turn next cs ds mine held_same turn_same whole told here was =
    line_changed image g k (λ l. in_bank b l && holds l) (λ l. in_bank b l && now l) turn next cs ds (λ l apart. ap (λ (x : Bool). in_bank b l && x) (held_same l apart)) turn_same whole told (rw mine here) was

pub data_changed : (image : ℕ → ℕ) (g : List Record) (k p : ℕ) (b : Bank) (r : Record) (h : List Record) (u : LocalMemory) (ds : List LineCopy) → in_bank b k ≡ true → LeavesOthers k p r h → LeavesCode p r h → barrier p (r ∷ h) ≡ barrier p h
    → Whole ds → ((l : ℕ) → l ≢ k → get_of l ds ≡ get_of l (copies_of b u)) → Shows image g k (get_of k ds) (held p k (r ∷ h)) (stamp p k (r ∷ h)) → KeptShows image g p h u → KeptShows image g p (r ∷ h) (with_copies b ds u)
data_changed image g k p Even r h u ds mine others code fence whole told here was = record {
  even = own_bank image g k Even (λ l. held p l h) (λ l. held p l (r ∷ h)) (λ l. stamp p l h) (λ l. stamp p l (r ∷ h)) u.even ds mine others.holds others.stamps whole told here was.even;
  odd = other_bank image g k Odd (λ l. held p l h) (λ l. held p l (r ∷ h)) (λ l. stamp p l h) (λ l. stamp p l (r ∷ h)) u.odd (rw mine refl) others.holds others.stamps was.odd;
  code = same_shows image g (λ l. code_held p l h) (λ l. code_held p l (r ∷ h)) (λ l. code_stamp p l h) (λ l. code_stamp p l (r ∷ h)) u.code code.holds code.stamps was.code;
  fenced = was.fenced ∙ sym fence;
}
data_changed image g k p Odd r h u ds mine others code fence whole told here was = record {
  even = other_bank image g k Even (λ l. held p l h) (λ l. held p l (r ∷ h)) (λ l. stamp p l h) (λ l. stamp p l (r ∷ h)) u.even (not-true _ mine) others.holds others.stamps was.even;
  odd = own_bank image g k Odd (λ l. held p l h) (λ l. held p l (r ∷ h)) (λ l. stamp p l h) (λ l. stamp p l (r ∷ h)) u.odd ds mine others.holds others.stamps whole told here was.odd;
  code = same_shows image g (λ l. code_held p l h) (λ l. code_held p l (r ∷ h)) (λ l. code_stamp p l h) (λ l. code_stamp p l (r ∷ h)) u.code code.holds code.stamps was.code;
  fenced = was.fenced ∙ sym fence;
}
data_changed image g k p Code r h u ds mine others code fence whole told here was = absurd (false≢true mine)

pub code_changed : (image : ℕ → ℕ) (g : List Record) (k p : ℕ) (r : Record) (h : List Record) (u : LocalMemory) (ds : List LineCopy) → LeavesData p r h → LeavesOtherCode k p r h → barrier p (r ∷ h) ≡ barrier p h
    → Whole ds → ((l : ℕ) → l ≢ k → get_of l ds ≡ get_of l u.code) → Shows image g k (get_of k ds) (code_held p k (r ∷ h)) (code_stamp p k (r ∷ h)) → KeptShows image g p h u → KeptShows image g p (r ∷ h) (with_copies Code ds u)
code_changed image g k p r h u ds leaves others fence whole told here was = record {
  even = same_shows image g (λ l. in_bank Even l && held p l h) (λ l. in_bank Even l && held p l (r ∷ h)) (λ l. stamp p l h) (λ l. stamp p l (r ∷ h)) u.even (λ l. ap (λ (x : Bool). in_bank Even l && x) (leaves.holds l)) leaves.stamps was.even;
  odd = same_shows image g (λ l. in_bank Odd l && held p l h) (λ l. in_bank Odd l && held p l (r ∷ h)) (λ l. stamp p l h) (λ l. stamp p l (r ∷ h)) u.odd (λ l. ap (λ (x : Bool). in_bank Odd l && x) (leaves.holds l)) leaves.stamps was.odd;
  code = line_changed image g k (λ l. code_held p l h) (λ l. code_held p l (r ∷ h)) (λ l. code_stamp p l h) (λ l. code_stamp p l (r ∷ h)) u.code ds others.holds others.stamps whole told here was.code;
  fenced = was.fenced ∙ sym fence;
}

pub nothing_changed : (image : ℕ → ℕ) (g : List Record) (p : ℕ) (r : Record) (h : List Record) (u : LocalMemory) → LeavesData p r h → LeavesCode p r h → barrier p (r ∷ h) ≡ barrier p h → KeptShows image g p h u → KeptShows image g p (r ∷ h) u
nothing_changed image g p r h u leaves code fence was = record {
  even = same_shows image g (λ l. in_bank Even l && held p l h) (λ l. in_bank Even l && held p l (r ∷ h)) (λ l. stamp p l h) (λ l. stamp p l (r ∷ h)) u.even (λ l. ap (λ (x : Bool). in_bank Even l && x) (leaves.holds l)) leaves.stamps was.even;
  odd = same_shows image g (λ l. in_bank Odd l && held p l h) (λ l. in_bank Odd l && held p l (r ∷ h)) (λ l. stamp p l h) (λ l. stamp p l (r ∷ h)) u.odd (λ l. ap (λ (x : Bool). in_bank Odd l && x) (leaves.holds l)) leaves.stamps was.odd;
  code = same_shows image g (λ l. code_held p l h) (λ l. code_held p l (r ∷ h)) (λ l. code_stamp p l h) (λ l. code_stamp p l (r ∷ h)) u.code code.holds code.stamps was.code;
  fenced = was.fenced ∙ sym fence;
}
