-- An own barrier spares the copies that nothing late has.
use Rattle.std.proofs.Common.{◌≡◌, ℕ, ◌*◌, ◌/◌, ◌^◌, Bool, true, false, not, ◌&&◌, ◌||◌, eqb, List, [], ◌∷◌, length, map, Option, Some, None, refl, sym, ap, ◌∙◌, arith, ⊎_elim}
use Rattle.std.specs.List.{AllByRecursion}
use Rattle.std.proofs.lemmas.Bool.{and_parts, cases_Bool, eqb-true, not-true, false≢true}
use Rattle.std.proofs.lemmas.List.{append-nil, map-append}
use Rattle.axp_base.specs.Lines.{data_bank, line_number, in_bank, line_of}
use Rattle.axp_base.specs.declared.lines.Bank.{Bank}
use Rattle.axp_base.specs.declared.lines.Bank.TheVariants.{Even, Odd}
use Rattle.axp_base.specs.declared.lines.Line.{Line}
use Rattle.axp_base.specs.declared.lines.TheConstants.{LINE_BYTES}
use Rattle.axp_access.specs.declared.Record.{Record}
use Rattle.axp_bank.specs.Copies.{get_of, spared}
use Rattle.axp_bank.specs.declared.copies.LineCopy.{LineCopy}
use Rattle.axp_base.specs.LatePairs.{has_later}
use Rattle.axp_line.specs.declared.contents.LineData.{LineData}
use Rattle.axp_lsu.specs.Keeping.{LocalMemory, held_pairs}
use Rattle.axp_line.specs.BusCalls.{BusCall}
use Rattle.axp_line.specs.BusReply.{PortState, port_state, gone}
use Rattle.axp_model.specs.Late.{code_held, held, late}
use Rattle.axp_model.specs.Turns.{barrier, code_stamp, stamp, turns}
use Rattle.axp_laws.proofs.RunRecords.{bank_of_line}
use Rattle.axp_laws.proofs.LateTurns.{late_turns}
use Rattle.axp_world.proofs.Agreement.{BusAgrees}
use Rattle.axp_world.proofs.BankShows.{BanksShow, CopiesShow, KeptShows, Shows}
use Rattle.axp_world.proofs.BankSpares.{bits_behind, get_without, late_at, pair_of, spared_are, unless, whole_without, without}

-- pairs of a bank's lines have nothing later of a line of the other bank
no_later : (l s : ℕ) (b : Bank) (pairs : List (Line × ℕ)) → in_bank b l ≡ false → AllByRecursion (λ pair. in_bank b (line_number pair.0) ≡ true) pairs → has_later l s pairs ≡ false
no_later l s b [] off banked = refl
no_later l s b (x ∷ pairs) off banked =
    ⊎_elim
    (λ (here : eqb (line_number x.0) l ≡ true).
    let mine : in_bank b l ≡ true = rw (← eqb-true (line_number x.0) l here) banked.0 in
    absurd (false≢true (sym off ∙ mine)))
    (λ (apart : eqb (line_number x.0) l ≡ false). rw apart (no_later l s b pairs off banked.1))
    (cases_Bool (eqb (line_number x.0) l))

-- what is late of a line is late in the line's own bank
abbrev LateIsOwn : (ℕ → ℕ) → ℕ → List Record → List BusCall → Bank → Type 0
LateIsOwn image p h cs b = (l s : ℕ) → in_bank b l ≡ true → late_at (port_state image cs p) l s ≡ has_later l s (late p b h)

line_again : (l : ℕ) → line_of (l * LINE_BYTES) ≡ l
line_again l = omega arith

or_right_false : (a b : Bool) → b ≡ false → (a || b) ≡ a
or_right_false true b e = refl
or_right_false false b e = e

or_left_false : (a b : Bool) → a ≡ false → (a || b) ≡ b
or_left_false a b e = rw e refl

late_even : (image : ℕ → ℕ) (p : ℕ) (h : List Record) (cs : List BusCall) → BusAgrees image h cs → LateIsOwn image p h cs Even
late_even image p h cs bus l s mine =
    rw (line_again l, bus.pairs p Even, bus.pairs p Odd) (or_right_false (has_later l s (late p Even h)) (has_later l s (late p Odd h)) (no_later l s Odd (late p Odd h) (rw mine refl) (late_turns p Odd h).banked))

late_odd : (image : ℕ → ℕ) (p : ℕ) (h : List Record) (cs : List BusCall) → BusAgrees image h cs → LateIsOwn image p h cs Odd
late_odd image p h cs bus l s mine =
    rw (line_again l, bus.pairs p Even, bus.pairs p Odd) (or_left_false (has_later l s (late p Even h)) (has_later l s (late p Odd h)) (no_later l s Even (late p Even h) (not-true _ mine) (late_turns p Even h).banked))

-- what an own MB or IMB makes of the words
pub record Fences (p : ℕ) (r : Record) (h : List Record) : Type 0 where
  pub holds : (l : ℕ) → held p l (r ∷ h) ≡ (held p l h && not (has_later l (stamp p l h) (late p (data_bank l) h)))
  pub stamps : (l : ℕ) → stamp p l (r ∷ h) ≡ stamp p l h
  pub fence : barrier p (r ∷ h) ≡ turns h

lost_and : (a b c : Bool) → c ≡ true → (a && (b && not c)) ≡ false
lost_and true true c e = rw e refl
lost_and true false c e = refl
lost_and false b c e = refl

kept_and : (a b c : Bool) → c ≡ false → (a && b) ≡ true → (a && (b && not c)) ≡ true
kept_and true true c e both = rw e refl
kept_and true false c e both = cc
kept_and false b c e both = cc

never_and : (a b c : Bool) → (a && b) ≡ false → (a && (b && not c)) ≡ false
never_and true true c e = cc
never_and true false c e = refl
never_and false b c e = refl

-- one line of a bank
spared_line : (image : ℕ → ℕ) (g : List Record) (b : Bank) (l turn : ℕ) (holds : Bool) (pairs : List (Line × ℕ)) (test : ℕ → ℕ → Bool) (o : Option (ℕ × LineData)) → ((s : ℕ) → in_bank b l ≡ true → test l s ≡ has_later l s pairs)
    → Shows image g l o (in_bank b l && holds) turn → Shows image g l (unless test l o) (in_bank b l && (holds && not (has_later l turn pairs))) turn
spared_line image g b l turn holds pairs test None same shows = never_and (in_bank b l) holds (has_later l turn pairs) shows
spared_line image g b l turn holds pairs test (Some c) same shows =
    let mine : in_bank b l ≡ true = (and_parts (in_bank b l) holds shows.0).0 in
    let own : test l c.0 ≡ has_later l turn pairs = same c.0 mine ∙ ap (λ (s : ℕ). has_later l s pairs) shows.1.0 in
    ⊎_elim
    (λ (lost : has_later l turn pairs ≡ true). rw (own, lost) (lost_and (in_bank b l) holds true refl))
    (λ (kept : has_later l turn pairs ≡ false). rw (own, kept) (kept_and (in_bank b l) holds false refl shows.0, shows.1))
    (cases_Bool (has_later l turn pairs))

bank_spared : (image : ℕ → ℕ) (g : List Record) (p : ℕ) (b : Bank) (r : Record) (h : List Record) (test : ℕ → ℕ → Bool) (cs : List LineCopy) → ((l s : ℕ) → in_bank b l ≡ true → test l s ≡ has_later l s (late p b h)) → Fences p r h
    → CopiesShow image g (λ l. in_bank b l && held p l h) (λ l. stamp p l h) cs → CopiesShow image g (λ l. in_bank b l && held p l (r ∷ h)) (λ l. stamp p l (r ∷ h)) (without test cs)
bank_spared image g p b r h test cs same fences was = record {
  whole = whole_without test cs was.whole;
  each = λ l. rw (fences.holds l, fences.stamps l, get_without test l cs was.whole.up)
      (spared_line image g b l (stamp p l h) (held p l h) (late p (data_bank l) h) test (get_of l cs) (λ s mine. same l s mine ∙ ap (λ (c : Bank). has_later l s (late p c h)) (sym (bank_of_line b l mine))) (was.each l));
}

evens_spared : (f : PortState) (u : LocalMemory) → spared (gone f (held_pairs u)) u.even ≡ without (late_at f) u.even
evens_spared f u = ap (λ (ps : List (ℕ × ℕ)). spared (gone f ps) u.even) (map-append pair_of u.even u.odd) ∙ spared_are f u.even (map pair_of u.odd)

odds_spared : (f : PortState) (u : LocalMemory) → spared (gone f (held_pairs u) / 2 ^ length u.even) u.odd ≡ without (late_at f) u.odd
odds_spared f u =
    ap (λ (ps : List (ℕ × ℕ)). spared (gone f ps / 2 ^ length u.even) u.odd) (map-append pair_of u.even u.odd)
    ∙ ap (λ (n : ℕ). spared n u.odd) (bits_behind f u.even (map pair_of u.odd))
    ∙ ap (λ (ps : List (ℕ × ℕ)). spared (gone f ps) u.odd) (sym (append-nil (map pair_of u.odd)))
    ∙ spared_are f u.odd []

pub fence_shows : (image : ℕ → ℕ) (g : List Record) (p : ℕ) (r : Record) (h : List Record) (cs : List BusCall) (u : LocalMemory) (codes : List LineCopy) → BusAgrees image h cs → Fences p r h
    → CopiesShow image g (λ l. code_held p l (r ∷ h)) (λ l. code_stamp p l (r ∷ h)) codes → KeptShows image g p h u
    → BanksShow image g p (r ∷ h) (spared (gone (port_state image cs p) (held_pairs u)) u.even) (spared (gone (port_state image cs p) (held_pairs u) / 2 ^ length u.even) u.odd) codes (port_state image cs p).turns
fence_shows image g p r h cs u codes bus fences code was = record {
  even = rw (evens_spared (port_state image cs p) u) (bank_spared image g p Even r h (late_at (port_state image cs p)) u.even (late_even image p h cs bus) fences was.even);
  odd = rw (odds_spared (port_state image cs p) u) (bank_spared image g p Odd r h (late_at (port_state image cs p)) u.odd (late_odd image p h cs bus) fences was.odd);
  code = code;
  fenced = bus.count ∙ sym fences.fence;
}
