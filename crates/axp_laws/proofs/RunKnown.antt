-- What is known of the accesses and entries stays so.
use Rattle.std.proofs.Common.{true, false, ℕ, ◌+◌, ◌^◌, ◌<◌, ◌≤◌, ◌≡◌, ◌⊎◌, inl, inr, ⊎_elim, eqb, cond, Bool, ◌&&◌, List, [], ◌∷◌, ◌++◌, Option, Some, None, refl, sym, ◌∙◌, arith}
use Rattle.std.proofs.lemmas.Bool.{cond_both, cases_Bool, and_parts, or_cases, or_left, or_right, eqb-true, eqb-false, eq-eqb, ne_eqb, false≢true}
use Rattle.axp_base.specs.declared.processors.Cpu.{Cpu}
use Rattle.axp_access.specs.declared.Event.{Event}
use Rattle.axp_regs.specs.declared.asks.Kind.{Kind}
use Rattle.axp_regs.specs.declared.asks.Kind.TheVariants as kind
use Rattle.axp_access.specs.declared.Place.{Place}
use Rattle.axp_access.specs.declared.Place.TheVariants.{At, Entry, Absent}
use Rattle.axp_access.specs.declared.Access.{Access}
use Rattle.axp_access.specs.declared.Outcome.{Outcome}
use Rattle.axp_access.specs.declared.Outcome.TheVariants as outcome
use Rattle.axp_access.specs.declared.Record.{Record}
use Rattle.axp_base.specs.declared.lines.Line.{Line}
use Rattle.axp_model.specs.Records.{is_of, drains}
use Rattle.axp_access.specs.Kinds.{is_plain_write}
use Rattle.axp_base.specs.Lines.{line_of, line_at}
use Rattle.axp_model.specs.Turns.{turns, stamp, barrier, code_barrier, code_stamp, read_place, drained}
use Rattle.axp_model.specs.Entries.{Waiting, Buffer, buffer, buffer_after, entry_joined, entries_after_write, without_entry, has_number, entry_or, one_if_none}
use Rattle.axp_laws.proofs.RunFacts.{Fits, AtMost, waits, Goes, Known, SoundBuffer}
use Rattle.axp_laws.proofs.RunRecords.{line_at-number}
use Rattle.axp_laws.proofs.OrderCases.{acc, at_most_up}
use Rattle.axp_laws.proofs.OrderCounts.{turns_grow, stamp_grows, barrier_grows, code_barrier_grows, code_stamp_grows, read_place_grows}

abbrev is_it : ℕ → ℕ → ℕ → Waiting → Bool
is_it n l g x = eqb x.number n && (eqb x.line.number l && eqb x.age g)

waits_append : (n l g : ℕ) (es fs : List Waiting) → waits n l g es ≡ true → waits n l g (es ++ fs) ≡ true
waits_append n l g [] fs e = cc
waits_append n l g (x ∷ es) fs e =
    ⊎_elim (λ here. or_left (is_it n l g x) (waits n l g (es ++ fs)) here) (λ there. or_right (is_it n l g x) (waits n l g (es ++ fs)) (waits_append n l g es fs there)) (or_cases (is_it n l g x) (waits n l g es) e)

waits_joined : (o : Option ℕ) (x : Waiting) (n l g : ℕ) (es : List Waiting) → waits n l g es ≡ true → waits n l g (entries_after_write o x es) ≡ true
waits_joined None x n l g es e = waits_append n l g es (x ∷ []) e
waits_joined (Some j) x n l g es e = e

-- the entry that a write would make
abbrev pub next_entry : Line → Buffer → Waiting
next_entry line b = record { number = b.made + 1; line = line; age = b.age }

waits_without : (m n l g : ℕ) (es : List Waiting) → eqb m n ≡ false → waits n l g es ≡ true → waits n l g (without_entry m es) ≡ true
waits_without m n l g [] apart e = e
waits_without m n l g (x ∷ es) apart e =
    ⊎_elim
    (λ here.
    let number : x.number ≡ n = eqb-true x.number n (and_parts (eqb x.number n) (eqb x.line.number l && eqb x.age g) here).0 in
    let other : eqb x.number m ≡ false = ne_eqb x.number m (λ q. eqb-false m n apart (sym q ∙ number)) in
    rw other (or_left (is_it n l g x) (waits n l g (without_entry m es)) here))
    (λ there.
    cond_both (eqb x.number m) (without_entry m es) (x ∷ without_entry m es) (λ fs. waits n l g fs ≡ true) (λ _. waits_without m n l g es apart there) (λ _. or_right (is_it n l g x) (waits n l g (without_entry m es)) (waits_without m n l g es apart there)))
    (or_cases (is_it n l g x) (waits n l g es) e)

-- an own outcome
goes_own : (o : Outcome) (b : Buffer) (n l g t : ℕ) (d : Option ℕ) → (d ≡ None → waits n l g b.waiting ≡ true) → cond (drains n o) (Some t) d ≡ None → waits n l g (buffer_after o b).waiting ≡ true
goes_own (outcome.Access a) b n l g t d goes e =
    cond_both (is_plain_write a.kind) (entries_after_write (entry_joined (line_of a.address) b.age b.waiting) (next_entry (line_at a.address) b) b.waiting) b.waiting (λ es. waits n l g es ≡ true)
    (λ _. waits_joined (entry_joined (line_of a.address) b.age b.waiting) (next_entry (line_at a.address) b) n l g b.waiting (goes e)) (λ _. goes e)
goes_own outcome.NoAccess b n l g t d goes e = goes e
goes_own (outcome.Filled x y z) b n l g t d goes e = goes e
goes_own (outcome.Drained m k z) b n l g t d goes e =
    ⊎_elim
    (λ same. let never : Some t ≡ None = rw same at e in cc)
    (λ other. waits_without m n l g b.waiting other (goes (rw other at e)))
    (cases_Bool (eqb m n))
goes_own (outcome.Taken x y z) b n l g t d goes e = goes e
goes_own outcome.Done b n l g t d goes e = goes e
goes_own (outcome.Polled x y z) b n l g t d goes e = goes e

goes_step : (p l g : ℕ) (at : Place) (r : Record) (h : List Record) → Goes p l g at h → Goes p l g at (r ∷ h)
goes_step p l g (At t) r h goes = goes
goes_step p l g Absent r h goes = goes
goes_step p l g (Entry n) r h goes =
    ⊎_elim
    (λ own. λ e. rw own (goes_own r.outcome (buffer p h) n l g (turns h + 1) (drained h p n) goes (rw own at e)))
    (λ foreign. λ e. rw foreign (goes (rw foreign at e)))
    (cases_Bool (is_of p r))

-- what is known stays known
pub known_step : (k : Kind) (p l g : ℕ) (at : Place) (r : Record) (h : List Record) → Known k p l g at h → Known k p l g at (r ∷ h)
known_step kind.Fetch p l g at r h known = at_most_up (code_stamp p l h) (code_stamp p l (r ∷ h)) at (code_stamp_grows p l r h) known
known_step kind.Read p l g at r h known = at_most_up (read_place p l h) (read_place p l (r ∷ h)) at (read_place_grows p l r h) known
known_step kind.Locked p l g at r h known = at_most_up (stamp p l h) (stamp p l (r ∷ h)) at (stamp_grows p l r h) known
known_step kind.Write p l g at r h known = goes_step p l g at r h known
known_step kind.Conditional p l g at r h known = at_most_up (turns h) (turns (r ∷ h)) at (turns_grow r h) known
known_step kind.Barrier p l g at r h known = at_most_up (barrier p h) (barrier p (r ∷ h)) at (barrier_grows p r h) known
known_step kind.CodeBarrier p l g at r h known = (at_most_up (barrier p h) (barrier p (r ∷ h)) at (barrier_grows p r h) known.0, at_most_up (code_barrier p h) (code_barrier p (r ∷ h)) at (code_barrier_grows p r h) known.1)
known_step kind.WriteBarrier p l g at r h known = known
known_step kind.Signal p l g at r h known = at_most_up (turns h) (turns (r ∷ h)) at (turns_grow r h) known
known_step kind.Console p l g at r h known = at_most_up (turns h) (turns (r ∷ h)) at (turns_grow r h) known
known_step kind.Poll p l g at r h known = at_most_up (turns h) (turns (r ∷ h)) at (turns_grow r h) known

at_is : (m n : ℕ) (at : Place) → at ≡ At m → m ≤ n → AtMost n at
at_is m n at e less = rw e less

pub joins_waits : (l g m : ℕ) (es : List Waiting) → entry_joined l g es ≡ Some m → waits m l g es ≡ true
joins_waits l g m [] e = cc
joins_waits l g m (x ∷ es) e =
    ⊎_elim
    (λ here.
    let found : Some x.number ≡ Some m = rw here at e in
    let same : x.number ≡ m = cc in
    or_left (is_it m l g x) (waits m l g es) (rw (eq-eqb x.number m same) here))
    (λ other. or_right (is_it m l g x) (waits m l g es) (joins_waits l g m es (rw other at e)))
    (cases_Bool (eqb x.line.number l && eqb x.age g))

waits_last : (x : Waiting) (es : List Waiting) → waits x.number x.line.number x.age (es ++ x ∷ []) ≡ true
waits_last x [] = rw (eq-eqb x.number x.number refl, eq-eqb x.line.number x.line.number refl, eq-eqb x.age x.age refl) refl
waits_last x (y ∷ es) = or_right (is_it x.number x.line.number x.age y) (waits x.number x.line.number x.age (es ++ x ∷ [])) (waits_last x es)

joined_waits : (o : Option ℕ) (l : ℕ) (x : Waiting) (es : List Waiting) → entry_joined l x.age es ≡ o → x.line.number ≡ l → waits (entry_or o x.number) l x.age (entries_after_write o x es) ≡ true
joined_waits None l x es e same = rw (sym same) (waits_last x es)
joined_waits (Some m) l x es e same = joins_waits l x.age m es e

abbrev pub made_by : Event → Access → Record
made_by e a = record { event = e; outcome = outcome.Access a }

-- what is known of a new access
pub known_new : (k : Kind) (e : Event) (c : Cpu) (a s x : ℕ) (y : Bool) (at : Place) (h : List Record) → a < 2 ^ 64 → Fits k e.cpu.number (line_of a) y at h → Known k e.cpu.number (line_of a) (buffer e.cpu.number h).age at (made_by e (acc c k a s x y at) ∷ h)
known_new kind.Fetch e c a s x y at h low fit = at_is (code_stamp e.cpu.number (line_of a) h) (code_stamp e.cpu.number (line_of a) (made_by e (acc c kind.Fetch a s x y at) ∷ h)) at fit.0 (code_stamp_grows e.cpu.number (line_of a) (made_by e (acc c kind.Fetch a s x y at)) h)
known_new kind.Read e c a s x y at h low fit = at_is (read_place e.cpu.number (line_of a) h) (read_place e.cpu.number (line_of a) (made_by e (acc c kind.Read a s x y at) ∷ h)) at fit.0 (read_place_grows e.cpu.number (line_of a) (made_by e (acc c kind.Read a s x y at)) h)
known_new kind.Locked e c a s x y at h low fit = at_is (turns h) (stamp e.cpu.number (line_of a) (made_by e (acc c kind.Locked a s x y at) ∷ h)) at fit.0 (rw (eq-eqb e.cpu.number e.cpu.number refl, eq-eqb (line_of a) (line_of a) refl) (omega arith))
known_new kind.Write e c a s x y at h low fit = rw fit (λ d. rw (eq-eqb e.cpu.number e.cpu.number refl) (joined_waits (entry_joined (line_of a) (buffer e.cpu.number h).age (buffer e.cpu.number h).waiting) (line_of a) (next_entry (line_at a) (buffer e.cpu.number h)) (buffer e.cpu.number h).waiting refl (line_at-number a low)))
known_new kind.Conditional e c a s x true at h low fit = at_is (turns h + 1) (turns h + 1) at fit.0 (omega arith)
known_new kind.Conditional e c a s x false at h low fit = at_is (turns h) (turns h) at fit.0 (omega arith)
known_new kind.Barrier e c a s x y at h low fit = at_is (turns h) (barrier e.cpu.number (made_by e (acc c kind.Barrier a s x y at) ∷ h)) at fit.0 (rw (eq-eqb e.cpu.number e.cpu.number refl) (omega arith))
known_new kind.CodeBarrier e c a s x y at h low fit = (at_is (turns h) (barrier e.cpu.number (made_by e (acc c kind.CodeBarrier a s x y at) ∷ h)) at fit.0 (rw (eq-eqb e.cpu.number e.cpu.number refl) (omega arith)), at_is (turns h) (code_barrier e.cpu.number (made_by e (acc c kind.CodeBarrier a s x y at) ∷ h)) at fit.0 (rw (eq-eqb e.cpu.number e.cpu.number refl) (omega arith)))
known_new kind.WriteBarrier e c a s x y at h low fit = fit
known_new kind.Signal e c a s x y at h low fit = at_is (turns h + 1) (turns h + 1) at fit.0 (omega arith)
known_new kind.Console e c a s x y at h low fit = at_is (turns h) (turns h) at fit (omega arith)
known_new kind.Poll e c a s x y at h low fit = at_is (turns h) (turns h) at fit (omega arith)

-- the entries stay sound
joins_none : (m l g : ℕ) (es : List Waiting) → entry_joined l g es ≡ None → waits m l g es ≡ true → ⊥
joins_none m l g [] e w = false≢true w
joins_none m l g (x ∷ es) e w =
    ⊎_elim
    (λ here. let found : Some x.number ≡ None = rw (and_parts (eqb x.number m) (eqb x.line.number l && eqb x.age g) here).1 at e in cc)
    (λ there. ⊎_elim (λ t. let found : Some x.number ≡ None = rw t at e in cc) (λ f. joins_none m l g es (rw f at e) there) (cases_Bool (eqb x.line.number l && eqb x.age g)))
    (or_cases (is_it m l g x) (waits m l g es) w)

waits_split : (n l g : ℕ) (es : List Waiting) (x : Waiting) → waits n l g (es ++ x ∷ []) ≡ true → (waits n l g es ≡ true) ⊎ (is_it n l g x ≡ true)
waits_split n l g [] x e = inr (⊎_elim (λ a. a) (λ b. cc) (or_cases (is_it n l g x) false e))
waits_split n l g (z ∷ es) x e =
    ⊎_elim
    (λ here. inl (or_left (is_it n l g z) (waits n l g es) here))
    (λ there. ⊎_elim (λ a. inl (or_right (is_it n l g z) (waits n l g es) a)) (λ b. inr b) (waits_split n l g es x there))
    (or_cases (is_it n l g z) (waits n l g (es ++ x ∷ [])) e)

waits_of_without : (m n l g : ℕ) (es : List Waiting) → waits n l g (without_entry m es) ≡ true → waits n l g es ≡ true
waits_of_without m n l g [] e = e
waits_of_without m n l g (x ∷ es) e =
    ⊎_elim
    (λ gone. or_right (is_it n l g x) (waits n l g es) (waits_of_without m n l g es (rw gone at e)))
    (λ stays.
    ⊎_elim (λ here. or_left (is_it n l g x) (waits n l g es) here) (λ there. or_right (is_it n l g x) (waits n l g es) (waits_of_without m n l g es there)) (or_cases (is_it n l g x) (waits n l g (without_entry m es)) (rw stays at e)))
    (cases_Bool (eqb x.number m))

has_of_without : (m n : ℕ) (es : List Waiting) → has_number n (without_entry m es) ≡ true → (eqb m n ≡ false) × (has_number n es ≡ true)
has_of_without m n [] e = cc
has_of_without m n (x ∷ es) e =
    ⊎_elim
    (λ gone. let r = has_of_without m n es (rw gone at e) in (r.0, or_right (eqb x.number n) (has_number n es) r.1))
    (λ stays.
    ⊎_elim
    (λ here. (ne_eqb m n (λ q. eqb-false x.number m stays (eqb-true x.number n here ∙ sym q)), or_left (eqb x.number n) (has_number n es) here))
    (λ there. let r = has_of_without m n es there in (r.0, or_right (eqb x.number n) (has_number n es) r.1))
    (or_cases (eqb x.number n) (has_number n (without_entry m es)) (rw stays at e)))
    (cases_Bool (eqb x.number m))

has_split : (n : ℕ) (es : List Waiting) (x : Waiting) → has_number n (es ++ x ∷ []) ≡ true → (has_number n es ≡ true) ⊎ (x.number ≡ n)
has_split n [] x e = inr (⊎_elim (λ a. eqb-true x.number n a) (λ b. absurd (false≢true b)) (or_cases (eqb x.number n) false e))
has_split n (z ∷ es) x e =
    ⊎_elim
    (λ here. inl (or_left (eqb z.number n) (has_number n es) here))
    (λ there. ⊎_elim (λ a. inl (or_right (eqb z.number n) (has_number n es) a)) (λ b. inr b) (has_split n es x there))
    (or_cases (eqb z.number n) (has_number n (es ++ x ∷ [])) e)

number_of_new : (n l g : ℕ) (x : Waiting) → is_it n l g x ≡ true → x.number ≡ n
number_of_new n l g x e = eqb-true x.number n (and_parts (eqb x.number n) (eqb x.line.number l && eqb x.age g) e).0

-- what waits under the new one's line and age
of_new : (m n k g : ℕ) (x : Waiting) (es : List Waiting) → is_it n k g x ≡ true → waits m k g es ≡ true → waits m x.line.number x.age es ≡ true
of_new m n k g x es e w =
    let parts = and_parts (eqb x.line.number k) (eqb x.age g) (and_parts (eqb x.number n) (eqb x.line.number k && eqb x.age g) e).1 in
    rw (eqb-true x.line.number k parts.0, eqb-true x.age g parts.1) w

line_of_new : (n l g : ℕ) (x : Waiting) → is_it n l g x ≡ true → x.line.number ≡ l
line_of_new n l g x e = eqb-true x.line.number l (and_parts (eqb x.line.number l) (eqb x.age g) (and_parts (eqb x.number n) (eqb x.line.number l && eqb x.age g) e).1).0

age_of_new : (n l g : ℕ) (x : Waiting) → is_it n l g x ≡ true → x.age ≡ g
age_of_new n l g x e = eqb-true x.age g (and_parts (eqb x.line.number l) (eqb x.age g) (and_parts (eqb x.number n) (eqb x.line.number l && eqb x.age g) e).1).1

pub waits_has : (n l g : ℕ) (es : List Waiting) → waits n l g es ≡ true → has_number n es ≡ true
waits_has n l g [] e = e
waits_has n l g (x ∷ es) e = ⊎_elim (λ here. or_left (eqb x.number n) (has_number n es) (and_parts (eqb x.number n) (eqb x.line.number l && eqb x.age g) here).0) (λ there. or_right (eqb x.number n) (has_number n es) (waits_has n l g es there)) (or_cases (is_it n l g x) (waits n l g es) e)

too_new : (b : Buffer) (turn : ℕ → Option ℕ) (s : SoundBuffer b turn) (n k g j f : ℕ) (x : Waiting) → waits n k g b.waiting ≡ true → is_it n j f x ≡ true → b.made < x.number → ⊥
too_new b turn s n k g j f x old new more = let least : n ≤ b.made = (s.waiting n (waits_has n k g b.waiting old)).1 in let same : x.number ≡ n = number_of_new n j f x new in omega arith

sound_joined : (o : Option ℕ) (line : Line) (b : Buffer) (turn : ℕ → Option ℕ) → entry_joined line.number b.age b.waiting ≡ o → SoundBuffer b turn
    → SoundBuffer (record { made = b.made + one_if_none o; age = b.age; waiting = entries_after_write o (next_entry line b) b.waiting }) turn
sound_joined (Some m) line b turn e s = record { waiting = λ n h. ((s.waiting n h).0, omega (arith, (s.waiting n h).1)); above = λ n less. s.above n (omega arith); single = s.single; unique = s.unique }
sound_joined None line b turn e s =
    let x : Waiting = next_entry line b in
    record {
      waiting = λ n h. ⊎_elim (λ old. ((s.waiting n old).0, omega (arith, (s.waiting n old).1))) (λ new. (s.above n (omega arith), omega arith)) (has_split n b.waiting x h);
      above = λ n less. s.above n (omega arith);
      single = λ n k g j f u w.
          ⊎_elim
          (λ old. ⊎_elim (λ also. s.single n k g j f old also) (λ new. absurd (too_new b turn s n k g j f x old new (omega arith))) (waits_split n j f b.waiting x w))
          (λ new. ⊎_elim (λ old. absurd (too_new b turn s n j f k g x old new (omega arith)))
          (λ also. (sym (line_of_new n k g x new) ∙ line_of_new n j f x also, sym (age_of_new n k g x new) ∙ age_of_new n j f x also)) (waits_split n j f b.waiting x w))
          (waits_split n k g b.waiting x u);
      unique = λ m n k g u w.
          ⊎_elim
          (λ old. ⊎_elim (λ also. s.unique m n k g old also) (λ new. absurd (joins_none m line.number b.age b.waiting e (of_new m n k g x b.waiting new old))) (waits_split n k g b.waiting x w))
          (λ new. ⊎_elim (λ old. absurd (joins_none n line.number b.age b.waiting e (of_new n m k g x b.waiting new old))) (λ also. sym (number_of_new m k g x new) ∙ number_of_new n k g x also) (waits_split n k g b.waiting x w))
          (waits_split m k g b.waiting x u);
    }

above_named : (b : Buffer) (turn : ℕ → Option ℕ) (s : SoundBuffer b turn) (m n : ℕ) → m ≡ n → b.made < n → has_number m b.waiting ≡ true → ⊥
above_named b turn s m n same less has = let least : m ≤ b.made = (s.waiting m has).1 in omega arith

-- an access of an outcome has an address
abbrev pub IsAddressed : Outcome → Type 0
IsAddressed (outcome.Access a) = a.address < 2 ^ 64
IsAddressed _ = Unit {0}

-- an own outcome leaves the entries sound
sound_own : (o : Outcome) (b : Buffer) (turn : ℕ → Option ℕ) (t : ℕ) → IsAddressed o → ((m : ℕ) → drains m o ≡ true → has_number m b.waiting ≡ true) → SoundBuffer b turn
    → SoundBuffer (buffer_after o b) (λ n. cond (drains n o) (Some t) (turn n))
sound_own (outcome.Access a) b turn t low named s =
    let line : (line_at a.address).number ≡ line_of a.address = line_at-number a.address low in
    let e : SoundBuffer (record { made = b.made + one_if_none (entry_joined (line_of a.address) b.age b.waiting); age = b.age; waiting = entries_after_write (entry_joined (line_of a.address) b.age b.waiting) (next_entry (line_at a.address) b) b.waiting }) turn =
    sound_joined (entry_joined (line_of a.address) b.age b.waiting) (line_at a.address) b turn (rw line refl) s in
    ⊎_elim
    (λ w. record { waiting = λ n. rw w (e.waiting n); above = λ n. rw w (e.above n); single = λ n k g j f. rw w (e.single n k g j f); unique = λ m n k g. rw w (e.unique m n k g) })
    (λ w. record { waiting = λ n. rw w (s.waiting n); above = λ n. rw w (s.above n); single = λ n k g j f. rw w (s.single n k g j f); unique = λ m n k g. rw w (s.unique m n k g) })
    (cases_Bool (is_plain_write a.kind))
sound_own outcome.NoAccess b turn t low named s = record { waiting = s.waiting; above = s.above; single = s.single; unique = s.unique }
sound_own (outcome.Filled x y z) b turn t low named s = record { waiting = s.waiting; above = s.above; single = s.single; unique = s.unique }
sound_own (outcome.Drained m k z) b turn t low named s = record {
  waiting = λ n h. let r = has_of_without m n b.waiting h in rw r.0 (s.waiting n r.1);
  above = λ n less. let apart : eqb m n ≡ false = ne_eqb m n (λ q. absurd (above_named b turn s m n q less (named m (eq-eqb m m refl)))) in rw apart (s.above n less);
  single = λ n k g j f u w. s.single n k g j f (waits_of_without m n k g b.waiting u) (waits_of_without m n j f b.waiting w);
  unique = λ x n k g u w. s.unique x n k g (waits_of_without m x k g b.waiting u) (waits_of_without m n k g b.waiting w);
}
sound_own (outcome.Taken x y z) b turn t low named s = record { waiting = s.waiting; above = s.above; single = s.single; unique = s.unique }
sound_own outcome.Done b turn t low named s = record { waiting = s.waiting; above = s.above; single = s.single; unique = s.unique }
sound_own (outcome.Polled x y z) b turn t low named s = record { waiting = s.waiting; above = s.above; single = s.single; unique = s.unique }

pub sound_step : (p : ℕ) (r : Record) (h : List Record) → IsAddressed r.outcome → ((m : ℕ) → is_of p r ≡ true → drains m r.outcome ≡ true → has_number m (buffer p h).waiting ≡ true) → SoundBuffer (buffer p h) (drained h p) → SoundBuffer (buffer p (r ∷ h)) (drained (r ∷ h) p)
sound_step p r h low named s =
    ⊎_elim
    (λ own.
    let e : SoundBuffer (buffer_after r.outcome (buffer p h)) (λ n. cond (drains n r.outcome) (Some (turns h + 1)) (drained h p n)) = sound_own r.outcome (buffer p h) (drained h p) (turns h + 1) low (λ m. named m own) s in
    record { waiting = λ n. rw own (e.waiting n); above = λ n. rw own (e.above n); single = λ n k g j f. rw own (e.single n k g j f); unique = λ m n k g. rw own (e.unique m n k g) })
    (λ foreign. record { waiting = λ n. rw foreign (s.waiting n); above = λ n. rw foreign (s.above n); single = λ n k g j f. rw foreign (s.single n k g j f); unique = λ m n k g. rw foreign (s.unique m n k g) })
    (cases_Bool (is_of p r))
