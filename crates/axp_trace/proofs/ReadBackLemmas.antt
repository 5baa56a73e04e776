-- A line is read as an event exactly where it is its text.
use Rattle.std.proofs.Common.{◌≡◌, ℕ, ◌*◌, ◌<◌, ◌↔◌, nat_lt, ◌&&◌, true, List, ◌∷◌, codes, decimal, Option, Some, None, refl, sym, ap, ◌∙◌, arith, ⊎_elim}
use Rattle.std.specs.Str.{bytes_eq}
use Rattle.std.proofs.lemmas.Bool.{cases_Bool, and_parts, and_from, lt-ltb, ltb-true}
use Rattle.std.proofs.lemmas.Slice.Eq.{bytes_eq-Decides}
use Rattle.axp_base.specs.Cpus.{cpu_number}
use Rattle.axp_base.specs.Lines.{line_number}
use Rattle.axp_base.specs.declared.lines.Bank.{Bank}
use Rattle.axp_base.specs.declared.lines.Bank.TheVariants.{Even, Odd, Code}
use Rattle.axp_base.specs.declared.lines.Line.{Line}
use Rattle.axp_base.specs.declared.lines.TheConstants.{LINE_BYTES}
use Rattle.axp_access.specs.declared.Act.{Act}
use Rattle.axp_access.specs.declared.Act.TheVariants.{Step, Fill, Drain, Take, Drop, Poll, Tick}
use Rattle.axp_access.specs.declared.Event.{Event}
use Rattle.axp_access.specs.declared.TheConstants.{MAX_DRAINS}
use Rattle.axp_access.specs.Spelling.{IsLine, IsNamed}
use Rattle.axp_trace.specs.Digits.{number_of}
use Rattle.axp_trace.specs.Lines.{act_text, event_text}
use Rattle.axp_trace.specs.Fields.{words_of}
use Rattle.axp_trace.specs.Reading.{drain_in, drop_by, act_in, event_by, event_in, event_if, event_of}
use Rattle.axp_trace.proofs.DigitLemmas.{decimal_back}
use Rattle.axp_trace.proofs.LineLemmas.{high_decimal}
use Rattle.axp_trace.proofs.ActNameLemmas.{named_event}
use Rattle.axp_trace.proofs.ReadingLemmas.{words_of-begin}
use Rattle.axp_trace.proofs.WordLemmas.{high_word, words_of-decimal, words_of-hex, address_back, cpu_back}

pub same_bytes : (xs : List ℕ) → bytes_eq xs xs ≡ true
same_bytes xs = (bytes_eq-Decides xs xs).1 refl

drain_back : (k : ℕ) → k < MAX_DRAINS → drain_in (number_of (decimal k)) ≡ Some (Drain k)
drain_back k small = ap drain_in (decimal_back k (omega arith)) ∙ rw (lt-ltb k MAX_DRAINS small) refl

-- a drop's words mean the drop
drop_back : (b : Bank) (l : Line) → IsLine l → act_in (words_of (act_text (Drop b l))) ≡ Some (Drop b l)
unfolding act_text
drop_back Even l h = ap (λ ws. act_in (codes "drop" ∷ codes "d0" ∷ ws)) (words_of-hex 8 (line_number l * LINE_BYTES)) ∙ ap (drop_by (Some Even)) (address_back l h)
drop_back Odd l h = ap (λ ws. act_in (codes "drop" ∷ codes "d1" ∷ ws)) (words_of-hex 8 (line_number l * LINE_BYTES)) ∙ ap (drop_by (Some Odd)) (address_back l h)
drop_back Code l h = ap (λ ws. act_in (codes "drop" ∷ codes "i" ∷ ws)) (words_of-hex 8 (line_number l * LINE_BYTES)) ∙ ap (drop_by (Some Code)) (address_back l h)

-- an act's words mean the act
act_back : (a : Act) → IsNamed a → act_in (words_of (act_text a)) ≡ Some a
unfolding act_text
act_back Step h = refl
act_back Fill h = refl
act_back (Drain k) h = ap (λ ws. act_in (codes "drain" ∷ ws)) (words_of-decimal k) ∙ drain_back k h
act_back (Take Even) h = refl
act_back (Take Odd) h = refl
act_back (Take Code) h = absurd h
act_back (Drop b l) h = drop_back b l h
act_back Poll h = refl
act_back Tick h = refl

event_words : (e : Event) → words_of (event_text e) ≡ decimal (cpu_number e.cpu) ∷ words_of (act_text e.act)
unfolding event_text
event_words e = words_of-begin (decimal (cpu_number e.cpu)) (act_text e.act) (high_word (decimal (cpu_number e.cpu)) (high_decimal (cpu_number e.cpu)))

-- an event's words mean the event
event_in_back : (e : Event) → IsNamed e.act → event_in (words_of (event_text e)) ≡ Some e
event_in_back e named =
    let act = act_in (words_of (act_text e.act)) in
    ap event_in (event_words e)
    ∙ ap (λ cpu. event_by cpu act) (cpu_back e.cpu)
    ∙ ap (λ a. event_by (Some e.cpu) a) (act_back e.act named)

kept_event : (cpus : ℕ) (line : List ℕ) (o : Option Event) (e : Event) → event_if cpus line o ≡ Some e → (line ≡ event_text e) × ((cpu_number e.cpu < cpus) × (o ≡ Some e))
kept_event cpus line None e h = cc
kept_event cpus line (Some g) e h = ⊎_elim
    (λ yes.
    let same : Some g ≡ Some e = rw yes at h in
    let it : g ≡ e = cc in
    let parts = and_parts (nat_lt (cpu_number g.cpu) cpus) (bytes_eq (event_text g) line) yes in
    rw (← it) (sym ((bytes_eq-Decides (event_text g) line).0 parts.1), (ltb-true (cpu_number g.cpu) cpus parts.0, refl)))
    (λ no. let other : None ≡ Some e = rw no at h in cc)
    (cases_Bool (nat_lt (cpu_number g.cpu) cpus && bytes_eq (event_text g) line))

pub event_back : (cpus : ℕ) (e : Event) → cpu_number e.cpu < cpus → IsNamed e.act → event_of cpus (event_text e) ≡ Some e
unfolding event_of
event_back cpus e below named =
    ap (event_if cpus (event_text e)) (event_in_back e named)
    ∙ rw (and_from (nat_lt (cpu_number e.cpu) cpus) (bytes_eq (event_text e) (event_text e)) (lt-ltb (cpu_number e.cpu) cpus below) (same_bytes (event_text e))) refl

pub event_is_text : (cpus : ℕ) (line : List ℕ) (e : Event) → (event_of cpus line ≡ Some e) ↔ ((line ≡ event_text e) × (cpu_number e.cpu < cpus) × IsNamed e.act)
unfolding event_of
event_is_text cpus line e = (
  λ h. let kept = kept_event cpus line (event_in (words_of line)) e h in (kept.0, kept.1.0, named_event (words_of line) e kept.1.1),
  λ h. ap (event_of cpus) h.0 ∙ event_back cpus e h.1 h.2,
)
