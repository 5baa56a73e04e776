-- What is reached from a read or fetch, by one number for each processor.
use Rattle.std.proofs.Common.{◌≡◌, ◌⊎◌, ℕ, zero, suc, ◌+◌, ◌<◌, ◌≤◌, Bool, true, false, ◌&&◌, eqb, ltb, List, length, sym, ◌∙◌, subst, arith, inl, inr, ⊎_elim}
use Rattle.std.specs.List.{list_any}
use Rattle.std.proofs.lemmas.Bool.{and_parts, and_from, or_cases, or_left, or_right, eqb-true, ltb-true, false≢true}
use Rattle.axp_access.specs.Kinds.{is_memory_write}
use Rattle.axp_access.specs.Numbering.{NumberedAccess, cpu_of}
use Rattle.axp_access.specs.Order.{Times, precedes}
use Rattle.axp_model.specs.Sources.{takes_bytes}
use Rattle.axp_laws.proofs.CauseMoments.{Among}
use Rattle.axp_check.specs.Loops.{leads, may_cause, gives_from}
use Rattle.axp_check.proofs.Chains.{any_gives, leads_on, leads_within}

-- w is the source of one of v's bytes
abbrev pub is_source : Times → List NumberedAccess → NumberedAccess → NumberedAccess → Bool
is_source t us w v = takes_bytes v && gives_from t us w v v.access.size 0

-- each read or fetch with a source behind its processor's number is not below its own processor's
abbrev pub IsClosed : Times → List NumberedAccess → (ℕ → ℕ) → Type 0
IsClosed t us least = (w v : NumberedAccess) → Among w us → Among v us → is_source t us w v ≡ true → is_memory_write w.access ≡ true → least (cpu_of w) < w.number → least (cpu_of v) ≤ v.number

-- what the numbers say of an access: a read or fetch has a source behind a number, a write is behind one
abbrev pub IsBehind : Times → List NumberedAccess → (ℕ → ℕ) → NumberedAccess → Type 0
IsBehind t us least v = ((w : NumberedAccess) × (Among w us × ((is_source t us w v ≡ true) × (least (cpu_of w) < w.number)))) ⊎ ((is_memory_write v.access ≡ true) × (least (cpu_of v) < v.number))

-- a source is a memory write, and no memory write takes bytes: facts of the items of a list whose
-- numbers are distinct
pub record AreKinds (t : Times) (us : List NumberedAccess) : Type 0 where
  pub writes : (w v : NumberedAccess) → Among w us → is_source t us w v ≡ true → is_memory_write w.access ≡ true
  pub takes : (v : NumberedAccess) → takes_bytes v ≡ true → is_memory_write v.access ≡ false

-- one step from what is behind, or from the read or fetch that was begun with
step : (t : Times) (us : List NumberedAccess) (least : ℕ → ℕ) → AreKinds t us → IsClosed t us least → (w v : NumberedAccess) → Among w us → (takes_bytes w ≡ true → least (cpu_of w) ≤ w.number) → (is_memory_write w.access ≡ true → least (cpu_of w) < w.number) → may_cause t us w v ≡ true → IsBehind t us least v
step t us least kinds closed w v among low high cause =
    ⊎_elim
    (λ (source : is_source t us w v ≡ true). inl (w, (among, (source, high (kinds.writes w v among source)))))
    (λ (ahead : (takes_bytes w && (is_memory_write v.access && precedes w v)) ≡ true).
    let a = and_parts (takes_bytes w) (is_memory_write v.access && precedes w v) ahead in
    let b = and_parts (is_memory_write v.access) (precedes w v) a.1 in
    let d = and_parts (eqb (cpu_of w) (cpu_of v)) (ltb w.number v.number) b.1 in
    let under = low a.0 in
    let less = ltb-true w.number v.number d.1 in
    inr (b.0, subst (λ p. least p < v.number) (eqb-true (cpu_of w) (cpu_of v) d.0) (omega (arith, under, less))))
    (or_cases (is_source t us w v) (takes_bytes w && (is_memory_write v.access && precedes w v)) cause)

pub reached_is_behind : (t : Times) (us : List NumberedAccess) (least : ℕ → ℕ) → AreKinds t us → IsClosed t us least → (r : NumberedAccess) → Among r us → takes_bytes r ≡ true → least (cpu_of r) ≤ r.number → (n : ℕ) (v : NumberedAccess) → leads (may_cause t us) us n r v ≡ true → IsBehind t us least v
reached_is_behind t us least kinds closed r here takes start zero v way = step t us least kinds closed r v here (λ e. start) (λ e. absurd (false≢true (sym (kinds.takes r takes) ∙ e))) way
reached_is_behind t us least kinds closed r here takes start (suc n) v way =
    ⊎_elim
    (λ (one : may_cause t us r v ≡ true). step t us least kinds closed r v here (λ e. start) (λ e. absurd (false≢true (sym (kinds.takes r takes) ∙ e))) one)
    (λ (more : list_any (λ w. leads (may_cause t us) us n r w && may_cause t us w v) us ≡ true).
    let w = any_gives (λ w. leads (may_cause t us) us n r w && may_cause t us w v) us more in
    let both = and_parts (leads (may_cause t us) us n r w.0) (may_cause t us w.0 v) w.1.1 in
    let behind = reached_is_behind t us least kinds closed r here takes start n w.0 both.0 in
    step t us least kinds closed w.0 v w.1.0 (low w.0 w.1.0 behind) (high w.0 behind) both.1)
    (or_cases (may_cause t us r v) (list_any (λ w. leads (may_cause t us) us n r w && may_cause t us w v) us) way) where
      low : (w : NumberedAccess) → Among w us → IsBehind t us least w → takes_bytes w ≡ true → least (cpu_of w) ≤ w.number
      low w among (inl source) e = closed source.0 w source.1.0 among source.1.1.0 (kinds.writes source.0 w source.1.0 source.1.1.0) source.1.1.1
      low w among (inr write) e = absurd (false≢true (sym (kinds.takes w e) ∙ write.0))

      high : (w : NumberedAccess) → IsBehind t us least w → is_memory_write w.access ≡ true → least (cpu_of w) < w.number
      high w (inl source) e = absurd (false≢true (sym (kinds.takes w (and_parts (takes_bytes w) (gives_from t us source.0 w w.access.size 0) source.1.1.0).0) ∙ e))
      high w (inr write) e = write.1

-- so a read or fetch that comes back to itself has a source behind its processor's number
pub on_cycle_shows : (t : Times) (us : List NumberedAccess) (least : ℕ → ℕ) → AreKinds t us → IsClosed t us least → (r : NumberedAccess) → Among r us → takes_bytes r ≡ true → least (cpu_of r) ≤ r.number → (n : ℕ) → leads (may_cause t us) us n r r ≡ true → (w : NumberedAccess) × (Among w us × ((is_source t us w r ≡ true) × (least (cpu_of w) < w.number)))
on_cycle_shows t us least kinds closed r here takes start n way =
    ⊎_elim
    (λ source. source)
    (λ write. absurd (false≢true (sym (kinds.takes r takes) ∙ write.0)))
    (reached_is_behind t us least kinds closed r here takes start n r way)

-- a processor's number is that of a read or fetch which is reached
pub record IsReached (t : Times) (us : List NumberedAccess) (r x : NumberedAccess) : Type 0 where
  pub among : Among x us
  pub takes : takes_bytes x ≡ true
  pub way : (x ≡ r) ⊎ ((k : ℕ) × (leads (may_cause t us) us k r x ≡ true))

-- and a source of r behind the number of its processor closes a cycle
pub shows_cycle : (t : Times) (us : List NumberedAccess) (r x w : NumberedAccess) → Among r us → Among w us → IsReached t us r x → is_source t us w r ≡ true → is_memory_write w.access ≡ true → precedes x w ≡ true → leads (may_cause t us) us (length us) r r ≡ true
shows_cycle t us r x w here among reached source writes first =
    let into : may_cause t us x w ≡ true = or_right (is_source t us x w) (takes_bytes x && (is_memory_write w.access && precedes x w)) (and_from (takes_bytes x) (is_memory_write w.access && precedes x w) reached.takes (and_from (is_memory_write w.access) (precedes x w) writes first)) in
    let last : may_cause t us w r ≡ true = or_left (is_source t us w r) (takes_bytes w && (is_memory_write r.access && precedes w r)) source in
    ⊎_elim
    (λ (one : x ≡ r). leads_within (may_cause t us) us 1 r r here (leads_on (may_cause t us) us 0 r w r among (subst (λ z. may_cause t us z w ≡ true) one into) last))
    (λ way. leads_within (may_cause t us) us (way.0 + 1 + 1) r r here (leads_on (may_cause t us) us (way.0 + 1) r w r among (leads_on (may_cause t us) us way.0 r x w reached.among way.1 into) last))
    reached.way
