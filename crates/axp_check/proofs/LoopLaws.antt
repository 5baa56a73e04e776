-- The test for a causal loop says in the memory model's words that no value came from itself.
use Rattle.std.proofs.Common.{◌≡◌, ◌↔◌, ℕ, zero, suc, ◌+◌, ◌-◌, ◌<◌, ◌≤◌, Bool, true, false, ◌&&◌, eqb, ltb, leb, List, [], ◌∷◌, ◌++◌, length, Option, Some, None, refl, sym, ap, ◌∙◌, arith, inl, inr, ⊎_elim}
use Rattle.std.specs.List.{Contains, list_any}
use Rattle.std.specs.Option.{option_map, option_map_or}
use Rattle.std.proofs.lemmas.Bool.{cases_Bool, and_parts, and_from, or_cases, or_left, or_right, eqb-true, leb-true, le-leb, ltb-true, lt-ltb, false≢true}
use Rattle.axp_access.specs.Kinds.{is_memory_write}
use Rattle.axp_access.specs.Lists.{Accesses, accesses_in, times_of}
use Rattle.axp_access.specs.Numbering.{NumberedAccess}
use Rattle.axp_access.specs.Order.{Times, precedes}
use Rattle.axp_model.specs.Sources.{can_give, source, takes_bytes}
use Rattle.axp_laws.proofs.CauseMoments.{Among, among_of, latest_among}
use Rattle.axp_laws.proofs.PollSignals.{contains_of}
use Rattle.axp_order.specs.Oldest.{oldest_that}
use Rattle.axp_check.specs.Loops.{IsChainIn, MayCauseIn, gives_from, is_on_cycle, leads, loop_fault, may_cause}
use Rattle.axp_check.proofs.Candidates.{none_that}
use Rattle.axp_check.proofs.Chains.{any_gives, leads_join, leads_within}
use Rattle.axp_check.proofs.Numbers.{one_of_number}
use Rattle.axp_check.proofs.Reaches.{is_source}

-- the source of one of n bytes from byte k on gives it
gives_at : (t : Times) (us : List NumberedAccess) (u v : NumberedAccess) (n k j : ℕ) → j < n → source t (v.access.address + (k + j)) v us ≡ Some u → gives_from t us u v n k ≡ true
gives_at t us u v zero k j less e = absurd (never j less) where
  never : (m : ℕ) → m < 0 → ⊥
  never m less = omega (arith, less)
gives_at t us u v (suc n) k zero less e =
    let same : k + 0 ≡ k = omega arith in
    let here : source t (v.access.address + k) v us ≡ Some u = rw same at e in
    let one : eqb u.number u.number ≡ true = grind arith in
    or_left (option_map_or (λ w. eqb w.number u.number) (source t (v.access.address + k) v us) false) (gives_from t us u v n (k + 1)) (rw here one)
gives_at t us u v (suc n) k (suc j) less e =
    let sum : k + suc j ≡ k + 1 + j = omega arith in
    or_right (option_map_or (λ w. eqb w.number u.number) (source t (v.access.address + k) v us) false) (gives_from t us u v n (k + 1)) (gives_at t us u v n (k + 1) j (omega (arith, less)) (rw sum at e))

-- a cause in the model's words is one by the test
test_of_cause : (t : Times) (us : List NumberedAccess) (u v : NumberedAccess) → MayCauseIn t us u v → may_cause t us u v ≡ true
test_of_cause t us u v (inl from) =
    let at = from.byte.0 in
    let has = and_parts (leb v.access.address from.byte.0) (ltb from.byte.0 (v.access.address + v.access.size)) from.byte.1 in
    let low = leb-true v.access.address from.byte.0 has.0 in
    let high = ltb-true from.byte.0 (v.access.address + v.access.size) has.1 in
    let same : v.access.address + (0 + (at - v.access.address)) ≡ at = omega (arith, low) in
    or_left (is_source t us u v) (takes_bytes u && (is_memory_write v.access && precedes u v)) (and_from (takes_bytes v) (gives_from t us u v v.access.size 0) from.takes (gives_at t us u v v.access.size 0 (at - v.access.address) (omega (arith, low, high)) (rw same from.byte.2)))
test_of_cause t us u v (inr into) = or_right (is_source t us u v) (takes_bytes u && (is_memory_write v.access && precedes u v)) (and_from (takes_bytes u) (is_memory_write v.access && precedes u v) into.takes (and_from (is_memory_write v.access) (precedes u v) into.writes into.first))

-- the byte of which u is the source
record GivesByte (t : Times) (us : List NumberedAccess) (u v : NumberedAccess) (n k : ℕ) : Type 0 where
  byte : ℕ
  least : k ≤ byte
  most : byte < k + n
  is : source t (v.access.address + byte) v us ≡ Some u

byte_of_gives : (list : Accesses) (u v : NumberedAccess) (n k : ℕ) → Among u (accesses_in list) → gives_from (times_of list) (accesses_in list) u v n k ≡ true → GivesByte (times_of list) (accesses_in list) u v n k
byte_of_gives list u v zero k among gives = absurd (false≢true gives)
byte_of_gives list u v (suc n) k among gives =
    ⊎_elim
    (λ (here : option_map_or (λ w. eqb w.number u.number) (source (times_of list) (v.access.address + k) v (accesses_in list)) false ≡ true). by (source (times_of list) (v.access.address + k) v (accesses_in list)) refl here)
    (λ (back : gives_from (times_of list) (accesses_in list) u v n (k + 1) ≡ true).
    let rest = byte_of_gives list u v n (k + 1) among back in
    let least = rest.least in
    let most = rest.most in
    record { byte = rest.byte; least = omega (arith, least); most = omega (arith, most); is = rest.is })
    (or_cases (option_map_or (λ w. eqb w.number u.number) (source (times_of list) (v.access.address + k) v (accesses_in list)) false) (gives_from (times_of list) (accesses_in list) u v n (k + 1)) gives) where
      by : (o : Option NumberedAccess) → source (times_of list) (v.access.address + k) v (accesses_in list) ≡ o → option_map_or (λ w. eqb w.number u.number) o false ≡ true → GivesByte (times_of list) (accesses_in list) u v (suc n) k
      by None e same = absurd (false≢true same)
      by (Some w) e same =
          let of_list = (latest_among (times_of list) (can_give (times_of list) (v.access.address + k) v) (accesses_in list) w e).0 in
          record { byte = k; least = omega arith; most = omega arith; is = e ∙ ap (λ z. Some z) (one_of_number list w u of_list among (eqb-true w.number u.number same)) }

-- a cause by the test is one in the model's words
cause_of_test : (list : Accesses) (u v : NumberedAccess) → Among u (accesses_in list) → Among v (accesses_in list) → may_cause (times_of list) (accesses_in list) u v ≡ true → MayCauseIn (times_of list) (accesses_in list) u v
cause_of_test list u v among also cause =
    ⊎_elim
    (λ (source : is_source (times_of list) (accesses_in list) u v ≡ true).
    let both = and_parts (takes_bytes v) (gives_from (times_of list) (accesses_in list) u v v.access.size 0) source in
    let byte = byte_of_gives list u v v.access.size 0 among both.1 in
    let most = byte.most in
    inl (record { known = contains_of (accesses_in list) v also; takes = both.0; byte = (v.access.address + byte.byte, and_from (leb v.access.address (v.access.address + byte.byte)) (ltb (v.access.address + byte.byte) (v.access.address + v.access.size)) (le-leb v.access.address (v.access.address + byte.byte) (omega arith)) (lt-ltb (v.access.address + byte.byte) (v.access.address + v.access.size) (omega (arith, most))), byte.is) }))
    (λ (ahead : (takes_bytes u && (is_memory_write v.access && precedes u v)) ≡ true).
    let a = and_parts (takes_bytes u) (is_memory_write v.access && precedes u v) ahead in
    let b = and_parts (is_memory_write v.access) (precedes u v) a.1 in
    inr (record { takes = a.0; writes = b.0; first = b.1 }))
    (or_cases (is_source (times_of list) (accesses_in list) u v) (takes_bytes u && (is_memory_write v.access && precedes u v)) cause)

-- so a chain leads to its end
chain_leads : (t : Times) (us : List NumberedAccess) (u : NumberedAccess) (ws : List NumberedAccess) (v : NumberedAccess) → IsChainIn t us u ws v → (k : ℕ) × (leads (may_cause t us) us k u v ≡ true)
chain_leads t us u [] v chain = (0, test_of_cause t us u v chain)
chain_leads t us u (w ∷ ws) v chain =
    let rest = chain_leads t us w ws v chain.1.1 in
    leads_join (may_cause t us) us 0 rest.0 u w v (among_of us w chain.0) (test_of_cause t us u w chain.1.0) rest.1

chain_more : (t : Times) (us : List NumberedAccess) (u : NumberedAccess) (ws : List NumberedAccess) (w v : NumberedAccess) → IsChainIn t us u ws w → Contains us w → MayCauseIn t us w v → IsChainIn t us u (ws ++ w ∷ []) v
chain_more t us u [] w v chain inside last = (inside, (chain, last))
chain_more t us u (x ∷ ws) w v chain inside last = (chain.0, (chain.1.0, chain_more t us x ws w v chain.1.1 inside last))

-- and what leads is a chain
leads_chain : (list : Accesses) (n : ℕ) (u v : NumberedAccess) → Among u (accesses_in list) → Among v (accesses_in list) → leads (may_cause (times_of list) (accesses_in list)) (accesses_in list) n u v ≡ true → (ws : List NumberedAccess) × IsChainIn (times_of list) (accesses_in list) u ws v
leads_chain list zero u v among also way = ([], cause_of_test list u v among also way)
leads_chain list (suc n) u v among also way =
    ⊎_elim
    (λ (one : may_cause (times_of list) (accesses_in list) u v ≡ true). ([], cause_of_test list u v among also one))
    (λ (more : list_any (λ w. leads (may_cause (times_of list) (accesses_in list)) (accesses_in list) n u w && may_cause (times_of list) (accesses_in list) w v) (accesses_in list) ≡ true).
    let w = any_gives (λ w. leads (may_cause (times_of list) (accesses_in list)) (accesses_in list) n u w && may_cause (times_of list) (accesses_in list) w v) (accesses_in list) more in
    let both = and_parts (leads (may_cause (times_of list) (accesses_in list)) (accesses_in list) n u w.0) (may_cause (times_of list) (accesses_in list) w.0 v) w.1.1 in
    let front = leads_chain list n u w.0 among w.1.0 both.0 in
    (front.0 ++ w.0 ∷ [], chain_more (times_of list) (accesses_in list) u front.0 w.0 v front.1 (contains_of (accesses_in list) w.0 w.1.0) (cause_of_test list w.0 v w.1.0 also both.1)))
    (or_cases (may_cause (times_of list) (accesses_in list) u v) (list_any (λ w. leads (may_cause (times_of list) (accesses_in list)) (accesses_in list) n u w && may_cause (times_of list) (accesses_in list) w v) (accesses_in list)) way)

-- an access is on a cycle where a chain comes back to it
pub on_cycle_exactly : (list : Accesses) (u : NumberedAccess) → Contains (accesses_in list) u → (is_on_cycle (times_of list) (accesses_in list) u ≡ true) ↔ ((ws : List NumberedAccess) × IsChainIn (times_of list) (accesses_in list) u ws u)
on_cycle_exactly list u inside =
    let among = among_of (accesses_in list) u inside in (
      (λ loop. leads_chain list (length (accesses_in list)) u u among among loop),
      (λ chain. let way = chain_leads (times_of list) (accesses_in list) u chain.0 u chain.1 in leads_within (may_cause (times_of list) (accesses_in list)) (accesses_in list) way.0 u u among way.1),
    )

-- where each fails, none is the oldest that passes
none_of : (test : NumberedAccess → Bool) (us : List NumberedAccess) → ((u : NumberedAccess) → Among u us → test u ≡ false) → oldest_that test us ≡ None
none_of test [] fails = refl
none_of test (u ∷ us) fails = rw (none_of test us (λ v among. fails v (inr among)), fails u (inl refl)) refl

-- no access is on a cycle exactly where no chain of causes comes back to where it began
pub no_loop : (list : Accesses) → (oldest_that (is_on_cycle (times_of list) (accesses_in list)) (accesses_in list) ≡ None) ↔ ((u : NumberedAccess) (ws : List NumberedAccess) → Contains (accesses_in list) u → IsChainIn (times_of list) (accesses_in list) u ws u → ⊥)
no_loop list = (
  (λ none u ws inside chain. absurd (false≢true (sym (none_that (is_on_cycle (times_of list) (accesses_in list)) (accesses_in list) u none (among_of (accesses_in list) u inside)) ∙ (on_cycle_exactly list u inside).1 (ws, chain)))),
  (λ free. none_of (is_on_cycle (times_of list) (accesses_in list)) (accesses_in list) (λ u among. ⊎_elim
      (λ (loop : is_on_cycle (times_of list) (accesses_in list) u ≡ true). let inside = contains_of (accesses_in list) u among in let chain = (on_cycle_exactly list u inside).0 loop in absurd (free u chain.0 inside chain.1))
      (λ no_. no_)
      (cases_Bool (is_on_cycle (times_of list) (accesses_in list) u)))),
)

-- so there is no fault
pub no_fault : (list : Accesses) → (loop_fault (times_of list) (accesses_in list) ≡ None) ↔ ((u : NumberedAccess) (ws : List NumberedAccess) → Contains (accesses_in list) u → IsChainIn (times_of list) (accesses_in list) u ws u → ⊥)
no_fault list = (
  (λ none. (no_loop list).0 (unmapped (oldest_that (is_on_cycle (times_of list) (accesses_in list)) (accesses_in list)) none)),
  (λ free. ap (option_map {U = ℕ × ℕ} (λ u. (u.number, u.number))) ((no_loop list).1 free)),
) where
  unmapped : (o : Option NumberedAccess) → option_map {U = ℕ × ℕ} (λ u. (u.number, u.number)) o ≡ None → o ≡ None
  unmapped None e = refl
  unmapped (Some u) e = absurd cc
