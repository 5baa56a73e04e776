-- A search from a read or fetch: how its numbers begin, fall and end.
use Rattle.std.proofs.Common.{◌≡◌, ℕ, zero, suc, ◌+◌, ◌-◌, ◌<◌, ◌≤◌, Bool, true, false, ◌&&◌, ◌||◌, eqb, ltb, cond, length, Option, Some, None, IfSome, refl, sym, ap, ◌∙◌, subst, arith, inl, inr, ⊎_elim}
use Rattle.std.specs.Option.{option_map_or}
use Rattle.std.proofs.lemmas.Bool.{cases_Bool, and_parts, and_from, or_cases, or_left, or_right, eqb-true, ltb-true, lt-ltb, le-ltb, false≢true}
use Rattle.axp_base.specs.declared.processors.TheConstants.{MAX_CPUS}
use Rattle.axp_regs.specs.declared.asks.Kind.{Kind}
use Rattle.axp_regs.specs.declared.asks.Kind.TheVariants as kind
use Rattle.axp_access.specs.Kinds.{has_byte, is_conditional, is_fetch, is_memory_write, is_plain_write, is_read}
use Rattle.axp_access.specs.Lists.{Accesses, accesses_in, access_at, times_of}
use Rattle.axp_access.specs.Numbering.{NumberedAccess, cpu_of}
use Rattle.axp_access.specs.Order.{precedes}
use Rattle.axp_model.specs.Sources.{can_give, is_visible, source, takes_bytes}
use Rattle.axp_laws.proofs.CauseMoments.{Among, latest_among}
use Rattle.axp_check.specs.declared.reached.Reached.{Reached}
use Rattle.axp_check.specs.Loops.{gives_from, is_on_cycle, may_cause}
use Rattle.axp_check.specs.Reached.{IsClosedAt, IsClosedTo, IsReachedAs, IsReaching, has_source_behind, is_behind, least_of}
use Rattle.axp_check.proofs.Chains.{leads_on}
use Rattle.axp_check.proofs.Numbers.{among_at, number_names, one_of_number}
use Rattle.axp_check.proofs.Reaches.{AreKinds, IsClosed, IsReached, is_source, on_cycle_shows, shows_cycle}
use Rattle.axp_check.proofs.LoopSources.{any_source, source_that}

-- no memory write takes bytes
no_write : (k : Kind) (yes_ : Bool) → (is_read k || is_fetch k) ≡ true → (is_plain_write k || (is_conditional k && yes_)) ≡ false
no_write kind.Read yes_ e = refl
no_write kind.Locked yes_ e = refl
no_write kind.Fetch yes_ e = refl
no_write kind.Write yes_ e = absurd (false≢true e)
no_write kind.Conditional yes_ e = absurd (false≢true e)
no_write kind.Barrier yes_ e = absurd (false≢true e)
no_write kind.WriteBarrier yes_ e = absurd (false≢true e)
no_write kind.CodeBarrier yes_ e = absurd (false≢true e)
no_write kind.Signal yes_ e = absurd (false≢true e)
no_write kind.Poll yes_ e = absurd (false≢true e)
no_write kind.Console yes_ e = absurd (false≢true e)

pub are_kinds : (list : Accesses) → AreKinds (times_of list) (accesses_in list)
are_kinds list = record {
  writes = λ w v among is. writes w v v.access.size 0 among (and_parts (takes_bytes v) (gives_from (times_of list) (accesses_in list) w v v.access.size 0) is).1;
  takes = λ v takes. no_write v.access.kind v.access.yes takes;
} where
  writes : (w v : NumberedAccess) (n k : ℕ) → Among w (accesses_in list) → gives_from (times_of list) (accesses_in list) w v n k ≡ true → is_memory_write w.access ≡ true
  writes w v zero k among gives = absurd (false≢true gives)
  writes w v (suc n) k among gives =
      ⊎_elim
      (λ (here : option_map_or (λ u. eqb u.number w.number) (source (times_of list) (v.access.address + k) v (accesses_in list)) false ≡ true). by (source (times_of list) (v.access.address + k) v (accesses_in list)) refl here)
      (λ back. writes w v n (k + 1) among back)
      (or_cases (option_map_or (λ u. eqb u.number w.number) (source (times_of list) (v.access.address + k) v (accesses_in list)) false) (gives_from (times_of list) (accesses_in list) w v n (k + 1)) gives) where
        by : (o : Option NumberedAccess) → source (times_of list) (v.access.address + k) v (accesses_in list) ≡ o → option_map_or (λ u. eqb u.number w.number) o false ≡ true → is_memory_write w.access ≡ true
        by None e same = absurd (false≢true same)
        by (Some u) e same =
            let of_list = latest_among (times_of list) (can_give (times_of list) (v.access.address + k) v) (accesses_in list) u e in
            let write = (and_parts (is_memory_write u.access) (has_byte (v.access.address + k) u.access && is_visible (times_of list) u v) of_list.1).0 in
            subst (λ z. is_memory_write z.access ≡ true) (one_of_number list u w of_list.0 among (eqb-true u.number w.number same)) write

cpu_small : (u : NumberedAccess) → cpu_of u < MAX_CPUS
cpu_small u = ltb-true (cpu_of u) MAX_CPUS u.access.cpu.below

behind_at : (list : Accesses) (reached : Reached) (w : NumberedAccess) → Among w (accesses_in list) → is_behind list reached w.number ≡ ltb (least_of reached (cpu_of w)) w.number
behind_at list reached w among = ap (λ o. option_map_or (λ u. ltb (least_of reached (cpu_of u)) w.number) o false) (number_names list w among).found

none_behind : (list : Accesses) (reached : Reached) → is_behind list reached 0 ≡ false
none_behind list reached = by (access_at list 0) where
  by : (o : Option NumberedAccess) → option_map_or (λ w. ltb (least_of reached (cpu_of w)) 0) o false ≡ false
  by None = refl
  by (Some w) = le-ltb (least_of reached (cpu_of w)) 0 (omega arith)

-- closed by its numbers
closed_of : (list : Accesses) (reached : Reached) → IsClosedTo list reached (length list.items) → IsClosed (times_of list) (accesses_in list) (least_of reached)
closed_of list reached closed w v among also is writes less =
    let name = number_names list v also in
    let least = name.least in
    let most = name.most in
    let back : v.number - 1 + 1 ≡ v.number = omega (arith, least) in
    let here : IsClosedAt list reached v = (let at = closed (v.number - 1) (omega (arith, least, most)) in rw name.found at (subst (λ m. IfSome (access_at list m) (IsClosedAt list reached)) back at)) in
    here (any_source list (is_behind list reached) w v is (behind_at list reached w among ∙ lt-ltb (least_of reached (cpu_of w)) w.number less))

-- what is behind a number is reached over a read or fetch in front of it
record IsWay (list : Accesses) (r w : NumberedAccess) : Type 0 where
  read : NumberedAccess
  reached : IsReached (times_of list) (accesses_in list) r read
  first : precedes read w ≡ true

way_to : (list : Accesses) (reached : Reached) (r w : NumberedAccess) → IsReaching list reached r → Among w (accesses_in list) → is_behind list reached w.number ≡ true → IsWay list r w
way_to list reached r w reaching among behind =
    let less : least_of reached (cpu_of w) < w.number = ltb-true (least_of reached (cpu_of w)) w.number (sym (behind_at list reached w among) ∙ behind) in
    let most = (number_names list w among).most in
    ⊎_elim
    (λ (past : length list.items ≤ least_of reached (cpu_of w)). absurd (never (least_of reached (cpu_of w)) w.number (length list.items) less most past))
    (λ (as_ : IsReachedAs list r (cpu_of w) (least_of reached (cpu_of w))).
    let first = as_.first in
    let back : least_of reached (cpu_of w) - 1 + 1 ≡ least_of reached (cpu_of w) = omega (arith, first) in
    let of_list : Among as_.read (accesses_in list) = among_at list (least_of reached (cpu_of w) - 1) as_.read (omega (arith, first, less, most)) (subst (λ m. access_at list m ≡ Some as_.read) (sym back) as_.found) in
    let number = as_.number in
    record {
      read = as_.read;
      reached = record { among = of_list; takes = as_.takes; way = as_.way };
      first = and_from (eqb (cpu_of as_.read) (cpu_of w)) (ltb as_.read.number w.number) (let same = as_.cpu in rw same (eqb_same (cpu_of w))) (lt-ltb as_.read.number w.number (omega (arith, number, less)));
    })
    (reaching.each (cpu_of w) (cpu_small w)) where
      never : (a b c : ℕ) → a < b → b ≤ c → c ≤ a → ⊥
      never a b c less most past = omega (arith, less, most, past)

      eqb_same : (n : ℕ) → eqb n n ≡ true
      eqb_same n = grind arith

-- at its end a search tells whether its read or fetch is on a cycle
pub cycle_is : (list : Accesses) (reached : Reached) (r : NumberedAccess) → Among r (accesses_in list) → takes_bytes r ≡ true → IsReaching list reached r → IsClosedTo list reached (length list.items) → has_source_behind list reached r ≡ is_on_cycle (times_of list) (accesses_in list) r
cycle_is list reached r among takes reaching closed =
    ⊎_elim
    (λ (yes_ : has_source_behind list reached r ≡ true).
    let from = source_that list (is_behind list reached) r (none_behind list reached) yes_ in
    let way = way_to list reached r from.from reaching from.among from.passes in
    yes_ ∙ sym (shows_cycle (times_of list) (accesses_in list) r way.read from.from among from.among way.reached from.is ((are_kinds list).writes from.from r from.among from.is) way.first))
    (λ (no_ : has_source_behind list reached r ≡ false). ⊎_elim
    (λ (loop : is_on_cycle (times_of list) (accesses_in list) r ≡ true).
    let shown = on_cycle_shows (times_of list) (accesses_in list) (least_of reached) (are_kinds list) (closed_of list reached closed) r among takes reaching.start (length (accesses_in list)) loop in
    absurd (false≢true (sym no_ ∙ any_source list (is_behind list reached) shown.0 r shown.1.1.0 (behind_at list reached shown.0 shown.1.0 ∙ lt-ltb (least_of reached (cpu_of shown.0)) shown.0.number shown.1.1.1))))
    (λ none. no_ ∙ sym none)
    (cases_Bool (is_on_cycle (times_of list) (accesses_in list) r)))
    (cases_Bool (has_source_behind list reached r))

-- an access that is taken in is reached
pub reaching_more : (list : Accesses) (old new : Reached) (r v : NumberedAccess) → Among v (accesses_in list) → has_source_behind list old v ≡ true → v.number < least_of old (cpu_of v) → ((p : ℕ) → least_of new p ≡ cond (eqb (cpu_of v) p) v.number (least_of old p)) → IsReaching list old r → IsReaching list new r
reaching_more list old new r v among any less value reaching =
    record {
      start = ⊎_elim
          (λ (mine : eqb (cpu_of v) (cpu_of r) ≡ true).
          let start = reaching.start in
          let here : least_of new (cpu_of r) ≡ v.number = rw mine at (value (cpu_of r)) in
          let same = eqb-true (cpu_of v) (cpu_of r) mine in
          let under : v.number < least_of old (cpu_of r) = subst (λ p. v.number < least_of old p) same less in
          omega (arith, start, here, under))
          (λ (other : eqb (cpu_of v) (cpu_of r) ≡ false).
          let here : least_of new (cpu_of r) ≡ least_of old (cpu_of r) = rw other at (value (cpu_of r)) in
          rw here reaching.start)
          (cases_Bool (eqb (cpu_of v) (cpu_of r)));
      each = λ p small. ⊎_elim
          (λ (mine : eqb (cpu_of v) p ≡ true).
          let here : least_of new p ≡ v.number = rw mine at (value p) in
          inr (subst (IsReachedAs list r p) (sym here) (subst (λ q. IsReachedAs list r q v.number) (eqb-true (cpu_of v) p mine) taken)))
          (λ (other : eqb (cpu_of v) p ≡ false).
          let here : least_of new p ≡ least_of old p = rw other at (value p) in
          rw here (reaching.each p small))
          (cases_Bool (eqb (cpu_of v) p));
    } where
      taken : IsReachedAs list r (cpu_of v) v.number
      taken =
          let from = source_that list (is_behind list old) v (none_behind list old) any in
          let w = from.from in
          let cause = may_cause (times_of list) (accesses_in list) in
          let before = way_to list old r w reaching from.among from.passes in
          let x = before.read in
          let writes = (are_kinds list).writes w v from.among from.is in
          let into : cause x w ≡ true = or_right (is_source (times_of list) (accesses_in list) x w) (takes_bytes x && (is_memory_write w.access && precedes x w)) (and_from (takes_bytes x) (is_memory_write w.access && precedes x w) before.reached.takes (and_from (is_memory_write w.access) (precedes x w) writes before.first)) in
          let last : cause w v ≡ true = or_left (is_source (times_of list) (accesses_in list) w v) (takes_bytes w && (is_memory_write v.access && precedes w v)) from.is in
          record {
            read = v;
            number = refl;
            first = (number_names list v among).least;
            found = (number_names list v among).found;
            cpu = refl;
            takes = (and_parts (takes_bytes v) (gives_from (times_of list) (accesses_in list) w v v.access.size 0) from.is).0;
            way = inr (⊎_elim
                (λ (one : x ≡ r). (1, leads_on cause (accesses_in list) 0 r w v from.among (subst (λ z. cause z w ≡ true) one into) last))
                (λ way. (way.0 + 1 + 1, leads_on cause (accesses_in list) (way.0 + 1) r w v from.among (leads_on cause (accesses_in list) way.0 r x w before.reached.among way.1 into) last))
                before.reached.way);
          }

-- a search begins with its read or fetch alone
pub reaching_first : (list : Accesses) (new : Reached) (r : NumberedAccess) (most : ℕ) → Among r (accesses_in list) → takes_bytes r ≡ true → length list.items ≤ most → ((p : ℕ) → p < MAX_CPUS → least_of new p ≡ cond (eqb (cpu_of r) p) r.number most) → IsReaching list new r
reaching_first list new r most among takes past value =
    record {
      start = let here : least_of new (cpu_of r) ≡ r.number = (let at = value (cpu_of r) (cpu_small r) in let same : eqb (cpu_of r) (cpu_of r) ≡ true = grind arith in rw same at at) in omega (arith, here);
      each = λ p small. ⊎_elim
          (λ (mine : eqb (cpu_of r) p ≡ true).
          let here : least_of new p ≡ r.number = rw mine at (value p small) in
          inr (subst (IsReachedAs list r p) (sym here) (record { read = r; number = refl; first = (number_names list r among).least; found = (number_names list r among).found; cpu = eqb-true (cpu_of r) p mine; takes = takes; way = inl refl })))
          (λ (other : eqb (cpu_of r) p ≡ false).
          let here : least_of new p ≡ most = rw other at (value p small) in
          inl (omega (arith, here, past)))
          (cases_Bool (eqb (cpu_of r) p));
    }
