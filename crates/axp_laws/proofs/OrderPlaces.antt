-- Each access to memory has a place, and none stands above the turn count.
use Rattle.std.proofs.Common.{true, false, ℕ, ◌≤◌, ◌≡◌, ⊎_elim, Bool, ◌&&◌, ◌||◌, List, [], ◌∷◌, ◌++◌, Option, Some, None, refl, sym, arith}
use Rattle.std.specs.List.{AllByRecursion}
use Rattle.std.proofs.lemmas.Bool.{and_parts, or_cases, false≢true}
use Rattle.axp_regs.specs.declared.asks.Kind.{Kind}
use Rattle.axp_regs.specs.declared.asks.Kind.TheVariants as kind
use Rattle.axp_access.specs.declared.Place.{Place}
use Rattle.axp_access.specs.declared.Place.TheVariants.{At, Entry, Absent}
use Rattle.axp_access.specs.declared.Record.{Record}
use Rattle.axp_access.specs.Kinds.{is_read, is_fetch, is_memory_write}
use Rattle.axp_base.specs.Lines.{line_of}
use Rattle.axp_model.specs.Turns.{turns, drained}
use Rattle.axp_model.specs.Accesses.{accesses, times}
use Rattle.axp_access.specs.Numbering.{NumberedAccess}
use Rattle.axp_access.specs.Order.{spot, spot_at, key}
use Rattle.axp_model.specs.Issue.{in_memory, share_a_byte, AllPairs}
use Rattle.axp_model.specs.Outcomes.{IsRun}
use Rattle.axp_model.specs.Processors.{Processors, AreInLine}
use Rattle.axp_laws.specs.OrderLaws.{StandsBy}
use Rattle.axp_model.specs.Location.{IsLocated, is_placed}
use Rattle.axp_laws.proofs.RunFacts.{Known, KnownItem, PairOk, AtMost}
use Rattle.axp_laws.proofs.OrderCounts.{AtMostO, drained_most}
use Rattle.axp_laws.proofs.OrderKeys.{before_total}
use Rattle.axp_laws.proofs.OrderCases.{most_of}
use Rattle.axp_laws.proofs.RunRecords.{run_fits}
use Rattle.axp_laws.proofs.RunSteps.{kept, pairs_map, each_map}
use Rattle.axp_laws.proofs.SourceValues.{read_at_place}
use Rattle.axp_laws.proofs.SourceForwarded.{mem_placed}

-- a read or fetch has a place
read_placed : (k : Kind) (p l g : ℕ) (at : Place) (h : List Record) → (is_read k || is_fetch k) ≡ true → Known k p l g at h → (spot (times h) p at).placed ≡ true
read_placed k p l g at h e known = let placed = read_at_place k p l g at h e known in rw placed.1 refl

-- and so has every access to memory
memory_placed : (h : List Record) (u : NumberedAccess) → KnownItem h u → in_memory u.access ≡ true → is_placed (times h) u ≡ true
memory_placed h u known e =
    ⊎_elim
    (λ reads. read_placed u.access.kind u.access.cpu.number (line_of u.access.address) u.parts u.access.place h (first (is_read u.access.kind) (is_fetch u.access.kind) reads) known.known)
    (λ others. ⊎_elim
    (λ writes. mem_placed u.access.kind u.access.cpu.number (line_of u.access.address) u.parts u.access.yes u.access.place h writes known.known)
    (λ fetches. read_placed u.access.kind u.access.cpu.number (line_of u.access.address) u.parts u.access.place h (second (is_read u.access.kind) (is_fetch u.access.kind) fetches) known.known)
    (or_cases (is_memory_write u.access) (is_fetch u.access.kind) others))
    (or_cases (is_read u.access.kind) (is_memory_write u.access || is_fetch u.access.kind) e) where
      first : (a b : Bool) → a ≡ true → a || b ≡ true
      first a b e = rw e refl

      second : (a b : Bool) → b ≡ true → a || b ≡ true
      second true b e = refl
      second false b e = e

located : (h : List Record) (u v : NumberedAccess) → KnownItem h u → KnownItem h v → PairOk (times h) u v → IsLocated (times h) u v
located h u v ku kv ok meets writes =
    let both = and_parts (in_memory u.access) (in_memory v.access) (and_parts (in_memory u.access && in_memory v.access) (share_a_byte u.access.address u.access.size v.access.address v.access.size) meets).0 in
    let first = ok.first in
    before_total (key (times h) u) (key (times h) v) (memory_placed h u ku both.0) (memory_placed h v kv both.1) (λ who number. omega (arith, first, number))

pub run_located : (image : ℕ → ℕ) (ps : Processors) (h : List Record) → AreInLine ps → IsRun image ps h → AllPairs (IsLocated (times h)) (accesses h)
run_located image ps h inside run =
    let k = kept h (run_fits image ps h inside run) in
    pairs_map (KnownItem h) (PairOk (times h)) (IsLocated (times h)) (accesses h) (λ u v ku kv ok. located h u v ku kv ok) k.items k.pairs

entry_by : (n : ℕ) (o : Option ℕ) → AtMostO n o → (spot_at o).last ≡ false → (spot_at o).place ≤ n
entry_by n None most e = absurd (false≢true (sym e))
entry_by n (Some t) most e = most

tight_by : (p n : ℕ) (at : Place) (h : List Record) → AtMost n at → (spot (times h) p at).place ≤ n
tight_by p n (At t) h most = most
tight_by p n (Entry m) h most = absurd most
tight_by p n Absent h most = absurd most

pub stands_by : (k : Kind) (p l g : ℕ) (at : Place) (h : List Record) → Known k p l g at h → (spot (times h) p at).placed ≡ true → (spot (times h) p at).last ≡ false → (spot (times h) p at).place ≤ turns h
stands_by kind.Write p l g (Entry n) h known placed e = entry_by (turns h) (drained h p n) (drained_most p n h) e
stands_by kind.Write p l g (At t) h known placed e = absurd known
stands_by kind.Write p l g Absent h known placed e = absurd known
stands_by kind.WriteBarrier p l g at h known placed e = let never : false ≡ true = rw known at placed in cc
stands_by k p l g at h known placed e = tight_by p (turns h) at h (most_of k p l g at h refl known)

pub run_bounded : (image : ℕ → ℕ) (ps : Processors) (h : List Record) → AreInLine ps → IsRun image ps h → AllByRecursion (StandsBy (times h) (turns h)) (accesses h)
run_bounded image ps h inside run =
    each_map (KnownItem h) (StandsBy (times h) (turns h)) (accesses h) (λ u ku. stands_by u.access.kind u.access.cpu.number (line_of u.access.address) u.parts u.access.place h ku.known) (kept h (run_fits image ps h inside run)).items

pub run_prefix : (image : ℕ → ℕ) (ps : Processors) (more h : List Record) → IsRun image ps (more ++ h) → IsRun image ps h
run_prefix image ps [] h run = run
run_prefix image ps (r ∷ more) h run = run_prefix image ps more h run.2
