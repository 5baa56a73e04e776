-- In every run the entries of one line leave in the order in which they were made.
use Rattle.std.proofs.Common.{◌≡◌, ℕ, zero, suc, ◌+◌, ◌/◌, ◌<◌, ◌≤◌, Bool, true, false, cond, List, [], ◌∷◌, arith, refl, sym, subst, ◌∙◌, Some, None, Option}
use Rattle.std.specs.Prelude.{slice_get}
use Rattle.std.specs.List.{remove}
use Rattle.axp_base.specs.declared.lines.TheConstants.{LINE_BYTES}
use Rattle.axp_wbuf.specs.Drains.{first_group, oldest_group}
use Rattle.axp_wbuf.specs.Pending.{AreInOrder, IsTidy, Pending, PrecedesAll, has_byte, is_at, made_by, merges, put_into, stored, takes, with_store}
use Rattle.axp_wbuf.specs.Runs.{Leaves, Stores, Closes, Run, Step, after_step, left_by, run}
use Rattle.axp_wbuf.proofs.Orders.{next_more, tidy_closed, tidy_none, tidy_stored, tidy_without}
use Rattle.axp_wbuf.proofs.Pairs.{first_oldest, line_of, made_at, no_entry, oldest_entry, precedes_at, same_entry}

-- an entry that left was made before this one, if both are of one line
abbrev Before : Pending → Pending → Type 0
Before d e = d.line ≡ e.line → d.number < e.number

abbrev BeforeAll : Pending → List Pending → Type 0
BeforeAll d [] = Unit {0}
BeforeAll d (e ∷ es) = Before d e × BeforeAll d es

-- each of these was made before this one, and is one of so many
abbrev AllBefore : List Pending → Pending → Type 0
AllBefore [] e = Unit {0}
AllBefore (d ∷ ds) e = Before d e × AllBefore ds e

-- those that left: each was made before what is kept, and left after those made before it
abbrev AreGone : ℕ → List Pending → List Pending → Type 0
AreGone made kept [] = Unit {0}
AreGone made kept (d ∷ ds) = ((d.number ≤ made) × BeforeAll d kept) × (AllBefore ds d × AreGone made kept ds)

before_put : (d : Pending) (group line address size value : ℕ) (new : Pending) (es : List Pending) → d.number < new.number → BeforeAll d es → BeforeAll d (put_into group line (with_store address size value) new es)
unfolding put_into
before_put d group line address size value new [] less h = (λ _. less, tt)
before_put d group line address size value new (e ∷ es) less h = by (is_at group line e) (before_put d group line address size value new es less h.1) where
  by : (b : Bool) → BeforeAll d (put_into group line (with_store address size value) new es) → BeforeAll d (cond b (with_store address size value e ∷ es) (e ∷ put_into group line (with_store address size value) new es))
  by true rest = (h.0, h.1)
  by false rest = (h.0, rest)

gone_put : (made next group line address size value : ℕ) (new : Pending) (es ds : List Pending) → made ≤ next → made < new.number → AreGone made es ds → AreGone next (put_into group line (with_store address size value) new es) ds
gone_put made next group line address size value new es [] more less h = tt
gone_put made next group line address size value new es (d ∷ ds) more less h =
    ((omega (arith, h.0.0, more), before_put d group line address size value new es (omega (arith, h.0.0, less)) h.0.1), (h.1.0, gone_put made next group line address size value new es ds more less h.1.1))

before_without : (d : Pending) (es : List Pending) (k : ℕ) → BeforeAll d es → BeforeAll d (remove es k)
before_without d [] zero h = tt
before_without d [] (suc k) h = tt
before_without d (e ∷ es) zero h = h.1
before_without d (e ∷ es) (suc k) h = (h.0, before_without d es k h.1)

gone_without : (made : ℕ) (es ds : List Pending) (k : ℕ) → AreGone made es ds → AreGone made (remove es k) ds
gone_without made es [] k h = tt
gone_without made es (d ∷ ds) k h = ((h.0.0, before_without d es k h.0.1), (h.1.0, gone_without made es ds k h.1.1))

before_at : (d : Pending) (es : List Pending) (k : ℕ) (e : Pending) → BeforeAll d es → slice_get es k ≡ Some e → Before d e
before_at d [] k e h is = absurd (no_entry e is)
before_at d (g ∷ gs) zero e h is = subst (Before d) (same_entry g e is) h.0
before_at d (g ∷ gs) (suc k) e h is = before_at d gs k e h.1 is

all_before : (made : ℕ) (es ds : List Pending) (k : ℕ) (e : Pending) → AreGone made es ds → slice_get es k ≡ Some e → AllBefore ds e
all_before made es [] k e h is = tt
all_before made es (d ∷ ds) k e h is = (before_at d es k e h.0.1 is, all_before made es ds k e h.1.1 is)

later_all : (e : Pending) (es : List Pending) → PrecedesAll e es → BeforeAll e es
later_all e [] h = tt
later_all e (f ∷ fs) h = (λ _. h.0.number, later_all e fs h.1)

-- what stays when entry k of the oldest group leaves was made after it, where it is of its line
stays_after : (made newest first : ℕ) (es : List Pending) (k : ℕ) (e : Pending) → AreInOrder made newest es → ((j : ℕ) (f : Pending) → slice_get es j ≡ Some f → first ≤ f.group) → slice_get es k ≡ Some e → e.group ≡ first → BeforeAll e (remove es k)
stays_after made newest first [] k e h least is oldest = absurd (no_entry e is)
stays_after made newest first (g ∷ gs) zero e h least is oldest = subst (λ x. BeforeAll x gs) (same_entry g e is) (later_all g gs h.1.0)
stays_after made newest first (g ∷ gs) (suc k) e h least is oldest =
    let p = precedes_at g gs k e h.1.0 is in
    let lowest = least 0 g refl in
    let one_group : g.group ≡ e.group = omega (arith, p.group, lowest, oldest) in
    (λ line. absurd (p.apart one_group (sym line)), stays_after made newest first gs k e h.1.1 (λ j f at. least (suc j) f at) is oldest)

-- what holds in every run
record Holds (r : Run) : Type 0 where
  tidy : IsTidy r.buffer
  gone : AreGone r.buffer.made r.buffer.kept r.gone

holds_stored : (address size value : ℕ) (r : Run) (b : Bool) → takes (address / LINE_BYTES) r.buffer ≡ b → Holds r → Holds (cond b (record { buffer = stored address size value r.buffer; gone = r.gone }) r)
holds_stored address size value r true is h =
    record {
      tidy = tidy_stored address size value r.buffer is h.tidy;
      gone = gone_put r.buffer.made _ r.buffer.newest (address / LINE_BYTES) address size value (made_by (r.buffer.made + 1) r.buffer.newest address size value) r.buffer.kept r.gone (next_more (merges (address / LINE_BYTES) r.buffer) r.buffer.made) (omega arith) h.gone;
    }
holds_stored address size value r false is h = h

holds_left : (k : ℕ) (r : Run) (o : Option Pending) → slice_get (oldest_group r.buffer.kept) k ≡ o → Holds r → Holds (left_by k r o)
holds_left k r None is h = h
holds_left k r (Some e) is h =
    let at = oldest_entry r.buffer.kept k e is in
    let made = made_at r.buffer.made r.buffer.newest r.buffer.kept k e h.tidy.order at.0 in
    record {
      tidy = tidy_without k r.buffer h.tidy;
      gone = (
        (made.number, stays_after r.buffer.made r.buffer.newest (first_group r.buffer.kept) r.buffer.kept k e h.tidy.order (λ j f is_f. first_oldest r.buffer.made r.buffer.newest r.buffer.kept j f h.tidy.order is_f) at.0 at.1),
        (all_before r.buffer.made r.buffer.kept r.gone k e h.gone at.0, gone_without r.buffer.made r.buffer.kept r.gone k h.gone),
      );
    }

holds_after : (step : Step) (r : Run) → Holds r → Holds (after_step step r)
holds_after (Stores address size value) r h = holds_stored address size value r (takes (address / LINE_BYTES) r.buffer) refl h
holds_after Closes r h = record { tidy = tidy_closed r.buffer h.tidy; gone = h.gone }
holds_after (Leaves k) r h = holds_left k r (slice_get (oldest_group r.buffer.kept) k) refl h

holds : (steps : List Step) → Holds (run steps)
holds [] = record { tidy = tidy_none; gone = tt }
holds (step ∷ steps) = holds_after step (run steps) (holds steps)

before_of_all : (ds : List Pending) (j : ℕ) (e f : Pending) → AllBefore ds e → slice_get ds j ≡ Some f → Before f e
before_of_all [] j e f h is = absurd (no_entry f is)
before_of_all (d ∷ ds) zero e f h is = subst (λ x. Before x e) (same_entry d f is) h.0
before_of_all (d ∷ ds) (suc j) e f h is = before_of_all ds j e f h.1 is

gone_pair : (made : ℕ) (kept ds : List Pending) (i j : ℕ) (e f : Pending) → AreGone made kept ds → i < j → slice_get ds i ≡ Some e → slice_get ds j ≡ Some f → Before f e
gone_pair made kept [] i j e f h less at_i at_j = absurd (no_entry e at_i)
gone_pair made kept (d ∷ ds) zero zero e f h less at_i at_j = absurd (omega (arith, less))
gone_pair made kept (d ∷ ds) zero (suc j) e f h less at_i at_j = subst (λ x. Before f x) (same_entry d e at_i) (before_of_all ds j d f h.1.0 at_j)
gone_pair made kept (d ∷ ds) (suc i) zero e f h less at_i at_j = absurd (omega (arith, less))
gone_pair made kept (d ∷ ds) (suc i) (suc j) e f h less at_i at_j = gone_pair made kept ds i j e f h.1.1 (omega (arith, less)) at_i at_j

pub gone_in_order : (steps : List Step) (i j line n : ℕ) (e f : Pending) → slice_get (run steps).gone i ≡ Some e → slice_get (run steps).gone j ≡ Some f → has_byte line n e ≡ true → has_byte line n f ≡ true → i < j → f.number < e.number
gone_in_order steps i j line n e f at_i at_j has_e has_f less =
    gone_pair (run steps).buffer.made (run steps).buffer.kept (run steps).gone i j e f (holds steps).gone less at_i at_j (line_of line n f has_f ∙ sym (line_of line n e has_e))
