-- What an act leaves of a processor's entries, and of what it did since its last Step.
use Rattle.std.proofs.Common.{◌≡◌, ℕ, ◌+◌, ◌≤◌, Bool, true, false, cond, List, [], ◌∷◌, length, slice_get, Option, Some, None, refl, sym, ap, ◌∙◌, arith}
use Rattle.std.proofs.lemmas.List.Edits.{length-remove}
use Rattle.std.proofs.lemmas.Option.{same_Some, slice_get_within}
use Rattle.axp_base.specs.Lines.{line_number, data_bank, line_numbered}
use Rattle.axp_base.specs.declared.lines.Bank.{Bank}
use Rattle.axp_base.specs.declared.lines.Bank.TheVariants.{Even, Odd, Code}
use Rattle.axp_base.specs.declared.lines.Line.{Line}
use Rattle.axp_bank.specs.declared.copies.LineCopy.{LineCopy}
use Rattle.axp_line.specs.declared.messages.Reply.{Reply}
use Rattle.axp_line.specs.declared.messages.Reply.TheVariants as reply
use Rattle.axp_regs.specs.declared.asks.Kind.{Kind}
use Rattle.axp_regs.specs.declared.asks.Kind.TheVariants as kind
use Rattle.axp_access.specs.declared.Act.{Act}
use Rattle.axp_access.specs.declared.Act.TheVariants as act
use Rattle.axp_access.specs.declared.Intent.{Intent}
use Rattle.axp_access.specs.declared.Wanted.{Wanted}
use Rattle.axp_wbuf.specs.Drains.{oldest_group, without}
use Rattle.axp_wbuf.specs.Pending.{Buffer, Pending, is_at, put_into}
use Rattle.axp_wbuf.proofs.Fronts.{oldest_inside}
use Rattle.axp_lsu.specs.Asking.{access_ask, drain_ask, step_ask}
use Rattle.axp_lsu.specs.Going.{after_access, after_line, after_late, after_drain, after_barrier, after_act, after_stored, after_step}
use Rattle.axp_lsu.specs.Keeping.{LocalMemory, nothing, with_copies, with_drop}
use Rattle.axp_lsu.specs.declared.asks.Ask2.{Ask2}
use Rattle.axp_lsu.specs.declared.asks.Ask2.TheVariants as ask
use Rattle.axp_lsu.specs.declared.since.Since.{Since}
use Rattle.axp_world.proofs.AskedActs.{some_if}
use Rattle.axp_world.proofs.CountCalls.{turned, turned_most}

-- copies alone are changed
pub record IsSameBut (u v : LocalMemory) : Type 0 where
  pub buffer : v.buffer ≡ u.buffer
  pub since : v.since ≡ u.since

pub copies_same : (b : Bank) (cs : List LineCopy) (u : LocalMemory) → IsSameBut u (with_copies b cs u)
copies_same Even cs u = record { buffer = refl; since = refl }
copies_same Odd cs u = record { buffer = refl; since = refl }
copies_same Code cs u = record { buffer = refl; since = refl }

brought_same : (b : Bank) (line : Line) (r : Option Reply) (u : LocalMemory) → IsSameBut u (after_line b line r u)
brought_same b line (Some (reply.Line turn bytes)) u = copies_same b _ u
brought_same b line _ u = record { buffer = refl; since = refl }

rewritten_same : (line : Line) (r : Option Reply) (u : LocalMemory) → IsSameBut u (after_stored line r u)
rewritten_same line (Some (reply.Stored turn bytes)) u = copies_same (data_bank (line_number line)) _ u
rewritten_same line _ u = record { buffer = refl; since = refl }

fenced_same : (r : Option Reply) (u : LocalMemory) → IsSameBut u (after_barrier r u)
fenced_same (Some (reply.Barrier turn gone)) u = record { buffer = refl; since = refl }
fenced_same _ u = record { buffer = refl; since = refl }

pub delivered_same : (r : Option Reply) (u : LocalMemory) → IsSameBut u (after_late r u)
delivered_same (Some (reply.Late line turn)) u = copies_same (data_bank (line_number line)) _ u
delivered_same _ u = record { buffer = refl; since = refl }

-- a write makes one entry at most
put_length : (b : Bool) (e f : Pending) (es fs : List Pending) → length fs ≤ length es + 1 → length (cond b (f ∷ es) (e ∷ fs)) ≤ length es + 2
put_length true e f es fs within = omega arith
put_length false e f es fs within = omega (arith, within)

put_few : (group line : ℕ) (change : Pending → Pending) (new : Pending) (es : List Pending) → length (put_into group line change new es) ≤ length es + 1
unfolding put_into
put_few group line change new [] = omega arith
put_few group line change new (e ∷ es) = omega (arith, put_length (is_at group line e) e (change e) es (put_into group line change new es) (put_few group line change new es))

-- a Step is a turn or makes an entry, one at most
pub record IsOneMore (r : Option Reply) (n m : ℕ) : Type 0 where
  pub entries : m ≤ n + 1
  pub turns : turned r + m ≤ n + 1

one_same : (r : Option Reply) (b c : Buffer) → c ≡ b → IsOneMore r (length b.kept) (length c.kept)
one_same r b c same =
    let long = ap (λ b. length b.kept) same in
    record { entries = omega (arith, long); turns = omega (arith, long, turned_most r) }

accessed_one : (k : Kind) (w : Wanted) (armed : Bool) (r : Option Reply) (u : LocalMemory) → (access_ask k w armed u ≡ ask.Private → turned r ≡ 0)
    → IsOneMore r (length u.buffer.kept) (length (after_access k w r u).buffer.kept)
accessed_one kind.Write w armed r u quiet =
    let few = put_few _ _ _ _ u.buffer.kept in
    record { entries = few; turns = omega (arith, few, quiet refl) }
accessed_one kind.WriteBarrier w armed r u quiet = record { entries = omega arith; turns = omega (arith, turned_most r) }
accessed_one kind.Locked w armed r u quiet = one_same r u.buffer _ (brought_same _ _ r u).buffer
accessed_one kind.Conditional w armed r u quiet = one_same r u.buffer _ (rewritten_same _ r u).buffer
accessed_one kind.Barrier w armed r u quiet = one_same r u.buffer _ (fenced_same r u).buffer
accessed_one kind.CodeBarrier w armed r u quiet = one_same r u.buffer (after_barrier r u).buffer (fenced_same r u).buffer
accessed_one _ w armed r u quiet = one_same r u.buffer u.buffer refl

pub stepped_one : (o : Option Wanted) (boundary armed : Bool) (r : Option Reply) (u : LocalMemory) (q : Ask2) → step_ask boundary o armed u ≡ Some q → (q ≡ ask.Private → turned r ≡ 0)
    → IsOneMore r (length u.buffer.kept) (length (after_step o r u).buffer.kept)
stepped_one None boundary armed r u q asks quiet = one_same r u.buffer u.buffer refl
stepped_one (Some w) boundary armed r u q asks quiet =
    accessed_one w.kind w armed r u (λ private. quiet (sym (same_Some (access_ask w.kind w armed u) q (some_if _ (Some (access_ask w.kind w armed u)) q asks).1) ∙ private))

-- a Drain takes one entry away
pub drained_one : (k : ℕ) (o : Option Pending) (r : Option Reply) (u : LocalMemory) (q : Ask2) → slice_get (oldest_group u.buffer.kept) k ≡ o → drain_ask o ≡ Some q
    → length (after_drain k o r u).buffer.kept + 1 ≡ length u.buffer.kept
drained_one k None r u q at asks = cc
drained_one k (Some e) r u q at asks =
    let within = slice_get_within (oldest_group u.buffer.kept) k e at in
    let same = ap (λ b. length b.kept) (rewritten_same (line_numbered e.line) r (record u { buffer = without k u.buffer })).buffer in
    omega (arith, same, length-remove u.buffer.kept k (omega (arith, within, oldest_inside u.buffer.kept)))

-- what was done since the last Step
abbrev pub since_after : Act → Since → Since
since_after act.Step s = nothing
since_after act.Fill s = record s { filled = true }
since_after (act.Drain k) s = s
since_after (act.Take b) s = s
since_after (act.Drop b line) s = with_drop b s
since_after act.Poll s = record s { polled = true }
since_after act.Tick s = record s { ticked = true }

pub drained_since : (k : ℕ) (o : Option Pending) (r : Option Reply) (u : LocalMemory) → (after_drain k o r u).since ≡ u.since
drained_since k None r u = refl
drained_since k (Some e) r u = (rewritten_same _ r (record u { buffer = without k u.buffer })).since

pub since_is : (e : Act) (i : Intent) (r : Option Reply) (u : LocalMemory) → (after_act e i r u).since ≡ since_after e u.since
since_is act.Step i r u = refl
since_is act.Fill i r u = refl
since_is (act.Drain k) i r u = drained_since k _ r u
since_is (act.Take b) i r u = (delivered_same r u).since
since_is (act.Drop b line) i r u = refl
since_is act.Poll i r u = refl
since_is act.Tick i r u = refl
