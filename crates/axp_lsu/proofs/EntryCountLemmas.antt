-- An act makes an entry of the buffer only as the Step of an access, and at most one.
use Rattle.std.proofs.Common.{◌≡◌, ℕ, ◌+◌, ◌≤◌, cond, List, Some, None, refl, ap, arith}
use Rattle.std.proofs.lemmas.Bool.{cond_both}
use Rattle.std.specs.Prelude.{Option, is_some, slice_get}
use Rattle.axp_access.specs.declared.Act.{Act}
use Rattle.axp_access.specs.declared.Act.TheVariants as act
use Rattle.axp_access.specs.declared.Intent.{Intent}
use Rattle.axp_access.specs.declared.Wanted.{Wanted}
use Rattle.axp_bank.specs.Copies.{copy_of, dropped, invalidated, put, refreshed}
use Rattle.axp_bank.specs.declared.copies.LineCopy.{LineCopy}
use Rattle.axp_base.specs.Lines.{data_bank, line_at, line_number, line_numbered, line_of}
use Rattle.axp_base.specs.declared.lines.Bank.{Bank}
use Rattle.axp_base.specs.declared.lines.Bank.TheVariants.{Even, Odd, Code}
use Rattle.axp_base.specs.declared.lines.Line.{Line}
use Rattle.axp_line.specs.declared.messages.Reply.{Reply}
use Rattle.axp_line.specs.declared.messages.Reply.TheVariants as reply
use Rattle.axp_model.specs.Outcomes.{bank_for}
use Rattle.axp_regs.specs.declared.asks.Kind.{Kind}
use Rattle.axp_regs.specs.declared.asks.Kind.TheVariants as kind
use Rattle.axp_wbuf.specs.Drains.{oldest_group, without}
use Rattle.axp_wbuf.specs.Pending.{Buffer, Pending, merges}
use Rattle.axp_lsu.specs.Going.{after_access, advanced, after_line, after_late, after_drain, after_barrier, after_fill, after_stored, after_step}
use Rattle.axp_lsu.specs.Keeping.{LocalMemory, copies_of, data_copies, with_copies}

-- copies come and go beside the buffer
pub with_copies-buffer : (b : Bank) (cs : List LineCopy) (u : LocalMemory) → (with_copies b cs u).buffer ≡ u.buffer
with_copies-buffer Even cs u = refl
with_copies-buffer Odd cs u = refl
with_copies-buffer Code cs u = refl

pub brought-buffer : (b : Bank) (line : Line) (r : Option Reply) (u : LocalMemory) → (after_line b line r u).buffer ≡ u.buffer
brought-buffer b line (Some (reply.Line turn bytes)) u = with_copies-buffer b (put (copy_of line turn bytes) (copies_of b u)) u
brought-buffer b line _ u = refl

pub rewritten-buffer : (line : Line) (r : Option Reply) (u : LocalMemory) → (after_stored line r u).buffer ≡ u.buffer
rewritten-buffer line (Some (reply.Stored turn bytes)) u =
    with_copies-buffer (data_bank (line_number line)) (refreshed (copy_of line turn bytes) (data_copies (line_number line) u)) u
rewritten-buffer line _ u = refl

pub fenced-buffer : (r : Option Reply) (u : LocalMemory) → (after_barrier r u).buffer ≡ u.buffer
fenced-buffer (Some (reply.Barrier turn gone)) u = refl
fenced-buffer _ u = refl

pub delivered-buffer : (r : Option Reply) (u : LocalMemory) → (after_late r u).buffer ≡ u.buffer
delivered-buffer (Some (reply.Late line turn)) u =
    with_copies-buffer (data_bank (line_number line)) (invalidated (line_number line) turn (data_copies (line_number line) u)) u
delivered-buffer _ u = refl

pub filled-buffer : (o : Option Wanted) (r : Option Reply) (u : LocalMemory) → (after_fill o r u).buffer ≡ u.buffer
filled-buffer None r u = refl
filled-buffer (Some w) r u = brought-buffer (bank_for w.kind (line_of w.address)) (line_at w.address) r u

-- how many entries an act makes at most
abbrev pub most_made : Act → Option Wanted → ℕ
most_made act.Step o = cond (is_some o) 1 0
most_made _ o = 0

few : (b c : Buffer) (n : ℕ) → b ≡ c → b.made ≤ c.made + n
few b c n e = let made : b.made ≡ c.made = ap (λ (b : Buffer). b.made) e in omega (arith, made)

accessed-made : (k : Kind) (w : Wanted) (r : Option Reply) (u : LocalMemory) → (after_access k w r u).buffer.made ≤ u.buffer.made + 1
accessed-made kind.Write w r u =
    cond_both (merges (line_of w.address) u.buffer) u.buffer.made (u.buffer.made + 1) (λ n. n ≤ u.buffer.made + 1) (λ _. omega arith) (λ _. omega arith)
accessed-made kind.Locked w r u = few _ u.buffer 1 (brought-buffer (data_bank (line_of w.address)) (line_at w.address) r u)
accessed-made kind.Conditional w r u = few _ u.buffer 1 (rewritten-buffer (line_at w.address) r u)
accessed-made kind.Barrier w r u = few _ u.buffer 1 (fenced-buffer r u)
accessed-made kind.CodeBarrier w r u = few _ u.buffer 1 (fenced-buffer r u)
accessed-made _ w r u = omega arith

stepped-made : (o : Option Wanted) (r : Option Reply) (u : LocalMemory) → (after_step o r u).buffer.made ≤ u.buffer.made + cond (is_some o) 1 0
stepped-made None r u = omega arith
stepped-made (Some w) r u = accessed-made w.kind w r u

drained-made : (k : ℕ) (o : Option Pending) (r : Option Reply) (u : LocalMemory) → (after_drain k o r u).buffer.made ≤ u.buffer.made + 0
drained-made k None r u = omega arith
drained-made k (Some e) r u = few _ (without k u.buffer) 0 (rewritten-buffer (line_numbered e.line) r (record u { buffer = without k u.buffer }))

pub advanced-made : (a : Act) (i : Intent) (r : Option Reply) (u : LocalMemory) → (advanced a i r u).buffer.made ≤ u.buffer.made + most_made a i.wanted
unfolding advanced
advanced-made act.Step i r u = stepped-made i.wanted r u
advanced-made act.Fill i r u = few _ u.buffer 0 (filled-buffer i.wanted r u)
advanced-made (act.Drain k) i r u = drained-made k (slice_get (oldest_group u.buffer.kept) k) r u
advanced-made (act.Take b) i r u = few _ u.buffer 0 (delivered-buffer r u)
advanced-made (act.Drop b line) i r u = few _ u.buffer 0 (with_copies-buffer b (dropped (line_number line) (copies_of b u)) u)
advanced-made act.Poll i r u = omega arith
advanced-made act.Tick i r u = omega arith

one_at_most : (a : Act) (o : Option Wanted) → most_made a o ≤ 1
one_at_most act.Step o = cond_both (is_some o) 1 0 (λ n. n ≤ 1) (λ _. omega arith) (λ _. omega arith)
one_at_most _ o = omega arith

pub advanced_few : (a : Act) (i : Intent) (r : Option Reply) (u : LocalMemory) → (advanced a i r u).buffer.made ≤ u.buffer.made + 1
advanced_few a i r u = omega (arith, advanced-made a i r u, one_at_most a i.wanted)
