-- What is told of an entry is the entry, and what follows for all entries.
use Rattle.std.proofs.Common.{◌≡◌, ℕ, zero, suc, ◌≤◌, List, [], ◌∷◌, length, Some, None, refl, sym, ap, ◌∙◌, arith}
use Rattle.std.specs.Prelude.{Option, slice_get}
use Rattle.std.specs.Option.{unwrap_or}
use Rattle.axp_base.specs.Lines.{line_number, line_numbered}
use Rattle.axp_base.specs.Masks.{mask_bits}
use Rattle.axp_base.specs.declared.lines.Line.{Line}
use Rattle.axp_base.specs.declared.masks.Mask.{Mask}
use Rattle.axp_line.specs.Lines.{bytes_of_line, data_of}
use Rattle.axp_line.specs.declared.contents.LineData.{LineData}
use Rattle.axp_access.specs.declared.Outcome.TheVariants as outcome
use Rattle.axp_line.specs.declared.messages.Reply.{Reply}
use Rattle.axp_line.specs.declared.messages.Request.TheVariants as request
use Rattle.axp_wbuf.specs.Drains.{told, without}
use Rattle.axp_wbuf.specs.Pending.{Buffer, Pending}
use Rattle.axp_lsu.specs.declared.asks.Ask2.TheVariants as ask
use Rattle.axp_lsu.specs.Asking.{drain_ask}
use Rattle.axp_lsu.specs.Going.{drain_outcome, after_drain, after_stored, turn_in}
use Rattle.axp_lsu.specs.Keeping.{LocalMemory}
use Rattle.axp_base.proofs.LineLemmas.{line_of_number}
use Rattle.axp_lsu.proofs.LineLemmas.{data_is}

-- an entry whose parts are these
pub record Tells (e : Pending) (n : ℕ) (l : Line) (m : Mask) (d : LineData) : Type 0 where
  pub number : n ≡ e.number
  pub line : l ≡ line_numbered e.line
  pub mask : m.0 ≡ e.bits
  pub bytes : d ≡ data_of e.bytes

abbrev pub OnTold : Option Pending → ℕ → Line → Mask → LineData → Type 0
OnTold None n l m d = ⊥
OnTold (Some e) n l m d = Tells e n l m d

pub told_parts : (o : Option Pending) (n : ℕ) (l : Line) (m : Mask) (d : LineData) → told o ≡ Some (n, (line_number l, (mask_bits m, bytes_of_line d))) → OnTold o n l m d
told_parts None n l m d h = cc
told_parts (Some e) n l m d h =
    let parts : (e.number, (e.line, (e.bits, e.bytes))) ≡ (n, (line_number l, (mask_bits m, bytes_of_line d))) = ap (λ o. unwrap_or o (e.number, (e.line, (e.bits, e.bytes)))) h in
    record {
      number = sym (ap (λ p. p.0) parts);
      line = line_of_number l e.line (sym (ap (λ p. p.1.0) parts));
      mask = sym (ap (λ p. p.1.1.0) parts);
      bytes = data_is d e.bytes (sym (ap (λ p. p.1.1.1) parts));
    }

pub drain_told : (o : Option Pending) (n : ℕ) (l : Line) (m : Mask) (d : LineData) → told o ≡ Some (n, (line_number l, (mask_bits m, bytes_of_line d))) → Some (ask.Bus (request.Drain l m d)) ≡ drain_ask o
drain_told None n l m d h = absurd (told_parts None n l m d h)
drain_told (Some e) n l m d h =
    let t : Tells e n l m d = told_parts (Some e) n l m d h in
    λ i. Some (ask.Bus (request.Drain (t.line i) (record { 0 = t.mask i }) (t.bytes i)))

-- past the end of a list there is nothing
pub drain_past : (es : List Pending) (k : ℕ) → length es ≤ k → None ≡ drain_ask (slice_get es k)
drain_past [] k past = refl
drain_past (e ∷ es) zero past = absurd (omega arith)
drain_past (e ∷ es) (suc k) past = drain_past es k (omega arith)

-- an entry that leaves
pub outcome_told : (o : Option Pending) (n : ℕ) (l : Line) (m : Mask) (d : LineData) (r : Option Reply) → told o ≡ Some (n, (line_number l, (mask_bits m, bytes_of_line d)))
    → outcome.Drained n l (turn_in r) ≡ drain_outcome o r
outcome_told None n l m d r h = absurd (told_parts None n l m d h)
outcome_told (Some e) n l m d r h =
    let t : Tells e n l m d = told_parts (Some e) n l m d h in
    λ i. outcome.Drained (t.number i) (t.line i) (turn_in r)

drained_told : (o : Option Pending) (n : ℕ) (l : Line) (m : Mask) (d : LineData) (r : Option Reply) (k : ℕ) (u : LocalMemory) → told o ≡ Some (n, (line_number l, (mask_bits m, bytes_of_line d)))
    → after_stored l r (record u { buffer = without k u.buffer }) ≡ after_drain k o r u
drained_told None n l m d r k u h = absurd (told_parts None n l m d h)
drained_told (Some e) n l m d r k u h =
    let t : Tells e n l m d = told_parts (Some e) n l m d h in
    ap (λ line. after_stored line r (record u { buffer = without k u.buffer })) t.line

-- the same with the buffer that the code has left
pub drained_is : (o : Option Pending) (n : ℕ) (l : Line) (m : Mask) (d : LineData) (r : Option Reply) (k : ℕ) (u : LocalMemory) (b : Buffer) → told o ≡ Some (n, (line_number l, (mask_bits m, bytes_of_line d))) → b ≡ without k u.buffer
    → after_stored l r (record u { buffer = b }) ≡ after_drain k o r u
drained_is o n l m d r k u b h left = ap (λ (b : Buffer). after_stored l r (record u { buffer = b })) left ∙ drained_told o n l m d r k u h
