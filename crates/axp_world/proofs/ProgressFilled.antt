-- After a Fill the wanted access is ready until its Step.
use Rattle.std.proofs.Common.{◌≡◌, ℕ, ◌%◌, Bool, true, false, cond, eqb, not, ◌||◌, ◌&&◌, List, ◌∷◌, Option, Some, None, is_some, refl, sym, ap, ◌∙◌}
use Rattle.std.proofs.lemmas.Bool.{and_parts, eq-eqb, false≢true, not-true}
use Rattle.axp_access.specs.declared.Act.{Act}
use Rattle.axp_access.specs.declared.Act.TheVariants as act
use Rattle.axp_access.specs.declared.Intent.{Intent}
use Rattle.axp_access.specs.declared.Outcome.TheVariants as outcome
use Rattle.axp_access.specs.declared.Record.{Record}
use Rattle.axp_access.specs.declared.Wanted.{Wanted}
use Rattle.axp_base.specs.Lines.{line_number, is_line, line_at, line_of}
use Rattle.axp_base.specs.declared.lines.Bank.{Bank}
use Rattle.axp_base.specs.declared.lines.Bank.TheVariants.{Even, Odd, Code}
use Rattle.axp_base.specs.declared.lines.Line.{Line}
use Rattle.axp_cpu.specs.Actors.{Actor, actor_intent, advanced, outcome_of}
use Rattle.axp_line.specs.declared.messages.Reply.{Reply}
use Rattle.axp_lsu.specs.Asking as asking
use Rattle.axp_lsu.specs.Asking.{fill_ask, fill_for, step_ask}
use Rattle.axp_lsu.specs.Going as going
use Rattle.axp_lsu.specs.Going.{fill_outcome, after_act}
use Rattle.axp_lsu.specs.Keeping.{LocalMemory, with_drop}
use Rattle.axp_lsu.specs.declared.asks.Ask2.{Ask2}
use Rattle.axp_lsu.specs.declared.since.Since.{Since}
use Rattle.axp_model.specs.Processors.{WantsInLine}
use Rattle.axp_model.specs.Outcomes.{bank_for}
use Rattle.axp_model.specs.Records.{is_of, fills, fills_code}
use Rattle.axp_laws.proofs.RunRecords.{line_at-number}
use Rattle.axp_regs.specs.declared.asks.Kind.{Kind}
use Rattle.axp_regs.specs.declared.asks.Kind.TheVariants as kind
use Rattle.axp_world.proofs.Agreement.{BanksAgree}
use Rattle.axp_world.proofs.AskedActs.{IsAsked}
use Rattle.axp_world.proofs.CountKept.{since_is}

-- a processor that is not finished and has just filled may make its wanted access
abbrev pub IsReady : Intent → LocalMemory → Type 0
IsReady i u = u.since.filled ≡ true → i.finished ≡ false → is_some (step_ask i.boundary i.wanted i.lock_flag u) ≡ true

-- what is filled is held
data_fills : (b : Bool) (l turn : ℕ) (line : Line) → fills l (outcome.Filled (cond b Even Odd) line turn) ≡ is_line l line
data_fills true l turn line = refl
data_fills false l turn line = refl

filled_held : (k : Kind) (image : ℕ → ℕ) (p l turn : ℕ) (line : Line) (r : Record) (h : List Record) (w : Wanted) (u v : LocalMemory) → is_some (fill_for k w u) ≡ true → is_of p r ≡ true → r.outcome ≡ outcome.Filled (bank_for k l) line turn → line_number line ≡ l
    → BanksAgree image p (r ∷ h) v → asking.is_ready k l v ≡ true
filled_held kind.Fetch image p l turn line r h w u v asks own is at banks =
    let fill : fills_code l r.outcome ≡ true = ap (fills_code l) is ∙ eq-eqb (line_number line) l at in
    banks.code_lines_held l ∙ rw own (rw fill refl)
filled_held kind.Read image p l turn line r h w u v asks own is at banks =
    let fill : fills l r.outcome ≡ true = ap (fills l) is ∙ data_fills (eqb (l % 2) 0) l turn line ∙ eq-eqb (line_number line) l at in
    banks.lines l ∙ rw own (rw fill refl)
filled_held _ image p l turn line r h w u v asks own is at banks = cc

filled_ready : (o : Option Wanted) (boundary armed : Bool) (t : Option Reply) (image : ℕ → ℕ) (p : ℕ) (r : Record) (h : List Record) (u v : LocalMemory) (q : Ask2) → fill_ask o u ≡ Some q → is_of p r ≡ true → r.outcome ≡ fill_outcome o t → WantsInLine o
    → BanksAgree image p (r ∷ h) v → is_some (step_ask boundary o armed v) ≡ true
filled_ready None boundary armed t image p r h u v q asks own is inside banks = cc
filled_ready (Some w) boundary armed t image p r h u v q asks own is inside banks =
    let ready : asking.is_ready w.kind (line_of w.address) v ≡ true =
    filled_held w.kind image p (line_of w.address) _ (line_at w.address) r h w u v (ap is_some asks) own is (line_at-number w.address inside.addressed) banks in
    rw ready refl

-- no other act but a Step is made then
not_filled : (finished filled : Bool) → (not finished && not filled) ≡ true → filled ≡ true → ⊥
not_filled finished filled now is = let both = and_parts (not finished) (not filled) now in absurd (false≢true (sym (not-true filled both.1) ∙ is))

drain_not_filled : (finished filled : Bool) → (finished || not filled) ≡ true → finished ≡ false → filled ≡ true → ⊥
drain_not_filled true filled now on is = cc
drain_not_filled false true now on is = cc
drain_not_filled false false now on is = cc

same_filled : (e : Act) (i : Intent) (t : Option Reply) (u : LocalMemory) (s : Since) → (after_act e i t u).since ≡ s → (after_act e i t u).since.filled ≡ true → s.filled ≡ true
same_filled e i t u s same is = ap (λ (x : Since). x.filled) (sym same) ∙ is

drop_filled : (b : Bank) (s : Since) → (with_drop b s).filled ≡ s.filled
drop_filled Even s = refl
drop_filled Odd s = refl
drop_filled Code s = refl

pub act_ready : (e : Act) (a : Actor) (t : Option Reply) (image : ℕ → ℕ) (p : ℕ) (r : Record) (h : List Record) (q : Ask2) → IsAsked a e q → is_of p r ≡ true → r.outcome ≡ outcome_of a e t → WantsInLine (actor_intent a).wanted → BanksAgree image p (r ∷ h) (advanced a e t).kept
    → IsReady (actor_intent (advanced a e t)) (advanced a e t).kept
unfolding advanced going.advanced outcome_of going.outcome_of
act_ready act.Step a t image p r h q asked own is inside banks = λ filled on. cc
act_ready act.Fill a t image p r h q asked own is inside banks = λ filled on. filled_ready (actor_intent a).wanted (actor_intent a).boundary (actor_intent a).lock_flag t image p r h a.kept _ q asked.asks own is inside banks
act_ready (act.Drain k) a t image p r h q asked own is inside banks = λ filled on.
    absurd (drain_not_filled (actor_intent a).finished a.kept.since.filled asked.now on (same_filled (act.Drain k) (actor_intent a) t a.kept a.kept.since (since_is (act.Drain k) (actor_intent a) t a.kept) filled))
act_ready (act.Take b) a t image p r h q asked own is inside banks = λ filled on.
    absurd (not_filled (actor_intent a).finished a.kept.since.filled asked.now (same_filled (act.Take b) (actor_intent a) t a.kept a.kept.since (since_is (act.Take b) (actor_intent a) t a.kept) filled))
act_ready (act.Drop b line) a t image p r h q asked own is inside banks = λ filled on. absurd (not_filled (actor_intent a).finished a.kept.since.filled asked.now (sym (drop_filled b a.kept.since) ∙ filled))
act_ready act.Poll a t image p r h q asked own is inside banks = λ filled on. absurd (not_filled (actor_intent a).finished a.kept.since.filled asked.now filled)
act_ready act.Tick a t image p r h q asked own is inside banks = λ filled on. absurd (not_filled (actor_intent a).finished a.kept.since.filled asked.now filled)
