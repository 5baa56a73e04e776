-- The copies that may be given up are in order, and are those that an act may name.
use Rattle.std.proofs.Common.{◌≡◌, ◌⊎◌, inl, inr, ℕ, zero, suc, ◌<◌, ◌≤◌, Bool, true, false, not, ◌&&◌, ◌||◌, cond, eqb, ltb, List, [], ◌∷◌, ◌++◌, Some, None, is_some, refl, sym, ap, ◌∙◌, arith}
use Rattle.std.specs.Prelude.{length, slice_get}
use Rattle.std.specs.List.{AllByRecursion, list_any}
use Rattle.std.proofs.lemmas.Bool.{cases_lt, le-ltb, lt-ltb, ltb-true, ltb-false, not-true, and_parts}
use Rattle.std.proofs.lemmas.List.Folds.{list_any-append}
use Rattle.axp_access.specs.Offers.{are_ascending, bank_rank, is_copy, is_copy_before}
use Rattle.axp_bank.specs.Copies.{Ascending, Whole, is_held, is_of, line_of}
use Rattle.axp_bank.specs.declared.copies.LineCopy.{LineCopy}
use Rattle.axp_base.specs.Lines.{line_number, same_bank}
use Rattle.axp_base.specs.declared.lines.Bank.{Bank}
use Rattle.axp_base.specs.declared.lines.Bank.TheVariants.{Even, Odd, Code}
use Rattle.axp_base.specs.declared.lines.Line.{Line}
use Rattle.axp_access.specs.Offers.{is_offered}
use Rattle.axp_access.specs.declared.Act.{Act}
use Rattle.axp_access.specs.declared.Act.TheVariants as act
use Rattle.axp_access.specs.declared.Intent.{Intent}
use Rattle.axp_access.specs.declared.offers.Offer.{Offer}
use Rattle.axp_ibank.specs.Code.{code_lines}
use Rattle.axp_model.specs.Legal.{is_timely}
use Rattle.axp_wbuf.specs.Drains.{oldest_group}
use Rattle.axp_wbuf.specs.Pending.{Pending}
use Rattle.axp_lsu.specs.Asking.{ask_of, drain_ask, take_ask}
use Rattle.axp_lsu.specs.Keeping.{LocalMemory, copies_of, has_dropped}
use Rattle.axp_lsu.specs.Offering.{bank_drops, copies_named, drops_of, named}
use Rattle.axp_line.specs.declared.messages.Request.TheVariants as request
use Rattle.axp_lsu.specs.declared.asks.Ask2.{Ask2}
use Rattle.axp_lsu.specs.declared.asks.Ask2.TheVariants as ask

-- a bank's copies of lines stand by ascending lines
same_rank : (bank : Bank) → eqb (bank_rank bank) (bank_rank bank) ≡ true
same_rank Even = refl
same_rank Odd = refl
same_rank Code = refl

next_ascends : (bank : Bank) (c d : LineCopy) → line_of c < line_of d → is_copy_before (bank, c.line) (bank, d.line) ≡ true
next_ascends Even c d less = lt-ltb (line_of c) (line_of d) less
next_ascends Odd c d less = lt-ltb (line_of c) (line_of d) less
next_ascends Code c d less = lt-ltb (line_of c) (line_of d) less

named_ascends : (bank : Bank) (cs : List LineCopy) → Ascending cs → are_ascending (named bank cs) ≡ true
unfolding Ascending
named_ascends bank [] up = refl
named_ascends bank (c ∷ []) up = refl
named_ascends bank (c ∷ d ∷ cs) up = rw (next_ascends bank c d up.0.0) (named_ascends bank (d ∷ cs) up.1)

bank_ascends : (bank : Bank) (u : LocalMemory) → Whole (copies_of bank u) → are_ascending (bank_drops bank u) ≡ true
bank_ascends bank u whole = by (has_dropped bank u.since) where
  by : (dropped : Bool) → are_ascending (cond dropped [] (named bank (copies_of bank u))) ≡ true
  by true = refl
  by false = named_ascends bank (copies_of bank u) whole.up

-- a bank's copies stand before those of the banks behind it
abbrev AreRanked : (ℕ → Bool) → List (Bank × Line) → Type 0
AreRanked is cs = AllByRecursion (λ (c : Bank × Line). is (bank_rank c.0) ≡ true) cs

named_ranked : (is : ℕ → Bool) (bank : Bank) (cs : List LineCopy) → is (bank_rank bank) ≡ true → AreRanked is (named bank cs)
named_ranked is bank [] ranked = tt
named_ranked is bank (c ∷ cs) ranked = (ranked, named_ranked is bank cs ranked)

bank_ranked : (is : ℕ → Bool) (bank : Bank) (u : LocalMemory) → is (bank_rank bank) ≡ true → AreRanked is (bank_drops bank u)
bank_ranked is bank u ranked = by (has_dropped bank u.since) where
  by : (dropped : Bool) → AreRanked is (cond dropped [] (named bank (copies_of bank u)))
  by true = tt
  by false = named_ranked is bank (copies_of bank u) ranked

ranked_both : (is : ℕ → Bool) (cs ds : List (Bank × Line)) → AreRanked is cs → AreRanked is ds → AreRanked is (cs ++ ds)
ranked_both is [] ds left right = right
ranked_both is (c ∷ cs) ds left right = (left.0, ranked_both is cs ds left.1 right)

ranks_before : (c d : Bank × Line) (n : ℕ) → ltb (bank_rank c.0) n ≡ true → not (ltb (bank_rank d.0) n) ≡ true → is_copy_before c d ≡ true
ranks_before c d n below above = rw (lt-ltb (bank_rank c.0) (bank_rank d.0) (less (bank_rank c.0) (bank_rank d.0) n below above)) refl where
  less : (a b n : ℕ) → ltb a n ≡ true → not (ltb b n) ≡ true → a < b
  less a b n below above = omega (arith, ltb-true a n below, ltb-false b n (not-true (ltb b n) above))

joined_ascend : (n : ℕ) (cs ds : List (Bank × Line)) → AreRanked (λ r. ltb r n) cs → AreRanked (λ r. not (ltb r n)) ds → are_ascending cs ≡ true → are_ascending ds ≡ true → are_ascending (cs ++ ds) ≡ true
joined_ascend n [] ds below above left right = right
joined_ascend n (c ∷ []) [] below above left right = refl
joined_ascend n (c ∷ []) (d ∷ ds) below above left right = rw (ranks_before c d n below.0 above.0) right
joined_ascend n (c ∷ e ∷ cs) ds below above left right =
    let parts = and_parts (is_copy_before c e) (are_ascending (e ∷ cs)) left in
    rw parts.0 (joined_ascend n (e ∷ cs) ds below.1 above parts.1 right)

pub drops_ascend : (u : LocalMemory) → Whole u.even → Whole u.odd → Whole u.code → are_ascending (drops_of u) ≡ true
drops_ascend u even odd code =
    joined_ascend 2 (bank_drops Even u ++ bank_drops Odd u) (bank_drops Code u)
    (ranked_both (λ r. ltb r 2) (bank_drops Even u) (bank_drops Odd u) (bank_ranked (λ r. ltb r 2) Even u refl) (bank_ranked (λ r. ltb r 2) Odd u refl))
    (bank_ranked (λ r. not (ltb r 2)) Code u refl)
    (joined_ascend 1 (bank_drops Even u) (bank_drops Odd u) (bank_ranked (λ r. ltb r 1) Even u refl) (bank_ranked (λ r. not (ltb r 1)) Odd u refl) (bank_ascends Even u even) (bank_ascends Odd u odd))
    (bank_ascends Code u code)

-- an act may name those that are held and not yet dropped
shared : (same a b : Bool) → ((same && a) || (same && b)) ≡ (same && (a || b))
shared true a b = refl
shared false a b = refl

nothing_more : (b : Bool) → (b && false) ≡ false
nothing_more true = refl
nothing_more false = refl

any_named : (bank other : Bank) (line : Line) (cs : List LineCopy) → list_any (is_copy bank line) (named other cs) ≡ (same_bank bank other && is_held (line_number line) cs)
unfolding is_held
any_named bank other line [] = sym (nothing_more (same_bank bank other))
any_named bank other line (c ∷ cs) = ap (λ b. is_copy bank line (other, c.line) || b) (any_named bank other line cs) ∙ shared (same_bank bank other) (is_of (line_number line) c) (is_held (line_number line) cs)

any_dropped : (bank other : Bank) (line : Line) (u : LocalMemory) → list_any (is_copy bank line) (bank_drops other u) ≡ (not (has_dropped other u.since) && list_any (is_copy bank line) (named other (copies_of other u)))
any_dropped bank other line u = by (has_dropped other u.since) where
  by : (dropped : Bool) → list_any (is_copy bank line) (cond dropped [] (named other (copies_of other u))) ≡ (not dropped && list_any (is_copy bank line) (named other (copies_of other u)))
  by true = refl
  by false = refl

parted : (bank : Bank) (line : Line) (u : LocalMemory) → list_any (is_copy bank line) (drops_of u) ≡ ((not u.since.dropped_even && list_any (is_copy bank line) (named Even u.even)) || (not u.since.dropped_odd && list_any (is_copy bank line) (named Odd u.odd))) || (not u.since.dropped_code && list_any (is_copy bank line) (named Code u.code))
parted bank line u =
    list_any-append (is_copy bank line) (bank_drops Even u ++ bank_drops Odd u) (bank_drops Code u)
    ∙ ap (λ b. b || list_any (is_copy bank line) (bank_drops Code u)) (list_any-append (is_copy bank line) (bank_drops Even u) (bank_drops Odd u))
    ∙ rw (any_dropped bank Even line u, any_dropped bank Odd line u, any_dropped bank Code line u) refl

swapped : (d h : Bool) → ((not d && h) || false) ≡ (h && not d)
swapped true true = refl
swapped true false = refl
swapped false true = refl
swapped false false = refl

alone : (b : Bool) → (b || false) ≡ b
alone true = refl
alone false = refl

pub drops_are_named : (bank : Bank) (line : Line) (u : LocalMemory) → list_any (is_copy bank line) (drops_of u) ≡ (is_held (line_number line) (copies_of bank u) && not (has_dropped bank u.since))
drops_are_named Even line u = parted Even line u ∙ rw (any_named Even Even line u.even, any_named Even Odd line u.odd, any_named Even Code line u.code, nothing_more (not u.since.dropped_odd), nothing_more (not u.since.dropped_code), alone ((not u.since.dropped_even && is_held (line_number line) u.even) || false)) (swapped u.since.dropped_even (is_held (line_number line) u.even))
drops_are_named Odd line u = parted Odd line u ∙ rw (any_named Odd Even line u.even, any_named Odd Odd line u.odd, any_named Odd Code line u.code, nothing_more (not u.since.dropped_even), nothing_more (not u.since.dropped_code)) (swapped u.since.dropped_odd (is_held (line_number line) u.odd))
drops_are_named Code line u = parted Code line u ∙ rw (any_named Code Even line u.even, any_named Code Odd line u.odd, any_named Code Code line u.code, nothing_more (not u.since.dropped_even), nothing_more (not u.since.dropped_odd)) (sym (alone (not u.since.dropped_code && is_held (line_number line) u.code)) ∙ swapped u.since.dropped_code (is_held (line_number line) u.code))

-- what the code finds of a bank
named_copies : (bank : Bank) (cs : List LineCopy) → copies_named bank (code_lines cs) ≡ named bank cs
unfolding code_lines
named_copies bank [] = refl
named_copies bank (c ∷ cs) = ap (λ ds. (bank, c.line) ∷ ds) (named_copies bank cs)

pub bank_named : (bank : Bank) (u : LocalMemory) → has_dropped bank u.since ≡ false → copies_named bank (code_lines (copies_of bank u)) ≡ bank_drops bank u
bank_named bank u fresh = named_copies bank (copies_of bank u) ∙ rw fresh refl

-- an offer names what is asked for
drained_some : (k : ℕ) (es : List Pending) → ltb k (length es) ≡ is_some (drain_ask (slice_get es k))
drained_some k [] = le-ltb k 0 (omega arith)
drained_some zero (e ∷ es) = lt-ltb 0 (length (e ∷ es)) (omega arith)
drained_some (suc k) (e ∷ es) = further (drained_some k es) (cases_lt k (length es)) where
  further : ltb k (length es) ≡ is_some (drain_ask (slice_get es k)) → (k < length es) ⊎ (length es ≤ k) → ltb (suc k) (length (e ∷ es)) ≡ is_some (drain_ask (slice_get es k))
  further rest (inl below) = lt-ltb (suc k) (length (e ∷ es)) (omega (arith, below)) ∙ sym (lt-ltb k (length es) below) ∙ rest
  further rest (inr past) = le-ltb (suc k) (length (e ∷ es)) (omega (arith, past)) ∙ sym (le-ltb k (length es) past) ∙ rest

timely_drains : (timely : Bool) (k : ℕ) (es : List Pending) → ltb k (cond timely (length es) 0) ≡ is_some (cond timely (drain_ask (slice_get es k)) None)
timely_drains true k es = drained_some k es
timely_drains false k es = le-ltb k 0 (omega arith)

some_if : (b : Bool) (q : Ask2) → is_some (cond b (Some q) None) ≡ b
some_if true q = refl
some_if false q = refl

no_code_take : (timely : Bool) → false ≡ is_some (cond timely (take_ask Code) None)
no_code_take true = refl
no_code_take false = refl

timely_drops : (timely : Bool) (bank : Bank) (line : Line) (u : LocalMemory) → list_any (is_copy bank line) (cond timely (drops_of u) []) ≡ is_some (cond timely (cond (is_held (line_number line) (copies_of bank u) && not (has_dropped bank u.since)) (Some ask.Private) None) None)
timely_drops true bank line u = drops_are_named bank line u ∙ sym (some_if (is_held (line_number line) (copies_of bank u) && not (has_dropped bank u.since)) ask.Private)
timely_drops false bank line u = refl

-- the parts of an offer
pub record IsOfferOf (o : Offer) (i : Intent) (u : LocalMemory) : Type 0 where
  pub step : o.step ≡ is_some (ask_of act.Step i u)
  pub fill : o.fill ≡ is_some (ask_of act.Fill i u)
  pub drains : o.drains ≡ cond (is_timely (act.Drain 0) i.finished u.since.filled) (length (oldest_group u.buffer.kept)) 0
  pub late : o.late ≡ (not i.finished && not u.since.filled, not i.finished && not u.since.filled)
  pub drops : o.drops.items ≡ cond (not i.finished && not u.since.filled) (drops_of u) []
  pub poll : o.poll ≡ is_some (ask_of act.Poll i u)
  pub tick : o.tick ≡ is_some (ask_of act.Tick i u)

pub offers_asked : (o : Offer) (i : Intent) (u : LocalMemory) → IsOfferOf o i u → (a : Act) → is_offered o a ≡ is_some (ask_of a i u)
unfolding ask_of
offers_asked o i u is act.Step = is.step
offers_asked o i u is act.Fill = is.fill
offers_asked o i u is (act.Drain k) = ap (ltb k) is.drains ∙ timely_drains (i.finished || not u.since.filled) k (oldest_group u.buffer.kept)
offers_asked o i u is (act.Take Even) = ap (λ (l : Bool × Bool). l.0) is.late ∙ sym (some_if (not i.finished && not u.since.filled) (ask.Bus (request.Take Even)))
offers_asked o i u is (act.Take Odd) = ap (λ (l : Bool × Bool). l.1) is.late ∙ sym (some_if (not i.finished && not u.since.filled) (ask.Bus (request.Take Odd)))
offers_asked o i u is (act.Take Code) = no_code_take (not i.finished && not u.since.filled)
offers_asked o i u is (act.Drop bank line) = ap (list_any (is_copy bank line)) is.drops ∙ timely_drops (not i.finished && not u.since.filled) bank line u
offers_asked o i u is act.Poll = is.poll
offers_asked o i u is act.Tick = is.tick
