-- A bank from which a processor dropped a copy since its last Step has room, until it fills one.
use Rattle.std.proofs.Common.{◌≡◌, ℕ, suc, ◌<◌, ◌≤◌, Bool, true, false, cond, not, ◌||◌, List, [], ◌∷◌, length, Option, Some, None, refl, sym, ap, ◌∙◌, arith}
use Rattle.std.proofs.lemmas.Bool.{and_parts, false≢true}
use Rattle.axp_access.specs.declared.Act.{Act}
use Rattle.axp_access.specs.declared.Act.TheVariants as act
use Rattle.axp_access.specs.declared.Intent.{Intent}
use Rattle.axp_bank.specs.Copies.{dropped, has_older, invalidated, is_held, is_of}
use Rattle.axp_bank.specs.declared.copies.LineCopy.{LineCopy}
use Rattle.axp_base.specs.declared.limits.TheConstants.{BANK_COPIES}
use Rattle.axp_bank.proofs.BankLemmas.{length_dropped, length_refreshed}
use Rattle.axp_base.specs.Lines.{line_number, data_bank}
use Rattle.axp_base.specs.declared.lines.Bank.{Bank}
use Rattle.axp_base.specs.declared.lines.Bank.TheVariants.{Even, Odd, Code}
use Rattle.axp_base.specs.declared.lines.Line.{Line}
use Rattle.axp_line.specs.declared.messages.Reply.{Reply}
use Rattle.axp_line.specs.declared.messages.Reply.TheVariants as reply
use Rattle.axp_lsu.specs.Asking.{act_ask}
use Rattle.axp_lsu.specs.Going.{after_late, after_drain, after_act, after_stored}
use Rattle.axp_lsu.specs.Keeping.{LocalMemory, copies_of, data_copies, has_dropped, empty_memory, nothing, with_copies, with_drop}
use Rattle.axp_lsu.specs.declared.asks.Ask2.{Ask2}
use Rattle.axp_lsu.specs.declared.asks.Ask2.TheVariants as ask
use Rattle.axp_lsu.specs.declared.since.Since.{Since}
use Rattle.axp_wbuf.specs.Pending.{Pending}
use Rattle.axp_world.proofs.AskedActs.{some_if}
use Rattle.axp_world.proofs.CountKept.{since_is}

-- each bank from which a copy was dropped has room, where nothing was filled after
abbrev pub HasRooms : LocalMemory → Type 0
HasRooms u = u.since.filled ≡ false → (b : Bank) → has_dropped b u.since ≡ true → length (copies_of b u) < BANK_COPIES

-- a bank is no longer than it may be
abbrev pub AreFew : LocalMemory → Type 0
AreFew u = (b : Bank) → length (copies_of b u) ≤ BANK_COPIES

-- a held copy that is dropped is one less
fewer_by : (b some : Bool) (c : LineCopy) (cs rest : List LineCopy) → (b || some) ≡ true → length rest ≤ length cs → (some ≡ true → length rest < length cs) → length (cond (not b) (c ∷ rest) rest) < suc (length cs)
fewer_by true some c cs rest held most fewer = omega (arith, most)
fewer_by false some c cs rest held most fewer = omega (arith, fewer held)

dropped_fewer : (n : ℕ) (cs : List LineCopy) → is_held n cs ≡ true → length (dropped n cs) < length cs
unfolding is_held dropped
dropped_fewer n [] held = cc
dropped_fewer n (c ∷ cs) held = fewer_by (is_of n c) (is_held n cs) c cs (dropped n cs) held (length_dropped n cs) (dropped_fewer n cs)

invalidated_most : (n turn : ℕ) (cs : List LineCopy) → length (invalidated n turn cs) ≤ length cs
unfolding invalidated
invalidated_most n turn cs = by_older (has_older n turn cs) where
  by_older : (b : Bool) → length (cond b (dropped n cs) cs) ≤ length cs
  by_older true = length_dropped n cs
  by_older false = omega arith

-- a change of one bank that makes it no longer makes none longer
with_most : (b c : Bank) (cs : List LineCopy) (u : LocalMemory) → length cs ≤ length (copies_of c u) → length (copies_of b (with_copies c cs u)) ≤ length (copies_of b u)
with_most Even Even cs u most = most
with_most Even Odd cs u most = omega arith
with_most Even Code cs u most = omega arith
with_most Odd Even cs u most = omega arith
with_most Odd Odd cs u most = most
with_most Odd Code cs u most = omega arith
with_most Code Even cs u most = omega arith
with_most Code Odd cs u most = omega arith
with_most Code Code cs u most = most

rewritten_most : (line : Line) (r : Option Reply) (u : LocalMemory) (b : Bank) → length (copies_of b (after_stored line r u)) ≤ length (copies_of b u)
rewritten_most line (Some (reply.Stored turn bytes)) u b =
    with_most b (data_bank (line_number line)) _ u (omega (arith, length_refreshed (record { line = line; stamp = turn; bytes = bytes }) (data_copies (line_number line) u)))
rewritten_most line _ u b = omega arith

drained_most : (k : ℕ) (o : Option Pending) (r : Option Reply) (u : LocalMemory) (b : Bank) → length (copies_of b (after_drain k o r u)) ≤ length (copies_of b u)
drained_most k None r u b = omega arith
drained_most k (Some e) r u Even = rewritten_most _ r _ Even
drained_most k (Some e) r u Odd = rewritten_most _ r _ Odd
drained_most k (Some e) r u Code = rewritten_most _ r _ Code

delivered_most : (r : Option Reply) (u : LocalMemory) (b : Bank) → length (copies_of b (after_late r u)) ≤ length (copies_of b u)
delivered_most (Some (reply.Late line turn)) u b = with_most b (data_bank (line_number line)) _ u (invalidated_most (line_number line) turn (data_copies (line_number line) u))
delivered_most _ u b = omega arith

-- what each act leaves
rooms_stay : (u v : LocalMemory) → v.since ≡ u.since → ((b : Bank) → length (copies_of b v) ≤ length (copies_of b u)) → HasRooms u → HasRooms v
rooms_stay u v same most was unfilled b drops =
    omega (arith, most b, was (ap (λ s. s.filled) (sym same) ∙ unfilled) b (ap (has_dropped b) (sym same) ∙ drops))

drop_rooms : (c : Bank) (n : ℕ) (u : LocalMemory) → is_held n (copies_of c u) ≡ true → AreFew u → HasRooms u → HasRooms (record (with_copies c (dropped n (copies_of c u)) u) { since = with_drop c u.since })
drop_rooms Even n u held few was unfilled Even drops = omega (arith, few Even, dropped_fewer n u.even held)
drop_rooms Even n u held few was unfilled Odd drops = was unfilled Odd drops
drop_rooms Even n u held few was unfilled Code drops = was unfilled Code drops
drop_rooms Odd n u held few was unfilled Even drops = was unfilled Even drops
drop_rooms Odd n u held few was unfilled Odd drops = omega (arith, few Odd, dropped_fewer n u.odd held)
drop_rooms Odd n u held few was unfilled Code drops = was unfilled Code drops
drop_rooms Code n u held few was unfilled Even drops = was unfilled Even drops
drop_rooms Code n u held few was unfilled Odd drops = was unfilled Odd drops
drop_rooms Code n u held few was unfilled Code drops = omega (arith, few Code, dropped_fewer n u.code held)

marked_rooms : (s : Since) (u : LocalMemory) → s.filled ≡ u.since.filled → s.dropped_even ≡ u.since.dropped_even → s.dropped_odd ≡ u.since.dropped_odd → s.dropped_code ≡ u.since.dropped_code → HasRooms u → HasRooms (record u { since = s })
marked_rooms s u filled even odd code was unfilled Even drops = was (sym filled ∙ unfilled) Even (sym even ∙ drops)
marked_rooms s u filled even odd code was unfilled Odd drops = was (sym filled ∙ unfilled) Odd (sym odd ∙ drops)
marked_rooms s u filled even odd code was unfilled Code drops = was (sym filled ∙ unfilled) Code (sym code ∙ drops)

none_dropped : (b : Bank) → has_dropped b nothing ≡ false
none_dropped Even = refl
none_dropped Odd = refl
none_dropped Code = refl

-- at the start, and by each act
pub rooms_start : HasRooms empty_memory
rooms_start unfilled b drops = absurd (false≢true (sym (none_dropped b) ∙ drops))

pub act_rooms : (e : Act) (i : Intent) (r : Option Reply) (u : LocalMemory) (q : Ask2) → act_ask e i u ≡ Some q → AreFew u → HasRooms u → HasRooms (after_act e i r u)
act_rooms act.Step i r u q asks few was = λ unfilled b drops. absurd (false≢true (sym (none_dropped b) ∙ drops))
act_rooms act.Fill i r u q asks few was = λ unfilled b drops. absurd (false≢true (sym unfilled))
act_rooms (act.Drain k) i r u q asks few was = rooms_stay u _ (since_is (act.Drain k) i r u) (drained_most k _ r u) was
act_rooms (act.Take b) i r u q asks few was = rooms_stay u _ (since_is (act.Take b) i r u) (delivered_most r u) was
act_rooms (act.Drop b line) i r u q asks few was =
    drop_rooms b (line_number line) u (and_parts (is_held (line_number line) (copies_of b u)) (not (has_dropped b u.since)) (some_if _ (Some ask.Private) q asks).0).0 few was
act_rooms act.Poll i r u q asks few was = marked_rooms (record u.since { polled = true }) u refl refl refl refl was
act_rooms act.Tick i r u q asks few was = marked_rooms (record u.since { ticked = true }) u refl refl refl refl was
