-- One print after another.
use Rattle.std.proofs.Common.{◌≡◌, ⊎_elim, inl, inr, ℕ, zero, suc, ◌+◌, length, List, [], ◌∷◌, ◌++◌, Option, Result, Ok, Err, refl, sym, ap, ◌∙◌, subst, append_assoc, append-nil, length-append, arith}
use Rattle.std.specs.Prelude.{IsErrAnd}
use Rattle.std.specs.List.{concat}
use Rattle.std.proofs.lemmas.List.Folds.{concat-append}
use Rattle.std.proofs.KnownBytes.{Appends-nil, Appends-trans}
use Rattle.axp_io.specs.Causes.{Appends, PutCount, PutTaken, raised}
use Rattle.axp_io.specs.declared.SinkFault.{SinkFault}
use Rattle.axp_io.specs.declared.SinkFault.TheVariants as sink
use Rattle.axp_io.proofs.Fronts.{appends_none}
use Rattle.axp_top.specs.declared.printing.Stop.{Stop}
use Rattle.axp_top.specs.declared.printing.Stop.TheVariants as stop
use Rattle.axp_top.specs.Outside.{SinkState}
use Rattle.axp_top.specs.Printing.{LacksAt, Printed, Stopped, StopsAt, Prints, after_puts}
use Rattle.axp_top.specs.Texts.{Lines}

-- ---- one put

put_text : (before now : Option (List ℕ)) (piece : List ℕ) → Appends before now piece → Appends before now (concat (piece ∷ []))
put_text before now piece taken = subst (Appends before now) (sym (append-nil piece)) taken

pub put_printed : (b n : SinkState) (piece : List ℕ) → Appends b.taken n.taken piece → n.faults ≡ b.faults → n.puts ≡ raised b.puts 1 → Printed b n (piece ∷ [])
put_printed b n piece taken count puts = record { text = put_text b.taken n.taken piece taken; count = count; each = puts }

pub put_failed : (b n : SinkState) (piece : List ℕ) (f : SinkFault) → f ≡ sink.Failed → PutTaken {T = Unit {0}} b.taken n.taken piece (Err f) → PutCount {T = Unit {0}} b.faults n.faults (Err f) → n.puts ≡ raised b.puts 1
    → Stopped b n (piece ∷ []) stop.WriteFault
put_failed b n piece sink.Failed is taken count puts = (
  (
    taken.0,
    record { whole = []; line = piece; others = []; parted = refl; missing = taken.1; cut = taken.2; text = taken.3; each = puts },
  ),
  count,
)
put_failed b n piece sink.Memory is taken count puts = cc

pub put_unfound : (b n : SinkState) (piece : List ℕ) (f : SinkFault) → f ≡ sink.Memory → PutTaken {T = Unit {0}} b.taken n.taken piece (Err f) → PutCount {T = Unit {0}} b.faults n.faults (Err f) → n.puts ≡ raised b.puts 1
    → Stopped b n (piece ∷ []) stop.Memory
put_unfound b n piece sink.Memory is kept count puts = (
  inl (record { whole = []; line = piece; others = []; parted = refl; missing = piece; cut = refl; text = appends_none b.taken n.taken kept; each = puts }),
  count,
)
put_unfound b n piece sink.Failed is kept count puts = cc

-- ---- prints in turn

-- so many puts and then so many
puts_then : (n a b : ℕ) → after_puts (after_puts n a) b ≡ after_puts n (a + b)
puts_then n zero b = let e : zero + b ≡ b = omega arith in rw e refl
puts_then n (suc a) zero = let e : suc a + zero ≡ suc a = omega arith in rw e refl
puts_then n (suc a) (suc b) = let e : suc a + suc b ≡ suc (a + suc b) = omega arith in rw e (omega arith)

-- and then one that stopped
puts_stop : (n a k : ℕ) → raised (after_puts n a) (k + 1) ≡ raised n (a + k + 1)
puts_stop n zero k = omega arith
puts_stop n (suc a) k = omega arith

pub printed_none : (b : SinkState) → Printed b b []
printed_none b = record { text = Appends-nil b.taken; count = refl; each = refl }

pub printed_then : (b m n : SinkState) (xs ys : Lines) → Printed b m xs → Printed m n ys → Printed b n (xs ++ ys)
printed_then b m n xs ys first next = record {
  text = rw (concat-append xs ys) (Appends-trans b.taken m.taken n.taken (concat xs) (concat ys) first.text next.text);
  count = next.count ∙ first.count;
  each = next.each ∙ ap (λ k. after_puts k (length ys)) first.each ∙ puts_then b.puts (length xs) (length ys) ∙ ap (after_puts b.puts) (sym (length-append xs ys));
}

stops_then : (b m n : SinkState) (xs ys : Lines) (part : List ℕ) → Printed b m xs → StopsAt m n ys part → StopsAt b n (xs ++ ys) part
stops_then b m n xs ys part first next =
    let text : concat xs ++ (concat next.whole ++ part) ≡ concat (xs ++ next.whole) ++ part = sym (append_assoc (concat xs) (concat next.whole) part) ∙ ap (λ t. t ++ part) (sym (concat-append xs next.whole)) in
    let count : length xs + length next.whole ≡ length (xs ++ next.whole) = sym (length-append xs next.whole) in
    record {
      whole = xs ++ next.whole;
      line = next.line;
      others = next.others;
      parted = ap (λ (t : Lines). xs ++ t) next.parted ∙ sym (append_assoc xs next.whole (next.line ∷ next.others));
      missing = next.missing;
      cut = next.cut;
      text = subst (Appends b.taken n.taken) text (Appends-trans b.taken m.taken n.taken (concat xs) (concat next.whole ++ part) first.text next.text);
      each = next.each ∙ ap (λ k. raised k (length next.whole + 1)) first.each ∙ puts_stop b.puts (length xs) (length next.whole) ∙ ap (λ k. raised b.puts (k + 1)) count;
    }

stops_longer : (b n : SinkState) (xs ys : Lines) (part : List ℕ) → StopsAt b n xs part → StopsAt b n (xs ++ ys) part
stops_longer b n xs ys part stops = record {
  whole = stops.whole;
  line = stops.line;
  others = stops.others ++ ys;
  parted = ap (λ (t : Lines). t ++ ys) stops.parted ∙ append_assoc stops.whole (stops.line ∷ stops.others) ys;
  missing = stops.missing;
  cut = stops.cut;
  text = stops.text;
  each = stops.each;
}

lacks_then : (b m n : SinkState) (xs ys : Lines) → Printed b m xs → LacksAt m n ys → LacksAt b n (xs ++ ys)
lacks_then b m n xs ys first next = record {
  whole = xs ++ next.whole;
  others = next.others;
  parted = ap (λ (t : Lines). xs ++ t) next.parted ∙ sym (append_assoc xs next.whole next.others);
  text = rw (concat-append xs next.whole) (Appends-trans b.taken m.taken n.taken (concat xs) (concat next.whole) first.text next.text);
  each = next.each ∙ ap (λ k. after_puts k (length next.whole)) first.each ∙ puts_then b.puts (length xs) (length next.whole) ∙ ap (after_puts b.puts) (sym (length-append xs next.whole));
}

lacks_longer : (b n : SinkState) (xs ys : Lines) → LacksAt b n xs → LacksAt b n (xs ++ ys)
lacks_longer b n xs ys lacks = record {
  whole = lacks.whole;
  others = lacks.others ++ ys;
  parted = ap (λ (t : Lines). t ++ ys) lacks.parted ∙ append_assoc lacks.whole lacks.others ys;
  text = lacks.text;
  each = lacks.each;
}

-- memory was not found before any put
pub lacks_all : (b : SinkState) (others : Lines) → Stopped b b others stop.Memory
lacks_all b others = (inr (record { whole = []; others = others; parted = refl; text = Appends-nil b.taken; each = refl }), refl)

pub stopped_then : (b m n : SinkState) (xs ys : Lines) (s : Stop) → Printed b m xs → Stopped m n ys s → Stopped b n (xs ++ ys) s
stopped_then b m n xs ys stop.WriteFault first next = ((next.0.0, stops_then b m n xs ys next.0.0 first next.0.1), next.1 ∙ ap (λ k. raised k 1) first.count)
stopped_then b m n xs ys stop.Memory first next = (⊎_elim (λ h. inl (stops_then b m n xs ys [] first h)) (λ h. inr (lacks_then b m n xs ys first h)) next.0, next.1 ∙ first.count)

pub stopped_longer : (b n : SinkState) (xs ys : Lines) (s : Stop) → Stopped b n xs s → Stopped b n (xs ++ ys) s
stopped_longer b n xs ys stop.WriteFault stops = ((stops.0.0, stops_longer b n xs ys stops.0.0 stops.0.1), stops.1)
stopped_longer b n xs ys stop.Memory stops = (⊎_elim (λ h. inl (stops_longer b n xs ys [] h)) (λ h. inr (lacks_longer b n xs ys h)) stops.0, stops.1)

-- the exit of a `?` hands the stop on
pub exits : {A : Type 0} (b n : SinkState) (xs : Lines) (r : Result A Stop) (s : Stop) → IsErrAnd r (λ x. x ≡ s) → Stopped b n xs s → Prints b n xs r
exits b n xs (Ok v) s err h = absurd err
exits b n xs (Err x) s err h = subst (Stopped b n xs) (sym err) h

pub prints_then : {A : Type 0} (b m n : SinkState) (xs ys : Lines) (r : Result A Stop) → Printed b m xs → Prints m n ys r → Prints b n (xs ++ ys) r
prints_then b m n xs ys (Ok v) first next = printed_then b m n xs ys first next
prints_then b m n xs ys (Err s) first next = stopped_then b m n xs ys s first next

-- the same of any promise
pub hands_on : {A : Type 0} (P : Result A Stop → Type 0) (r : Result A Stop) (s : Stop) → IsErrAnd r (λ x. x ≡ s) → P (Err s) → P r
hands_on P (Ok v) s err h = absurd err
hands_on P (Err x) s err h = subst (λ y. P (Err y)) (sym err) h
