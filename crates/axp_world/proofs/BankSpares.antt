-- What a barrier spares of a bank's copies, by the bits of the bus's answer; and the lines of ascending
-- copies as an ascending list.
use Rattle.std.proofs.Common.{◌≡◌, ℕ, ◌+◌, ◌*◌, ◌/◌, ◌%◌, ◌^◌, ◌<◌, ◌≤◌, Bool, true, false, cond, not, ◌||◌, eqb, List, [], ◌∷◌, ◌++◌, length, map, Option, Some, None, refl, sym, ap, ◌∙◌, subst, arith, ⊎_elim}
use Rattle.std.specs.List.{AllByRecursion, filter}
use Rattle.std.specs.Option.{option_map}
use Rattle.std.proofs.Math.Nat.{div-one, div-div-eq-div-mul, pow-succ'}
use Rattle.std.proofs.lemmas.Bool.{cases_Bool, cases_lt, eqb-true, eq-eqb, ne_eqb, or_left, false≢true}
use Rattle.axp_base.specs.declared.lines.TheConstants.{LINE_BYTES}
use Rattle.axp_bank.specs.Copies.{line_of, is_of, Above, Ascending, Whole, is_held, shown, get_of, spared}
use Rattle.axp_bank.specs.declared.copies.LineCopy.{LineCopy}
use Rattle.axp_bank.proofs.BankLemmas.{above_none, get_none}
use Rattle.axp_bank.proofs.HeldCopyLemmas.{comes, goes}
use Rattle.axp_line.specs.declared.contents.LineData.{LineData}
use Rattle.axp_line.specs.BusReply.{PortState, gone, is_late}
use Rattle.axp_laws.specs.LateLaws.{is_among, IsAscending}
use Rattle.axp_laws.proofs.RunSteps.{each_map}

-- a copy's line and stamp, as the bus is told of them
abbrev pub pair_of : LineCopy → ℕ × ℕ
pair_of c = (line_of c * LINE_BYTES, c.stamp)

-- without the copies whose line and stamp pass a test
abbrev pub without : (ℕ → ℕ → Bool) → List LineCopy → List LineCopy
without test cs = filter (λ c. not (test (line_of c) c.stamp)) cs

-- what is told of a line, without a copy that passes
abbrev pub unless : (ℕ → ℕ → Bool) → ℕ → Option (ℕ × LineData) → Option (ℕ × LineData)
unless test l None = None
unless test l (Some c) = cond (test l c.0) None (Some c)

-- something late has the line at a stamp
abbrev pub late_at : PortState → ℕ → ℕ → Bool
late_at f l stamp = is_late f (l * LINE_BYTES) stamp

low_bit : (b : Bool) (n : ℕ) → eqb ((cond b 1 0 + 2 * n) % 2) 1 ≡ b
low_bit true n = let odd : (1 + 2 * n) % 2 ≡ 1 = omega arith in rw odd refl
low_bit false n = let even : (0 + 2 * n) % 2 ≡ 0 = omega arith in rw even refl

high_bits : (b : Bool) (n : ℕ) → (cond b 1 0 + 2 * n) / 2 ≡ n
high_bits true n = omega arith
high_bits false n = omega arith

-- the bits of these copies, before those of others, spare those that nothing late has
pub spared_are : (f : PortState) (cs : List LineCopy) (more : List (ℕ × ℕ)) → spared (gone f (map pair_of cs ++ more)) cs ≡ without (late_at f) cs
unfolding spared
spared_are f [] more = refl
spared_are f (c ∷ cs) more =
    let rest : ℕ = gone f (map pair_of cs ++ more) in
    let bit : eqb ((cond (late_at f (line_of c) c.stamp) 1 0 + 2 * rest) % 2) 1 ≡ late_at f (line_of c) c.stamp = low_bit (late_at f (line_of c) c.stamp) rest in
    let bits : (cond (late_at f (line_of c) c.stamp) 1 0 + 2 * rest) / 2 ≡ rest = high_bits (late_at f (line_of c) c.stamp) rest in
    rw (bit, bits) (⊎_elim
    (λ (late : late_at f (line_of c) c.stamp ≡ true). rw late (spared_are f cs more))
    (λ (kept : late_at f (line_of c) c.stamp ≡ false). rw kept (ap (λ (ds : List LineCopy). c ∷ ds) (spared_are f cs more)))
    (cases_Bool (late_at f (line_of c) c.stamp)))

-- filtered copies stay in order
above_without : (n : ℕ) (test : ℕ → ℕ → Bool) (cs : List LineCopy) → Above n cs → Above n (without test cs)
above_without n test [] above = tt
above_without n test (c ∷ cs) above =
    ⊎_elim
    (λ (gone : test (line_of c) c.stamp ≡ true). rw gone (above_without n test cs above.1))
    (λ (stays : test (line_of c) c.stamp ≡ false). rw stays (above.0, above_without n test cs above.1))
    (cases_Bool (test (line_of c) c.stamp))

ascending_without : (test : ℕ → ℕ → Bool) (cs : List LineCopy) → Ascending cs → Ascending (without test cs)
unfolding Ascending
ascending_without test [] up = tt
ascending_without test (c ∷ cs) up =
    ⊎_elim
    (λ (gone : test (line_of c) c.stamp ≡ true). rw gone (ascending_without test cs up.1))
    (λ (stays : test (line_of c) c.stamp ≡ false). rw stays (above_without (line_of c) test cs up.0, ascending_without test cs up.1))
    (cases_Bool (test (line_of c) c.stamp))

length_without : (test : ℕ → ℕ → Bool) (cs : List LineCopy) → length (without test cs) ≤ length cs
length_without test [] = omega arith
length_without test (c ∷ cs) =
    ⊎_elim
    (λ (gone : test (line_of c) c.stamp ≡ true). rw gone (omega (arith, length_without test cs)))
    (λ (stays : test (line_of c) c.stamp ≡ false). rw stays (omega (arith, length_without test cs)))
    (cases_Bool (test (line_of c) c.stamp))

pub whole_without : (test : ℕ → ℕ → Bool) (cs : List LineCopy) → Whole cs → Whole (without test cs)
whole_without test cs w = record { up = ascending_without test cs w.up; few = omega (arith, length_without test cs, w.few) }

-- what is told of a line in a list
told_here : (l : ℕ) (c : LineCopy) (cs : List LineCopy) → is_of l c ≡ true → get_of l (c ∷ cs) ≡ Some (shown c)
unfolding get_of
told_here l c cs e = ap (option_map shown) (comes l c cs e)

told_past : (l : ℕ) (c : LineCopy) (cs : List LineCopy) → is_of l c ≡ false → get_of l (c ∷ cs) ≡ get_of l cs
unfolding get_of
told_past l c cs e = ap (option_map shown) (goes l c cs e)

pub told_of_none : (l : ℕ) → get_of l [] ≡ None
unfolding get_of
told_of_none l = refl

none_above : (l n : ℕ) (cs : List LineCopy) → n ≡ l → Above n cs → get_of l cs ≡ None
unfolding is_held
none_above l n cs same above = get_none l cs (above_none l n cs (omega arith) above)

pub get_without : (test : ℕ → ℕ → Bool) (l : ℕ) (cs : List LineCopy) → Ascending cs → get_of l (without test cs) ≡ unless test l (get_of l cs)
unfolding Ascending
get_without test l [] up = rw told_of_none refl
get_without test l (c ∷ cs) up =
    ⊎_elim
    (λ (here : is_of l c ≡ true).
    let same : line_of c ≡ l = eqb-true (line_of c) l here in
    ⊎_elim
    (λ (gone : test (line_of c) c.stamp ≡ true).
    let all : test l c.stamp ≡ true = rw (← same) gone in
    rw (gone, told_here l c cs here, all) (none_above l (line_of c) (without test cs) same (above_without (line_of c) test cs up.0)))
    (λ (stays : test (line_of c) c.stamp ≡ false).
    let all : test l c.stamp ≡ false = rw (← same) stays in
    rw (stays, told_here l c cs here, all) (told_here l c (without test cs) here))
    (cases_Bool (test (line_of c) c.stamp)))
    (λ (past : is_of l c ≡ false).
    ⊎_elim
    (λ (gone : test (line_of c) c.stamp ≡ true). rw (gone, told_past l c cs past) (get_without test l cs up.1))
    (λ (stays : test (line_of c) c.stamp ≡ false). rw (stays, told_past l c cs past) (told_past l c (without test cs) past ∙ get_without test l cs up.1))
    (cases_Bool (test (line_of c) c.stamp)))
    (cases_Bool (is_of l c))

-- the bits behind those of these copies are of the others
pub bits_behind : (f : PortState) (cs : List LineCopy) (more : List (ℕ × ℕ)) → gone f (map pair_of cs ++ more) / 2 ^ length cs ≡ gone f more
bits_behind f [] more = div-one (gone f more)
bits_behind f (c ∷ cs) more =
    let rest : ℕ = gone f (map pair_of cs ++ more) in
    let all : ℕ = cond (late_at f (line_of c) c.stamp) 1 0 + 2 * rest in
    ap (λ (n : ℕ). all / n) (pow-succ' 2 (length cs)) ∙ sym (div-div-eq-div-mul all 2 (2 ^ length cs))
    ∙ ap (λ (n : ℕ). n / 2 ^ length cs) (high_bits (late_at f (line_of c) c.stamp) rest) ∙ bits_behind f cs more

-- the lines of ascending copies
above_lines : (n : ℕ) (cs : List LineCopy) → Above n cs → AllByRecursion (λ m. n < m) (map line_of cs)
above_lines n [] above = tt
above_lines n (c ∷ cs) above = (above.0, above_lines n cs above.1)

pub ascending_lines : (cs : List LineCopy) → Ascending cs → IsAscending (map line_of cs)
unfolding Ascending
ascending_lines [] up = tt
ascending_lines (c ∷ cs) up = (above_lines (line_of c) cs up.0, ascending_lines cs up.1)

pub among_lines : (l : ℕ) (cs : List LineCopy) → is_among l (map line_of cs) ≡ is_held l cs
unfolding is_held
among_lines l [] = refl
among_lines l (c ∷ cs) = ap (λ (b : Bool). is_of l c || b) (among_lines l cs)

-- ascending lists with the same members are the same
not_among : (l : ℕ) (ks : List ℕ) → AllByRecursion (λ n. l < n) ks → is_among l ks ≡ false
not_among l [] above = refl
not_among l (k ∷ ks) above = rw (ne_eqb k l (λ (e : k ≡ l). absurd (omega (arith, e, above.0)))) (not_among l ks above.1)

among_first : (k : ℕ) (ks : List ℕ) → is_among k (k ∷ ks) ≡ true
among_first k ks = or_left (eqb k k) (is_among k ks) (eq-eqb k k refl)

no_less : (x y : ℕ) (xs ys : List ℕ) → IsAscending (y ∷ ys) → ((l : ℕ) → is_among l (x ∷ xs) ≡ is_among l (y ∷ ys)) → y ≤ x
no_less x y xs ys up same =
    ⊎_elim
    (λ (less : x < y).
    let above : AllByRecursion (λ n. x < n) ys = each_map (λ n. y < n) (λ n. x < n) ys (λ n a. omega arith) up.0 in
    absurd (false≢true (sym (not_among x (y ∷ ys) (less, above)) ∙ sym (same x) ∙ among_first x xs)))
    (λ (more : y ≤ x). more)
    (cases_lt x y)

same_members : (x : ℕ) (xs ys : List ℕ) → IsAscending (x ∷ xs) → IsAscending (x ∷ ys) → ((l : ℕ) → is_among l (x ∷ xs) ≡ is_among l (x ∷ ys)) → (l : ℕ) → is_among l xs ≡ is_among l ys
same_members x xs ys up over same l =
    ⊎_elim
    (λ (here : eqb x l ≡ true).
    let first : x ≡ l = eqb-true x l here in
    rw (← first) (not_among x xs up.0 ∙ sym (not_among x ys over.0)))
    (λ (apart : eqb x l ≡ false). let both = same l in rw apart at both)
    (cases_Bool (eqb x l))

pub same_ascending : (xs ys : List ℕ) → IsAscending xs → IsAscending ys → ((l : ℕ) → is_among l xs ≡ is_among l ys) → xs ≡ ys
same_ascending [] [] up over same = refl
same_ascending [] (y ∷ ys) up over same = absurd (false≢true (same y ∙ among_first y ys))
same_ascending (x ∷ xs) [] up over same = absurd (false≢true (sym (same x) ∙ among_first x xs))
same_ascending (x ∷ xs) (y ∷ ys) up over same =
    let first : x ≡ y = omega (arith, no_less x y xs ys over same, no_less y x ys xs up (λ l. sym (same l))) in
    let there : IsAscending (x ∷ ys) = subst (λ n. IsAscending (n ∷ ys)) (sym first) over in
    let members : (l : ℕ) → is_among l (x ∷ xs) ≡ is_among l (x ∷ ys) = λ l. same l ∙ ap (λ n. is_among l (n ∷ ys)) (sym first) in
    let rest : xs ≡ ys = same_ascending xs ys up.1 over.1 (same_members x xs ys up there members) in
    λ i. first i ∷ rest i
