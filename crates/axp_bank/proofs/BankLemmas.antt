-- Lists of copies that ascend, and what a change at one place makes of them.
use Rattle.std.proofs.Common.{◌≡◌, ◌≢◌, ℕ, zero, suc, ◌+◌, ◌/◌, ◌%◌, ◌<◌, ◌≤◌, Bool, true, false, cond, not, ◌||◌, nat_lt, ◌==◌, List, [], ◌∷◌, length, get_or, set, Some, None, refl, sym, ap, subst, ◌∙◌, arith, ⊎_elim}
use Rattle.std.specs.List.{find, list_any, position, position_or_len, insert, remove}
use Rattle.std.specs.Option.{option_map, unwrap_or}
use Rattle.std.proofs.lemmas.Bool.{or_parts, or_right, cases_Bool, eqb-true, ltb-true, ltb-false}
use Rattle.std.proofs.lemmas.List.Sums.{passes_at_first, prefix_len-le-length}
use Rattle.std.proofs.lemmas.List.Folds.{find_at}
use Rattle.std.proofs.lemmas.Option.{slice_get-get_or}
use Rattle.axp_bank.specs.declared.copies.LineCopy.{LineCopy}
use Rattle.axp_base.specs.declared.limits.TheConstants.{BANK_COPIES}
use Rattle.axp_bank.specs.Places.{is_above, IsPlace, IsPlaceFor, PlaceOf}
use Rattle.axp_bank.specs.Copies.{line_of, is_of, Above, Ascending, Whole, is_held, shown, get_of, refreshed, inserted, dropped, spared}

-- a test of two numbers that differ
pub apart : (a b : ℕ) → a ≢ b → (a == b) ≡ false
apart a b ne = grind arith

pub above_none : (n m : ℕ) (cs : List LineCopy) → n ≤ m → Above m cs → list_any (is_of n) cs ≡ false
above_none n m [] le above = refl
above_none n m (c ∷ cs) le above =
    λ i. apart (line_of c) n (λ e. absurd (omega (arith, above.0, e))) i || above_none n m cs le above.1 i

-- a change of a line that is not held changes nothing
pub refreshed_none : (c : LineCopy) (cs : List LineCopy) → is_held (line_of c) cs ≡ false → refreshed c cs ≡ cs
unfolding is_held refreshed
refreshed_none c [] h = refl
refreshed_none c (d ∷ ds) h =
    let parts = or_parts (is_of (line_of c) d) (list_any (is_of (line_of c)) ds) h in
    λ i. cond (parts.0 i) c d ∷ refreshed_none c ds parts.1 i

pub dropped_none : (n : ℕ) (cs : List LineCopy) → is_held n cs ≡ false → dropped n cs ≡ cs
unfolding is_held dropped
dropped_none n [] h = refl
dropped_none n (d ∷ ds) h =
    let parts = or_parts (is_of n d) (list_any (is_of n) ds) h in
    λ i. cond (not (parts.0 i)) (d ∷ dropped_none n ds parts.1 i) (dropped_none n ds parts.1 i)

pub get_none : (n : ℕ) (cs : List LineCopy) → is_held n cs ≡ false → get_of n cs ≡ None
unfolding is_held get_of
get_none n [] h = refl
get_none n (d ∷ ds) h =
    let parts = or_parts (is_of n d) (list_any (is_of n) ds) h in
    (λ i. option_map shown (cond (parts.0 i) (Some d) (find (is_of n) ds))) ∙ get_none n ds parts.1

-- the copy at a place is above what all are above
pub above_at : (m : ℕ) (cs : List LineCopy) (i : ℕ) (d : LineCopy) → Above m cs → i < length cs → m < line_of (get_or cs i d)
above_at m [] i d above inside = absurd (omega arith)
above_at m (c ∷ cs) zero d above inside = above.0
above_at m (c ∷ cs) (suc i) d above inside = above_at m cs i d above.1 (omega arith)

-- the head of an ascending list is not the copy of a line that is held further on
head_apart : (n : ℕ) (c : LineCopy) (cs : List LineCopy) (i : ℕ) → Above (line_of c) cs → i < length cs → is_of n (get_or cs i c) ≡ true → is_of n c ≡ false
head_apart n c cs i above inside here =
    apart (line_of c) n (λ e. absurd (omega (arith, e, eqb-true _ _ here, above_at (line_of c) cs i c above inside)))

-- what a change of a line makes of the list, by the place of its copy
refreshed_place : (c : LineCopy) (cs : List LineCopy) (i : ℕ) → Ascending cs → i < length cs → ((d : LineCopy) → is_of (line_of c) (get_or cs i d) ≡ true) → refreshed c cs ≡ set cs i c
unfolding Ascending refreshed is_held
refreshed_place c [] i up inside here = absurd (omega arith)
refreshed_place c (d ∷ ds) zero up inside here =
    λ i. cond (here d i) c d ∷ refreshed_none c ds (above_none (line_of c) (line_of d) ds (omega (arith, eqb-true _ _ (here d))) up.0) i
refreshed_place c (d ∷ ds) (suc k) up inside here =
    λ i. cond (head_apart (line_of c) d ds k up.0 (omega arith) (here d) i) c d ∷ refreshed_place c ds k up.1 (omega arith) here i

dropped_place : (n : ℕ) (cs : List LineCopy) (i : ℕ) → Ascending cs → i < length cs → ((d : LineCopy) → is_of n (get_or cs i d) ≡ true) → dropped n cs ≡ remove cs i
unfolding Ascending dropped is_held
dropped_place n [] i up inside here = absurd (omega arith)
dropped_place n (d ∷ ds) zero up inside here =
    (λ i. cond (not (here d i)) (d ∷ dropped n ds) (dropped n ds)) ∙ dropped_none n ds (above_none n (line_of d) ds (omega (arith, eqb-true _ _ (here d))) up.0)
dropped_place n (d ∷ ds) (suc k) up inside here =
    (λ i. cond (not (head_apart n d ds k up.0 (omega arith) (here d) i)) (d ∷ dropped n ds) (dropped n ds)) ∙ ap (λ cs. d ∷ cs) (dropped_place n ds k up.1 (omega arith) here)

held_place : (n : ℕ) (cs : List LineCopy) (i : ℕ) → i < length cs → ((d : LineCopy) → is_of n (get_or cs i d) ≡ true) → is_held n cs ≡ true
unfolding is_held
held_place n [] i inside here = absurd (omega arith)
held_place n (d ∷ ds) zero inside here = λ i. here d i || list_any (is_of n) ds
held_place n (d ∷ ds) (suc k) inside here = or_right (is_of n d) (list_any (is_of n) ds) (held_place n ds k (omega arith) here)

pub get_place : (n : ℕ) (cs : List LineCopy) (i : ℕ) (d : LineCopy) → find (is_of n) cs ≡ Some (get_or cs i d) → get_of n cs ≡ Some ((get_or cs i d).stamp, (get_or cs i d).bytes)
unfolding get_of
get_place n cs i d e = ap (option_map shown) e

-- the same for a place as the code finds it
pub refreshed_at : (c : LineCopy) (cs : List LineCopy) (i : ℕ) → Whole cs → IsPlace (line_of c) cs i → refreshed c cs ≡ set cs i c
refreshed_at c cs i w p = refreshed_place c cs i w.up p.inside p.here

pub dropped_at : (n : ℕ) (cs : List LineCopy) (i : ℕ) → Whole cs → IsPlace n cs i → dropped n cs ≡ remove cs i
dropped_at n cs i w p = dropped_place n cs i w.up p.inside p.here

-- the place that is looked for
none_passes : (p : LineCopy → Bool) (cs : List LineCopy) → length cs ≤ position_or_len p cs → list_any p cs ≡ false
none_passes p [] h = refl
none_passes p (d ∷ ds) h = ⊎_elim
    (λ (e : p d ≡ true). absurd (let none : position_or_len p (d ∷ ds) ≡ 0 = (λ i. cond (not (e i)) (1 + position_or_len p ds) 0) in omega arith))
    (λ (e : p d ≡ false).
    let more : position_or_len p (d ∷ ds) ≡ 1 + position_or_len p ds = (λ i. cond (not (e i)) (1 + position_or_len p ds) 0) in
    λ i. e i || none_passes p ds (omega arith) i)
    (cases_Bool (p d))

place_by : (n : ℕ) (cs : List LineCopy) (b : Bool) → nat_lt (position_or_len (is_of n) cs) (length cs) ≡ b → PlaceOf n cs (cond b (Some (position_or_len (is_of n) cs)) None)
unfolding is_held
place_by n cs true e =
    let inside = ltb-true _ _ e in
    let here = λ (d : LineCopy). passes_at_first (is_of n) cs d inside in
    record {
      inside = inside;
      here = here;
      held = held_place n cs _ inside here;
      got = λ d. get_place n cs _ d (find_at (is_of n) cs ∙ slice_get-get_or cs _ d inside);
    }
place_by n cs false e =
    let none = none_passes (is_of n) cs (ltb-false _ _ e) in
    record { held = none; got = get_none n cs none; drops = dropped_none n cs none; stays = λ c same. refreshed_none c cs (ap (λ m. is_held m cs) same ∙ none) }

pub place_of_position : (n : ℕ) (cs : List LineCopy) → PlaceOf n cs (position (is_of n) cs)
place_of_position n cs = place_by n cs (nat_lt (position_or_len (is_of n) cs) (length cs)) refl

-- the place that a new copy goes to
inserted_place : (c : LineCopy) (p : LineCopy → Bool) → ((d : LineCopy) → p d ≡ nat_lt (line_of c) (line_of d)) → (cs : List LineCopy) → inserted c cs ≡ insert cs (position_or_len p cs) c
unfolding inserted
inserted_place c p same [] = refl
inserted_place c p same (d ∷ ds) = inserted_place_by c p same d ds (p d) refl (inserted_place c p same ds)
  where
    inserted_place_by : (c : LineCopy) (p : LineCopy → Bool) → ((d : LineCopy) → p d ≡ nat_lt (line_of c) (line_of d)) → (d : LineCopy) (ds : List LineCopy) (b : Bool) → p d ≡ b → inserted c ds ≡ insert ds (position_or_len p ds) c
        → cond (nat_lt (line_of c) (line_of d)) (c ∷ d ∷ ds) (d ∷ inserted c ds) ≡ insert (d ∷ ds) (cond (not (p d)) (1 + position_or_len p ds) 0) c
    inserted_place_by c p same d ds true e rest =
        (λ i. cond ((sym (same d) ∙ e) i) (c ∷ d ∷ ds) (d ∷ inserted c ds)) ∙ sym (λ i. insert (d ∷ ds) (cond (not (e i)) (1 + position_or_len p ds) 0) c)
    inserted_place_by c p same d ds false e rest =
        (λ i. cond ((sym (same d) ∙ e) i) (c ∷ d ∷ ds) (d ∷ inserted c ds)) ∙ ap (λ cs. d ∷ cs) rest ∙ (let next : suc (position_or_len p ds) ≡ 1 + position_or_len p ds = omega arith in ap (λ n. insert (d ∷ ds) n c) next)
        ∙ sym (λ i. insert (d ∷ ds) (cond (not (e i)) (1 + position_or_len p ds) 0) c)

unwrap_by : (n m : ℕ) (b : Bool) → nat_lt n m ≡ b → n ≤ m → unwrap_or (cond b (Some n) None) m ≡ n
unwrap_by n m true e le = refl
unwrap_by n m false e le = let over = ltb-false n m e in omega arith

pub place_for_position : (n : ℕ) (cs : List LineCopy) → IsPlaceFor n cs (unwrap_or (position (is_above n) cs) (length cs))
place_for_position n cs =
    let fits : position_or_len (is_above n) cs ≤ length cs = prefix_len-le-length (λ x. not (is_above n x)) cs in
    let is : unwrap_or (position (is_above n) cs) (length cs) ≡ position_or_len (is_above n) cs = unwrap_by _ _ (nat_lt (position_or_len (is_above n) cs) (length cs)) refl fits in
    record {
      inside = omega (arith, is, fits);
      puts = λ c e. inserted_place c (is_above n) (λ d. grind (arith, e)) cs ∙ ap (λ i. insert cs i c) (sym is);
    }

-- the order is kept
above_weaker : (m n : ℕ) (cs : List LineCopy) → m ≤ n → Above n cs → Above m cs
above_weaker m n [] le above = tt
above_weaker m n (c ∷ cs) le above = (omega (arith, above.0), above_weaker m n cs le above.1)

same_line : (c d : LineCopy) (b : Bool) → is_of (line_of c) d ≡ b → line_of (cond b c d) ≡ line_of d
same_line c d true e = sym (eqb-true _ _ e)
same_line c d false e = refl

above_refreshed : (m : ℕ) (c : LineCopy) (cs : List LineCopy) → Above m cs → Above m (refreshed c cs)
unfolding refreshed
above_refreshed m c [] above = tt
above_refreshed m c (d ∷ ds) above = (omega (arith, same_line c d (is_of (line_of c) d) refl, above.0), above_refreshed m c ds above.1)

pub ascending_refreshed : (c : LineCopy) (cs : List LineCopy) → Ascending cs → Ascending (refreshed c cs)
unfolding Ascending refreshed
ascending_refreshed c [] up = tt
ascending_refreshed c (d ∷ ds) up =
    (subst (λ m. Above m (refreshed c ds)) (sym (same_line c d (is_of (line_of c) d) refl)) (above_refreshed (line_of d) c ds up.0), ascending_refreshed c ds up.1)

above_inserted : (m : ℕ) (c : LineCopy) (cs : List LineCopy) → m < line_of c → Above m cs → Above m (inserted c cs)
unfolding inserted
above_inserted m c [] below above = (below, tt)
above_inserted m c (d ∷ ds) below above = above_inserted_by m c d ds (nat_lt (line_of c) (line_of d)) below above (above_inserted m c ds below above.1)
  where
    above_inserted_by : (m : ℕ) (c d : LineCopy) (ds : List LineCopy) (b : Bool) → m < line_of c → Above m (d ∷ ds) → Above m (inserted c ds) → Above m (cond b (c ∷ d ∷ ds) (d ∷ inserted c ds))
    above_inserted_by m c d ds true below above rest = (below, above)
    above_inserted_by m c d ds false below above rest = (above.0, rest)

pub ascending_inserted : (c : LineCopy) (cs : List LineCopy) → Ascending cs → is_held (line_of c) cs ≡ false → Ascending (inserted c cs)
unfolding Ascending inserted is_held
ascending_inserted c [] up none = (tt, tt)
ascending_inserted c (d ∷ ds) up none =
    let parts = or_parts (is_of (line_of c) d) (list_any (is_of (line_of c)) ds) none in
    ascending_inserted_by c d ds (nat_lt (line_of c) (line_of d)) refl parts.0 up (ascending_inserted c ds up.1 parts.1)
  where
    ascending_inserted_by : (c d : LineCopy) (ds : List LineCopy) (b : Bool) → nat_lt (line_of c) (line_of d) ≡ b → is_of (line_of c) d ≡ false → Ascending (d ∷ ds) → Ascending (inserted c ds) → Ascending (cond b (c ∷ d ∷ ds) (d ∷ inserted c ds))
    ascending_inserted_by c d ds true e other up rest =
        let below = ltb-true _ _ e in
        ((below, above_weaker (line_of c) (line_of d) ds (omega arith) up.0), up)
    ascending_inserted_by c d ds false e other up rest =
        let over = ltb-false _ _ e in
        (above_inserted (line_of d) c ds (grind (arith, other)) up.0, rest)

above_dropped : (m n : ℕ) (cs : List LineCopy) → Above m cs → Above m (dropped n cs)
unfolding dropped
above_dropped m n [] above = tt
above_dropped m n (d ∷ ds) above = above_dropped_by m d (dropped n ds) (not (is_of n d)) above.0 (above_dropped m n ds above.1)
  where
    above_dropped_by : (m : ℕ) (d : LineCopy) (rest : List LineCopy) (b : Bool) → m < line_of d → Above m rest → Above m (cond b (d ∷ rest) rest)
    above_dropped_by m d rest true below above = (below, above)
    above_dropped_by m d rest false below above = above

pub ascending_dropped : (n : ℕ) (cs : List LineCopy) → Ascending cs → Ascending (dropped n cs)
unfolding Ascending dropped
ascending_dropped n [] up = tt
ascending_dropped n (d ∷ ds) up = ascending_dropped_by d (dropped n ds) (not (is_of n d)) (above_dropped (line_of d) n ds up.0) (ascending_dropped n ds up.1)
  where
    ascending_dropped_by : (d : LineCopy) (rest : List LineCopy) (b : Bool) → Above (line_of d) rest → Ascending rest → Ascending (cond b (d ∷ rest) rest)
    ascending_dropped_by d rest true above up = (above, up)
    ascending_dropped_by d rest false above up = up

-- how many copies there are
pub length_refreshed : (c : LineCopy) (cs : List LineCopy) → length (refreshed c cs) ≡ length cs
unfolding refreshed
length_refreshed c [] = refl
length_refreshed c (d ∷ ds) = ap suc (length_refreshed c ds)

pub length_inserted : (c : LineCopy) (cs : List LineCopy) → length (inserted c cs) ≡ suc (length cs)
unfolding inserted
length_inserted c [] = refl
length_inserted c (d ∷ ds) = length_inserted_by c d ds (nat_lt (line_of c) (line_of d)) (length_inserted c ds)
  where
    length_inserted_by : (c d : LineCopy) (ds : List LineCopy) (b : Bool) → length (inserted c ds) ≡ suc (length ds) → length (cond b (c ∷ d ∷ ds) (d ∷ inserted c ds)) ≡ suc (suc (length ds))
    length_inserted_by c d ds true e = refl
    length_inserted_by c d ds false e = ap suc e

pub length_dropped : (n : ℕ) (cs : List LineCopy) → length (dropped n cs) ≤ length cs
unfolding dropped
length_dropped n [] = omega arith
length_dropped n (d ∷ ds) = length_dropped_by d ds (dropped n ds) (not (is_of n d)) (length_dropped n ds)
  where
    length_dropped_by : (d : LineCopy) (ds rest : List LineCopy) (b : Bool) → length rest ≤ length ds → length (cond b (d ∷ rest) rest) ≤ suc (length ds)
    length_dropped_by d ds rest true le = omega arith
    length_dropped_by d ds rest false le = omega arith

-- a bank's copies stay what they are
pub whole_empty : Whole []
unfolding Ascending
whole_empty = record { up = tt; few = omega arith }

pub whole_refreshed : (c : LineCopy) (cs : List LineCopy) → Whole cs → Whole (refreshed c cs)
whole_refreshed c cs w = record { up = ascending_refreshed c cs w.up; few = omega (arith, length_refreshed c cs, w.few) }

pub whole_inserted : (c : LineCopy) (cs : List LineCopy) → Whole cs → is_held (line_of c) cs ≡ false → length cs < BANK_COPIES → Whole (inserted c cs)
whole_inserted c cs w none room = record { up = ascending_inserted c cs w.up none; few = omega (arith, length_inserted c cs) }

pub whole_dropped : (n : ℕ) (cs : List LineCopy) → Whole cs → Whole (dropped n cs)
whole_dropped n cs w = record { up = ascending_dropped n cs w.up; few = omega (arith, length_dropped n cs, w.few) }

-- without the copies whose bits are 1
above_spared : (m gone : ℕ) (cs : List LineCopy) → Above m cs → Above m (spared gone cs)
unfolding spared
above_spared m gone [] above = tt
above_spared m gone (c ∷ cs) above = above_spared_by (gone % 2 == 1) (above_spared m (gone / 2) cs above.1)
  where
    above_spared_by : (b : Bool) → Above m (spared (gone / 2) cs) → Above m (cond b (spared (gone / 2) cs) (c ∷ spared (gone / 2) cs))
    above_spared_by true rest = rest
    above_spared_by false rest = (above.0, rest)

ascending_spared : (gone : ℕ) (cs : List LineCopy) → Ascending cs → Ascending (spared gone cs)
unfolding Ascending spared
ascending_spared gone [] up = tt
ascending_spared gone (c ∷ cs) up = ascending_spared_by (gone % 2 == 1) (ascending_spared (gone / 2) cs up.1)
  where
    ascending_spared_by : (b : Bool) → Ascending (spared (gone / 2) cs) → Ascending (cond b (spared (gone / 2) cs) (c ∷ spared (gone / 2) cs))
    ascending_spared_by true rest = rest
    ascending_spared_by false rest = (above_spared (line_of c) (gone / 2) cs up.0, rest)

fewer_spared : (gone : ℕ) (cs : List LineCopy) → length (spared gone cs) ≤ length cs
unfolding spared
fewer_spared gone [] = omega arith
fewer_spared gone (c ∷ cs) = fewer_spared_by (gone % 2 == 1) (fewer_spared (gone / 2) cs)
  where
    fewer_spared_by : (b : Bool) → length (spared (gone / 2) cs) ≤ length cs → length (cond b (spared (gone / 2) cs) (c ∷ spared (gone / 2) cs)) ≤ suc (length cs)
    fewer_spared_by true rest = omega (arith, rest)
    fewer_spared_by false rest = omega (arith, rest)

pub whole_spared : (gone : ℕ) (cs : List LineCopy) → Whole cs → Whole (spared gone cs)
whole_spared gone cs w = record { up = ascending_spared gone cs w.up; few = omega (arith, fewer_spared gone cs, w.few) }
