-- What is held after each change of a bank's list of copies.
use Rattle.std.proofs.Common.{◌≡◌, ◌≢◌, ℕ, zero, suc, ◌<◌, ◌≤◌, Bool, true, false, cond, not, ◌||◌, ◌&&◌, nat_lt, ◌==◌, List, [], ◌∷◌, length, get_or, Some, None, refl, sym, ap, ◌∙◌, arith}
use Rattle.std.specs.List.{find, list_any}
use Rattle.std.specs.Option.{option_map, is_some}
use Rattle.std.specs.declared.option.Option.{Option}
use Rattle.std.proofs.lemmas.Bool.{or_parts, or_left, or_right, eqb-true, ltb-true, ltb-false, lt-ltb, le-ltb, true≢false}
use Rattle.axp_base.specs.Lines.{line_number}
use Rattle.axp_base.specs.declared.lines.Line.{Line}
use Rattle.axp_line.specs.declared.contents.LineData.{LineData}
use Rattle.axp_bank.specs.declared.copies.LineCopy.{LineCopy}
use Rattle.axp_base.specs.declared.limits.TheConstants.{BANK_COPIES}
use Rattle.axp_bank.specs.Copies.{line_of, is_of, Ascending, Whole, is_held, shown, get_of, has_room, refreshed, inserted, put, dropped, is_older, has_older, invalidated, held_lines, has_line, stamp_beside, stamp_of}
use Rattle.axp_bank.proofs.BankLemmas.{apart, above_at, whole_refreshed, whole_inserted, whole_dropped}

-- a copy is of its own line
pub own : (c : LineCopy) → is_of (line_of c) c ≡ true
own c = grind arith

-- a search that comes to a copy of the line, and one that goes past a copy
pub comes : (n : ℕ) (c : LineCopy) (cs : List LineCopy) → is_of n c ≡ true → find (is_of n) (c ∷ cs) ≡ Some c
comes n c cs e = λ i. cond (e i) (Some c) (find (is_of n) cs)

pub goes : (n : ℕ) (c : LineCopy) (cs : List LineCopy) → is_of n c ≡ false → find (is_of n) (c ∷ cs) ≡ find (is_of n) cs
goes n c cs e = λ i. cond (e i) (Some c) (find (is_of n) cs)

goes_both : (n : ℕ) (c : LineCopy) (cs ds : List LineCopy) → find (is_of n) cs ≡ find (is_of n) ds → find (is_of n) (c ∷ cs) ≡ find (is_of n) (c ∷ ds)
goes_both n c cs ds e = λ i. cond (is_of n c) (Some c) (e i)

found_refreshed : (c : LineCopy) (cs : List LineCopy) → list_any (is_of (line_of c)) cs ≡ true → find (is_of (line_of c)) (refreshed c cs) ≡ Some c
unfolding refreshed
found_refreshed c [] h = cc
found_refreshed c (d ∷ ds) h = found_refreshed_by c d ds (is_of (line_of c) d) refl h (found_refreshed c ds)
  where
    found_refreshed_by : (c d : LineCopy) (ds : List LineCopy) (b : Bool) → is_of (line_of c) d ≡ b → (b || list_any (is_of (line_of c)) ds) ≡ true
        → (list_any (is_of (line_of c)) ds ≡ true → find (is_of (line_of c)) (refreshed c ds) ≡ Some c) → find (is_of (line_of c)) (cond b c d ∷ refreshed c ds) ≡ Some c
    found_refreshed_by c d ds true e h rest = comes (line_of c) c (refreshed c ds) (own c)
    found_refreshed_by c d ds false e h rest = goes (line_of c) d (refreshed c ds) e ∙ rest h

other_refreshed : (n : ℕ) (c : LineCopy) (cs : List LineCopy) → n ≢ line_of c → find (is_of n) (refreshed c cs) ≡ find (is_of n) cs
unfolding refreshed
other_refreshed n c [] ne = refl
other_refreshed n c (d ∷ ds) ne = other_refreshed_by n c d ds (is_of (line_of c) d) refl ne (other_refreshed n c ds ne)
  where
    other_refreshed_by : (n : ℕ) (c d : LineCopy) (ds : List LineCopy) (b : Bool) → is_of (line_of c) d ≡ b → n ≢ line_of c
        → find (is_of n) (refreshed c ds) ≡ find (is_of n) ds → find (is_of n) (cond b c d ∷ refreshed c ds) ≡ find (is_of n) (d ∷ ds)
    other_refreshed_by n c d ds true e ne rest =
        goes n c (refreshed c ds) (apart (line_of c) n (λ same. ne (sym same))) ∙ rest ∙ sym (goes n d ds (apart (line_of d) n (λ same. ne (sym same ∙ eqb-true _ _ e))))
    other_refreshed_by n c d ds false e ne rest = goes_both n d (refreshed c ds) ds rest

found_inserted : (c : LineCopy) (cs : List LineCopy) → list_any (is_of (line_of c)) cs ≡ false → find (is_of (line_of c)) (inserted c cs) ≡ Some c
unfolding inserted
found_inserted c [] h = comes (line_of c) c [] (own c)
found_inserted c (d ∷ ds) h =
    let parts = or_parts (is_of (line_of c) d) (list_any (is_of (line_of c)) ds) h in
    found_inserted_by c d ds (nat_lt (line_of c) (line_of d)) parts.0 (found_inserted c ds parts.1)
  where
    found_inserted_by : (c d : LineCopy) (ds : List LineCopy) (b : Bool) → is_of (line_of c) d ≡ false → find (is_of (line_of c)) (inserted c ds) ≡ Some c → find (is_of (line_of c)) (cond b (c ∷ d ∷ ds) (d ∷ inserted c ds)) ≡ Some c
    found_inserted_by c d ds true e rest = comes (line_of c) c (d ∷ ds) (own c)
    found_inserted_by c d ds false e rest = goes (line_of c) d (inserted c ds) e ∙ rest

other_inserted : (n : ℕ) (c : LineCopy) (cs : List LineCopy) → n ≢ line_of c → find (is_of n) (inserted c cs) ≡ find (is_of n) cs
unfolding inserted
other_inserted n c [] ne = goes n c [] (apart (line_of c) n (λ same. ne (sym same)))
other_inserted n c (d ∷ ds) ne = other_inserted_by n c d ds (nat_lt (line_of c) (line_of d)) ne (other_inserted n c ds ne)
  where
    other_inserted_by : (n : ℕ) (c d : LineCopy) (ds : List LineCopy) (b : Bool) → n ≢ line_of c → find (is_of n) (inserted c ds) ≡ find (is_of n) ds → find (is_of n) (cond b (c ∷ d ∷ ds) (d ∷ inserted c ds)) ≡ find (is_of n) (d ∷ ds)
    other_inserted_by n c d ds true ne rest = goes n c (d ∷ ds) (apart (line_of c) n (λ same. ne (sym same)))
    other_inserted_by n c d ds false ne rest = goes_both n d (inserted c ds) ds rest

found_dropped : (n : ℕ) (cs : List LineCopy) → find (is_of n) (dropped n cs) ≡ None
unfolding dropped
found_dropped n [] = refl
found_dropped n (d ∷ ds) = found_dropped_by n d (dropped n ds) (is_of n d) refl (found_dropped n ds)
  where
    found_dropped_by : (n : ℕ) (d : LineCopy) (rest : List LineCopy) (b : Bool) → is_of n d ≡ b → find (is_of n) rest ≡ None → find (is_of n) (cond (not b) (d ∷ rest) rest) ≡ None
    found_dropped_by n d rest true e none = none
    found_dropped_by n d rest false e none = goes n d rest e ∙ none

other_dropped : (m n : ℕ) (cs : List LineCopy) → m ≢ n → find (is_of m) (dropped n cs) ≡ find (is_of m) cs
unfolding dropped
other_dropped m n [] ne = refl
other_dropped m n (d ∷ ds) ne = other_dropped_by m n d ds (dropped n ds) (is_of n d) refl ne (other_dropped m n ds ne)
  where
    other_dropped_by : (m n : ℕ) (d : LineCopy) (ds rest : List LineCopy) (b : Bool) → is_of n d ≡ b → m ≢ n → find (is_of m) rest ≡ find (is_of m) ds → find (is_of m) (cond (not b) (d ∷ rest) rest) ≡ find (is_of m) (d ∷ ds)
    other_dropped_by m n d ds rest true e ne same = same ∙ sym (goes m d ds (apart (line_of d) m (λ is. ne (sym is ∙ eqb-true _ _ e))))
    other_dropped_by m n d ds rest false e ne same = goes_both m d rest ds same

-- a line is held where there is a copy to get
held_find : (n : ℕ) (cs : List LineCopy) → list_any (is_of n) cs ≡ is_some (find (is_of n) cs)
held_find n [] = refl
held_find n (c ∷ cs) = held_find_by c (find (is_of n) cs) (is_of n c) (held_find n cs)
  where
    held_find_by : (c : LineCopy) (o : Option LineCopy) (b : Bool) {x : Bool} → x ≡ is_some o → (b || x) ≡ is_some (cond b (Some c) o)
    held_find_by c o true e = refl
    held_find_by c o false e = e

some_mapped : (o : Option LineCopy) → is_some o ≡ is_some (option_map shown o)
some_mapped None = refl
some_mapped (Some c) = refl

pub held_get : (n : ℕ) (cs : List LineCopy) → is_held n cs ≡ is_some (get_of n cs)
unfolding is_held get_of
held_get n cs = held_find n cs ∙ some_mapped (find (is_of n) cs)

-- what is got after each change
pub get_refreshed : (c : LineCopy) (cs : List LineCopy) → is_held (line_of c) cs ≡ true → get_of (line_of c) (refreshed c cs) ≡ Some (c.stamp, c.bytes)
unfolding is_held get_of
get_refreshed c cs h = ap (option_map shown) (found_refreshed c cs h)

pub get_refreshed_other : (n : ℕ) (c : LineCopy) (cs : List LineCopy) → n ≢ line_of c → get_of n (refreshed c cs) ≡ get_of n cs
unfolding get_of
get_refreshed_other n c cs ne = ap (option_map shown) (other_refreshed n c cs ne)

pub get_inserted : (c : LineCopy) (cs : List LineCopy) → is_held (line_of c) cs ≡ false → get_of (line_of c) (inserted c cs) ≡ Some (c.stamp, c.bytes)
unfolding is_held get_of
get_inserted c cs h = ap (option_map shown) (found_inserted c cs h)

pub get_inserted_other : (n : ℕ) (c : LineCopy) (cs : List LineCopy) → n ≢ line_of c → get_of n (inserted c cs) ≡ get_of n cs
unfolding get_of
get_inserted_other n c cs ne = ap (option_map shown) (other_inserted n c cs ne)

pub get_dropped : (n : ℕ) (cs : List LineCopy) → get_of n (dropped n cs) ≡ None
unfolding get_of
get_dropped n cs = ap (option_map shown) (found_dropped n cs)

pub get_dropped_other : (m n : ℕ) (cs : List LineCopy) → m ≢ n → get_of m (dropped n cs) ≡ get_of m cs
unfolding get_of
get_dropped_other m n cs ne = ap (option_map shown) (other_dropped m n cs ne)

-- the three cases of a put
put_by : (P : List LineCopy → Type 0) (c : LineCopy) (cs : List LineCopy) (held room : Bool) → is_held (line_of c) cs ≡ held → nat_lt (length cs) BANK_COPIES ≡ room
    → (held ≡ true → P (refreshed c cs)) → (held ≡ false → room ≡ true → P (inserted c cs)) → (held ≡ false → room ≡ false → P cs) → P (cond held (refreshed c cs) (cond room (inserted c cs) cs))
put_by P c cs true room h r refresh insert full = refresh refl
put_by P c cs false true h r refresh insert full = insert refl refl
put_by P c cs false false h r refresh insert full = full refl refl

put_cases : (P : List LineCopy → Type 0) (c : LineCopy) (cs : List LineCopy)
    → (is_held (line_of c) cs ≡ true → P (refreshed c cs)) → (is_held (line_of c) cs ≡ false → nat_lt (length cs) BANK_COPIES ≡ true → P (inserted c cs)) → (is_held (line_of c) cs ≡ false → nat_lt (length cs) BANK_COPIES ≡ false → P cs) → P (put c cs)
unfolding put
put_cases P c cs refresh insert full = put_by P c cs (is_held (line_of c) cs) (nat_lt (length cs) BANK_COPIES) refl refl refresh insert full

roomless : (held room : Bool) → (held || room) ≡ true → held ≡ false → room ≡ true
roomless true room h e = absurd (true≢false e)
roomless false room h e = h

pub get_put : (c : LineCopy) (cs : List LineCopy) → has_room (line_of c) cs ≡ true → get_of (line_of c) (put c cs) ≡ Some (c.stamp, c.bytes)
get_put c cs room =
    put_cases (λ new. get_of (line_of c) new ≡ Some (c.stamp, c.bytes)) c cs (λ h. get_refreshed c cs h) (λ h r. get_inserted c cs h)
    (λ h full. absurd (true≢false (sym (roomless _ _ room h) ∙ full)))

pub get_put_other : (n : ℕ) (c : LineCopy) (cs : List LineCopy) → n ≢ line_of c → get_of n (put c cs) ≡ get_of n cs
get_put_other n c cs ne =
    put_cases (λ new. get_of n new ≡ get_of n cs) c cs (λ h. get_refreshed_other n c cs ne) (λ h r. get_inserted_other n c cs ne) (λ h full. refl)

pub put_no_room : (c : LineCopy) (cs : List LineCopy) → has_room (line_of c) cs ≡ false → put c cs ≡ cs
put_no_room c cs none =
    let parts = or_parts (is_held (line_of c) cs) (nat_lt (length cs) BANK_COPIES) none in
    put_cases (λ new. new ≡ cs) c cs (λ h. absurd (true≢false (sym h ∙ parts.0))) (λ h r. absurd (true≢false (sym r ∙ parts.1))) (λ h full. refl)

pub no_room_full : (n : ℕ) (cs : List LineCopy) → Whole cs → has_room n cs ≡ false → (is_held n cs ≡ false) × (length cs ≡ BANK_COPIES)
no_room_full n cs w none =
    let parts = or_parts (is_held n cs) (nat_lt (length cs) BANK_COPIES) none in
    let full : BANK_COPIES ≤ length cs = ltb-false _ _ parts.1 in
    (parts.0, omega (arith, full, w.few))

pub whole_put : (c : LineCopy) (cs : List LineCopy) → Whole cs → Whole (put c cs)
whole_put c cs w = put_cases Whole c cs (λ h. whole_refreshed c cs w) (λ h r. whole_inserted c cs w h (ltb-true _ _ r)) (λ h full. w)

-- an invalidation
older_by : (P : List LineCopy → Type 0) (n : ℕ) (cs : List LineCopy) (b : Bool) → (b ≡ true → P (dropped n cs)) → (b ≡ false → P cs) → P (cond b (dropped n cs) cs)
older_by P n cs true older kept = older refl
older_by P n cs false older kept = kept refl

older_cases : (P : List LineCopy → Type 0) (n turn : ℕ) (cs : List LineCopy) → (has_older n turn cs ≡ true → P (dropped n cs)) → (has_older n turn cs ≡ false → P cs) → P (invalidated n turn cs)
unfolding invalidated
older_cases P n turn cs older kept = older_by P n cs (has_older n turn cs) older kept

pub invalidated_older : (n turn : ℕ) (cs : List LineCopy) (s : ℕ) (b : LineData) → get_of n cs ≡ Some (s, b) → s < turn → get_of n (invalidated n turn cs) ≡ None
invalidated_older n turn cs s b got less =
    older_cases (λ new. get_of n new ≡ None) n turn cs (λ h. get_dropped n cs) (λ h. absurd (true≢false (sym (lt-ltb _ _ less) ∙ sym (ap (is_older turn) got) ∙ h)))

pub invalidated_kept : (n turn : ℕ) (cs : List LineCopy) (s : ℕ) (b : LineData) → get_of n cs ≡ Some (s, b) → turn ≤ s → invalidated n turn cs ≡ cs
invalidated_kept n turn cs s b got kept =
    older_cases (λ new. new ≡ cs) n turn cs (λ h. absurd (true≢false (sym h ∙ ap (is_older turn) got ∙ le-ltb _ _ kept))) (λ h. refl)

pub invalidated_absent : (n turn : ℕ) (cs : List LineCopy) → get_of n cs ≡ None → invalidated n turn cs ≡ cs
invalidated_absent n turn cs none = older_cases (λ new. new ≡ cs) n turn cs (λ h. absurd (true≢false (sym h ∙ ap (is_older turn) none))) (λ h. refl)

pub invalidated_other : (m n turn : ℕ) (cs : List LineCopy) → m ≢ n → get_of m (invalidated n turn cs) ≡ get_of m cs
invalidated_other m n turn cs ne = older_cases (λ new. get_of m new ≡ get_of m cs) n turn cs (λ h. get_dropped_other m n cs ne) (λ h. refl)

pub held_dropped : (n : ℕ) (cs : List LineCopy) → is_held n (dropped n cs) ≡ false
held_dropped n cs = held_get n (dropped n cs) ∙ ap is_some (get_dropped n cs)

older_held : (turn : ℕ) (o : Option (ℕ × LineData)) → is_older turn o ≡ true → is_some o ≡ true
older_held turn None h = h
older_held turn (Some c) h = refl

told_kept : (b : Bool) → (b && not b) ≡ false
told_kept true = refl
told_kept false = refl

pub invalidated_told : (n turn : ℕ) (cs : List LineCopy) → has_older n turn cs ≡ (is_held n cs && not (is_held n (invalidated n turn cs)))
invalidated_told n turn cs =
    older_cases (λ new. has_older n turn cs ≡ (is_held n cs && not (is_held n new))) n turn cs
    (λ h. h ∙ sym ((λ i. (held_get n cs ∙ older_held turn (get_of n cs) h) i && not (held_dropped n cs i))))
    (λ h. h ∙ sym (told_kept (is_held n cs)))

pub whole_invalidated : (n turn : ℕ) (cs : List LineCopy) → Whole cs → Whole (invalidated n turn cs)
whole_invalidated n turn cs w = older_cases Whole n turn cs (λ h. whole_dropped n cs w) (λ h. w)

-- lines ascend
ascends : (cs : List LineCopy) (i j : ℕ) (d : LineCopy) → Ascending cs → i < j → j < length cs → line_of (get_or cs i d) < line_of (get_or cs j d)
unfolding Ascending
ascends [] i j d up before inside = absurd (omega arith)
ascends (c ∷ cs) i zero d up before inside = absurd (omega arith)
ascends (c ∷ cs) zero (suc j) d up before inside = above_at (line_of c) cs j d up.0 (omega arith)
ascends (c ∷ cs) (suc i) (suc j) d up before inside = ascends cs i j d up.1 (omega arith) (omega arith)

pub whole_ascends : (cs : List LineCopy) (i j : ℕ) (d : LineCopy) → Whole cs → i < j → j < length cs → line_of (get_or cs i d) < line_of (get_or cs j d)
whole_ascends cs i j d w = ascends cs i j d w.up

-- the list of what is held
pub lines_held : (n : ℕ) (cs : List LineCopy) → has_line n (held_lines cs) ≡ is_held n cs
unfolding is_held
lines_held n [] = refl
lines_held n (c ∷ cs) = ap (λ b. is_of n c || b) (lines_held n cs)

stamp_mapped : (c : LineCopy) (b : Bool) (o : Option (Line × ℕ)) (p : Option LineCopy) → option_map {T = Line × ℕ} (λ l. l.1) o ≡ option_map {T = ℕ × LineData} (λ s. s.0) (option_map shown p)
    → option_map {T = Line × ℕ} (λ l. l.1) (cond b (Some (c.line, c.stamp)) o) ≡ option_map {T = ℕ × LineData} (λ s. s.0) (option_map shown (cond b (Some c) p))
stamp_mapped c true o p e = refl
stamp_mapped c false o p e = e

pub lines_stamps : (n : ℕ) (cs : List LineCopy) → stamp_beside n (held_lines cs) ≡ stamp_of n cs
unfolding get_of
lines_stamps n [] = refl
lines_stamps n (c ∷ cs) = stamp_mapped c (is_of n c) (find (λ l. line_number l.0 == n) (held_lines cs)) (find (is_of n) cs) (lines_stamps n cs)

pub held_refreshed : (n : ℕ) (c : LineCopy) (cs : List LineCopy) → is_held n (refreshed c cs) ≡ is_held n cs
unfolding is_held refreshed
held_refreshed n c [] = refl
held_refreshed n c (d ∷ ds) = held_refreshed_by n c d ds (is_of (line_of c) d) refl (held_refreshed n c ds)
  where
    held_refreshed_by : (n : ℕ) (c d : LineCopy) (ds : List LineCopy) (b : Bool) → is_of (line_of c) d ≡ b → list_any (is_of n) (refreshed c ds) ≡ list_any (is_of n) ds
        → list_any (is_of n) (cond b c d ∷ refreshed c ds) ≡ list_any (is_of n) (d ∷ ds)
    held_refreshed_by n c d ds true e rest = (λ i. (sym (eqb-true (line_of d) (line_of c) e) i == n) || rest i)
    held_refreshed_by n c d ds false e rest = ap (λ b. is_of n d || b) rest

pub room_of_held : (n : ℕ) (cs : List LineCopy) → is_held n cs ≡ true → has_room n cs ≡ true
room_of_held n cs h = or_left (is_held n cs) (nat_lt (length cs) BANK_COPIES) h

pub room_of_few : (n : ℕ) (cs : List LineCopy) → length cs < BANK_COPIES → has_room n cs ≡ true
room_of_few n cs few = or_right (is_held n cs) (nat_lt (length cs) BANK_COPIES) (lt-ltb _ _ few)

line_at : (cs : List LineCopy) (i : ℕ) (d : Line × ℕ) (e : LineCopy) → i < length cs → line_number (get_or (held_lines cs) i d).0 ≡ line_of (get_or cs i e)
line_at [] i d e inside = absurd (omega arith)
line_at (c ∷ cs) zero d e inside = refl
line_at (c ∷ cs) (suc i) d e inside = line_at cs i d e (omega arith)

lines_long : (cs : List LineCopy) → length (held_lines cs) ≡ length cs
lines_long [] = refl
lines_long (c ∷ cs) = ap suc (lines_long cs)

-- a copy as good as any where one is only needed beside a list that is not empty
lines_ascend_from : (cs : List LineCopy) (i j : ℕ) (d : Line × ℕ) (e : LineCopy) → Whole cs → i < j → j < length cs → line_number (get_or (held_lines cs) i d).0 < line_number (get_or (held_lines cs) j d).0
lines_ascend_from cs i j d e w before inside = omega (arith, line_at cs i d e (omega arith), line_at cs j d e inside, whole_ascends cs i j e w before inside)

pub lines_ascend : (cs : List LineCopy) (i j : ℕ) (d : Line × ℕ) → Whole cs → i < j → j < length (held_lines cs) → line_number (get_or (held_lines cs) i d).0 < line_number (get_or (held_lines cs) j d).0
lines_ascend [] i j d w before inside = absurd (omega arith)
lines_ascend (c ∷ cs) i j d w before inside = lines_ascend_from (c ∷ cs) i j d c w before (omega (arith, lines_long (c ∷ cs)))
