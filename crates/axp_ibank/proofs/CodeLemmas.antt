-- What the code bank gives, from what a bank of copies gives.
use Rattle.std.proofs.Common.{◌≡◌, ◌≢◌, ℕ, zero, suc, ◌<◌, true, false, ◌||◌, List, [], ◌∷◌, length, get_or, Some, None, refl, ap, ◌∙◌, arith}
use Rattle.std.specs.Option.{option_map, is_some}
use Rattle.std.specs.declared.option.Option.{Option}
use Rattle.axp_base.specs.Lines.{line_number}
use Rattle.axp_base.specs.declared.lines.Line.{Line}
use Rattle.axp_line.specs.declared.contents.LineData.{LineData}
use Rattle.axp_bank.specs.declared.copies.LineCopy.{LineCopy}
use Rattle.axp_bank.specs.Copies.{line_of, is_of, Whole, is_held, get_of, stamp_of, has_room, put, dropped, held_lines}
use Rattle.axp_bank.proofs.HeldCopyLemmas.{held_get, get_put, get_put_other, get_dropped_other, whole_ascends}
use Rattle.axp_ibank.specs.Code.{bytes_of, code_lines, lines_beside, names_line}

first_some : (o : Option (ℕ × LineData)) → is_some o ≡ is_some (option_map {T = ℕ × LineData} (λ s. s.0) o)
first_some None = refl
first_some (Some s) = refl

second_some : (o : Option (ℕ × LineData)) → is_some o ≡ is_some (option_map {T = ℕ × LineData} (λ s. s.1) o)
second_some None = refl
second_some (Some s) = refl

pub held_bytes : (n : ℕ) (cs : List LineCopy) → is_held n cs ≡ is_some (bytes_of n cs)
held_bytes n cs = held_get n cs ∙ second_some (get_of n cs)

pub held_stamp : (n : ℕ) (cs : List LineCopy) → is_held n cs ≡ is_some (stamp_of n cs)
held_stamp n cs = held_get n cs ∙ first_some (get_of n cs)

pub held_none : (n : ℕ) → is_held n [] ≡ false
unfolding is_held
held_none n = refl

pub bytes_put : (c : LineCopy) (cs : List LineCopy) → has_room (line_of c) cs ≡ true → bytes_of (line_of c) (put c cs) ≡ Some c.bytes
bytes_put c cs room = ap (option_map {T = ℕ × LineData} (λ s. s.1)) (get_put c cs room)

pub stamp_put : (c : LineCopy) (cs : List LineCopy) → has_room (line_of c) cs ≡ true → stamp_of (line_of c) (put c cs) ≡ Some c.stamp
stamp_put c cs room = ap (option_map {T = ℕ × LineData} (λ s. s.0)) (get_put c cs room)

pub bytes_put_other : (c : LineCopy) (cs : List LineCopy) (n : ℕ) → n ≢ line_of c → bytes_of n (put c cs) ≡ bytes_of n cs
bytes_put_other c cs n ne = ap (option_map {T = ℕ × LineData} (λ s. s.1)) (get_put_other n c cs ne)

pub stamp_put_other : (c : LineCopy) (cs : List LineCopy) (n : ℕ) → n ≢ line_of c → stamp_of n (put c cs) ≡ stamp_of n cs
stamp_put_other c cs n ne = ap (option_map {T = ℕ × LineData} (λ s. s.0)) (get_put_other n c cs ne)

pub bytes_dropped_other : (n : ℕ) (cs : List LineCopy) (m : ℕ) → m ≢ n → bytes_of m (dropped n cs) ≡ bytes_of m cs
bytes_dropped_other n cs m ne = ap (option_map {T = ℕ × LineData} (λ s. s.1)) (get_dropped_other m n cs ne)

pub stamp_dropped_other : (n : ℕ) (cs : List LineCopy) (m : ℕ) → m ≢ n → stamp_of m (dropped n cs) ≡ stamp_of m cs
stamp_dropped_other n cs m ne = ap (option_map {T = ℕ × LineData} (λ s. s.0)) (get_dropped_other m n cs ne)

-- the lines without the stamps
pub lines_alone : (cs : List LineCopy) → code_lines cs ≡ lines_beside (held_lines cs)
unfolding code_lines
lines_alone [] = refl
lines_alone (c ∷ cs) = ap (λ ls. c.line ∷ ls) (lines_alone cs)

pub code_lines_held : (n : ℕ) (cs : List LineCopy) → names_line n (code_lines cs) ≡ is_held n cs
unfolding is_held code_lines
code_lines_held n [] = refl
code_lines_held n (c ∷ cs) = ap (λ b. is_of n c || b) (code_lines_held n cs)

code_line_at : (cs : List LineCopy) (i : ℕ) (d : Line) (e : LineCopy) → i < length cs → line_number (get_or (code_lines cs) i d) ≡ line_of (get_or cs i e)
unfolding code_lines
code_line_at [] i d e inside = absurd (omega arith)
code_line_at (c ∷ cs) zero d e inside = refl
code_line_at (c ∷ cs) (suc i) d e inside = code_line_at cs i d e (omega arith)

code_lines_long : (cs : List LineCopy) → length (code_lines cs) ≡ length cs
unfolding code_lines
code_lines_long [] = refl
code_lines_long (c ∷ cs) = ap suc (code_lines_long cs)

-- by any copy, which is only needed to read a list past its end
code_lines_ascend_by : (cs : List LineCopy) (i j : ℕ) (d : Line) (e : LineCopy) → Whole cs → i < j → j < length cs → line_number (get_or (code_lines cs) i d) < line_number (get_or (code_lines cs) j d)
code_lines_ascend_by cs i j d e w before inside = omega (arith, code_line_at cs i d e (omega arith), code_line_at cs j d e inside, whole_ascends cs i j e w before inside)

pub code_lines_ascend : (cs : List LineCopy) (i j : ℕ) (d : Line) → Whole cs → i < j → j < length (code_lines cs) → line_number (get_or (code_lines cs) i d) < line_number (get_or (code_lines cs) j d)
unfolding code_lines
code_lines_ascend [] i j d w before inside = absurd (omega arith)
code_lines_ascend (c ∷ cs) i j d w before inside = code_lines_ascend_by (c ∷ cs) i j d c w before (omega (arith, code_lines_long (c ∷ cs)))
