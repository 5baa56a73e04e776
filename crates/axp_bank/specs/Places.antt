-- Places in a bank's list of copies, as the code finds them.
use Rattle.std.specs.Prelude.{◌≡◌, ℕ, ◌<◌, ◌≤◌, ◌*◌, nat_lt, Bool, true, false, List, length, slice_index_or, Some, None}
use Rattle.std.specs.List.{insert}
use Rattle.std.specs.declared.option.Option.{Option}
use Rattle.axp_base.specs.declared.lines.TheConstants.{LINE_BYTES}
use Rattle.axp_bank.specs.declared.copies.LineCopy.{LineCopy}
use Rattle.axp_bank.specs.Copies.{line_of, is_of, is_held, get_of, refreshed, inserted, dropped}

-- a copy is of a line of a greater number, by the first bytes of the lines
abbrev pub is_above : ℕ → LineCopy → Bool
is_above n c = nat_lt (n * LINE_BYTES) (line_of c * LINE_BYTES)

-- the copy at this place is the one of this line
pub record IsPlace (n : ℕ) (cs : List LineCopy) (i : ℕ) : Type 0 where
  pub inside : i < length cs
  pub here : (d : LineCopy) → is_of n (slice_index_or cs i d) ≡ true
  pub held : is_held n cs ≡ true
  pub got : (d : LineCopy) → get_of n cs ≡ Some ((slice_index_or cs i d).stamp, (slice_index_or cs i d).bytes)

-- no copy is of this line
pub record IsNoPlace (n : ℕ) (cs : List LineCopy) : Type 0 where
  pub held : is_held n cs ≡ false
  pub got : get_of n cs ≡ None
  pub drops : dropped n cs ≡ cs
  pub stays : (c : LineCopy) → line_of c ≡ n → refreshed c cs ≡ cs

-- the place of the copy of this line, or None where no copy is of it
abbrev pub PlaceOf : ℕ → List LineCopy → Option ℕ → Type 0
PlaceOf n cs None = IsNoPlace n cs
PlaceOf n cs (Some i) = IsPlace n cs i

-- the place in front of the copies of greater lines
pub record IsPlaceFor (n : ℕ) (cs : List LineCopy) (i : ℕ) : Type 0 where
  pub inside : i ≤ length cs
  pub puts : (c : LineCopy) → line_of c ≡ n → inserted c cs ≡ insert cs i c
