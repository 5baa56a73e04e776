-- Invalidations that come late, and the lines of which a processor holds copies.
use Rattle.std.specs.Prelude.{ℕ, ◌+◌, ◌==◌, nat_lt, Bool, true, false, not, ◌&&◌, ◌||◌, if◌then◌else◌, List, [], ◌∷◌, Option, Some, None}
use Rattle.std.specs.List.{filter}
use Rattle.axp_base.specs.Lines.{line_number, data_bank, in_bank, is_line, line_of}
use Rattle.axp_base.specs.declared.lines.Bank.{Bank}
use Rattle.axp_base.specs.declared.lines.Bank.TheVariants.{Code}
use Rattle.axp_base.specs.declared.lines.Line.{Line}
use Rattle.axp_base.specs.LatePairs.{others, has_later, late_by_other}
use Rattle.axp_access.specs.declared.Outcome.{Outcome}
use Rattle.axp_access.specs.declared.Outcome.TheVariants as outcome
use Rattle.axp_access.specs.declared.Record.{Record}
use Rattle.axp_model.specs.Records.{is_of, line_of_turn, fills, fills_code, locks, fences, code_fences, drops, drops_code}
use Rattle.axp_access.specs.Kinds.{is_locked}
use Rattle.axp_model.specs.Turns.{turns, stamp}

-- a Take from this bank
abbrev pub takes_from : Bank → Outcome → Bool
takes_from b (outcome.Taken line turn gone) = in_bank b (line_number line)
takes_from b _ = false

-- an own MB or IMB delivers all, a Take the first
abbrev pub late_by_own : Bank → Outcome → List (Line × ℕ) → List (Line × ℕ)
late_by_own b o pairs = if fences o then [] else if takes_from b o then others pairs else pairs

-- the turns of other processors on lines of data bank b that were not delivered to processor p yet, each
-- with its line, in turn order
abbrev pub late : ℕ → Bank → List Record → List (Line × ℕ)
late p b [] = []
late p b (r ∷ h) = if is_of p r then late_by_own b r.outcome (late p b h) else late_by_other b (line_of_turn r.outcome) (turns h + 1) (late p b h)

-- a Take of a turn on this line, greater than a copy's stamp
abbrev pub takes_away : ℕ → ℕ → Outcome → Bool
takes_away l s (outcome.Taken line turn gone) = is_line l line && nat_lt s turn
takes_away l s _ = false

-- an own record removes the copy of line l with stamp s: a Drop, or the delivery of a greater turn
abbrev pub loses_copy : ℕ → ℕ → List (Line × ℕ) → Record → Bool
loses_copy l s pairs r = drops l r.event.act || ((fences r.outcome && has_later l s pairs) || takes_away l s r.outcome)

-- processor p holds line l in its data bank: it was brought in by a Fill or LDx_L, and not removed since
abbrev pub held : ℕ → ℕ → List Record → Bool
held p l [] = false
held p l (r ∷ h) =
    if is_of p r
    then (if fills l r.outcome || locks l r.outcome then true else held p l h && not (loses_copy l (stamp p l h) (late p (data_bank l) h) r))
    else held p l h

-- it holds line l in its code bank: filled, and since then neither dropped nor removed by an IMB
abbrev pub code_held : ℕ → ℕ → List Record → Bool
code_held p l [] = false
code_held p l (r ∷ h) =
    if is_of p r
    then (if fills_code l r.outcome then true else code_held p l h && not (drops_code l r.event.act || code_fences r.outcome))
    else code_held p l h

-- a number put into an ascending list that has each number once
abbrev pub insert : ℕ → List ℕ → List ℕ
insert l [] = l ∷ []
insert l (k ∷ ks) = if nat_lt l k then l ∷ k ∷ ks else if l == k then k ∷ ks else k ∷ insert l ks

abbrev pub inserted : Option ℕ → List ℕ → List ℕ
inserted None ks = ks
inserted (Some l) ks = insert l ks

-- the line that an outcome brings into a data bank, into the code bank
abbrev pub line_brought : Outcome → Option ℕ
line_brought (outcome.Filled Code line turn) = None
line_brought (outcome.Filled bank line turn) = Some (line_number line)
line_brought (outcome.Access a) = if is_locked a.kind then Some (line_of a.address) else None
line_brought _ = None

abbrev pub code_line_brought : Outcome → Option ℕ
code_line_brought (outcome.Filled Code line turn) = Some (line_number line)
code_line_brought _ = None

-- the lines that were ever brought in, ascending
abbrev pub lines_ever : ℕ → List Record → List ℕ
lines_ever p [] = []
lines_ever p (r ∷ h) = if is_of p r then inserted (line_brought r.outcome) (lines_ever p h) else lines_ever p h

abbrev pub code_lines_ever : ℕ → List Record → List ℕ
code_lines_ever p [] = []
code_lines_ever p (r ∷ h) = if is_of p r then inserted (code_line_brought r.outcome) (code_lines_ever p h) else code_lines_ever p h

-- the lines held in data bank b, and in the code bank, ascending
abbrev pub copies : ℕ → Bank → List Record → List ℕ
copies p b h = filter (λ l. in_bank b l && held p l h) (lines_ever p h)

abbrev pub code_copies : ℕ → List Record → List ℕ
code_copies p h = filter (λ l. code_held p l h) (code_lines_ever p h)
