-- What other processors did to a processor's lines, and what it took of that, by counting.
use Rattle.std.specs.Prelude.{ℕ, ◌+◌, not, ◌&&◌, if◌then◌else◌, List, [], ◌∷◌}
use Rattle.axp_base.specs.declared.lines.Bank.{Bank}
use Rattle.axp_base.specs.declared.lines.Line.{Line}
use Rattle.axp_access.specs.declared.Record.{Record}
use Rattle.axp_model.specs.Records.{is_of, line_of_turn, turns_on, fences}
use Rattle.axp_model.specs.Turns.{turns}
use Rattle.axp_model.specs.Late.{takes_from}
use Rattle.axp_base.specs.LatePairs.{late_by_other}

-- the last turn of another processor than p on the line; 0 where there was none
abbrev pub last_other : ℕ → ℕ → List Record → ℕ
last_other p l [] = 0
last_other p l (r ∷ h) = if not (is_of p r) && turns_on l r.outcome then turns h + 1 else last_other p l h

-- the turns of other processors on lines of data bank b since processor p's last MB or IMB, in turn
-- order, each with its line
abbrev pub others_since : ℕ → Bank → List Record → List (Line × ℕ)
others_since p b [] = []
others_since p b (r ∷ h) = if is_of p r then (if fences r.outcome then [] else others_since p b h) else late_by_other b (line_of_turn r.outcome) (turns h + 1) (others_since p b h)

-- how many Takes from data bank b it made since then
abbrev pub takes_since : ℕ → Bank → List Record → ℕ
takes_since p b [] = 0
takes_since p b (r ∷ h) = if is_of p r then (if fences r.outcome then 0 else if takes_from b r.outcome then takes_since p b h + 1 else takes_since p b h) else takes_since p b h
