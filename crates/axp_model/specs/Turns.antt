-- Turns, stamps and barriers. Each notion asks what the newest record did, and is else as it was
-- before it. The turn count at a record is the number of turns before it.
use Rattle.std.specs.Prelude.{ℕ, ◌+◌, max, Bool, ◌&&◌, ◌||◌, if◌then◌else◌, List, [], ◌∷◌, Option, Some, None}
use Rattle.axp_access.specs.declared.Record.{Record}
use Rattle.axp_model.specs.Records.{is_of, is_turn, turns_on, fills, fills_code, locks, fences, code_fences, drains}

-- the turn count: how many turns were made
abbrev pub turns : List Record → ℕ
turns [] = 0
turns (r ∷ h) = if is_turn r.outcome then turns h + 1 else turns h

-- the line's bytes come from the bus to a data bank: a data Fill, LDx_L, drain or successful STx_C
abbrev pub stamps : ℕ → ℕ → Record → Bool
stamps p l r = is_of p r && (fills l r.outcome || (locks l r.outcome || turns_on l r.outcome))

-- the turn count just after processor p's last such record of line l
abbrev pub stamp : ℕ → ℕ → List Record → ℕ
stamp p l [] = 0
stamp p l (r ∷ h) = if stamps p l r then turns (r ∷ h) else stamp p l h

-- the turn count at the last MB or IMB, at the last IMB
abbrev pub barrier : ℕ → List Record → ℕ
barrier p [] = 0
barrier p (r ∷ h) = if is_of p r && fences r.outcome then turns h else barrier p h

abbrev pub code_barrier : ℕ → List Record → ℕ
code_barrier p [] = 0
code_barrier p (r ∷ h) = if is_of p r && code_fences r.outcome then turns h else code_barrier p h

-- the turn count at the last code Fill of the line
abbrev pub code_stamp : ℕ → ℕ → List Record → ℕ
code_stamp p l [] = 0
code_stamp p l (r ∷ h) = if is_of p r && fills_code l r.outcome then turns h else code_stamp p l h

-- the turn of the drain that named entry n
abbrev pub drained : List Record → ℕ → ℕ → Option ℕ
drained [] p n = None
drained (r ∷ h) p n = if is_of p r && drains n r.outcome then Some (turns h + 1) else drained h p n

-- where a plain read of the line stands
abbrev pub read_place : ℕ → ℕ → List Record → ℕ
read_place p l h = max (stamp p l h) (barrier p h)
