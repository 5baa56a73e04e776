-- Lock registers and interprocessor interrupts.
use Rattle.std.specs.Prelude.{ℕ, Bool, true, false, ◌&&◌, if◌then◌else◌, List, [], ◌∷◌, Option, Some, None}
use Rattle.axp_base.specs.Blocks.{block_of, is_allowed, lock_by_other}
use Rattle.axp_access.specs.declared.Outcome.{Outcome}
use Rattle.axp_access.specs.declared.Outcome.TheVariants as outcome
use Rattle.axp_access.specs.declared.Record.{Record}
use Rattle.axp_model.specs.Records.{is_of, line_of_turn, signals, enters}
use Rattle.axp_access.specs.Kinds.{is_locked, is_conditional}

-- an LDx_L locks its block, an STx_C of the processor unlocks
abbrev pub lock_by_own : Outcome → Option ℕ → Option ℕ
lock_by_own (outcome.Access a) block = if is_locked a.kind then Some (block_of a.address) else if is_conditional a.kind then None else block
lock_by_own _ block = block

-- the block of memory that processor p has locked
abbrev pub lock : ℕ → List Record → Option ℕ
lock p [] = None
lock p (r ∷ h) = if is_of p r then lock_by_own r.outcome (lock p h) else lock_by_other (line_of_turn r.outcome) (lock p h)

-- an STx_C to an address succeeds: the processor's own lock flag is set, and its block is locked still
abbrev pub is_undisturbed : Bool → ℕ → ℕ → List Record → Bool
is_undisturbed armed p address h = armed && is_allowed address (lock p h)

-- a signal to processor p waits: one came since its last Poll that entered
abbrev pub is_signalled : ℕ → List Record → Bool
is_signalled p [] = false
is_signalled p (r ∷ h) = if signals p r.outcome then true else if is_of p r && enters r.outcome then false else is_signalled p h
