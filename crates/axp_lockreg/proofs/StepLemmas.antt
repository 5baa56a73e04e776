-- A register allows what is still locked, and nothing else.
use Rattle.std.proofs.Common.{◌≡◌, ◌≢◌, ◌↔◌, ℕ, ◌/◌, Bool, true, false, eqb, cond, List, [], ◌∷◌, ◌++◌, Option, Some, None, arith, refl, sym, ap, ◌∙◌}
use Rattle.std.proofs.lemmas.Bool.{eqb-true, eqb-false, eq-eqb, ne_eqb}
use Rattle.axp_base.specs.declared.lines.TheConstants.{LINE_BYTES}
use Rattle.axp_base.specs.Blocks.{block_of, line_of_block, after_write, is_allowed}
use Rattle.axp_lockreg.specs.Steps.{Step, Locked, Disturbed, Released, after_steps, AreElsewhere, StillLocked}

block_line : (address : ℕ) → line_of_block (block_of address) ≡ address / LINE_BYTES
block_line address = omega arith

-- steps elsewhere leave what is locked
elsewhere_keeps : (at : ℕ) (since before : List Step) → AreElsewhere (at / LINE_BYTES) since → after_steps (since ++ Locked at ∷ before) ≡ Some (block_of at)
elsewhere_keeps at [] before quiet = refl
elsewhere_keeps at (Locked other ∷ since) before quiet = absurd quiet.0
elsewhere_keeps at (Disturbed line ∷ since) before quiet =
    ap (after_write line) (elsewhere_keeps at since before quiet.1)
    ∙ ap (λ (b : Bool). cond b None (Some (block_of at))) (ne_eqb (line_of_block (block_of at)) line (λ e. quiet.0 (sym e ∙ block_line at)))
elsewhere_keeps at (Released ∷ since) before quiet = absurd quiet.0

-- a write after which the address is allowed was to another line
allowed_before : (address line : ℕ) (block : Option ℕ) → is_allowed address (after_write line block) ≡ true → (is_allowed address block ≡ true) × (line ≢ address / LINE_BYTES)
allowed_before address line None h = cc
allowed_before address line (Some block) h = by_test (eqb (line_of_block block) line) refl h
  where
    by_test : (b : Bool) → eqb (line_of_block block) line ≡ b → is_allowed address (cond b None (Some block)) ≡ true → (eqb (block_of address) block ≡ true) × (line ≢ address / LINE_BYTES)
    by_test true e h = cc
    by_test false e h = (h, λ same. eqb-false (line_of_block block) line e (ap line_of_block (sym (eqb-true (block_of address) block h)) ∙ block_line address ∙ sym same))

one_more : (address line : ℕ) (steps : List Step) → line ≢ address / LINE_BYTES → StillLocked address steps → StillLocked address (Disturbed line ∷ steps)
one_more address line steps apart still = record {
  since = Disturbed line ∷ still.since;
  before = still.before;
  at = still.at;
  split = ap (λ (rest : List Step). Disturbed line ∷ rest) still.split;
  same = still.same;
  quiet = (λ e. apart (e ∙ sym (block_line still.at) ∙ ap line_of_block still.same ∙ block_line address), still.quiet);
}

still_from : (address : ℕ) (steps : List Step) → is_allowed address (after_steps steps) ≡ true → StillLocked address steps
still_from address [] h = cc
still_from address (Locked at ∷ steps) h = record { since = []; before = steps; at = at; split = refl; same = sym (eqb-true (block_of address) (block_of at) h); quiet = tt }
still_from address (Disturbed line ∷ steps) h =
    let parts = allowed_before address line (after_steps steps) h in
    one_more address line steps parts.1 (still_from address steps parts.0)
still_from address (Released ∷ steps) h = cc

still_allows : (address : ℕ) (steps : List Step) → StillLocked address steps → is_allowed address (after_steps steps) ≡ true
still_allows address steps still =
    ap (λ (s : List Step). is_allowed address (after_steps s)) still.split
    ∙ ap (is_allowed address) (elsewhere_keeps still.at still.since still.before still.quiet)
    ∙ eq-eqb (block_of address) (block_of still.at) (sym still.same)

pub allowed_exactly : (address : ℕ) (steps : List Step) → (is_allowed address (after_steps steps) ≡ true) ↔ StillLocked address steps
allowed_exactly address steps = (still_from address steps, still_allows address steps)
