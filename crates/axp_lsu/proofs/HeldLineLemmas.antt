-- The lines of both data banks, with their stamps.
use Rattle.std.proofs.Common.{◌≡◌, ℕ, ◌*◌, ◌^◌, ◌≤◌, List, [], ◌∷◌, ◌++◌, refl, ap, arith}
use Rattle.std.specs.List.{AllByRecursion}
use Rattle.axp_base.specs.declared.lines.TheConstants.{LINE_BYTES}
use Rattle.axp_bank.specs.Copies.{held_lines, line_of}
use Rattle.axp_bank.specs.declared.copies.LineCopy.{LineCopy}
use Rattle.axp_lsu.specs.Keeping.{LocalMemory, addressed, held_pairs}
use Rattle.axp_lsu.specs.Within.{IsCopyWithin, IsSmall}

pub small_lines : (size : ℕ) (cs : List LineCopy) → size ≤ 2 ^ 32 → AllByRecursion (IsCopyWithin size) cs → AllByRecursion IsSmall (held_lines cs)
small_lines size [] most within = tt
small_lines size (c ∷ cs) most within =
    (record { address = let below = within.0.line in omega arith; stamp = within.0.stamp }, small_lines size cs most within.1)

pairs_joined : (u : LocalMemory) (cs ds : List LineCopy) → addressed (held_lines cs) ++ addressed (held_lines ds) ≡ held_pairs (record u { even = cs; odd = ds })
pairs_joined u [] [] = refl
pairs_joined u [] (d ∷ ds) = ap (λ ps. (line_of d * LINE_BYTES, d.stamp) ∷ ps) (pairs_joined u [] ds)
pairs_joined u (c ∷ cs) ds = ap (λ ps. (line_of c * LINE_BYTES, c.stamp) ∷ ps) (pairs_joined u cs ds)

pub pairs_are : (u : LocalMemory) → addressed (held_lines u.even) ++ addressed (held_lines u.odd) ≡ held_pairs u
pairs_are u = pairs_joined u u.even u.odd
