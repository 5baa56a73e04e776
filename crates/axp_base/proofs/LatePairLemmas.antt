-- Late pairs, one added and one taken.
use Rattle.std.proofs.Common.{ℕ, ◌<◌, ◌≤◌, List, [], ◌∷◌, ◌++◌, length, arith}
use Rattle.axp_base.specs.declared.lines.Line.{Line}
use Rattle.axp_base.specs.LatePairs.{AreAscending, AreBefore, AreBeyond, others}

beyond_push : (turn : ℕ) (pairs : List (Line × ℕ)) (p : Line × ℕ) → AreBeyond turn pairs → turn < p.1 → AreBeyond turn (pairs ++ p ∷ [])
beyond_push turn [] p beyond less = (less, tt)
beyond_push turn (q ∷ pairs) p beyond less = (beyond.0, beyond_push turn pairs p beyond.1 less)

pub ascending_push : (pairs : List (Line × ℕ)) (p : Line × ℕ) → AreAscending pairs → AreBefore p.1 pairs → AreAscending (pairs ++ p ∷ [])
ascending_push [] p ascending before = (tt, tt)
ascending_push (q ∷ pairs) p ascending before = (beyond_push q.1 pairs p ascending.0 before.0, ascending_push pairs p ascending.1 before.1)

pub ascending_others : (pairs : List (Line × ℕ)) → AreAscending pairs → AreAscending (others pairs)
ascending_others [] ascending = tt
ascending_others (p ∷ pairs) ascending = ascending.1

pub length-others : (pairs : List (Line × ℕ)) → length (others pairs) ≤ length pairs
length-others [] = omega arith
length-others (p ∷ pairs) = omega arith
