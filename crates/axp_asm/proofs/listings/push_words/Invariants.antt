use Rattle.std.proofs.Common.{◌≡◌, ◌≤◌, ◌+◌, ◌*◌, ◌++◌, length}
use Rattle.std.specs.List.{flat_map}
use Rattle.axp_trace.specs.declared.lines.TheConstants.{LINE_ROOM}
use Rattle.axp_asm.specs.Listings.{line_of, words_listed}
use Rattle.axp_asm.proofs.listings.push_words.Given as goal

abbrev pub invariant-loop-rest : goal.invariant-loop-rest
invariant-loop-rest l =
    (l.out ++ flat_map line_of (words_listed l.rest) ≡ l.fn.out ++ flat_map line_of (words_listed l.fn.bytes))
    × (4 * length l.out + (LINE_ROOM + 1) * length l.rest ≤ 4 * length l.fn.out + (LINE_ROOM + 1) * length l.fn.bytes)

abbrev pub decreases-loop-rest : goal.decreases-loop-rest
decreases-loop-rest l = length l.rest
