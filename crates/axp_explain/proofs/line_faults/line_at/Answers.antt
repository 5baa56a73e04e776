use Rattle.std.proofs.Common.{◌+◌, ◌-◌, List, slice_get, arith, sym, ap, refl, ◌∙◌}
use Rattle.axp_top.specs.Replays.{FileLine}
use Rattle.axp_explain.proofs.PlaceLemmas.{first_left, no_end, none_left, one_passed, short_end, unended}
use Rattle.axp_explain.proofs.line_faults.line_at.Goals as goal

pub loop-passed-preserved : goal.loop-passed-preserved
loop-passed-preserved c =
    one_passed _ _ _ _ c.loop-passed._passed (c.loop-passed._passed + 1) c.loop-passed.invariant c.in-Some.ensures.lines refl

pub returns-in-None : goal.returns-in-None
returns-in-None c =
    none_left _ _ c.loop-passed._passed (c.args.number - 1) c.loop-passed.invariant (short_end _ _ (c.in-None.ensures.last refl)) (omega (arith, c.saturating_sub-passed-end.ensures, c.loop-passed-test.true))

pub returns-in-Some-first_line : goal.returns-in-Some-first_line
returns-in-Some-first_line c =
    ap (λ (l : List FileLine). slice_get l 0) (sym c.in-Some-first_line.ensures.lines)
    ∙ first_left _ _ c.loop-passed._passed (c.args.number - 1) c.loop-passed.invariant (omega (arith, c.saturating_sub-passed-end.ensures, c.loop-passed.auto._passed-end, c.loop-passed-test.false))

pub returns-in-None-first_line : goal.returns-in-None-first_line
returns-in-None-first_line c =
    no_end _ _ (sym c.is_empty.ensures ∙ c.if-is_empty.true) (c.in-None-first_line.ensures.last refl)
    ∙ first_left _ _ c.loop-passed._passed (c.args.number - 1) c.loop-passed.invariant (omega (arith, c.saturating_sub-passed-end.ensures, c.loop-passed.auto._passed-end, c.loop-passed-test.false))

pub returns-in-None-2 : goal.returns-in-None-2
returns-in-None-2 c =
    unended _ _ (sym c.is_empty.ensures ∙ c.if-is_empty.false) (c.in-None-first_line.ensures.last refl)
    ∙ first_left _ _ c.loop-passed._passed (c.args.number - 1) c.loop-passed.invariant (omega (arith, c.saturating_sub-passed-end.ensures, c.loop-passed.auto._passed-end, c.loop-passed-test.false))
