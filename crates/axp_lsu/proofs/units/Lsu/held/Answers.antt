use Rattle.std.proofs.Common.{ℕ, List, ◌++◌, sym, ap, subst, ◌∙◌}
use Rattle.std.specs.List.{AllByRecursion}
use Rattle.axp_base.specs.declared.lines.Line.{Line}
use Rattle.axp_bank.specs.Copies.{held_lines}
use Rattle.axp_lsu.specs.Keeping.{LocalMemory, addressed}
use Rattle.axp_lsu.specs.Within.{IsCopyWithin, IsSmall}
use Rattle.axp_lsu.proofs.HeldLineLemmas.{small_lines, pairs_are}
use Rattle.axp_lsu.proofs.units.Lsu.held.Goals as goal

abbrev even_lines : LocalMemory → List (Line × ℕ)
even_lines u = held_lines u.even

abbrev odd_lines : LocalMemory → List (Line × ℕ)
odd_lines u = held_lines u.odd

pub push_lines-requires-clause-small : goal.push_lines-requires-clause-small
push_lines-requires-clause-small c =
    subst (AllByRecursion IsSmall) (sym (c.as_slice.ensures.value ∙ c.lines-even.ensures.value))
    (small_lines c.requires.size c.self.inside.even c.requires.most (subst (λ (u : LocalMemory). AllByRecursion (IsCopyWithin c.requires.size) u.even) (sym c.self.view_is) c.requires.within.even))

pub push_lines-requires-2-clause-small : goal.push_lines-requires-2-clause-small
push_lines-requires-2-clause-small c =
    subst (AllByRecursion IsSmall) (sym (c.as_slice-2.ensures.value ∙ c.lines-odd.ensures.value))
    (small_lines c.requires.size c.self.inside.odd c.requires.most (subst (λ (u : LocalMemory). AllByRecursion (IsCopyWithin c.requires.size) u.odd) (sym c.self.view_is) c.requires.within.odd))

pub returns : goal.returns
returns c =
    c.push_lines-2.ensures
    ∙ ap (λ ps. ps ++ addressed c.as_slice-2.result.now) (c.push_lines.ensures ∙ ap (λ ps. ps ++ addressed c.as_slice.result.now) c.empty-held.ensures)
    ∙ (λ i. addressed ((c.as_slice.ensures.value ∙ c.lines-even.ensures.value ∙ ap even_lines c.self.view_is) i) ++ addressed ((c.as_slice-2.ensures.value ∙ c.lines-odd.ensures.value ∙ ap odd_lines c.self.view_is) i))
    ∙ pairs_are c.args.self.now
