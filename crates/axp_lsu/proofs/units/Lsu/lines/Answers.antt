use Rattle.std.proofs.Common.{sym, ap, ◌∙◌}
use Rattle.axp_ibank.proofs.CodeLemmas.{lines_alone}
use Rattle.axp_ibank.specs.Code.{code_lines, lines_beside}
use Rattle.axp_lsu.specs.Keeping.{LocalMemory, copies_of}
use Rattle.axp_lsu.proofs.units.Lsu.lines.Goals as goal

pub returns-in-Even-clause-value : goal.returns-in-Even-clause-value
returns-in-Even-clause-value c =
    c.without_stamps.ensures ∙ ap lines_beside (c.as_slice.ensures.value ∙ c.lines.ensures.value) ∙ sym (lines_alone c.self.inside.even)
    ∙ ap (λ (u : LocalMemory). code_lines u.even) c.self.view_is ∙ ap (λ b. code_lines (copies_of b c.args.self.now)) (sym c.in-Even.is)

pub returns-in-Odd-clause-value : goal.returns-in-Odd-clause-value
returns-in-Odd-clause-value c =
    c.without_stamps-in-Odd.ensures ∙ ap lines_beside (c.as_slice-in-Odd.ensures.value ∙ c.lines-in-Odd.ensures.value) ∙ sym (lines_alone c.self.inside.odd)
    ∙ ap (λ (u : LocalMemory). code_lines u.odd) c.self.view_is ∙ ap (λ b. code_lines (copies_of b c.args.self.now)) (sym c.in-Odd.is)
