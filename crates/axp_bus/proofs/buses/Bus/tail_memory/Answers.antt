use Rattle.std.proofs.Common.{◌≡◌, ap, subst, ◌∙◌, arith}
use Rattle.axp_base.specs.Parts.{part}
use Rattle.axp_base.specs.declared.parts.TheConstants.{QUADWORD_BYTES}
use Rattle.axp_line.specs.Lines.{bytes_of_line}
use Rattle.axp_memory.specs.Bytes.{line_in}
use Rattle.axp_bus.specs.Buses.{State}
use Rattle.axp_bus.proofs.LineLemmas.{line_part}
use Rattle.axp_bus.proofs.buses.Bus.tail_memory.Goals as goal

pub returns : goal.returns
returns c =
    let line = bytes_of_line c.line-line.result in
    let read = c.line-line.ensures ∙ ap (λ n. line_in n c.self.inside.memory) c.of.ensures.number in
    subst (λ (s : State). c.get.result ≡ part s.memory c.args.address QUADWORD_BYTES) c.self.view_is
    (c.get.ensures.value ∙ line_part line c.self.inside.memory c.args.address QUADWORD_BYTES read c.line-line.result.whole (omega (arith, c.requires.aligned)))
