use Rattle.std.proofs.Common.{ap, ◌∙◌, sym}
use Rattle.axp_cpu.specs.Seats.{Seat}
use Rattle.axp_regs.specs.States.{pc_of}
use Rattle.axp_machine.proofs.machine.Machine.pc.Goals as goal

pub returns : goal.returns
returns c = c.pc.ensures ∙ ap pc_of (c.state.ensures.registers _ c.processor.ensures.at) ∙ ap (λ (s : Seat). pc_of s.start.state) (sym c.processor.ensures.seat)
