use Rattle.std.proofs.Common.{ap, ◌∙◌, sym}
use Rattle.axp_cpu.specs.Seats.{Seat}
use Rattle.axp_regs.specs.States.{register}
use Rattle.axp_machine.proofs.machine.Machine.register.Goals as goal

pub returns : goal.returns
returns c =
    c.get.ensures ∙ ap (λ s. register s c.args.n) (c.state.ensures.registers _ c.processor.ensures.at) ∙ ap (λ (s : Seat). register s.start.state c.args.n) (sym c.processor.ensures.seat)
