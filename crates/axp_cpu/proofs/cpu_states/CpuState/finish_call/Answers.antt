use Rattle.std.proofs.Common.{List, ℕ, subst, sym}
use Rattle.axp_pal.specs.Calls.{IsAnswered}
use Rattle.axp_regs.specs.declared.states.State.{State}
use Rattle.axp_cpu.specs.CallValues.{values_of}
use Rattle.axp_cpu.proofs.AskLemmas.{answered_behind}
use Rattle.axp_cpu.proofs.cpu_states.CpuState.finish_call.Goals as goal

pub finish-requires : goal.finish-requires
finish-requires c =
    subst (λ (xs : List ℕ). IsAnswered c.args.op c.set_pc.new.self xs) (sym c.as_slice.ensures)
    (subst (λ (s : State). IsAnswered c.args.op s (values_of c.args.values.now)) (sym c.set_pc.ensures) (answered_behind c.args.op c.args.self.now.state c.next_pc-next.result (values_of c.args.values.now) c.requires))
