use Rattle.std.proofs.Common.{subst, sym}
use Rattle.axp_cpu.specs.Phases.{PhaseFits, StageFits, WalkFits}
use Rattle.axp_cpu.specs.declared.cpu_states.CpuState.{CpuState}
use Rattle.axp_cpu.proofs.phases.resume.Goals as goal

pub returns-in-Walks-clause-fits : goal.returns-in-Walks-clause-fits
returns-in-Walks-clause-fits c =
    let fits : WalkFits c.args.cpus c.args.table.now c.in-Walks.walk.far c.in-Walks.walk.next = subst (StageFits c.args.cpus c.args.table.now) c.in-Walks.is c.requires in
    subst (λ (t : CpuState). PhaseFits c.args.cpus t c.follow-phase.result) (sym c.keep_found.ensures) (c.follow-phase.ensures.fits c.args.cpus fits)
