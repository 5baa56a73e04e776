use Rattle.std.proofs.Common.{◌∙◌, ap}
use Rattle.axp_image.specs.declared.limits.TheConstants.{INSTRUCTION_BYTES}
use Rattle.axp_regs.specs.declared.asks.Kind.TheVariants.{Fetch}
use Rattle.axp_cpu.specs.Rows.{plan_of_word, virtual_ask}
use Rattle.axp_cpu.specs.Translation.{reach_plan}
use Rattle.axp_cpu.specs.declared.translation.Origin.TheVariants.{Instruction}
use Rattle.axp_cpu.proofs.phases.begin_instruction.Goals as goal

pub returns-clause-plan : goal.returns-clause-plan
returns-clause-plan c = λ cpus.
    let size = c.args.size in
    c.reach.ensures.plan cpus ∙ ap (λ pc. reach_plan size c.args.table.now Instruction (virtual_ask Fetch pc INSTRUCTION_BYTES 0) (plan_of_word size cpus)) c.pc.ensures

pub returns-clause-fits : goal.returns-clause-fits
returns-clause-fits c = λ cpus. c.reach.ensures.fits cpus tt
