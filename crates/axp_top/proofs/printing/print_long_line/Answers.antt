use Rattle.axp_top.specs.declared.printing.Stop.TheVariants as stop
use Rattle.axp_top.proofs.PrintingLemmas.{exits, lacks_all}
use Rattle.axp_top.proofs.printing.print_long_line.Goals as goal

pub returns-in_err-append : goal.returns-in_err-append
returns-in_err-append g c = exits _ _ _ c.from_residual.result stop.Memory c.from_residual.ensures.1 (lacks_all _ _)
