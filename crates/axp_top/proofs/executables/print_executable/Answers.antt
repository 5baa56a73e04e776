use Rattle.axp_top.proofs.ExecutableLemmas.{ends_read}
use Rattle.axp_top.proofs.executables.print_executable.Goals as goal

pub returns-in-Ok : goal.returns-in-Ok
returns-in-Ok g c = ends_read _ _ c.args.bytes.now c.args.numbers.0 c.args.numbers.1 c.args.numbers.2 c.in-Ok.image c.print_image.result c.in-Ok.ensures.read c.print_image.ensures
