use Rattle.std.proofs.Common.{refl}
use Rattle.axp_top.proofs.ServingLemmas.{files_served}
use Rattle.axp_top.specs.Words.{Traced}
use Rattle.axp_top.proofs.serve.trace_files.Goals as goal

pub returns-in-Ok : goal.returns-in-Ok
returns-in-Ok g c =
    files_served _ _ _ _ _ c.args.task c.args.image.now c.args.trace.now c.in-Ok.image c.trace_file.result c.in-Ok.ensures.fetched c.fetch_image.ensures.stays c.trace_file.ensures

pub returns-in-Err : goal.returns-in-Err
returns-in-Err g c = c.in-Err.ensures.served (Traced c.args.task c.args.image.now c.args.trace.now) refl
