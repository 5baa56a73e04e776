use Rattle.std.proofs.Common.{refl}
use Rattle.axp_top.proofs.ServingLemmas.{alone_served}
use Rattle.axp_top.specs.Words.{Seed}
use Rattle.axp_top.proofs.serve.seed_file.Goals as goal

pub returns-in-Ok : goal.returns-in-Ok
returns-in-Ok g c =
    alone_served _ _ _ _ (Seed c.args.image.now c.args.numbers.0 c.args.numbers.1 c.args.numbers.2) c.in-Ok.image c.print_seed.result refl refl c.in-Ok.ensures.fetched c.print_seed.ensures

pub returns-in-Err : goal.returns-in-Err
returns-in-Err g c = c.in-Err.ensures.served (Seed c.args.image.now c.args.numbers.0 c.args.numbers.1 c.args.numbers.2) refl
