use Rattle.std.proofs.Common.{refl}
use Rattle.axp_top.proofs.ServingLemmas.{alone_served}
use Rattle.axp_top.specs.Words.{Listing}
use Rattle.axp_top.proofs.serve.list_file.Goals as goal

pub returns-in-Ok : goal.returns-in-Ok
returns-in-Ok g c = alone_served _ _ _ _ (Listing c.args.image.now) c.in-Ok.image c.print_listing.result refl refl c.in-Ok.ensures.fetched c.print_listing.ensures

pub returns-in-Err : goal.returns-in-Err
returns-in-Err g c = c.in-Err.ensures.served (Listing c.args.image.now) refl
