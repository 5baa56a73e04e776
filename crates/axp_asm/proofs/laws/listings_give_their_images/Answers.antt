use Rattle.axp_asm.proofs.RoundTripLemmas.{listing_assembled, listings_apart}
use Rattle.axp_asm.proofs.laws.listings_give_their_images.Goals as goal

pub returns : goal.returns
returns c = record { back = listing_assembled; apart = listings_apart }
