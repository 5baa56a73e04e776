use Rattle.std.proofs.Common.{refl}
use Rattle.axp_image.specs.Grammar.{piece_at, number_at, header_of, extents_at, segments_at, image_of}
use Rattle.axp_image.specs.Faults.{first_fault}
use Rattle.axp_image.proofs.laws.smallest_image.Goals as goal

pub returns : goal.returns
unfolding image_of header_of number_at piece_at extents_at segments_at first_fault
returns c = record { read = refl; extra = refl; short = refl }
