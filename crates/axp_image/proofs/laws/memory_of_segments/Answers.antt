use Rattle.axp_image.proofs.BytePlaceLemmas.{do_not_overlap, have_their_bytes, are_zero_elsewhere, byte_small}
use Rattle.axp_image.proofs.laws.memory_of_segments.Goals as goal

pub returns : goal.returns
returns c = record {
  apart = λ image valid. do_not_overlap image.size 0 image.segments valid.placed;
  inside = λ image valid. have_their_bytes image.size 0 image.segments valid.placed;
  outside = λ image. are_zero_elsewhere image.segments;
  bytes = λ image valid address. byte_small image.size 0 image.segments address valid.placed;
}
