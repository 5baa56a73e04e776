use Rattle.std.proofs.Common.{◌≡◌, Some, arith, rules}
use Rattle.axp_image.specs.Contents.{contents}
use Rattle.axp_image.specs.Grammar.{image_of}
use Rattle.axp_image.proofs.ValidityLemmas.{image_says}
use Rattle.axp_image.proofs.reading.read_image.Goals as goal

pub new-requires : goal.new-requires
unfolding image_of
new-requires c =
    let h = c.in_ok-header.header in
    let read : image_of c.args.bytes.now ≡ Some (contents h.size h.entry h.stack h.table c.in_ok-segments.segments.items) = search rules in
    image_says c.args.bytes.now _ (λ i. omega (arith, c.type_inv.bytes i)) read
