use Rattle.std.proofs.Common.{◌≤◌, arith}
use Rattle.axp_check.proofs.StoredBytes.{byte_past}
use Rattle.axp_check.proofs.storage.image_byte.Goals as goal

pub returns-else-at-size : goal.returns-else-at-size
returns-else-at-size c =
    let past : c.args.image.now.size ≤ c.args.at = let size = c.size.ensures.value in let test = c.if-at-size.false in omega (arith, size, test) in
    byte_past c.args.image.now.size 0 c.args.image.now.segments c.args.at c.size.ensures.valid.placed past
