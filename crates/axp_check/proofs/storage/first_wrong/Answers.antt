use Rattle.std.proofs.Common.{◌<◌, length, arith}
use Rattle.axp_image.specs.Contents.{byte_in}
use Rattle.axp_access.specs.Lists.{accesses_in, times_of}
use Rattle.axp_check.specs.Storage.{wrong_source}
use Rattle.axp_check.proofs.StoredBytes.{first_found, first_more}
use Rattle.axp_check.proofs.storage.first_wrong.Goals as goal

pub returns-in-Some : goal.returns-in-Some
returns-in-Some c =
    let less : c.loop-n.n < length c.args.list.now.items = let test = c.loop-n-test.true in let len = c.len-n-end.ensures.value in omega (arith, test, len) in
    first_found (wrong_source (byte_in c.args.image.now.segments) (times_of c.args.list.now) (accesses_in c.args.list.now)) c.args.list.now c.loop-n.n c.in-Some.source less c.loop-n.invariant (rw c.in-Some.is at c.wrong_source.ensures)

pub loop-n-preserved : goal.loop-n-preserved
loop-n-preserved c =
    let less : c.loop-n.n < length c.args.list.now.items = let test = c.loop-n-test.true in let len = c.len-n-end.ensures.value in omega (arith, test, len) in
    first_more (wrong_source (byte_in c.args.image.now.segments) (times_of c.args.list.now) (accesses_in c.args.list.now)) c.args.list.now c.loop-n.n less c.loop-n.invariant (rw c.in_default.is at c.wrong_source.ensures)
