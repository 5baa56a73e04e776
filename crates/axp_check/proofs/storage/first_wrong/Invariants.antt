use Rattle.std.proofs.Common.{◌≡◌, None}
use Rattle.axp_image.specs.Contents.{byte_in}
use Rattle.axp_access.specs.Lists.{accesses_in, accesses_to, times_of}
use Rattle.axp_check.specs.Storage.{first_wrong, wrong_source}
use Rattle.axp_check.proofs.storage.first_wrong.Given as goal

abbrev pub invariant-loop-n : goal.invariant-loop-n
invariant-loop-n l = first_wrong (wrong_source (byte_in l.image.segments) (times_of l.list) (accesses_in l.list)) (accesses_to l.list l.n) ≡ None
