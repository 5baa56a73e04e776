use Rattle.std.proofs.Common.{◌≡◌, ◌-◌, IfSome}
use Rattle.axp_image.specs.Contents.{byte_in}
use Rattle.axp_access.specs.Lists.{access_at, accesses_in, times_of}
use Rattle.axp_check.specs.Storage.{is_right, wrong_from}
use Rattle.axp_check.proofs.storage.wrong_source.Given as goal

abbrev pub invariant-loop-k : goal.invariant-loop-k
invariant-loop-k l = IfSome (access_at l.list l.n) (λ v. wrong_from (is_right (byte_in l.image.segments) (times_of l.list) (accesses_in l.list) v) v.access.size 0 ≡ wrong_from (is_right (byte_in l.image.segments) (times_of l.list) (accesses_in l.list) v) (v.access.size - l.k) l.k)
