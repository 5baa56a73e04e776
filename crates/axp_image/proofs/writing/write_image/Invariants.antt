use Rattle.std.proofs.Common.{◌≡◌, ◌++◌, take}
use Rattle.std.specs.List.{flat_map}
use Rattle.axp_image.specs.Spelling.{header_bytes, record_of, bytes_of}
use Rattle.axp_image.proofs.writing.write_image.Given as goal

abbrev pub invariant-loop-n : goal.invariant-loop-n
invariant-loop-n l = l.file ≡ header_bytes l.image ++ flat_map record_of (take l.n l.image.segments)

abbrev pub invariant-loop-n-2 : goal.invariant-loop-n-2
invariant-loop-n-2 l = l.file ≡ (header_bytes l.image ++ flat_map record_of l.image.segments) ++ flat_map bytes_of (take l.n l.image.segments)
