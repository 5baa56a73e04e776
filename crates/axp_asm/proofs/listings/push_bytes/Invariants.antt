use Rattle.std.proofs.Common.{◌≡◌, ◌++◌, drop, map}
use Rattle.std.specs.List.{flat_map}
use Rattle.axp_asm.specs.Listings.{byte_listed, line_of}
use Rattle.axp_asm.proofs.listings.push_bytes.Given as goal

abbrev pub invariant-loop-byte : goal.invariant-loop-byte
invariant-loop-byte l = l.out ++ flat_map line_of (map byte_listed (drop l.byte-index l.bytes)) ≡ l.fn.out ++ flat_map line_of (map byte_listed l.fn.bytes)
