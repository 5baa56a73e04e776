use Rattle.std.proofs.Common.{◌≡◌, take}
use Rattle.axp_gen.specs.Litmus.{bytes_of}
use Rattle.axp_gen.proofs.images.code_bytes.Given as goal

abbrev pub invariant-loop-word : goal.invariant-loop-word
invariant-loop-word l = l.bytes ≡ bytes_of (take l.word-index l.words)
