use Rattle.std.proofs.Common.{refl}
use Rattle.axp_image.specs.Grammar.{piece_at, number_at}
use Rattle.axp_elf.specs.Headers.{header_in, segment_in}
use Rattle.axp_elf.specs.Faults.{first_fault}
use Rattle.axp_elf.specs.Executables.{image_of}
use Rattle.axp_elf.proofs.laws.program_of_one_word.Goals as goal

pub returns : goal.returns
unfolding image_of first_fault number_at piece_at header_in segment_in
returns c = record { read = refl; machine = refl; dynamic = refl; interpreter = refl; larger_in_file = refl; past_the_end = refl; no_memory = refl; empty = refl }
