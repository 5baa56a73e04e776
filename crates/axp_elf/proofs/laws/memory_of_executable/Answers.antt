use Rattle.axp_elf.proofs.ExecutableLemmas.{executable_valid}
use Rattle.axp_elf.proofs.MemoryLemmas.{has_file_bytes, is_zero_elsewhere}
use Rattle.axp_elf.proofs.laws.memory_of_executable.Goals as goal

pub returns : goal.returns
returns c = record { valid = executable_valid; inside = has_file_bytes; outside = is_zero_elsewhere }
