use Rattle.std.proofs.Common.{refl}
use Rattle.axp_decode.specs.Format.{word_of, instr_of, operand_bits, operand_of, is_floating}
use Rattle.axp_decode.specs.Table.{memory_of, branch_of, operate_of, misc_of, pal_of}
use Rattle.axp_gen.specs.declared.shapes.Shape.TheVariants.{Sb, Dl, Dm, Lock}
use Rattle.axp_gen.specs.Programs.{store_buffering, dependent_load, dependent_load_with_barrier, spin_lock}
use Rattle.axp_gen.proofs.laws.programs_are_decoded.Goals as goal

pub returns : goal.returns
unfolding word_of instr_of operand_bits operand_of is_floating memory_of branch_of operate_of misc_of pal_of store_buffering dependent_load dependent_load_with_barrier spin_lock
returns c Sb = refl
returns c Dl = refl
returns c Dm = refl
returns c Lock = refl
