use Rattle.std.proofs.Common.{refl}
use Rattle.axp_top.proofs.ServingLemmas.{source_failed, source_long, source_served, source_unfound}
use Rattle.axp_top.specs.Words.{Asm}
use Rattle.axp_top.proofs.serve.asm_file.Goals as goal

pub returns-in-Ok : goal.returns-in-Ok
returns-in-Ok g c =
    source_served _ _ _ (Asm c.args.file.now) c.in-Ok.text c.as_slice.result.now c.print_assembled.result c.as_slice.ensures c.in-Ok.ensures.told c.in-Ok.ensures.most c.in-Ok.ensures.count c.in-Ok.ensures.asks c.print_assembled.ensures

pub returns-in-Err-Failed : goal.returns-in-Err-Failed
returns-in-Err-Failed g c =
    source_failed _ _ _ (Asm c.args.file.now) c.refuse_read_fault.result c.in-Err-Failed.field-0 c.in-Err-Failed.field-0-is c.in-Err-Failed.ensures.count c.in-Err-Failed.ensures.asks c.refuse_read_fault.ensures

pub returns-in-Err-TooLong : goal.returns-in-Err-TooLong
returns-in-Err-TooLong g c =
    source_long _ _ _ (Asm c.args.file.now) c.refuse_long.result c.in-Err-TooLong.field-0 c.in-Err-TooLong.field-0-is c.in-Err-TooLong.ensures.told c.in-Err-TooLong.ensures.count c.in-Err-TooLong.ensures.asks c.refuse_long.ensures

pub returns-in-Err-Memory : goal.returns-in-Err-Memory
returns-in-Err-Memory g c =
    source_unfound _ _ _ (Asm c.args.file.now) c.in-Err-Memory.field-0 c.in-Err-Memory.field-0-is refl c.in-Err-Memory.ensures.count c.in-Err-Memory.ensures.asks
