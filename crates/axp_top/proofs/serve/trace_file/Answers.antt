use Rattle.std.proofs.Common.{refl}
use Rattle.axp_top.proofs.ServingLemmas.{trace_failed, trace_handed, trace_long, trace_unfound}
use Rattle.axp_top.proofs.serve.trace_file.Goals as goal

pub returns-in-Ok : goal.returns-in-Ok
returns-in-Ok g c =
    trace_handed _ _ c.args.task _ _ c.args.image.now c.in-Ok.file c.as_slice.result.now c.do_task.result c.as_slice.ensures c.in-Ok.ensures.told c.in-Ok.ensures.most c.in-Ok.ensures.count c.in-Ok.ensures.asks c.do_task.ensures

pub returns-in-Err-Failed : goal.returns-in-Err-Failed
returns-in-Err-Failed g c =
    trace_failed _ _ c.args.task _ _ c.args.image.now c.refuse_read_fault.result c.in-Err-Failed.field-0 c.in-Err-Failed.field-0-is c.in-Err-Failed.ensures.count c.in-Err-Failed.ensures.asks c.refuse_read_fault.ensures

pub returns-in-Err-TooLong : goal.returns-in-Err-TooLong
returns-in-Err-TooLong g c =
    trace_long _ _ c.args.task _ _ c.args.image.now c.refuse_long.result c.in-Err-TooLong.field-0 c.in-Err-TooLong.field-0-is c.in-Err-TooLong.ensures.told c.in-Err-TooLong.ensures.count c.in-Err-TooLong.ensures.asks c.refuse_long.ensures

pub returns-in-Err-Memory : goal.returns-in-Err-Memory
returns-in-Err-Memory g c = trace_unfound _ _ c.args.task _ _ c.args.image.now c.in-Err-Memory.field-0 c.in-Err-Memory.field-0-is refl c.in-Err-Memory.ensures.count c.in-Err-Memory.ensures.asks
