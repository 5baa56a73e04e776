use Rattle.axp_top.proofs.PrintingLemmas.{put_failed, put_printed, put_unfound}
use Rattle.axp_top.proofs.printing.print.Goals as goal

pub returns-in-Ok : goal.returns-in-Ok
returns-in-Ok g c = put_printed _ _ c.args.piece.now c.in-Ok.ensures.taken c.in-Ok.ensures.count c.put.ensures.puts

pub returns-in-Err-Failed : goal.returns-in-Err-Failed
returns-in-Err-Failed g c = put_failed _ _ c.args.piece.now c.in-Err-Failed.field-0 c.in-Err-Failed.field-0-is c.in-Err-Failed.ensures.taken c.in-Err-Failed.ensures.count c.put.ensures.puts

pub returns-in-Err-Memory : goal.returns-in-Err-Memory
returns-in-Err-Memory g c = put_unfound _ _ c.args.piece.now c.in-Err-Memory.field-0 c.in-Err-Memory.field-0-is c.in-Err-Memory.ensures.taken c.in-Err-Memory.ensures.count c.put.ensures.puts
