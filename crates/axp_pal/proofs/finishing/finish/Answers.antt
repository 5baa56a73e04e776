use Rattle.axp_pal.proofs.AnswerLemmas.{swap_answered, call_answered, entry_answered}
use Rattle.axp_pal.proofs.finishing.finish.Goals as goal

pub swap-requires : goal.swap-requires
swap-requires c = swap_answered c.args.op c.args.state.now c.args.values.now c.in-SWPCTX.is c.requires

pub return_from_call-requires : goal.return_from_call-requires
return_from_call-requires c = call_answered c.args.op c.args.state.now c.args.values.now c.in-RETSYS.is c.requires

pub return_from_entry-requires : goal.return_from_entry-requires
return_from_entry-requires c = entry_answered c.args.op c.args.state.now c.args.values.now c.in-RTI.is c.requires
