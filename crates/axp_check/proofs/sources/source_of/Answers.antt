use Rattle.std.proofs.Common.{◌<◌, length, arith}
use Rattle.axp_check.proofs.SourceNumbers.{source_more}
use Rattle.axp_check.proofs.sources.source_of.Goals as goal

pub loop-i-preserved : goal.loop-i-preserved
loop-i-preserved c =
    let less : c.loop-i.i < length c.args.list.now.items = let test = c.loop-i-test.true in let len = c.len-i-end.ensures.value in omega (arith, test, len) in
    record {
      within = c.with_giver-latest.ensures.within;
      so_far = source_more c.args.list.now c.args.at c.args.n c.loop-i.i c.loop-i.latest c.with_giver-latest.result less c.loop-i.invariant.so_far c.with_giver-latest.ensures.value;
    }
