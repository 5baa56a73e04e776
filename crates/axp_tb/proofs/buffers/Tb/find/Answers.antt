use Rattle.std.proofs.Common.{arith, ◌≡◌}
use Rattle.std.proofs.lemmas.Grind.{common_steps}
use Rattle.axp_tb.specs.Buffers.{found}
use Rattle.axp_tb.proofs.SearchLemmas.{result_last, result_none}
use Rattle.axp_tb.proofs.buffers.Tb.find.Goals as goal

pub returns-clause-none : goal.returns-clause-none
returns-clause-none c =
    let value : c.loop-entry.found ≡ found c.args.self.now c.args.page c.args.asn = grind (arith, common_steps) in
    result_none c.loop-entry.found c.args.self.now c.args.page c.args.asn value

pub returns-clause-last : goal.returns-clause-last
returns-clause-last c =
    let value : c.loop-entry.found ≡ found c.args.self.now c.args.page c.args.asn = grind (arith, common_steps) in
    result_last c.loop-entry.found c.args.self.now c.args.page c.args.asn value
