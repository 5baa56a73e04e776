use Rattle.std.proofs.Common.{ap}
use Rattle.axp_lsu.proofs.OfferLemmas.{offers_asked}
use Rattle.axp_lsu.proofs.units.Lsu.offer.Goals as goal

pub returns-clause-acts : goal.returns-clause-acts
returns-clause-acts c = offers_asked (record {
  spent = c.args.intent.now.finished;
  step = c.allows.result;
  fill = c.allows-2.result;
  drains = c.open_drains.result;
  late = (c.is_open-late.result, c.is_open-late.result);
  drops = c.open_drops.result;
  needs = c.full_bank.result;
  poll = c.allows-3.result;
  tick = c.allows-4.result;
}) c.args.intent.now c.args.self.now (record {
  step = c.allows.ensures;
  fill = c.allows-2.ensures;
  drains = c.open_drains.ensures;
  late = ap (λ b. (b, b)) c.is_open-late.ensures;
  drops = c.open_drops.ensures.value;
  poll = c.allows-3.ensures;
  tick = c.allows-4.ensures;
})
