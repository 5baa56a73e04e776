use Rattle.std.proofs.Common.{List, sym, subst, ap}
use Rattle.axp_line.specs.BusCalls.{BusCall}
use Rattle.axp_shared.specs.Buses.{KeepsBusHistory}
use Rattle.axp_shared.proofs.Replied.{all_replied}
use Rattle.axp_shared.proofs.buses.Shared+BusLog.close.Goals as goal

pub returns : goal.returns
returns c =
    let kept = c.close.ensures in
    subst (λ (calls : List BusCall). KeepsBusHistory c.args.self c.args.seats calls)
    (ap (λ calls. calls.items) (sym c.into_calls.ensures)) (record {
      replied = all_replied _ _ kept.history.right;
      history = kept.history;
      whole = λ home. kept.whole;
    })
