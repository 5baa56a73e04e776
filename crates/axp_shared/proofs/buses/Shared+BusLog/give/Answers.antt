use Rattle.axp_ticket.proofs.HistoryKept.{one_history}
use Rattle.axp_shared.specs.Answers.{IsBusAnswer}
use Rattle.axp_shared.proofs.Replied.{all_replied}
use Rattle.axp_shared.proofs.buses.Shared+BusLog.give.Goals as goal

pub returns-clause-history : goal.returns-clause-history
returns-clause-history c = let (log, history) = c.give.ensures.history in (
  log,
  record {
    replied = all_replied _ log history.right;
    history = history;
    whole = one_history IsBusAnswer _ _ _ log history;
  },
)
