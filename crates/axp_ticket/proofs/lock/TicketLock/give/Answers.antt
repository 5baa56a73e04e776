use Rattle.axp_ticket.proofs.HistoryKept.{one_history}
use Rattle.axp_ticket.proofs.lock.TicketLock.give.Goals as goal

pub returns-clause-whole : goal.returns-clause-whole
returns-clause-whole g c home = let (log, history) = c.settle.ensures.history in
    (log, one_history g.S.Served.Right _ _ _ log history home)
