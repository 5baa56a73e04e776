use Rattle.axp_ticket.proofs.HistoryUnique.{one_log}
use Rattle.axp_ticket.proofs.laws.kept_calls_fix_the_history.Goals as goal

pub returns : goal.returns
returns g c start kept one other h h' = one_log g.S.Served.Right start kept one other h h'
