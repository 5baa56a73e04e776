use Rattle.std.proofs.Common.{rules}
use Rattle.axp_ticket.proofs.RuleLook.{looks}
use Rattle.axp_ticket.proofs.lock.TicketLock.look.Goals as goal

pub load-requires : goal.load-requires
load-requires g c = (
  search rules,
  search rules,
  looks _ _ _ _ c.args.ticket c.requires.waits.0 c.requires.waits.1 c.args.self.now.few,
)
