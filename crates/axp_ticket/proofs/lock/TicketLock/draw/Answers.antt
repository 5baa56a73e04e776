use Rattle.std.proofs.Common.{rules}
use Rattle.axp_ticket.proofs.RuleDraw.{draws}
use Rattle.axp_ticket.proofs.lock.TicketLock.draw.Goals as goal

pub fetch_add-requires : goal.fetch_add-requires
fetch_add-requires g c = (
  search rules,
  search rules,
  draws _ _ _ _ c.requires.idle.0 c.requires.few c.args.self.now.few,
)
