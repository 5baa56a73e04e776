use Rattle.std.proofs.Common.{rules}
use Rattle.axp_ticket.proofs.RuleTakeBack.{joins}
use Rattle.axp_ticket.proofs.lock.TicketLock.take_back.Goals as goal

pub join_seat-requires : goal.join_seat-requires
join_seat-requires g c = (
  search rules,
  search rules,
  search rules,
  search rules,
  joins _ _ _ _ _ c.args.seats.now.given c.args.seats.now.gathers.0 (search rules),
)
