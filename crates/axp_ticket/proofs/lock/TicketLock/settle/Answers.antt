use Rattle.std.proofs.Common.{rules, sym, subst}
use Rattle.axp_ticket.specs.History.{IsHistory}
use Rattle.axp_ticket.specs.Moves.{kept_of}
use Rattle.axp_ticket.specs.Seats.{lock_value}
use Rattle.axp_ticket.proofs.RuleSettle.{settles}
use Rattle.axp_ticket.proofs.lock.TicketLock.settle.Goals as goal

pub load-requires : goal.load-requires
load-requires g c = (
  c.requires.seats.0.0,
  search rules,
  settles _ _ _ _,
)

pub returns-clause-history : goal.returns-clause-history
returns-clause-history g c =
    let lock = c.args.self.now in
    let given = c.args.seats.now.given in
    subst (λ m. IsHistory g.S.Served.Right (g.S.Served.start (lock_value lock)) given
    (kept_of m.0.role)) (sym c.load.ensures.2.0)
    (c.load.ensures.2.1 given (lock_value lock) c.args.seats.now.gathers.0 c.requires.seats.0.1)
