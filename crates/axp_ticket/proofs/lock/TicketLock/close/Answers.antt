use Rattle.std.proofs.Common.{◌≡◌, sym, subst, refl}
use Rattle.std.specs.Option.{IsSome}
use Rattle.axp_ticket.specs.Seats.{lock_value, KeepsHistoryOf}
use Rattle.axp_ticket.proofs.HistoryKept.{one_history}
use Rattle.axp_ticket.proofs.RuleClosing.{closed}
use Rattle.axp_ticket.proofs.lock.TicketLock.close.Goals as goal

pub unwrap-value-requires : goal.unwrap-value-requires
unwrap-value-requires g c =
    let out = closed _ _ _ c.take.result _ _ c.args.seats.given c.close_with-closed.ensures.values.2
    c.args.seats.gathers.0 c.requires.home c.take.ensures.value in
    subst IsSome (sym out.1) refl

-- the value that was found in the slot
found : (g : _) (c : goal.After-array_drop-self g)
    → (g.S.Served.start c.unwrap-value.result ≡ g.S.Served.start (lock_value c.args.self))
    × (g.S.Served.room c.unwrap-value.result ≡ g.S.Served.room (lock_value c.args.self))
    × KeepsHistoryOf c.args.self c.args.seats (g.S.Served.calls c.unwrap-value.result)
found g c =
    let out = closed _ _ _ c.take.result _ _ c.args.seats.given c.close_with-closed.ensures.values.2
    c.args.seats.gathers.0 c.requires.home c.take.ensures.value in
    out.2 _ c.unwrap-value.ensures

pub returns-clause-start : goal.returns-clause-start
returns-clause-start g c = (found g c).0

pub returns-clause-room : goal.returns-clause-room
returns-clause-room g c = (found g c).1

pub returns-clause-history : goal.returns-clause-history
returns-clause-history g c = (found g c).2

pub returns-clause-whole : goal.returns-clause-whole
returns-clause-whole g c = one_history g.S.Served.Right _ _ _ _ (found g c).2 c.requires.home
