use Rattle.std.proofs.Common.{◌∷◌, Some, sym, ap, ◌∙◌}
use Rattle.atomic_table.specs.Table.{rest}
use Rattle.axp_ticket.proofs.lock.TicketLock.take.Goals as goal

pub exchange-requires : goal.exchange-requires
exchange-requires g c =
    let (value, is) = c.requires.turns in
    (c.requires.own.0, (Some value, is ∙ ap (λ cs. (0, Some value) ∷ rest cs) (sym is)))
