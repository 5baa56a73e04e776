use Rattle.std.proofs.Common.{[], ◌∷◌, ◌++◌, sym, ap, ◌∙◌}
use Rattle.axp_ticket.specs.History.{placed}
use Rattle.axp_ticket.specs.Moves.{own_of}
use Rattle.axp_ticket.proofs.lock.TicketLock.turn.Goals as goal

pub pass_on-position-requires-clause-longer : goal.pass_on-position-requires-clause-longer
pass_on-position-requires-clause-longer g c =
    let made = c.reply-answer.ensures.calls in (
      made.0,
      (made.1.0, made.1.1 ∙ sym c.of-asked.ensures, made.1.2),
      made.2
          ∙ ap (λ v. g.S.Served.calls v ++ made.0 ∷ []) (sym c.of-before.ensures),
    )

pub returns-clause-call : goal.returns-clause-call
returns-clause-call g c =
    let made = c.pass_on-position.ensures.idle in (
      made.0,
      (made.1.0, made.1.1 ∙ c.of-asked.ensures, made.1.2),
      ap (λ m. (own_of m.0.role).calls) made.2
          ∙ ap (λ cs. cs ++ placed c.pass_on-position.result made.0 ∷ [])
          (ap (λ m. (own_of m.0.role).calls) c.wait-value.ensures.turns
          ∙ ap (λ m. (own_of m.0.role).calls) c.draw-ticket.ensures.drawn),
    )
