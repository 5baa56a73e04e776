use Rattle.std.proofs.Common.{◌≡◌, ◌*◌, ◌≤◌, [], ◌∷◌, ◌++◌, Some, sym, ap, ◌∙◌, subst}
use Rattle.atomic_table.specs.Table.{opening}
use Rattle.axp_ticket.specs.Queue.{Queued, terms_of, gathering}
use Rattle.axp_ticket.proofs.RuleOpening.{starts}
use Rattle.axp_ticket.proofs.lock.TicketLock.open.Goals as goal

pub new-requires : goal.new-requires
new-requires g c =
    let v = c.of.result.value in
    let terms = terms_of g.S.Served.start g.S.Served.room g.S.Served.calls g.S.Served.Right
    c.args.seats c.args.allowance v in
    let items : c.push_reserved.new.self.items ≡ Some v ∷ [] = c.push_reserved.ensures.items
    ∙ (ap (λ l. l ++ Some c.args.value ∷ []) c.in_ok-slots.ensures.items
    ∙ ap (λ x. Some x ∷ []) (sym c.of.ensures)) in
    subst (λ l. Queued terms (opening (0 ∷ 0 ∷ []) l (gathering v))) (sym items)
    (starts terms (ap g.S.Served.calls c.of.ensures ∙ c.requires.empty)
    (subst (λ x. c.args.seats * c.args.allowance ≤ g.S.Served.room x)
    (sym c.of.ensures) c.requires.room))
