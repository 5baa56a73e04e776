use Rattle.std.proofs.Common.{rules, ◌≡◌, ℕ, ◌+◌, ◌%◌, ◌^◌, [], ◌∷◌, Some, sym, refl, ap, ◌∙◌, subst}
use Rattle.atomic_table.specs.Table.{step, Allows, rest}
use mathlib.Core.Option.{none}
use Rattle.axp_ticket.specs.History.{AllBefore}
use Rattle.axp_ticket.specs.Moves.{idling, pass_calls, passed}
use Rattle.axp_ticket.specs.Queue.{Queued, terms_of}
use Rattle.axp_ticket.proofs.RulePassOn.{passes}
use Rattle.axp_ticket.proofs.lock.TicketLock.pass_on.Goals as goal

pub fetch_add-position-requires : goal.fetch_add-position-requires
fetch_add-position-requires g c =
    let m = c.args.pass.now.me in
    let is : c.exchange.new.seat.me ≡ (m.0, (0, Some c.args.value) ∷ []) = c.exchange.ensures.3
    ∙ ap (λ cs. (m.0, (0, Some c.args.value) ∷ rest cs)) c.requires.turns.1 in
    let Rule = Queued
    (terms_of g.S.Served.start g.S.Served.room g.S.Served.calls g.S.Served.Right
    c.args.self.now.table.shared.key.seats c.args.self.now.table.shared.key.allowance
    c.args.self.now.table.shared.key.value.value) in
    let new = c.requires.longer in
    let v = c.args.before.now.value in
    let right = subst (λ (x : ℕ × g.row.S-Ask.Denot × g.row.S-Answer.Denot).
    g.S.Served.Right (g.S.Served.start v) (g.S.Served.calls v) x.0 x.1 x.2)
    (λ i. (sym new.1.0 i, sym new.1.1 i, sym new.1.2 i)) c.requires.right in (
      c.exchange.ensures.0 ∙ c.requires.own.0,
      search rules,
      subst (λ z. Allows Rule c.args.self.now.table.shared.table_id.slots c.exchange.new.seat.id z 1
          (λ n. (n + 1) % 2 ^ 64)
          (passed g.S.Served.calls (step c.args.self.now.table.shared.table_id.slots 1 1 0 none) z))
          (sym is)
          (passes _ _ _ (m.0, (0, Some c.args.value) ∷ []) c.args.ticket v c.args.value new.0
          c.requires.turns.0 (search rules) (new.1.0 ∙ c.requires.whose) new.2 (
            c.requires.start,
            c.requires.room,
          ) right c.args.self.now.few),
    )

-- what the pass on tells of the seat as it was before the value went back
stepped_on : (g : _) (c : goal.After-wake_next g)
    → (c.fetch_add-position.new.seat.me ≡ idling c.args.pass.now.me c.fetch_add-position.result
    c.requires.longer.0)
    × (c.fetch_add-position.result ≡ c.args.ticket)
    × AllBefore (pass_calls c.args.pass.now) c.fetch_add-position.result
stepped_on g c =
    let m = c.args.pass.now.me in
    let is : c.exchange.new.seat.me ≡ (m.0, (0, Some c.args.value) ∷ []) = c.exchange.ensures.3
    ∙ ap (λ cs. (m.0, (0, Some c.args.value) ∷ rest cs)) c.requires.turns.1 in
    subst (λ z. passed g.S.Served.calls
    (step c.args.self.now.table.shared.table_id.slots 1 1 0 none) z c.fetch_add-position.result
    c.fetch_add-position.new.seat.me) is c.fetch_add-position.ensures.2 c.args.ticket
    c.args.before.now.value c.args.value
    c.requires.longer.0 c.requires.turns.0 refl c.requires.longer.2

pub returns-clause-same : goal.returns-clause-same
returns-clause-same g c = let went = stepped_on g c in (
  c.fetch_add-position.ensures.0 ∙ c.exchange.ensures.0,
  c.fetch_add-position.ensures.1
      ∙ c.exchange.ensures.1,
  ap (λ m. m.0.opened) went.0,
)

pub returns-clause-idle : goal.returns-clause-idle
returns-clause-idle g c = (c.requires.longer.0, c.requires.longer.1, (stepped_on g c).0)

pub returns-clause-ticket : goal.returns-clause-ticket
returns-clause-ticket g c = (stepped_on g c).1

pub returns-clause-later : goal.returns-clause-later
returns-clause-later g c = (stepped_on g c).2
