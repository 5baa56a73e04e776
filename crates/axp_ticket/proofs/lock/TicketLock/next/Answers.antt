use Rattle.std.proofs.Common.{rules, arith}
use Rattle.axp_ticket.proofs.RuleHandOut.{splits}
use Rattle.axp_ticket.proofs.lock.TicketLock.next.Goals as goal

pub returns-then-seats-self-clause-all_out : goal.returns-then-seats-self-clause-all_out
returns-then-seats-self-clause-all_out g c = let same = c.args.self.now.same in
    let full = c.if-seats-self.true in let most = c.requires.seats.1 in omega arith

pub split_seat-pass-requires : goal.split_seat-pass-requires
split_seat-pass-requires g c = (
  c.requires.seats.0.0,
  search rules,
  splits _ _ _ c.args.seats.now.given c.args.seats.now.gathers.0 (let same = c.args.self.now.same in
      let left = c.if-seats-self.false in omega arith),
)
