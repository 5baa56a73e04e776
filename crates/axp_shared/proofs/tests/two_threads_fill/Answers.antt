use Rattle.std.proofs.Common.{rules, ℕ, sym, ◌∙◌, subst}
use Rattle.axp_ticket.specs.History.{own, AllBack}
use Rattle.axp_ticket.specs.Seats.{seat_calls, seats_kept}
use Rattle.axp_ticket.proofs.NumbersBack.{none_out, one_more_back}
use Rattle.axp_shared.proofs.tests.two_threads_fill.Goals as goal

pub close-calls-requires-clause-home : goal.close-calls-requires-clause-home
close-calls-requires-clause-home g c =
    let a = c.both-one.result.0 in
    let b = c.both-one.result.1 in
    let one_back = subst (AllBack 1) (sym c.give.ensures.kept)
    (one_more_back 0 _ (own a.number (seat_calls a)) (none_out _) (c.both-one.ensures.one.1
    ∙ search rules)) in
    let both_back = subst (AllBack 2) (sym c.give-2.ensures.kept)
    (one_more_back 1 _ (own b.number (seat_calls b)) one_back (c.both-one.ensures.other.1
    ∙ search rules)) in
    subst (λ (n : ℕ). AllBack n (seats_kept c.give-2.new.seats)) (sym (search rules)) both_back
