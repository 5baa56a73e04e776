use Rattle.std.proofs.Common.{rules, ℕ, sym, subst}
use Rattle.axp_ticket.specs.History.{AllBack}
use Rattle.axp_ticket.specs.Seats.{seats_kept}
use Rattle.axp_ticket.proofs.NumbersBack.{none_out, one_more_back}
use Rattle.axp_shared.proofs.tests.replies_know_the_calls_before.Goals as goal

pub close-calls-requires-clause-home : goal.close-calls-requires-clause-home
close-calls-requires-clause-home g c =
    let one_back = subst (AllBack 1) (sym c.give.ensures.kept)
    (one_more_back 0 _ _ (none_out _) (search rules)) in
    let both_back = subst (AllBack 2) (sym c.give-2.ensures.kept)
    (one_more_back 1 _ _ one_back (search rules)) in
    subst (λ (n : ℕ). AllBack n (seats_kept c.give-2.new.seats)) (sym (search rules)) both_back
