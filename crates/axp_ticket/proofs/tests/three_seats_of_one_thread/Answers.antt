use Rattle.std.proofs.Common.{rules, ℕ, sym, subst}
use Rattle.axp_ticket.specs.History.{AllBack}
use Rattle.axp_ticket.specs.Seats.{seats_kept}
use Rattle.axp_ticket.proofs.NumbersBack.{none_out, one_more_back}
use Rattle.axp_ticket.proofs.tests.three_seats_of_one_thread.Goals as goal

pub close-counter-requires-clause-home : goal.close-counter-requires-clause-home
close-counter-requires-clause-home g c =
    let one_back = subst (AllBack 1) (sym c.give.ensures.kept)
    (one_more_back 0 _ _ (none_out _) (search rules)) in
    let two_back = subst (AllBack 2) (sym c.give-2.ensures.kept)
    (one_more_back 1 _ _ one_back (search rules)) in
    let three_back = subst (AllBack 3) (sym c.give-3.ensures.kept)
    (one_more_back 2 _ _ two_back (search rules)) in
    subst (λ (n : ℕ). AllBack n (seats_kept c.give-3.new.seats)) (sym (search rules)) three_back
