use Rattle.std.proofs.Common.{◌≡◌, ◌≤◌, All, length, vec_capacity}
use Rattle.axp_ticket.specs.Seats.{seats_given}
use Rattle.axp_shared.specs.Asking.{IsReady}
use Rattle.axp_shared.specs.Buses.{AreSeatsOfBus}
use Rattle.axp_shared.proofs.tests.eight_seats.Given as goal

abbrev pub invariant-loop-n : goal.invariant-loop-n
invariant-loop-n l =
    AreSeatsOfBus l.bus l.seats
    × (seats_given l.seats ≡ l._n)
    × (length l.all.items ≡ l._n)
    × (8 ≤ vec_capacity l.all)
    × All (IsReady l.bus) l.all.items
