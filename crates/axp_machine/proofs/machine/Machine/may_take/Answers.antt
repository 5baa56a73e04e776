use Rattle.std.proofs.Common.{ap, arith, subst}
use Rattle.axp_bus.specs.BusStands.{Stands}
use Rattle.axp_world.specs.Worlds.{image_bytes}
use Rattle.axp_machine.specs.Runs.{Seen, world_of}
use Rattle.axp_machine.proofs.OfferLemmas.{late_told}
use Rattle.axp_machine.proofs.machine.Machine.may_take.Goals as goal

pub late-requires : goal.late-requires
late-requires c = let count = ap (λ (m : Seen). m.cpus) c.self.view_is in omega (arith, c.requires, count, c.self.invariant.ports)

pub returns-then-may : goal.returns-then-may
returns-then-may c =
    let count = ap (λ (m : Seen). m.cpus) c.self.view_is in
    let stands = subst (λ (m : Seen). Stands c.self.inside.bus (image_bytes m.image) (world_of m).calls) c.self.view_is c.self.invariant.bus in
    rw c.if-may.true (late_told c.args.self.now c.self.inside.bus c.args.cpu c.args.bank c.late.result (omega (arith, c.requires, count, c.self.invariant.ports)) stands c.late.ensures)
