use Rattle.std.proofs.Common.{ap, arith, subst}
use Rattle.axp_bus.specs.BusStands.{Stands}
use Rattle.axp_image.specs.Contents.{IsValid}
use Rattle.axp_world.specs.Worlds.{image_bytes}
use Rattle.axp_machine.specs.Runs.{IsRun, Seen, world_of}
use Rattle.axp_machine.proofs.ReasonLemmas.{take_told}
use Rattle.axp_machine.proofs.machine.Machine.is_late.Goals as goal

pub late-requires : goal.late-requires
late-requires c = let count = ap (λ (m : Seen). m.cpus) c.self.view_is in omega (arith, c.requires, count, c.self.invariant.ports)

pub returns-in-Take : goal.returns-in-Take
returns-in-Take c =
    let count = ap (λ (m : Seen). m.cpus) c.self.view_is in
    take_told c.args.self.now c.self.inside.bus c.args.event c.in-Take.bank c.late.result
    (subst (λ (m : Seen). IsValid m.image) c.self.view_is c.self.invariant.valid)
    (subst IsRun c.self.view_is c.self.invariant.run)
    c.in-Take.is (omega (arith, c.requires, count, c.self.invariant.ports))
    (subst (λ (m : Seen). Stands c.self.inside.bus (image_bytes m.image) (world_of m).calls) c.self.view_is c.self.invariant.bus)
    c.late.ensures
