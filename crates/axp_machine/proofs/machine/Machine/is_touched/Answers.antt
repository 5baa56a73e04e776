use Rattle.std.proofs.Common.{◌≡◌, subst}
use Rattle.axp_bus.proofs.BusCallLemmas.{touched_is}
use Rattle.axp_world.specs.Worlds.{image_bytes}
use Rattle.axp_machine.specs.Runs.{Seen, touches, world_of}
use Rattle.axp_machine.specs.Ties.{seen}
use Rattle.axp_machine.proofs.RunLemmas.{touched_shown}
use Rattle.axp_machine.proofs.machine.Machine.is_touched.Goals as goal

pub returns : goal.returns
returns c =
    let m = seen c.self.inside in
    let told = touched_is c.self.inside.bus (image_bytes m.image) (world_of m).calls c.args.quadword c.is_touched.result c.self.invariant.bus c.is_touched.ensures in
    subst (λ (m : Seen). c.is_touched.result ≡ touches m c.args.quadword) c.self.view_is
    (touched_shown m c.args.quadword c.is_touched.result c.self.invariant.valid c.self.invariant.run told)
