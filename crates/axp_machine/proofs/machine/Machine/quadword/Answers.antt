use Rattle.std.proofs.Common.{◌≡◌, ◌+◌, ◌*◌, ◌<◌, ◌≤◌, length, subst, sym, ◌∙◌, arith}
use Rattle.axp_base.specs.declared.parts.TheConstants.{QUADWORD_BYTES}
use Rattle.axp_bus.proofs.BusCallLemmas.{bytes_are}
use Rattle.axp_world.specs.Worlds.{image_bytes}
use Rattle.axp_machine.specs.Runs.{Seen, quadword_of, world_of}
use Rattle.axp_machine.specs.Ties.{seen}
use Rattle.axp_machine.proofs.RunLemmas.{quadword_shown}
use Rattle.axp_machine.proofs.machine.Machine.quadword.Goals as goal

pub returns : goal.returns
returns c =
    let m = seen c.self.inside in
    let address = c.args.quadword * QUADWORD_BYTES in
    let starts : address < m.image.size = subst (λ (s : Seen). address < s.image.size) (sym c.self.view_is) c.requires in
    let ends : address + QUADWORD_BYTES ≤ length c.self.inside.bus.memory = omega (arith, starts, c.self.invariant.size, c.self.invariant.valid.whole_pages) in
    let told = c.tail_memory.ensures ∙ bytes_are c.self.inside.bus (image_bytes m.image) (world_of m).calls address QUADWORD_BYTES c.self.invariant.bus ends in
    subst (λ (m : Seen). c.tail_memory.result ≡ quadword_of m c.args.quadword) c.self.view_is
    (quadword_shown m c.args.quadword c.tail_memory.result c.self.invariant.valid c.self.invariant.run told)
