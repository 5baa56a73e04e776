use Rattle.axp_bus.proofs.PortLemmas.{fresh_none, fresh_more}
use Rattle.axp_bus.proofs.ports.fresh_ports.Goals as goal

pub loop-init : goal.loop-init
loop-init c = fresh_none c.args.room c.in_ok-ports.ports.items c.in_ok-ports.ensures.items

pub loop-preserved : goal.loop-preserved
loop-preserved c = fresh_more c.args.room c.loop.counter c.loop.ports.items c.push.new.self.items c.in_ok-with_room.field-0 c.loop.invariant c.in_ok-with_room.ensures c.in_ok-push.ensures.items
