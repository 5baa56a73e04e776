use Rattle.std.proofs.Common.{arith}
use Rattle.axp_base.specs.Cpus.{cpu_number}
use Rattle.axp_bus.proofs.PortLemmas.{noted_start, noted_step, room_at}
use Rattle.axp_bus.proofs.steps.note_all.Goals as goal

pub loop-n-init : goal.loop-n-init
loop-n-init c = noted_start _ _ _ _ _

pub note-requires : goal.note-requires
note-requires c = room_at c.loop-n.n (cpu_number c.args.cpu) c.args.turn c.args.request.now c.args.reply c.args.ports.now c.loop-n.ports c.index-ports-n.result c.loop-n.invariant c.loop-n-test.true c.requires.room

pub loop-n-preserved : goal.loop-n-preserved
loop-n-preserved c = noted_step c.loop-n.n (cpu_number c.args.cpu) c.args.turn c.args.request.now c.args.reply c.args.ports.now c.loop-n.ports _ c.note.new.self c.loop-n.invariant (omega (arith, c.loop-n-test.true)) c.note.ensures

pub returns : goal.returns
returns c = record { noted = λ p d here. c.loop-n.invariant.done p d (omega (arith, c.loop-n-test.false)) here; size = c.loop-n.invariant.size }
