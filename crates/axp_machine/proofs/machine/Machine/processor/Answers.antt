use Rattle.std.proofs.Common.{◌≡◌, ◌∙◌, subst}
use Rattle.axp_base.specs.Cpus.{cpu_number}
use Rattle.axp_cpu.specs.ActorStands.{IsAt}
use Rattle.axp_image.specs.Contents.{IsValid}
use Rattle.axp_machine.specs.Runs.{IsRun, Seen, seat_of}
use Rattle.axp_machine.specs.Playing.{actor_of}
use Rattle.axp_machine.specs.Ties.{seen}
use Rattle.axp_machine.proofs.ReaderLemmas.{seated_at, below_seen}
use Rattle.axp_machine.proofs.RunLemmas.{seat_shown}
use Rattle.axp_machine.proofs.machine.Machine.processor.Goals as goal
use Rattle.axp_world.proofs.RunSeats.{cpu_small}

pub returns : goal.returns
returns c = record {
  at = subst (λ (m : Seen). IsAt c.index.result.now (actor_of m (cpu_number c.args.cpu))) c.self.view_is
      (seated_at c.self.inside (cpu_number c.args.cpu) c.from.result c.index.result.now c.self.invariant (c.from.ensures ∙ c.number.ensures.value) (below_seen c.self.inside c.args.self.now (cpu_number c.args.cpu) c.self.view_is c.requires) c.index.ensures);
  seat = subst (λ (m : Seen). seat_of m (cpu_number c.args.cpu) ≡ (actor_of m (cpu_number c.args.cpu)).seat) c.self.view_is
      (seat_shown (seen c.self.inside) (cpu_number c.args.cpu) c.self.invariant.valid c.self.invariant.run (cpu_small c.args.cpu));
  run = subst IsRun c.self.view_is c.self.invariant.run;
  valid = subst (λ (m : Seen). IsValid m.image) c.self.view_is c.self.invariant.valid;
}
