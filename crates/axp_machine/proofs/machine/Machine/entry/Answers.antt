use Rattle.std.proofs.Common.{◌≤◌, ap, arith, subst, ◌∙◌}
use Rattle.axp_base.specs.Cpus.{cpu_number}
use Rattle.axp_image.specs.Contents.{IsValid}
use Rattle.axp_machine.proofs.EntryLemmas.{entry_shown, none_written}
use Rattle.axp_machine.specs.Playing.{actor_of}
use Rattle.axp_machine.specs.Runs.{IsRun, Seen}
use Rattle.axp_machine.proofs.machine.Machine.entry.Goals as goal

pub returns-then-from-len : goal.returns-then-from-len
returns-then-from-len c =
    let count = ap (λ (m : Seen). m.cpus) c.self.view_is in
    let past : c.args.self.now.cpus ≤ cpu_number c.args.cpu = omega (arith, count, c.if-from-len.true, c.len.ensures, c.from.ensures, c.number.ensures.value) in
    none_written c.args.self.now c.args.cpu c.args.number (subst IsRun c.self.view_is c.self.invariant.run) past

pub returns : goal.returns
returns c =
    let valid = subst (λ (m : Seen). IsValid m.image) c.self.view_is c.self.invariant.valid in
    let run = subst IsRun c.self.view_is c.self.invariant.run in
    c.entry.ensures (actor_of c.args.self.now (cpu_number c.args.cpu)) c.processor.ensures.at ∙ entry_shown c.args.self.now c.args.cpu c.args.number valid run
