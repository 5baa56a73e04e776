use Rattle.std.proofs.Common.{sym}
use Rattle.axp_machine.proofs.RunLemmas.{gives_alone, keeps_constraints, refused_exactly}
use Rattle.axp_machine.proofs.machine.Machine.event.Goals as goal

pub returns-in-Ok-clause-constraints : goal.returns-in-Ok-clause-constraints
returns-in-Ok-clause-constraints c = keeps_constraints c.make.new.self c.make.ensures.valid c.make.ensures.run

pub returns-in-Ok-clause-legal : goal.returns-in-Ok-clause-legal
returns-in-Ok-clause-legal c = refused_exactly c.args.self.now c.args.event _ (sym c.make.ensures.answer) c.grant.ensures.valid c.grant.ensures.run

pub returns-in-Err-clause-legal : goal.returns-in-Err-clause-legal
returns-in-Err-clause-legal c = refused_exactly c.args.self.now c.args.event _ (sym c.in-Err.ensures.answer) c.grant.ensures.valid c.grant.ensures.run

pub returns-in-Ok-clause-alone : goal.returns-in-Ok-clause-alone
returns-in-Ok-clause-alone c = λ below. gives_alone c.args.self.now c.args.event _ below (sym c.make.ensures.answer)

pub returns-in-Err-clause-alone : goal.returns-in-Err-clause-alone
returns-in-Err-clause-alone c = λ below. gives_alone c.args.self.now c.args.event _ below (sym c.in-Err.ensures.answer)
