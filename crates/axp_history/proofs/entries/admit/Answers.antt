use Rattle.std.proofs.Common.{ap}
use Rattle.axp_base.specs.Cpus.{cpu_number}
use Rattle.axp_history.proofs.entries.admit.Goals as goal

pub returns-in-Entry-clause-kept : goal.returns-in-Entry-clause-kept
returns-in-Entry-clause-kept c = λ h e tells own yes_. c.write_entry.ensures.kept h _ tells (record { own = ap cpu_number own; access = c.in-Access.access; is = c.in-Access.is; place = c.in-Entry.is }) yes_

pub returns-in-Drained-clause-kept : goal.returns-in-Drained-clause-kept
returns-in-Drained-clause-kept c = λ h e tells own yes_. c.drain_entry.ensures.kept h _ tells (record { own = ap cpu_number own; line = c.in-Drained.line; turn = c.in-Drained.turn; is = c.in-Drained.is }) yes_
