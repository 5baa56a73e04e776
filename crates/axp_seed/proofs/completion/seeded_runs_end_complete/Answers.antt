use Rattle.axp_seed.proofs.CompletionLemmas.{ends}
use Rattle.axp_seed.proofs.completion.seeded_runs_end_complete.Goals as goal

pub returns-clause-complete : goal.returns-clause-complete
returns-clause-complete c = λ image cpus budget seed valid few. (ends image cpus budget seed valid few).complete

pub returns-clause-run : goal.returns-clause-run
returns-clause-run c = λ image cpus budget seed valid few. (ends image cpus budget seed valid few).run

pub returns-clause-over : goal.returns-clause-over
returns-clause-over c = λ image cpus budget seed valid few. (ends image cpus budget seed valid few).over
