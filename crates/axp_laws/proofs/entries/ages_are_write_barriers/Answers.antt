use Rattle.axp_laws.proofs.EntryGroups.{age_counts, parts_count, entry_was_made}
use Rattle.axp_laws.proofs.entries.ages_are_write_barriers.Goals as goal

pub returns-clause-age : goal.returns-clause-age
returns-clause-age c = age_counts

pub returns-clause-parts : goal.returns-clause-parts
returns-clause-parts c = λ h run. parts_count run.image run.processors h run.inside run.legal

pub returns-clause-entry : goal.returns-clause-entry
returns-clause-entry c = λ h run. entry_was_made run.image run.processors h run.inside run.legal
