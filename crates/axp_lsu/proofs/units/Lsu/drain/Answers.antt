use Rattle.std.proofs.Common.{ap, ◌∙◌}
use Rattle.std.specs.Prelude.{slice_get}
use Rattle.axp_access.specs.declared.Outcome.TheVariants as outcome
use Rattle.axp_wbuf.specs.Drains.{oldest_group}
use Rattle.axp_lsu.specs.Going.{drain_outcome, after_drain}
use Rattle.axp_lsu.specs.Keeping.{LocalMemory}
use Rattle.axp_lsu.specs.Views.{local_memory_of}
use Rattle.axp_lsu.proofs.EntryLemmas.{drained_is, outcome_told}
use Rattle.axp_lsu.proofs.units.Lsu.drain.Goals as goal

pub returns-clause-outcome : goal.returns-clause-outcome
returns-clause-outcome c =
    let entry = c.oldest-entry.result in
    ap (λ t. outcome.Drained entry.0 entry.1 t) c.turn_in.ensures
    ∙ outcome_told (slice_get (oldest_group c.self.inside.buffer.kept) c.args.k) entry.0 entry.1 entry.2 entry.3 c.args.reply c.oldest-entry.ensures
    ∙ ap (λ (u : LocalMemory). drain_outcome (slice_get (oldest_group u.buffer.kept) c.args.k) c.args.reply) c.self.view_is

pub returns-clause-kept : goal.returns-clause-kept
returns-clause-kept c =
    let entry = c.oldest-entry.result in
    c.rewrite.ensures
    ∙ drained_is (slice_get (oldest_group c.self.inside.buffer.kept) c.args.k) entry.0 entry.1 entry.2 entry.3 c.args.reply c.args.k (local_memory_of c.self.inside) c.remove.new.self c.oldest-entry.ensures c.remove.ensures
    ∙ ap (λ (u : LocalMemory). after_drain c.args.k (slice_get (oldest_group u.buffer.kept) c.args.k) c.args.reply u) c.self.view_is
