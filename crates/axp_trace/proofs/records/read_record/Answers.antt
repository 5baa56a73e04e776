use Rattle.std.proofs.Common.{IfSome, subst, sym, ◌∙◌}
use Rattle.axp_access.specs.Spelling.{IsOutcomeOf}
use Rattle.axp_trace.proofs.MeantLemmas.{outcome_read}
use Rattle.axp_trace.proofs.records.read_record.Goals as goal

pub write_event-requires : goal.write_event-requires
write_event-requires c = (c.in_ok-event.ensures.named, subst (λ o. IfSome o (IsOutcomeOf c.in_ok-event.event.act c.in_ok-event.event)) (sym c.guess_outcome.ensures ∙ c.in_ok-outcome.was) (outcome_read c.in_ok-event.event.act c.in_ok-event.event _))
