use Rattle.axp_trace.proofs.ReadBackLemmas.{event_is_text}
use Rattle.axp_trace.proofs.events.events_are_their_texts.Goals as goal

pub returns : goal.returns
returns c = event_is_text
