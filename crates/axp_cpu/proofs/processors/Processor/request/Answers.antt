use Rattle.axp_cpu.proofs.ActorLemmas.{asked_within, kept_within, wanted_within}
use Rattle.axp_cpu.proofs.processors.Processor.request.Goals as goal

pub returns-clause-within : goal.returns-clause-within
returns-clause-within c = λ a at.
    asked_within a.seat.size c.ask.result _ c.ok_or.result c.ok_or.ensures.value
    (c.ask.ensures.within a.seat.size (kept_within c.args.self.now a at) (wanted_within a.seat.size a.seat.cpus c.intent-intent.result.wanted (c.intent-intent.ensures.makeable a.seat at.seat)))
