use Rattle.std.proofs.Common.{ap, sym, subst, ◌∙◌}
use Rattle.axp_lsu.specs.Asking.{ask_of}
use Rattle.axp_lsu.specs.Fitting.{ReplyFits}
use Rattle.axp_lsu.specs.Going as going
use Rattle.axp_lsu.specs.Within.{IsKeptWithin}
use Rattle.axp_cpu.proofs.ActorLemmas.{at_after, fits_is, kept_within, movable, wanted_fits, wanted_within}
use Rattle.axp_cpu.proofs.FollowingLemmas.{outcome_shows}
use Rattle.axp_cpu.proofs.processors.Processor.advance.Goals as goal

pub sequence-requires : goal.sequence-requires
sequence-requires c = movable c.args.self.now c.args.act c.args.reply c.intent-intent.result c.requires (λ a at. c.intent-intent.ensures.value a.seat at.seat)

pub advance-requires-clause-fits : goal.advance-requires-clause-fits
advance-requires-clause-fits c =
    subst (λ u. ReplyFits (ask_of c.args.act c.intent-intent.result u) c.args.reply) (sym c.sequence.ensures.unit)
    (fits_is c.args.self.now c.args.act c.args.reply c.intent-intent.result c.requires (c.intent-intent.ensures.value c.requires.actor.seat c.requires.at.seat))

pub advance-requires-clause-wanted : goal.advance-requires-clause-wanted
advance-requires-clause-wanted c = record {
  size = c.requires.actor.seat.size;
  within = wanted_within c.requires.actor.seat.size c.requires.actor.seat.cpus c.intent-intent.result.wanted (c.intent-intent.ensures.makeable c.requires.actor.seat c.requires.at.seat);
}

pub returns-clause-fits : goal.returns-clause-fits
returns-clause-fits c =
    c.advance.ensures.fits (wanted_fits c.requires.actor.seat.size c.requires.actor.seat.cpus c.intent-intent.result.wanted (c.intent-intent.ensures.makeable c.requires.actor.seat c.requires.at.seat))

pub returns-clause-at : goal.returns-clause-at
returns-clause-at c = λ a at.
    let within : IsKeptWithin a.seat.size c.sequence.new.self.unit = subst (IsKeptWithin a.seat.size) (sym c.sequence.ensures.unit) (kept_within c.args.self.now a at) in
    at_after c.args.self.now _ c.args.act c.args.reply c.intent-intent.result a c.requires at (c.intent-intent.ensures.value a.seat at.seat) c.sequence.ensures.cpu (c.sequence.ensures.seat a at)
    (c.advance.ensures.kept ∙ ap (going.advanced c.args.act c.intent-intent.result c.args.reply) c.sequence.ensures.unit)
    (c.advance.ensures.within a.seat.size within (wanted_within a.seat.size a.seat.cpus c.intent-intent.result.wanted (c.intent-intent.ensures.makeable a.seat at.seat)))

pub returns-clause-shown : goal.returns-clause-shown
returns-clause-shown c = λ a at.
    outcome_shows c.args.self.now a c.args.act c.args.reply c.intent-intent.result c.advance.result at (c.intent-intent.ensures.value a.seat at.seat)
    (c.advance.ensures.outcome
    ∙ ap (λ x. going.outcome_of c.args.act x c.intent-intent.result c.sequence.new.self.unit c.args.reply) c.sequence.ensures.cpu
    ∙ ap (λ u. going.outcome_of c.args.act c.args.self.now.cpu c.intent-intent.result u c.args.reply) c.sequence.ensures.unit)
