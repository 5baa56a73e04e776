use Rattle.std.proofs.Common.{subst}
use Rattle.axp_access.specs.declared.Act.{Act}
use Rattle.axp_access.specs.declared.Act.TheVariants as act
use Rattle.axp_wbuf.specs.Drains.{oldest_group}
use Rattle.axp_lsu.specs.Asking.{ask_of}
use Rattle.axp_lsu.specs.Fitting.{ReplyFits}
use Rattle.axp_lsu.proofs.ReplyFitLemmas.{act_fits, drain_fits}
use Rattle.axp_lsu.proofs.units.Lsu.make_act.Goals as goal

pub step-requires-clause-fits : goal.step-requires-clause-fits
step-requires-clause-fits c =
    act_fits act.Step c.args.intent.now c.args.self.now c.args.reply (subst (λ (a : Act). ReplyFits (ask_of a c.args.intent.now c.args.self.now) c.args.reply) c.in-Step.is c.requires.fits)

pub drain-requires : goal.drain-requires
drain-requires c =
    drain_fits (oldest_group c.args.self.now.buffer.kept) c.in-Drain.k c.args.reply
    (act_fits (act.Drain c.in-Drain.k) c.args.intent.now c.args.self.now c.args.reply (subst (λ (a : Act). ReplyFits (ask_of a c.args.intent.now c.args.self.now) c.args.reply) c.in-Drain.is c.requires.fits))
