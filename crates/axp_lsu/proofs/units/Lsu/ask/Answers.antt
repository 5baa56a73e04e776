use Rattle.std.proofs.Common.{sym, subst, IfSome}
use Rattle.std.specs.Prelude.{Option}
use Rattle.axp_lsu.specs.declared.asks.Ask2.{Ask2}
use Rattle.axp_lsu.specs.Within.{IsAskWithin}
use Rattle.axp_lsu.proofs.AskRangeLemmas.{asks_within}
use Rattle.axp_lsu.proofs.units.Lsu.ask.Goals as goal

pub returns-clause-within : goal.returns-clause-within
returns-clause-within c size kept wanted =
    subst (λ (o : Option Ask2). IfSome o (IsAskWithin size)) (sym c.legal_ask.ensures) (asks_within size c.args.act c.args.intent.now c.args.self.now kept wanted)
