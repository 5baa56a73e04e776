use Rattle.std.proofs.Common.{ap, sym, false, ◌≡◌, ◌++◌, ◌∙◌}
use Rattle.axp_lsu.specs.Keeping.{LocalMemory, has_dropped}
use Rattle.axp_lsu.specs.Offering.{copies_named}
use Rattle.axp_lsu.proofs.OfferLemmas.{bank_named}
use Rattle.axp_lsu.proofs.units.Lsu.push_drops.Goals as goal

pub returns-then-not-has_dropped-clause-value : goal.returns-then-not-has_dropped-clause-value
returns-then-not-has_dropped-clause-value c =
    let fresh : has_dropped c.args.bank c.args.self.now.since ≡ false = ap (λ (u : LocalMemory). has_dropped c.args.bank u.since) (sym c.self.view_is) ∙ sym c.has_dropped.ensures ∙ c.if-not-has_dropped.true in
    c.push_copies.ensures
    ∙ ap (λ lines. c.args.drops.now.items ++ copies_named c.args.bank lines) (c.as_slice.ensures.value ∙ c.lines-lines.ensures.value)
    ∙ ap (λ ds. c.args.drops.now.items ++ ds) (bank_named c.args.bank c.args.self.now fresh)
