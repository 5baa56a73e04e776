use Rattle.std.specs.Prelude.{slice_get}
use Rattle.axp_wbuf.specs.Drains.{oldest_group}
use Rattle.std.proofs.Common.{◌≡◌, subst, Some}
use Rattle.axp_line.specs.declared.messages.Request.TheVariants as request
use Rattle.axp_lsu.specs.declared.asks.Ask2.TheVariants as ask
use Rattle.axp_lsu.specs.Keeping.{LocalMemory}
use Rattle.axp_lsu.specs.Asking.{drain_ask}
use Rattle.axp_lsu.proofs.EntryLemmas.{drain_told}
use Rattle.axp_lsu.proofs.units.Lsu.drain_ask.Goals as goal

pub returns : goal.returns
returns c =
    subst (λ (u : LocalMemory). Some (ask.Bus (request.Drain c.oldest.result.1 c.oldest.result.2 c.oldest.result.3)) ≡ drain_ask (slice_get (oldest_group u.buffer.kept) c.args.k)) c.self.view_is
    (drain_told (slice_get (oldest_group c.self.inside.buffer.kept) c.args.k) c.oldest.result.0 c.oldest.result.1 c.oldest.result.2 c.oldest.result.3 c.oldest.ensures)
