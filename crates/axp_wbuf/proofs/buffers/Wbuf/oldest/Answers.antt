use Rattle.std.proofs.Common.{◌≡◌, ◌<◌, sym, ap, ◌∙◌, length, get_or, subst, Some}
use Rattle.std.specs.Prelude.{slice_get}
use Rattle.axp_wbuf.specs.Pending.{Buffer}
use Rattle.axp_wbuf.specs.Drains.{oldest_group, told}
use Rattle.axp_wbuf.specs.Views.{pending}
use Rattle.axp_wbuf.proofs.Fronts.{oldest_place, told_at}
use Rattle.axp_wbuf.proofs.buffers.Wbuf.oldest.Goals as goal

pub bounds-deref-from : goal.bounds-deref-from
bounds-deref-from c =
    let inside = oldest_place c.self.inside.entries.items c.args.k (subst (λ (b : Buffer). c.args.k < length (oldest_group b.kept)) (sym c.self.view_is) c.requires) in
    rw (c.deref.ensures.0, c.from.ensures) inside

pub returns : goal.returns
returns c =
    let entry = c.index-deref-from.result in
    let items = c.self.inside.entries.items in
    let is : entry ≡ get_or items c.args.k entry = c.index-deref-from.is ∙ ap (λ xs. get_or xs c.from.result entry) c.deref.ensures.0 ∙ ap (λ n. get_or items n entry) c.from.ensures in
    let inside = subst (λ (b : Buffer). c.args.k < length (oldest_group b.kept)) (sym c.self.view_is) c.requires in
    subst (λ (b : Buffer). told (slice_get (oldest_group b.kept) c.args.k) ≡ told (Some (pending entry))) c.self.view_is
    (told_at items c.args.k entry inside ∙ ap (λ e. told (Some (pending e))) (sym is))
