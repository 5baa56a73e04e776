use Rattle.std.proofs.Common.{◌≡◌, ◌<◌, sym, length, subst}
use Rattle.axp_wbuf.specs.Pending.{Buffer}
use Rattle.axp_wbuf.specs.Drains.{oldest_group, without}
use Rattle.axp_wbuf.specs.Views.{buffer_of}
use Rattle.axp_wbuf.proofs.Fronts.{oldest_place}
use Rattle.axp_wbuf.proofs.Orders.{removed_is, tidy_removed}
use Rattle.axp_wbuf.proofs.buffers.Wbuf.remove.Goals as goal

pub remove_at-requires : goal.remove_at-requires
remove_at-requires c = oldest_place c.self.inside.entries.items c.args.k (subst (λ (b : Buffer). c.args.k < length (oldest_group b.kept)) (sym c.self.view_is) c.requires)

pub invariant_of-self : goal.invariant_of-self
invariant_of-self c = tidy_removed c.self.inside.entries.items c.remove_at.new.entries.items c.args.k c.self.inside.made c.self.inside.newest c.self.invariant c.remove_at.ensures

pub returns : goal.returns
returns c =
    subst (λ (b : Buffer). buffer_of c.remove_at.new.entries.items c.self.inside.made c.self.inside.newest ≡ without c.args.k b) c.self.view_is
    (removed_is c.self.inside.entries.items c.remove_at.new.entries.items c.args.k c.self.inside.made c.self.inside.newest c.remove_at.ensures)
