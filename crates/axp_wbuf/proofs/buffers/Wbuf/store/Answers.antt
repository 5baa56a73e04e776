use Rattle.std.proofs.Common.{◌≡◌, ◌+◌, ◌/◌, sym, subst, ◌∙◌}
use Rattle.axp_base.specs.declared.lines.TheConstants.{LINE_BYTES}
use Rattle.axp_wbuf.specs.Pending.{Buffer, IsTidy, store_number, stored}
use Rattle.axp_wbuf.specs.Views.{buffer_of}
use Rattle.axp_wbuf.proofs.Stores.{Appended, appended_is, store_number_new, tidy_appended, tidy_merged}
use Rattle.axp_wbuf.proofs.buffers.Wbuf.store.Goals as goal

pub invariant_of-self : goal.invariant_of-self
invariant_of-self c =
    tidy_merged c.args.address c.args.size c.args.value c.self.inside.made c.self.inside.newest c.self.inside.entries.items c.as_mut_slice.result.now c.merge_into.new.entries
    c.self.invariant c.as_mut_slice.ensures.value c.merge_into.auto.entries c.in-Some.ensures.merges c.in-Some.ensures.kept

pub invariant_of-self-in-None : goal.invariant_of-self-in-None
invariant_of-self-in-None c =
    let added : Appended c.args.address c.args.size c.args.value c.self.inside.made c.self.inside.newest c.self.inside.entries.items c.as_mut_slice.result.now c.merge_into.new.entries c.append.new.entries.items =
    record { begins = c.as_mut_slice.ensures.value; unchanged = c.in-None.ensures.absent; none = c.in-None.ensures.merges; kept = c.append.ensures.kept } in
    let tidy = tidy_appended c.args.address c.args.size c.args.value c.self.inside.made c.self.inside.newest c.self.inside.entries.items c.as_mut_slice.result.now c.merge_into.new.entries c.append.new.entries.items c.self.invariant added (sym c.has_room.ensures ∙ c.if-not-has_room.false) in
    subst (λ m. IsTidy (buffer_of c.append.new.entries.items m c.self.inside.newest)) (sym c.append.ensures.made) tidy

pub returns-else-not-has_room-clause-number : goal.returns-else-not-has_room-clause-number
returns-else-not-has_room-clause-number c =
    let added : Appended c.args.address c.args.size c.args.value c.self.inside.made c.self.inside.newest c.self.inside.entries.items c.as_mut_slice.result.now c.merge_into.new.entries c.append.new.entries.items =
    record { begins = c.as_mut_slice.ensures.value; unchanged = c.in-None.ensures.absent; none = c.in-None.ensures.merges; kept = c.append.ensures.kept } in
    c.append.ensures.number ∙ subst (λ (b : Buffer). c.self.inside.made + 1 ≡ store_number (c.args.address / LINE_BYTES) b) c.self.view_is (store_number_new _ _ _ _ _ _ _ _ _ added)

pub returns-else-not-has_room-clause-stored : goal.returns-else-not-has_room-clause-stored
returns-else-not-has_room-clause-stored c =
    let added : Appended c.args.address c.args.size c.args.value c.self.inside.made c.self.inside.newest c.self.inside.entries.items c.as_mut_slice.result.now c.merge_into.new.entries c.append.new.entries.items =
    record { begins = c.as_mut_slice.ensures.value; unchanged = c.in-None.ensures.absent; none = c.in-None.ensures.merges; kept = c.append.ensures.kept } in
    let is = subst (λ m. buffer_of c.append.new.entries.items m c.self.inside.newest ≡ stored c.args.address c.args.size c.args.value (buffer_of c.self.inside.entries.items c.self.inside.made c.self.inside.newest)) (sym c.append.ensures.made) (appended_is _ _ _ _ _ _ _ _ _ added) in
    subst (λ (b : Buffer). buffer_of c.append.new.entries.items c.append.new.made c.self.inside.newest ≡ stored c.args.address c.args.size c.args.value b) c.self.view_is is
