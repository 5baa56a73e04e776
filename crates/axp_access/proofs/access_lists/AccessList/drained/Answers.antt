use Rattle.std.proofs.Common.{◌≡◌, true, None, [], ◌∷◌, ◌++◌, arith, sym, refl, subst}
use Rattle.std.specs.List.{list_any}
use Rattle.std.proofs.lemmas.List.{length_push}
use Rattle.axp_base.specs.Cpus.{cpu_number}
use Rattle.axp_access.specs.declared.access_lists.Drain.{Drain}
use Rattle.axp_access.specs.Lists.{Accesses, turn_in}
use Rattle.axp_access.specs.Lists.{is_write_in}
use Rattle.axp_access.proofs.Drains.{from_ok, drains_fit, once_more, written_more, holds_more}
use Rattle.axp_access.proofs.access_lists.AccessList.drained.Goals as goal

pub push_reserved-requires : goal.push_reserved-requires
push_reserved-requires c =
    let d : Drain = record { cpu = c.args.cpu; entry = c.args.entry; turn = c.args.turn } in
    let a = c.self.inside in
    let inv = c.self.invariant in
    let named = subst (λ (m : Accesses). list_any (is_write_in (cpu_number c.args.cpu) c.args.entry) m.items ≡ true) (sym c.self.view_is) c.requires.written in
    let once = subst (λ (m : Accesses). turn_in m.drains (cpu_number c.args.cpu) c.args.entry ≡ None) (sym c.self.view_is) c.requires.once in
    let few = drains_fit a.items.items (a.drains.items ++ d ∷ []) (once_more a.drains.items d inv.once once) (written_more a.items.items a.drains.items d inv.written named once) in
    let more = length_push a.drains.items d in
    omega (arith, few, more, inv.within, inv.room, a.drains.ok.0)

pub invariant_of-self : goal.invariant_of-self
invariant_of-self c =
    let d : Drain = record { cpu = c.args.cpu; entry = c.args.entry; turn = c.args.turn } in
    let a = c.self.inside in
    let inv = c.self.invariant in
    let named = subst (λ (m : Accesses). list_any (is_write_in (cpu_number c.args.cpu) c.args.entry) m.items ≡ true) (sym c.self.view_is) c.requires.written in
    let once = subst (λ (m : Accesses). turn_in m.drains (cpu_number c.args.cpu) c.args.entry ≡ None) (sym c.self.view_is) c.requires.once in
    let few = drains_fit a.items.items (a.drains.items ++ d ∷ []) (once_more a.drains.items d inv.once once) (written_more a.items.items a.drains.items d inv.written named once) in
    let more = length_push a.drains.items d in
    let updates = from_ok c.insert.result (c.insert.ensures.succeeds (omega (arith, few, more, inv.within, inv.spare))) c.insert.ensures.updates in
    holds_more a d inv named once _ refl c.push_reserved.ensures.items c.push_reserved.ensures.capacity (λ q. rw c.number.ensures.value at (updates.0 q)) c.insert.ensures.spare
