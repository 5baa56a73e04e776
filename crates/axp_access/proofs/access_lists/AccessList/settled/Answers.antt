use Rattle.std.proofs.Common.{◌≡◌, Some, None, sym, ◌∙◌, subst, refl}
use Rattle.axp_base.specs.Cpus.{cpu_number}
use Rattle.axp_access.specs.Lists.{Accesses, turn_in}
use Rattle.axp_access.proofs.access_lists.AccessList.settled.Goals as goal

pub returns-in-Some : goal.returns-in-Some
returns-in-Some c =
    let found = rw c.number.ensures.value at c.in-Some.ensures.value in
    let told = c.self.invariant.told (cpu_number c.args.cpu) c.in-Entry.entry in
    let turn = subst (λ (m : Accesses). turn_in m.drains (cpu_number c.args.cpu) c.in-Entry.entry ≡ Some c.in-Some.turn.now) c.self.view_is (sym told ∙ sym found) in
    rw c.in-Entry.is (rw turn refl)

pub returns-in-None : goal.returns-in-None
returns-in-None c =
    let found = rw c.number.ensures.value at c.in-None.ensures.value in
    let told = c.self.invariant.told (cpu_number c.args.cpu) c.in-Entry.entry in
    let turn = subst (λ (m : Accesses). turn_in m.drains (cpu_number c.args.cpu) c.in-Entry.entry ≡ None) c.self.view_is (sym told ∙ sym found) in
    rw c.in-Entry.is (rw turn refl)
