-- How many values a call that ends was answered with.
use Rattle.std.proofs.Common.{◌≡◌, ℕ, List, length, subst}
use Rattle.axp_decode.specs.declared.names.PalOp.{PalOp}
use Rattle.axp_decode.specs.declared.names.PalOp.TheVariants.{RETSYS, RTI, SWPCTX}
use Rattle.axp_pte.specs.declared.faults.Mode.{Mode}
use Rattle.axp_pte.specs.declared.faults.Mode.TheVariants.{Kernel, User}
use Rattle.axp_regs.specs.declared.states.State.{State}
use Rattle.axp_regs.specs.States.{ps_of}
use Rattle.axp_trap.specs.Status.{mode_of}
use Rattle.axp_pal.specs.declared.plans.PalEnd.TheVariants.{Ends}
use Rattle.axp_pal.specs.Calls.{IsAnswered, row_in, row_of}

swap_in : (m : Mode) (s : State) (cpus n : ℕ) → (row_in m SWPCTX s cpus).end ≡ Ends → n ≡ length (row_in m SWPCTX s cpus).asks → n ≡ 10
unfolding row_of
swap_in User s cpus n h k = cc
swap_in Kernel s cpus n h k = k

pub swap_answered : (op : PalOp) (s : State) (values : List ℕ) → op ≡ SWPCTX → IsAnswered op s values → length values ≡ 10
swap_answered op s values is h =
    let answered : IsAnswered SWPCTX s values = subst (λ o. IsAnswered o s values) is h in
    swap_in (mode_of (ps_of s)) s answered.cpus (length values) answered.ends answered.each

call_in : (m : Mode) (s : State) (cpus n : ℕ) → (row_in m RETSYS s cpus).end ≡ Ends → n ≡ length (row_in m RETSYS s cpus).asks → n ≡ 2
unfolding row_of
call_in User s cpus n h k = cc
call_in Kernel s cpus n h k = k

pub call_answered : (op : PalOp) (s : State) (values : List ℕ) → op ≡ RETSYS → IsAnswered op s values → length values ≡ 2
call_answered op s values is h =
    let answered : IsAnswered RETSYS s values = subst (λ o. IsAnswered o s values) is h in
    call_in (mode_of (ps_of s)) s answered.cpus (length values) answered.ends answered.each

entry_in : (m : Mode) (s : State) (cpus n : ℕ) → (row_in m RTI s cpus).end ≡ Ends → n ≡ length (row_in m RTI s cpus).asks → n ≡ 6
unfolding row_of
entry_in User s cpus n h k = cc
entry_in Kernel s cpus n h k = k

pub entry_answered : (op : PalOp) (s : State) (values : List ℕ) → op ≡ RTI → IsAnswered op s values → length values ≡ 6
entry_answered op s values is h =
    let answered : IsAnswered RTI s values = subst (λ o. IsAnswered o s values) is h in
    entry_in (mode_of (ps_of s)) s answered.cpus (length values) answered.ends answered.each
