-- What an entry keeps.
use Rattle.std.proofs.Common.{ℕ, List, Bool, true, false, cond, eqb, slice_set, refl, ◌∙◌, Some, None}
use Rattle.std.specs.Prelude.{Option}
use Rattle.axp_pte.specs.declared.faults.Mode.{Mode}
use Rattle.axp_pte.specs.declared.faults.Mode.TheVariants.{Kernel, User}
use Rattle.axp_regs.specs.Keeps.{KeepsEntries}
use Rattle.axp_regs.specs.declared.states.State.{State}
use Rattle.axp_regs.specs.declared.states.TheConstants.{ZERO_REGISTER}
use Rattle.axp_regs.specs.States.{register, entry_of, ps_of, with_ps}
use Rattle.axp_trap.specs.declared.causes.Cause.{Cause}
use Rattle.axp_trap.specs.declared.registers.TheConstants.{A0, A1, A2, SP}
use Rattle.axp_trap.specs.Entering.{entered, kept_in, on_kernel_stack, status_after, with_argument, with_user_stack_kept}
use Rattle.axp_trap.specs.Entries.{row_of}
use Rattle.axp_trap.specs.Keeping.{KeepsInternals}
use Rattle.axp_trap.specs.Status.{mode_of}

entries_after : {s t u : State} → KeepsEntries s t → KeepsEntries t u → KeepsEntries s u
entries_after a b = record { value = λ n. b.value n ∙ a.value n; as_long = b.as_long ∙ a.as_long }

-- whatever else changes
pub others_change : (s : State) (registers : List ℕ) (pc ps usp : ℕ) (locked : Bool) → KeepsInternals s (record s { registers = registers; pc = pc; ps = ps; usp = usp; locked = locked })
others_change s registers pc ps usp locked = record { number = refl; ksp = refl; kgp = refl; ptbr = refl; pcbb = refl; asn = refl; offset = refl; unique = refl; fen = refl; sysvalue = refl; vptptr = refl; fetched = refl; entries = record { value = λ _. refl; as_long = refl } }

same : (s : State) → KeepsInternals s s
same s = others_change s s.registers s.pc s.ps s.usp s.locked

pub after : {s t u : State} → KeepsInternals s t → KeepsInternals t u → KeepsInternals s u
after a b = record { number = b.number ∙ a.number; ksp = b.ksp ∙ a.ksp; kgp = b.kgp ∙ a.kgp; ptbr = b.ptbr ∙ a.ptbr; pcbb = b.pcbb ∙ a.pcbb; asn = b.asn ∙ a.asn; offset = b.offset ∙ a.offset; unique = b.unique ∙ a.unique; fen = b.fen ∙ a.fen; sysvalue = b.sysvalue ∙ a.sysvalue; vptptr = b.vptptr ∙ a.vptptr; fetched = b.fetched ∙ a.fetched; entries = entries_after a.entries b.entries }

-- step by step: the user's stack pointer, a register, the status, an argument, and what is last
stack_kept : (m : Mode) (s : State) → KeepsInternals s (kept_in m s)
stack_kept User s = others_change s s.registers s.pc s.ps (register s SP) s.locked
stack_kept Kernel s = same s

register_kept : (zero : Bool) (s : State) (n v : ℕ) → KeepsInternals s (cond zero s (record s { registers = slice_set s.registers n v }))
register_kept true s n v = same s
register_kept false s n v = others_change s (slice_set s.registers n v) s.pc s.ps s.usp s.locked

argument_kept : (n : ℕ) (o : Option ℕ) (s : State) → KeepsInternals s (with_argument n o s)
argument_kept n None s = same s
argument_kept n (Some v) s = register_kept (eqb n ZERO_REGISTER) s n v

pub internals_kept : (cause : Cause) (s : State) → KeepsInternals s (entered cause s)
internals_kept cause s =
    let r = row_of cause in
    let kept = with_user_stack_kept s in
    let on_stack = with_ps (on_kernel_stack s) (status_after r.level (ps_of s)) in
    let first = with_argument A0 r.a0 on_stack in
    let second = with_argument A1 r.a1 first in
    let third = with_argument A2 r.a2 second in
    after (stack_kept (mode_of (ps_of s)) s)
    (after (others_change kept on_stack.registers on_stack.pc on_stack.ps on_stack.usp on_stack.locked)
    (after (argument_kept A0 r.a0 on_stack) (after (argument_kept A1 r.a1 first) (after (argument_kept A2 r.a2 second) (others_change third third.registers (entry_of s r.number) third.ps third.usp false)))))
