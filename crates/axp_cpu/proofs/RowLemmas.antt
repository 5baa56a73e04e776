-- The code's tests of an address are those of the table.
use Rattle.std.proofs.Common.{◌≡◌, ℕ, ◌%◌, Bool, true, false, cond, eqb, refl, sym, ap, ◌∙◌}
use Rattle.std.proofs.lemmas.Bool.{eq-eqb}
use Rattle.axp_base.specs.Sizes.{bytes_of}
use Rattle.axp_base.specs.declared.sizes.Size.{Size}
use Rattle.axp_decode.specs.Table.{memory_number}
use Rattle.axp_decode.specs.declared.names.MemOp.{MemOp}
use Rattle.axp_trap.specs.declared.causes.Cause.TheVariants.{Una}
use Rattle.axp_regs.specs.declared.asks.Kind.{Kind}
use Rattle.axp_cpu.specs.declared.cpu_states.CpuState.{CpuState}
use Rattle.axp_cpu.specs.declared.translation.Origin.TheVariants.{Instruction}
use Rattle.axp_cpu.specs.Plans.{Plan}
use Rattle.axp_cpu.specs.Rows.{datum_plan, raise_behind, virtual_ask}
use Rattle.axp_cpu.specs.Translation.{reach_plan}

where_true : (b : Bool) (p q : Plan) → b ≡ true → p ≡ cond b p q
where_true true p q is = refl
where_true false p q is = cc

-- an address that is a multiple of the datum's size is reached
pub datum_reached : (size : ℕ) (t : CpuState) (op : MemOp) (a : ℕ) (kind : Kind) (what : Size) (address value : ℕ) (k : CpuState → ℕ → Plan) (n : ℕ) → n ≡ bytes_of what → address % n ≡ 0
    → reach_plan size t Instruction (virtual_ask kind address n value) k ≡ datum_plan size t op a kind what address value k
datum_reached size t op a kind what address value k n is aligned =
    ap (λ m. reach_plan size t Instruction (virtual_ask kind address m value) k) is
    ∙ where_true (eqb (address % bytes_of what) 0) (reach_plan size t Instruction (virtual_ask kind address (bytes_of what) value) k) (raise_behind t (Una address (memory_number op) a)) (eq-eqb (address % bytes_of what) 0 (ap (λ m. address % m) (sym is) ∙ aligned))
