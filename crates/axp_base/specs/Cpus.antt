-- A processor is seen as its number.
use Rattle.std.specs.Prelude.{◌≡◌, ℕ, Bool, true, false, nat_lt, Option, Some, None, refl}
use Rattle.axp_base.specs.declared.processors.Cpu.{Cpu}
use Rattle.axp_base.specs.declared.processors.TheConstants.{MAX_CPUS}

abbrev pub cpu_number : Cpu → ℕ
cpu_number c = c.number

-- the processor of this number, by the test whether there is one
abbrev pub cpu_by : (n : ℕ) (small : Bool) → nat_lt n MAX_CPUS ≡ small → Option Cpu
cpu_by n true h = Some (record { number = n; below = h })
cpu_by n false h = None

-- the processor of this number, where it is below the greatest count
abbrev pub cpu_of : ℕ → Option Cpu
cpu_of n = cpu_by n (nat_lt n MAX_CPUS) refl
