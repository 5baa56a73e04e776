-- Processors of one number are one.
use Rattle.std.proofs.Common.{◌≡◌, ℕ, Bool, true, false, nat_lt, Some, refl, ap, sym, ◌∙◌}
use mathlib.Core.Bool.{Bool-set}
use Rattle.axp_base.specs.declared.processors.Cpu.{Cpu}
use Rattle.axp_base.specs.declared.processors.TheConstants.{MAX_CPUS}
use Rattle.axp_base.specs.Cpus.{cpu_number, cpu_by, cpu_of}

-- the test's answer does not matter where the number is small
pub cpu_by_small : (n : ℕ) (small : Bool) (tested : nat_lt n MAX_CPUS ≡ small) (h : nat_lt n MAX_CPUS ≡ true) → Some (record { number = n; below = h }) ≡ cpu_by n small tested
cpu_by_small n true tested h = ap (λ (p : nat_lt n MAX_CPUS ≡ true). Some (record { number = n; below = p })) (Bool-set (nat_lt n MAX_CPUS) true h tested)
cpu_by_small n false tested h = cc

pub cpu_of_number : (c : Cpu) → cpu_of (cpu_number c) ≡ Some c
cpu_of_number c = sym (cpu_by_small c.number (nat_lt c.number MAX_CPUS) refl c.below)

pub same_cpu : (a b : Cpu) → cpu_number a ≡ cpu_number b → a ≡ b
same_cpu a b e = let shown : Some a ≡ Some b = sym (cpu_of_number a) ∙ ap cpu_of e ∙ cpu_of_number b in cc
