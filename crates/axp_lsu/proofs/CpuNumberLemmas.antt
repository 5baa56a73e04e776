-- Numbers that no processor has.
use Rattle.std.proofs.Common.{◌≡◌, ℕ, ◌≤◌, Bool, true, false, nat_lt, None, refl, arith}
use Rattle.std.proofs.lemmas.Bool.{ltb-true}
use Rattle.axp_base.specs.Cpus.{cpu_of, cpu_by}
use Rattle.axp_base.specs.declared.processors.TheConstants.{MAX_CPUS}

no_cpu_by : (n : ℕ) (b : Bool) (h : nat_lt n MAX_CPUS ≡ b) → MAX_CPUS ≤ n → cpu_by n b h ≡ None
no_cpu_by n true h le = absurd (let less = ltb-true _ _ h in omega arith)
no_cpu_by n false h le = refl

pub no_cpu_above : (n : ℕ) → MAX_CPUS ≤ n → cpu_of n ≡ None
no_cpu_above n le = no_cpu_by n (nat_lt n MAX_CPUS) refl le
