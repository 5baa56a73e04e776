use Rattle.std.proofs.Common.{refl, nat_lt}
use Rattle.axp_base.specs.declared.processors.TheConstants.{MAX_CPUS}
use Rattle.axp_base.proofs.CpuLemmas.{cpu_by_small}
use Rattle.axp_base.proofs.processors.Cpu.new.Goals as goal

pub returns-then-n-lt-MAX_CPUS-clause-value : goal.returns-then-n-lt-MAX_CPUS-clause-value
returns-then-n-lt-MAX_CPUS-clause-value c = cpu_by_small c.args.n (nat_lt c.args.n MAX_CPUS) refl _
