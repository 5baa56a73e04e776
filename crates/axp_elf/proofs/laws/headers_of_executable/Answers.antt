use Rattle.std.proofs.Common.{arith}
use Rattle.axp_elf.proofs.OrderLemmas.{executable_ordered}
use Rattle.axp_elf.proofs.laws.headers_of_executable.Goals as goal

pub returns-clause-in_memory : goal.returns-clause-in_memory
returns-clause-in_memory c bytes memory stack table image read = (executable_ordered bytes memory stack table image read).loaded.in_memory

pub returns-clause-in_order : goal.returns-clause-in_order
returns-clause-in_order c bytes memory stack table image read = (executable_ordered bytes memory stack table image read).loaded.in_order

pub returns-clause-few : goal.returns-clause-few
returns-clause-few c bytes memory stack table image read =
    let order = executable_ordered bytes memory stack table image read in
    omega (arith, order.count, order.few)

pub returns-clause-static_only : goal.returns-clause-static_only
returns-clause-static_only c bytes memory stack table image read = (executable_ordered bytes memory stack table image read).static_only
