use Rattle.std.proofs.Common.{◌∙◌, ap, sym, true}
use Rattle.axp_base.specs.declared.sizes.Size.TheVariants.{Byte, Word, Long, Quad}
use Rattle.axp_cpu.specs.Rows.{address_of, as_longword, as_longword_with, as_read, as_read_with, load_locked_plan, load_plan, memory_row, quadword_at}
use Rattle.axp_cpu.proofs.rows.access.Goals as goal

pub returns-in-LDBU-clause-plan : goal.returns-in-LDBU-clause-plan
returns-in-LDBU-clause-plan c = λ cpus.
    let t = c.args.table.now in
    c.load.ensures.plan cpus ∙ ap (λ x. load_plan c.args.size t c.args.op Byte c.args.a x (as_read c.args.a)) c.displaced-address.ensures
    ∙ ap (λ o. load_plan c.args.size t o Byte c.args.a (address_of c.args.base c.args.disp) (as_read c.args.a)) c.in-LDBU.is
    ∙ ap (λ o. memory_row c.args.size t o c.args.a c.args.base c.args.disp) (sym c.in-LDBU.is)

pub returns-in-LDWU-clause-plan : goal.returns-in-LDWU-clause-plan
returns-in-LDWU-clause-plan c = λ cpus.
    let t = c.args.table.now in
    c.load-in-LDWU.ensures.plan cpus ∙ ap (λ x. load_plan c.args.size t c.args.op Word c.args.a x (as_read c.args.a)) c.displaced-address.ensures
    ∙ ap (λ o. load_plan c.args.size t o Word c.args.a (address_of c.args.base c.args.disp) (as_read c.args.a)) c.in-LDWU.is
    ∙ ap (λ o. memory_row c.args.size t o c.args.a c.args.base c.args.disp) (sym c.in-LDWU.is)

pub returns-in-LDL-clause-plan : goal.returns-in-LDL-clause-plan
returns-in-LDL-clause-plan c = λ cpus.
    let t = c.args.table.now in
    c.load-in-LDL.ensures.plan cpus ∙ ap (λ x. load_plan c.args.size t c.args.op Long c.args.a x (as_longword c.args.a)) c.displaced-address.ensures
    ∙ ap (λ o. load_plan c.args.size t o Long c.args.a (address_of c.args.base c.args.disp) (as_longword c.args.a)) c.in-LDL.is
    ∙ ap (λ o. memory_row c.args.size t o c.args.a c.args.base c.args.disp) (sym c.in-LDL.is)

pub returns-in-LDQ-clause-plan : goal.returns-in-LDQ-clause-plan
returns-in-LDQ-clause-plan c = λ cpus.
    let t = c.args.table.now in
    c.load-in-LDQ.ensures.plan cpus ∙ ap (λ x. load_plan c.args.size t c.args.op Quad c.args.a x (as_read c.args.a)) c.displaced-address.ensures
    ∙ ap (λ o. load_plan c.args.size t o Quad c.args.a (address_of c.args.base c.args.disp) (as_read c.args.a)) c.in-LDQ.is
    ∙ ap (λ o. memory_row c.args.size t o c.args.a c.args.base c.args.disp) (sym c.in-LDQ.is)

pub returns-in-LDQ_U-clause-plan : goal.returns-in-LDQ_U-clause-plan
returns-in-LDQ_U-clause-plan c = λ cpus.
    let t = c.args.table.now in
    c.load-in-LDQ_U.ensures.plan cpus ∙ ap (λ x. load_plan c.args.size t c.args.op Quad c.args.a x (as_read c.args.a)) (c.quadword.ensures ∙ ap quadword_at c.displaced-address.ensures)
    ∙ ap (λ o. load_plan c.args.size t o Quad c.args.a (quadword_at (address_of c.args.base c.args.disp)) (as_read c.args.a)) c.in-LDQ_U.is
    ∙ ap (λ o. memory_row c.args.size t o c.args.a c.args.base c.args.disp) (sym c.in-LDQ_U.is)

pub returns-in-LDL_L-clause-plan : goal.returns-in-LDL_L-clause-plan
returns-in-LDL_L-clause-plan c = λ cpus.
    let t = c.args.table.now in
    c.load_locked.ensures.plan cpus ∙ ap (λ x. load_locked_plan c.args.size t c.args.op Long c.args.a x (as_longword_with true c.args.a)) c.displaced-address.ensures
    ∙ ap (λ o. load_locked_plan c.args.size t o Long c.args.a (address_of c.args.base c.args.disp) (as_longword_with true c.args.a)) c.in-LDL_L.is
    ∙ ap (λ o. memory_row c.args.size t o c.args.a c.args.base c.args.disp) (sym c.in-LDL_L.is)

pub returns-in-LDQ_L-clause-plan : goal.returns-in-LDQ_L-clause-plan
returns-in-LDQ_L-clause-plan c = λ cpus.
    let t = c.args.table.now in
    c.load_locked-in-LDQ_L.ensures.plan cpus ∙ ap (λ x. load_locked_plan c.args.size t c.args.op Quad c.args.a x (as_read_with true c.args.a)) c.displaced-address.ensures
    ∙ ap (λ o. load_locked_plan c.args.size t o Quad c.args.a (address_of c.args.base c.args.disp) (as_read_with true c.args.a)) c.in-LDQ_L.is
    ∙ ap (λ o. memory_row c.args.size t o c.args.a c.args.base c.args.disp) (sym c.in-LDQ_L.is)
