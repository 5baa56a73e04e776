use Rattle.std.proofs.Common.{◌≡◌, Some, arith}
use Rattle.axp_elf.specs.Executables.{image_of}
use Rattle.axp_elf.specs.Faults.{first_fault}
use Rattle.axp_elf.proofs.LoadingLemmas.{handed_on, file_fails, file_passes, header_fails, header_passes, none_loaded, all_loaded}
use Rattle.axp_elf.proofs.ExecutableLemmas.{executable_valid}
use Rattle.axp_elf.proofs.loading.read_elf.Goals as goal

pub returns-in_err-header-clause-fault : goal.returns-in_err-header-clause-fault
returns-in_err-header-clause-fault c =
    handed_on (first_fault c.args.bytes.now c.args.memory) c.from_residual.result c.in_err-header.field-0.0 c.from_residual.ensures.1
    (file_fails c.args.bytes.now c.args.memory c.in_err-header.field-0.0 c.in_err-header.ensures.fault)

pub loop-n-init : goal.loop-n-init
loop-n-init c =
    none_loaded c.args.bytes.now c.args.memory c.in_ok-header.header.entry c.args.stack c.args.table c.in_ok-header.header.start c.in_ok-header.header.count c.in_ok-image.image _ c.in_ok-image.ensures.value
    (file_passes c.args.bytes.now c.args.memory c.in_ok-header.header.start c.in_ok-header.header.count c.in_ok-header.ensures.start c.in_ok-header.ensures.count c.in_ok-header.ensures.sound)

pub returns-in_err-from-clause-fault : goal.returns-in_err-from-clause-fault
returns-in_err-from-clause-fault c =
    handed_on (first_fault c.args.bytes.now c.args.memory) c.from_residual-in_err-from.result c.in_err-from.field-0.0 c.from_residual-in_err-from.ensures.1
    (header_fails c.args.bytes.now _ _ _ _ _ _ _ _ _ _ c.in_err-from.field-0.0 c.loop-n.invariant c.loop-n-test.true c.in_err-from.ensures.fault)

pub loop-n-preserved : goal.loop-n-preserved
loop-n-preserved c = header_passes c.args.bytes.now _ _ _ _ _ _ _ _ _ _ _ _ c.loop-n.invariant c.loop-n-test.true c.in_ok-from.ensures.sound c.in_ok-from.ensures.loaded c.in_ok-from.ensures.end

read : (c : goal.After-loop-n) → image_of c.args.bytes.now c.args.memory c.args.stack c.args.table ≡ Some c.loop-n.image
read c =
    all_loaded c.args.bytes.now c.args.memory c.args.stack c.args.table c.in_ok-header.header.entry c.in_ok-header.header.start c.in_ok-header.header.count c.loop-n.n c.loop-n.image c.loop-n.from c.loop-n-test.false c.loop-n.auto.n-end
    c.in_ok-header.ensures.entry c.in_ok-header.ensures.start c.in_ok-header.ensures.count c.loop-n.invariant

pub returns-clause-read : goal.returns-clause-read
returns-clause-read = read

pub returns-clause-valid : goal.returns-clause-valid
returns-clause-valid c =
    executable_valid c.args.bytes.now c.args.memory c.args.stack c.args.table c.loop-n.image (λ i. omega (arith, c.type_inv.bytes i))
    (record { whole_pages = c.requires.whole_pages; least_memory = c.requires.least_memory; most_memory = c.requires.most_memory; stack_word = omega arith; table_page = c.requires.table_page }) (read c)
