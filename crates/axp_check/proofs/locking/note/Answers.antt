use Rattle.std.proofs.Common.{◌<◌, ◌∙◌, sym}
use Rattle.axp_base.specs.declared.processors.TheConstants.{MAX_CPUS}
use Rattle.axp_check.proofs.LockingScans.{newest_moves, newest_stays}
use Rattle.axp_check.proofs.locking.note.Goals as goal

pub returns-then-is_locking : goal.returns-then-is_locking
returns-then-is_locking c =
    let below : c.from.result < MAX_CPUS = rw c.from.ensures c.number.ensures.below in
    newest_moves c.args.list.now c.args.n c.args.newest.now c.get-access.result c.from.result c.requires.least c.get-access.ensures.value (sym c.is_locking.ensures ∙ c.if-is_locking.true) (c.from.ensures ∙ c.number.ensures.value) below c.requires.newest

pub returns-else-is_locking : goal.returns-else-is_locking
returns-else-is_locking c = newest_stays c.args.list.now c.args.n c.args.newest.now c.get-access.result c.requires.least c.get-access.ensures.value (sym c.is_locking.ensures ∙ c.if-is_locking.false) c.requires.newest
