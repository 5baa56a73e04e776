use Rattle.std.proofs.Common.{◌≡◌, false, rules}
use Rattle.axp_io.specs.Tables.{fails_at}
use Rattle.axp_io.proofs.TablesLemmas.{table_handed}
use Rattle.axp_io.proofs.tables.TableDeskDesk.fetch.Goals as goal

-- the call is none of those that fail and the name has a list, so the list was handed over
pub returns-clause-table : goal.returns-clause-table
returns-clause-table c =
    let works : fails_at c.args.self.now c.args.name.now ≡ false = rw (← c.self.view_is) (search rules) in
    table_handed c.args.self.now _ (c.args.name.now, c.args.most) c.as_slice.result.now c.hand_over.result works c.hand_over.ensures.told c.hand_over.ensures.never_fails (rw (← c.self.view_is) (search rules))
