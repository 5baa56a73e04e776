use Rattle.std.proofs.Common.{◌≡◌, string_bytes}
use Rattle.std.proofs.lemmas.Result.{IfOk-at_ok}
use Rattle.axp_io.proofs.ListsLemmas.{put_under}
use Rattle.axp_io.proofs.lists.Lists.put.Goals as goal

-- the key has the name's bytes and the value those of the list, so the map has the list under that name
pub returns-in-Ok-clause-ok : goal.returns-in-Ok-clause-ok
returns-in-Ok-clause-ok c =
    let key_is_name = IfOk-at_ok (λ s. string_bytes s ≡ c.args.name.now) c.in_ok-key.was c.from_str.ensures.ok in
    let copy_is_list = IfOk-at_ok (λ b. b ≡ c.args.list.now) c.in_ok-copy.was c.copy.ensures in
    let updates = rw copy_is_list at c.in-Ok.ensures.updates in
    rw (← c.self.view_is) (put_under c.in_ok-key.key c.args.name.now c.args.list.now c.self.inside.table c.insert.new.self key_is_name updates)
