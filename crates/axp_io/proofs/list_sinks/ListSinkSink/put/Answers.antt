use Rattle.std.proofs.Common.{◌≡◌, ◌++◌, take, drop, sym}
use Rattle.std.proofs.lemmas.List.{take-append-drop}
use Rattle.axp_io.proofs.list_sinks.ListSinkSink.put.Goals as goal

-- the part that a failing call takes is a front of its piece
pub returns-then-contains-clause-taken : goal.returns-then-contains-clause-taken
returns-then-contains-clause-taken c =
    let grown : c.append.new.self ≡ c.args.self.now.taken ++ take c.min-part.result c.args.piece.now = rw (← c.self.view_is) c.in-Ok.ensures.ok in
    (take c.min-part.result c.args.piece.now, drop c.min-part.result c.args.piece.now, sym (take-append-drop c.min-part.result c.args.piece.now), grown)
