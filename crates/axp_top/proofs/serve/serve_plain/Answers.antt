use Rattle.std.proofs.Common.{subst, sym}
use Rattle.axp_top.proofs.RangeLemmas.{in_range}
use Rattle.axp_top.specs.SeededRuns.{IsInRange}
use Rattle.axp_top.proofs.ServingLemmas.{serves_answer, serves_asks, serves_desk_count, serves_lawfully, serves_needed, serves_puts, serves_sink_count, serves_some}
use Rattle.axp_top.proofs.serve.serve_plain.Goals as goal

pub returns : goal.returns
returns g c =
    let served = rw c.read_words.ensures at c.serve_command.ensures in
    record {
      answer = serves_answer _ _ _ _ _ served;
      puts = serves_puts _ _ _ _ _ served;
      constraints = serves_lawfully _ _ _ _ _ served;
      some_files = serves_some _ _ _ _ _ served;
      sink_count = serves_sink_count _ _ _ _ _ served;
      desk_count = serves_desk_count _ _ _ _ _ served;
      asks = serves_asks _ _ _ _ _ served;
      second_ask = serves_needed _ _ _ _ _ served;
    }

pub serve_command-requires : goal.serve_command-requires
serve_command-requires g c = subst IsInRange (sym c.read_words.ensures) (in_range c.args.words.now)
