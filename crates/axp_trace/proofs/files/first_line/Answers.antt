use Rattle.axp_trace.proofs.FileLemmas.{lines_of-last, none_without_feed, first_is_first}
use Rattle.axp_trace.proofs.files.first_line.Goals as goal

pub returns-clause-none : goal.returns-clause-none
returns-clause-none c = (c.cut.ensures.none, none_without_feed c.args.text.now c.cut.result c.cut.ensures.parted)

pub returns-clause-lines : goal.returns-clause-lines
returns-clause-lines c = first_is_first c.args.text.now c.cut.result c.cut.ensures.parted c.cut.ensures.first

pub returns-clause-last : goal.returns-clause-last
returns-clause-last c h = lines_of-last c.args.text.now (c.cut.ensures.none h)
