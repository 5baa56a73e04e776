use Rattle.axp_check.proofs.IssueGuards.{clear_issue_is}
use Rattle.axp_check.proofs.issue.first_unless_clear.Goals as goal

pub returns-then-is_clear : goal.returns-then-is_clear
returns-then-is_clear c = clear_issue_is c.args.list.now c.args.j c.get-access.result c.args.tops c.args.slot c.rank.result c.is_clear.result c.get-access.ensures.value c.get-access.ensures.sound c.requires.sound c.requires.tops c.requires.slot c.rank.ensures.value c.rank.ensures.fits c.is_clear.ensures c.if-is_clear.true
