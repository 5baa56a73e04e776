use Rattle.axp_wbuf.proofs.Overlays.{length-overlaid, newest_gives, others_kept}
use Rattle.axp_wbuf.proofs.laws.newest_is_overlaid.Goals as goal

pub returns-clause-newest : goal.returns-clause-newest
returns-clause-newest c = newest_gives

pub returns-clause-others : goal.returns-clause-others
returns-clause-others c = others_kept

pub returns-clause-as_long : goal.returns-clause-as_long
returns-clause-as_long c = λ kept line bytes. length-overlaid line kept bytes
