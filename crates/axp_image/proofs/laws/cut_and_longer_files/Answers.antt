use Rattle.axp_image.proofs.CutFileLemmas.{more_is_extra, cut_is_short}
use Rattle.axp_image.proofs.laws.cut_and_longer_files.Goals as goal

pub returns : goal.returns
returns c = record { longer = more_is_extra; cut = cut_is_short }
