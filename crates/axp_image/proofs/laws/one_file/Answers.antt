use Rattle.axp_image.proofs.ValidityLemmas.{image_says}
use Rattle.axp_image.proofs.SpellingLemmas.{image_spelled}
use Rattle.axp_image.proofs.ReadBackLemmas.{spelling_again}
use Rattle.axp_image.proofs.laws.one_file.Goals as goal

pub returns : goal.returns
returns c = record {
  spelled = λ bytes image all read. (image_says bytes image all read, image_spelled bytes image all read);
  read = spelling_again;
}
