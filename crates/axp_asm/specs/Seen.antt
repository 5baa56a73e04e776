-- Lists of labels and drafts, as they are seen.
use Rattle.std.specs.Prelude.{◌<◌, ◌≤◌, length}
use Rattle.std.specs.Option.{ForSome}
use Rattle.axp_image.specs.Contents.{end_of, last_end}
use Rattle.axp_image.specs.declared.limits.TheConstants.{MAX_MEMORY, MAX_SEGMENTS}
use Rattle.axp_asm.specs.declared.labels.Label.{Label}
use Rattle.axp_asm.specs.Labels.{Named}
use Rattle.axp_asm.specs.Drafts.{Draft}

abbrev pub named_by : Label → Named
named_by label = record { name = label.name.now; place = label.place }

-- the last segment may stand behind the others, in a memory that an image may have
pub record IsFilled (d : Draft) : Type 0 where
  pub memory : d.image.size ≤ MAX_MEMORY
  pub behind : ForSome d.last (λ s. last_end d.image.segments ≤ s.address)
  pub within : ForSome d.last (λ s. end_of s ≤ d.image.size)
  pub few : ForSome d.last (λ s. length d.image.segments < MAX_SEGMENTS)
