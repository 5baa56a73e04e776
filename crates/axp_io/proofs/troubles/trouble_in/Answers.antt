use Rattle.std.proofs.Common.{◌≡◌, refl, sym, ◌∙◌, ap}
use Rattle.std.specs.declared.io.ErrorKind.{ErrorKind}
use Rattle.std.specs.declared.io.ErrorKind.TheVariants as kind
use Rattle.axp_io.specs.Troubles.{trouble_of}
use Rattle.axp_io.specs.declared.troubles.Trouble.TheVariants as trouble
use Rattle.axp_io.proofs.troubles.trouble_in.Goals as goal

-- a kind that is neither of the two stands for a fault
other_kind : (k : ErrorKind) → (k ≡ kind.Interrupted → ⊥) → (k ≡ kind.OutOfMemory → ⊥) → trouble.Fault ≡ trouble_of k
other_kind kind.Interrupted a b = absurd (a refl)
other_kind kind.OutOfMemory a b = absurd (b refl)
other_kind _ a b = refl

pub returns-in-Interrupted : goal.returns-in-Interrupted
returns-in-Interrupted c = ap trouble_of (sym c.in-Interrupted.is ∙ c.kind.ensures)

pub returns-in-OutOfMemory : goal.returns-in-OutOfMemory
returns-in-OutOfMemory c = ap trouble_of (sym c.in-OutOfMemory.is ∙ c.kind.ensures)

pub returns-in_default : goal.returns-in_default
returns-in_default c = rw (← c.kind.ensures) (other_kind c.kind.result c.in_default.not-Interrupted c.in_default.not-OutOfMemory)
