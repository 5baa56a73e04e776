-- Which trouble an error of the system stands for.
use Rattle.std.specs.declared.io.ErrorKind.{ErrorKind}
use Rattle.std.specs.declared.io.ErrorKind.TheVariants as kind
use Rattle.axp_io.specs.declared.troubles.Trouble.{Trouble}
use Rattle.axp_io.specs.declared.troubles.Trouble.TheVariants as trouble

-- an interrupted call and want of memory stand for themselves, and every other error for a fault
abbrev pub trouble_of : ErrorKind → Trouble
trouble_of kind.Interrupted = trouble.Interrupted
trouble_of kind.OutOfMemory = trouble.Memory
trouble_of _ = trouble.Fault
