-- A command in the code stands for one without where its words lie.
use Rattle.std.specs.Prelude.{Option, Some, None, Result, Ok, Err}
use Rattle.axp_words.specs.declared.commands.Command.{Command}
use Rattle.axp_words.specs.declared.commands.Command.TheVariants as code
use Rattle.axp_words.specs.declared.commands.Usage.{Usage}
use Rattle.axp_words.specs.Words.{Order, Seed, Replay, Check, Gen, Elf, Asm, Listing}

abbrev pub order_in : Command → Order
order_in (code.Seed image cpus budget seed) = Seed image.now cpus budget seed
order_in (code.Replay image trace) = Replay image.now trace.now
order_in (code.Check image trace) = Check image.now trace.now
order_in (code.Gen number) = Gen number
order_in (code.Elf file memory stack table) = Elf file.now memory stack table
order_in (code.Asm file) = Asm file.now
order_in (code.List image) = Listing image.now

-- the command that was read, if one was
abbrev pub order_read : Option Command → Option Order
order_read None = None
order_read (Some c) = Some (order_in c)

-- the command of an answer; none where the answer is Usage
abbrev pub order_by : Result Command Usage → Option Order
order_by (Err u) = None
order_by (Ok c) = Some (order_in c)
