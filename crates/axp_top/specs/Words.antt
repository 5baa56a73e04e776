-- The commands that are built.
use Rattle.std.specs.Prelude.{ℕ, List, Option, Some, None}
use Rattle.axp_words.specs.Words as words
use Rattle.axp_top.specs.declared.trace_tasks.TraceTask.{TraceTask}
use Rattle.axp_top.specs.declared.trace_tasks.TraceTask.TheVariants as task

-- a command over an image, without where its words lie
pub data ImageOrder : Type 0 where
  -- what is done with the list or trace in a second file
  Traced : TraceTask → List ℕ → List ℕ → ImageOrder
  -- the trace of the run that a seed defines: how many processors, the budget of steps of each, and the seed
  Seed : List ℕ → ℕ → ℕ → ℕ → ImageOrder
  -- the listing of the image
  Listing : List ℕ → ImageOrder

-- a command that turns a source, which is one file, into an image file
pub data SourceOrder : Type 0 where
  -- an executable: its name, the size of memory, the stack word and the page of the page table
  Elf : List ℕ → ℕ → ℕ → ℕ → SourceOrder
  -- an assembler source: its name
  Asm : List ℕ → SourceOrder

-- a command
pub data Order : Type 0 where
  Over : ImageOrder → Order
  From : SourceOrder → Order
  -- the summary of the seeded runs that a number defines
  Gen : ℕ → Order

abbrev pub order_in : Option words.Order → Option Order
order_in None = None
order_in (Some (words.Replay image trace)) = Some (Over (Traced task.Replay image trace))
order_in (Some (words.Check image trace)) = Some (Over (Traced task.Check image trace))
order_in (Some (words.Seed image cpus budget seed)) = Some (Over (Seed image cpus budget seed))
order_in (Some (words.Gen number)) = Some (Gen number)
order_in (Some (words.Elf file memory stack table)) = Some (From (Elf file memory stack table))
order_in (Some (words.Asm file)) = Some (From (Asm file))
order_in (Some (words.Listing image)) = Some (Over (Listing image))

-- the command that the words are
abbrev pub order_of : List (List ℕ) → Option Order
order_of ws = order_in (words.order_of ws)
