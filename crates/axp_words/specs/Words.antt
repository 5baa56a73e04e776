-- The command grammar: which lists of words are which command.
use Rattle.std.specs.Prelude.{ℕ, ◌-◌, ◌/◌, ◌%◌, ◌^◌, ◌==◌, List, [], ◌∷◌, length, codes, Option, Some, None, option_and_then, if◌then◌else◌}
use Rattle.std.specs.Str.{bytes_eq}
use Rattle.axp_base.specs.declared.processors.TheConstants.{MIN_CPUS, MAX_CPUS, MAX_BUDGET}
use Rattle.axp_image.specs.declared.limits.TheConstants.{MAX_MEMORY, PAGE_BYTES}
use Rattle.axp_words.specs.Numbers.{number_in}

-- a command, without where its words lie
pub data Order : Type 0 where
  -- the trace of the run over an image that a number of processors, a budget and a seed define
  Seed : List ℕ → ℕ → ℕ → ℕ → Order
  -- the trace of the events that a file lists, over an image
  Replay : List ℕ → List ℕ → Order
  -- whether the accesses of a trace keep the rules of shared memory, over an image
  Check : List ℕ → List ℕ → Order
  -- a summary of many seeded runs
  Gen : ℕ → Order
  -- the image file of an executable, for a size of memory, a stack word and a page of the page table
  Elf : List ℕ → ℕ → ℕ → ℕ → Order
  -- the image file of an assembler source
  Asm : List ℕ → Order
  -- the listing of an image
  Listing : List ℕ → Order

-- what follows a word is read where the word was
infixl 10 ◌>>=◌
abbrev pub ◌>>=◌ : {A B : Type 0} → Option A → (A → Option B) → Option B
o >>= f = option_and_then f o

-- the path that a word names
abbrev pub path_of : List ℕ → Option (List ℕ)
path_of word = if length word == 0 then None else Some word

-- the number below 2 ^ 64 that a word writes
abbrev pub any_number : List ℕ → Option ℕ
any_number word = number_in 0 (2 ^ 64 - 1) word

abbrev pub seed_of : List ℕ → List ℕ → List ℕ → List ℕ → Option Order
seed_of image cpus budget seed = do
  path ← path_of image
  processors ← number_in MIN_CPUS MAX_CPUS cpus
  steps ← number_in 1 MAX_BUDGET budget
  start ← any_number seed
  Some (Seed path processors steps start)

-- the command of an image and a list or trace
abbrev pub traced_of : (List ℕ → List ℕ → Order) → List ℕ → List ℕ → Option Order
traced_of order image trace = do
  path ← path_of image
  list ← path_of trace
  Some (order path list)

-- the size of memory in whole pages that a word writes
abbrev pub memory_in : List ℕ → Option ℕ
memory_in word = do
  size ← number_in PAGE_BYTES MAX_MEMORY word
  if size % PAGE_BYTES == 0 then Some size else None

abbrev pub elf_of : List ℕ → List ℕ → List ℕ → List ℕ → Option Order
elf_of file memory stack table = do
  path ← path_of file
  size ← memory_in memory
  start ← any_number stack
  page ← number_in 0 (size / PAGE_BYTES - 1) table
  Some (Elf path size start page)

abbrev pub gen_of : List ℕ → Option Order
gen_of number = do
  n ← any_number number
  Some (Gen n)

abbrev pub asm_of : List ℕ → Option Order
asm_of file = do
  path ← path_of file
  Some (Asm path)

abbrev pub listing_of : List ℕ → Option Order
listing_of image = do
  path ← path_of image
  Some (Listing path)

-- the command of a verb and one word
abbrev pub order_of_one : List ℕ → List ℕ → Option Order
order_of_one verb word =
    if bytes_eq verb (codes "gen") then gen_of word
    else if bytes_eq verb (codes "asm") then asm_of word
    else if bytes_eq verb (codes "list") then listing_of word else None

-- the command of a verb and two words
abbrev pub order_of_two : List ℕ → List ℕ → List ℕ → Option Order
order_of_two verb image trace =
    if bytes_eq verb (codes "replay") then traced_of Replay image trace
    else if bytes_eq verb (codes "check") then traced_of Check image trace else None

-- the command of a verb and four words
abbrev pub order_of_four : List ℕ → List ℕ → List ℕ → List ℕ → List ℕ → Option Order
order_of_four verb first second third fourth =
    if bytes_eq verb (codes "seed") then seed_of first second third fourth
    else if bytes_eq verb (codes "elf") then elf_of first second third fourth else None

-- the command that the words are
unfoldable pub order_of : List (List ℕ) → Option Order
order_of (verb ∷ word ∷ []) = order_of_one verb word
order_of (verb ∷ image ∷ trace ∷ []) = order_of_two verb image trace
order_of (verb ∷ first ∷ second ∷ third ∷ fourth ∷ []) = order_of_four verb first second third fourth
order_of _ = None
