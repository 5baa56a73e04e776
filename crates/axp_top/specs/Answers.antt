-- What the program answers, by its words and the lists that the desk tells.
use Rattle.std.specs.Prelude.{ℕ, nat_lt, List, [], ◌∷◌, length, Option, Some, None, option_map, if◌then◌else◌}
use Rattle.axp_image.specs.Contents.{Contents}
use Rattle.axp_image.specs.Faults.{Fault, first_fault, kind_name}
use Rattle.axp_image.specs.Grammar.{image_of}
use Rattle.axp_io.specs.Causes.{Ask}
use Rattle.axp_trace.specs.Files.{lines_of}
use Rattle.axp_trace.specs.Lines.{bad_image_line, read_fault_line, too_long_line, usage_line}
use Rattle.axp_top.specs.declared.status.Status.TheVariants as status
use Rattle.axp_top.specs.declared.limits.TheConstants.{MAX_IMAGE_BYTES, MAX_TRACE_BYTES}
use Rattle.axp_top.specs.declared.trace_tasks.TraceTask.{TraceTask}
use Rattle.axp_top.specs.declared.trace_tasks.TraceTask.TheVariants as task
use Rattle.axp_top.specs.Checks.{checked_answer}
use Rattle.axp_top.specs.Replays.{Answer, FileLine, answer_in_one_line, answer_of_lines}
use Rattle.axp_top.specs.ImageFiles.{listing_answer, source_answer, source_ask, source_name}
use Rattle.axp_top.specs.SeededRuns.{seeded_answer}
use Rattle.axp_top.specs.SummaryTexts.{summary_answer}
use Rattle.axp_top.specs.Words.{From, Gen, ImageOrder, Listing, Order, Over, Seed, Traced}

abbrev pub usage : Answer
usage = answer_in_one_line status.Usage usage_line

abbrev pub read_fault : Answer
read_fault = answer_in_one_line status.ReadFault read_fault_line

abbrev pub too_long : Answer
too_long = answer_in_one_line status.TooLong too_long_line

abbrev pub bad_image : Fault → Answer
bad_image f = answer_in_one_line (status.BadImage f.0 f.1) (bad_image_line (kind_name f.0) f.1)

-- a file that is no image has a fault
abbrev pub first_bad : Option Fault → Answer
first_bad (Some f) = bad_image f
first_bad None = too_long

-- what a file is answered that is no image
abbrev pub no_image : List ℕ → Answer
no_image bytes = if nat_lt MAX_IMAGE_BYTES (length bytes) then too_long else first_bad (first_fault bytes)

-- the image that a file is, if it is not too long and within the grammar
abbrev pub image_in : List ℕ → Option Contents
image_in bytes = if nat_lt MAX_IMAGE_BYTES (length bytes) then None else image_of bytes

-- what comes of the lines of a list or trace
abbrev pub answer_to_lines : TraceTask → Contents → List FileLine → Answer
answer_to_lines task.Replay image ls = answer_of_lines image ls
answer_to_lines task.Check image ls = checked_answer image ls

abbrev pub answer_of_trace : TraceTask → Contents → List ℕ → Answer
answer_of_trace t image bytes = if nat_lt MAX_TRACE_BYTES (length bytes) then too_long else answer_to_lines t image (lines_of bytes)

-- what a command answers over an image, by the second file; a seeded run and a listing have none
abbrev pub answer_with : ImageOrder → Contents → List ℕ → Answer
answer_with (Traced t image trace) contents list = answer_of_trace t contents list
answer_with (Seed image cpus budget seed) contents list = seeded_answer contents cpus budget seed
answer_with (Listing image) contents list = listing_answer contents

-- by the first file, the image that it is, and the second file
abbrev pub answer_by : ImageOrder → List ℕ → Option Contents → List ℕ → Answer
answer_by order first None trace = no_image first
answer_by order first (Some image) trace = answer_with order image trace

-- the answer by the lists that the desk hands over
abbrev pub answer_over : Option Order → List ℕ → List ℕ → Answer
answer_over None first trace = usage
answer_over (Some (Gen number)) first trace = summary_answer number
answer_over (Some (From source)) first trace = source_answer source first
answer_over (Some (Over order)) first trace = answer_by order first (image_in first) trace

-- the second file of a command that has one, None where the desk does not tell it
abbrev pub answer_if_told : ImageOrder → Contents → Option (List ℕ) → Option Answer
answer_if_told (Traced t image trace) contents None = None
answer_if_told (Traced t image trace) contents (Some list) = Some (answer_of_trace t contents list)
answer_if_told (Seed image cpus budget seed) contents list = Some (seeded_answer contents cpus budget seed)
answer_if_told (Listing image) contents list = Some (listing_answer contents)

-- by the first file, the image that it is, and the second
abbrev pub answer_of_image : ImageOrder → List ℕ → Option Contents → Option (List ℕ) → Option Answer
answer_of_image order first None trace = Some (no_image first)
answer_of_image order first (Some image) trace = answer_if_told order image trace

abbrev pub answer_of_files : ImageOrder → Option (List ℕ) → Option (List ℕ) → Option Answer
answer_of_files order None trace = None
answer_of_files order (Some first) trace = answer_of_image order first (image_in first) trace

-- the name of a command's image
abbrev pub image_name : ImageOrder → List ℕ
image_name (Traced t image trace) = image
image_name (Seed image cpus budget seed) = image
image_name (Listing image) = image

-- what the desk tells under the name of a command's first file, an image or a source
abbrev pub image_told : Option Order → (List ℕ → Option (List ℕ)) → Option (List ℕ)
image_told None told = None
image_told (Some (Gen number)) told = None
image_told (Some (From source)) told = told (source_name source)
image_told (Some (Over order)) told = told (image_name order)

abbrev pub trace_told_by : ImageOrder → (List ℕ → Option (List ℕ)) → Option (List ℕ)
trace_told_by (Traced t image trace) told = told trace
trace_told_by (Seed image cpus budget seed) told = None
trace_told_by (Listing image) told = None

abbrev pub trace_told : Option Order → (List ℕ → Option (List ℕ)) → Option (List ℕ)
trace_told None told = None
trace_told (Some (Gen number)) told = None
trace_told (Some (From source)) told = None
trace_told (Some (Over order)) told = trace_told_by order told

-- the answer; None where a list that it needs is not told
abbrev pub answer_of : Option Order → (List ℕ → Option (List ℕ)) → Option Answer
answer_of None told = Some usage
answer_of (Some (Gen number)) told = Some (summary_answer number)
answer_of (Some (From source)) told = option_map (source_answer source) (told (source_name source))
answer_of (Some (Over order)) told = answer_of_files order (told (image_name order)) (trace_told_by order told)

-- ---- what is asked of the desk, in order

-- the asks behind that for the image
abbrev pub more_asks : ImageOrder → List Ask
more_asks (Traced t image trace) = (trace, MAX_TRACE_BYTES) ∷ []
more_asks (Seed image cpus budget seed) = []
more_asks (Listing image) = []

-- all that a command may ask for; a summary and words outside the grammar ask for nothing
abbrev pub asks_of : Option Order → List Ask
asks_of None = []
asks_of (Some (Gen number)) = []
asks_of (Some (From source)) = source_ask source ∷ []
asks_of (Some (Over order)) = (image_name order, MAX_IMAGE_BYTES) ∷ more_asks order

-- what it asks for by the image that the first file is: the second is of use only behind an image
abbrev pub asks_by_image : ImageOrder → Option Contents → List Ask
asks_by_image order None = []
asks_by_image order (Some contents) = more_asks order

abbrev pub asks_by : Option Order → Option Contents → List Ask
asks_by None image = []
asks_by (Some (Gen number)) image = []
asks_by (Some (From source)) image = source_ask source ∷ []
asks_by (Some (Over order)) image = (image_name order, MAX_IMAGE_BYTES) ∷ asks_by_image order image
