-- What a person is told of a status that refuses, by the two files.
use Rattle.std.specs.Prelude.{◌≡◌, ℕ, ◌+◌, ◌-◌, ◌==◌, ◌&&◌, if◌then◌else◌, is_some, Bool, true, false, List, ◌∷◌, ◌++◌, codes, decimal, slice_get, Option, Some, None, IfSome, Result, Ok, Err}
use Rattle.axp_asm.specs.declared.layout.TheConstants.{MAX_SOURCE}
use Rattle.axp_explain.specs.ElfWords.{elf_words}
use Rattle.axp_explain.specs.ImageWords.{image_words}
use Rattle.axp_explain.specs.LineWords.{fault_words, line_fault}
use Rattle.axp_explain.specs.ReasonWords.{reason_words}
use Rattle.axp_explain.specs.Reasons.{reason_of_files}
use Rattle.axp_explain.specs.RuleWords.{rule_words}
use Rattle.axp_explain.specs.SourceWords.{source_words}
use Rattle.axp_explain.specs.Texts.{of_file, of_line}
use Rattle.axp_io.specs.Causes.{Ask, FetchAsks, FetchCount, FetchTold}
use Rattle.axp_io.specs.declared.FetchFault.{FetchFault}
use Rattle.axp_io.specs.declared.FetchFault.TheVariants as fetch
use Rattle.axp_image.specs.Grammar.{image_of}
use Rattle.axp_lsu.specs.declared.reasons.Reason.{Reason}
use Rattle.axp_top.specs.ImageFiles.{source_limit, source_name}
use Rattle.axp_top.specs.Outside.{DeskState}
use Rattle.axp_top.specs.Replays.{FileLine}
use Rattle.axp_top.specs.Words.{Asm, From, Gen, Listing, Order, Over, Seed, SourceOrder, Traced}
use Rattle.axp_top.specs.declared.limits.TheConstants.{MAX_IMAGE_BYTES, MAX_TRACE_BYTES}
use Rattle.axp_top.specs.declared.status.Status.{Status}
use Rattle.axp_top.specs.declared.status.Status.TheVariants as status
use Rattle.axp_trace.specs.Files.{lines_of}
use Rattle.axp_trace.specs.Reading.{header_of}
use Rattle.axp_trace.specs.declared.headers.Header.{Header}

abbrev pub read_fault_words : List ℕ
read_fault_words = codes "the file could not be opened or read"

abbrev pub too_long_words : ℕ → List ℕ
too_long_words most = codes "the file is longer than " ++ decimal most ++ codes " bytes"

abbrev pub differs_words : List ℕ
differs_words = codes "the trace has another line here than the right one"

abbrev pub list_words : List ℕ
list_words = codes "this is an event list, and a trace is needed: replay prints the trace of a list"

abbrev pub incomplete_words : List ℕ
incomplete_words = codes "the events end here, and a processor is not finished or a write waits in its buffer"

-- how many processors the first line names; None for the first line itself, and where it is no header
abbrev pub cpus_of : Option Header → Option ℕ
cpus_of None = None
cpus_of (Some h) = Some h.cpus

abbrev pub cpus_in : List FileLine → Option ℕ
cpus_in (Some first ∷ ls) = cpus_of (header_of first)
cpus_in _ = None

-- why an event is refused, where there is a reason
abbrev pub told_reason : List ℕ → ℕ → Option Reason → Option (List ℕ)
told_reason path line None = None
told_reason path line (Some r) = Some (of_line path line (reason_words r))

-- Of a line that is outside the grammar. A header is refused only of an event list, where a trace is needed.
abbrev pub line_words : List FileLine → ℕ → List ℕ
line_words ls n = if (n == 1) && is_some (cpus_in ls) then list_words else fault_words (line_fault (cpus_in ls) (slice_get ls (n - 1)))

-- of a status that a list or a trace of these lines has over an image file
abbrev pub trace_explained : List ℕ → List ℕ → List FileLine → Status → Option (List ℕ)
trace_explained image path ls (status.BadTrace n) = Some (of_line path n (line_words ls n))
trace_explained image path ls (status.NotLegal n) = told_reason path (n + 1) (reason_of_files (image_of image) ls)
trace_explained image path ls (status.Differs n) = Some (of_line path n differs_words)
trace_explained image path ls (status.Incomplete n) = Some (of_line path (n + 1) incomplete_words)
trace_explained image path ls (status.Violated rule first second) = Some (of_file path (rule_words rule))
trace_explained image path ls _ = None

-- where a file could not be fetched
abbrev pub fetch_explained : List ℕ → ℕ → FetchFault → Option (List ℕ)
fetch_explained path most fetch.Failed = Some (of_file path read_fault_words)
fetch_explained path most fetch.TooLong = Some (of_file path (too_long_words most))
fetch_explained path most fetch.Memory = None

abbrev pub trace_file_explained : List ℕ → List ℕ → Result (List ℕ) FetchFault → Status → Option (List ℕ)
trace_file_explained image path (Ok trace) s = trace_explained image path (lines_of trace) s
trace_file_explained image path (Err fault) s = fetch_explained path MAX_TRACE_BYTES fault

-- of an image file with a fault, and else of the second file
abbrev pub image_explained : List ℕ → List ℕ → Status → Option (List ℕ) → Option (List ℕ)
image_explained path image (status.BadImage k offset) other = Some (of_file path (image_words image k offset))
image_explained path image _ other = other

-- of a status that a command has of a list or a trace over an image, by what the desk handed over of both
unfoldable pub explanation : List ℕ → Result (List ℕ) FetchFault → List ℕ → Result (List ℕ) FetchFault → Status → Option (List ℕ)
explanation image_path (Err fault) trace_path trace s = fetch_explained image_path MAX_IMAGE_BYTES fault
explanation image_path (Ok image) trace_path trace s = image_explained image_path image s (trace_file_explained image trace_path trace s)

-- a status that refuses
abbrev pub is_refusal : Status → Bool
is_refusal status.Done = false
is_refusal status.Usage = false
is_refusal status.WriteFault = false
is_refusal status.Memory = false
is_refusal _ = true

-- what the desk handed over of a file, where it tells it, and its faults and asks before and now
abbrev pub IsFetched : Option (List ℕ) → Ask → DeskState → DeskState → Result (List ℕ) FetchFault → Type 0
IsFetched told ask before now fetched = IfSome told (λ list. FetchTold list ask.1 fetched) × FetchCount before.faults now.faults fetched × FetchAsks before.asks now.asks ask fetched

-- the text is the explanation of the two files as the desk handed them over, one after the other
abbrev pub ExplainsTrace : (List ℕ → Option (List ℕ)) → DeskState → DeskState → List ℕ → List ℕ → Status → Option (List ℕ) → Type 0
ExplainsTrace told before now image trace s text =
    (first second : Result (List ℕ) FetchFault) × (faults : ℕ) × (asks : List Ask) × IsFetched (told image) (image, MAX_IMAGE_BYTES) before (record { faults = faults; asks = asks }) first
    × IsFetched (told trace) (trace, MAX_TRACE_BYTES) (record { faults = faults; asks = asks }) now second × (text ≡ explanation image first trace second s)

-- so it is where the work was refused; else there is no text, and nothing was asked for
abbrev pub ExplainsIf : Bool → Type 0 → DeskState → DeskState → Option (List ℕ) → Type 0
ExplainsIf true explained before now text = explained
ExplainsIf false explained before now text = (text ≡ None) × (now ≡ before)

-- of a status that a command has that is over an image alone, by what the desk handed over of it
unfoldable pub alone_explanation : List ℕ → Result (List ℕ) FetchFault → Status → Option (List ℕ)
alone_explanation path (Err fault) s = fetch_explained path MAX_IMAGE_BYTES fault
alone_explanation path (Ok image) s = image_explained path image s None

abbrev pub ExplainsAlone : (List ℕ → Option (List ℕ)) → DeskState → DeskState → List ℕ → Status → Option (List ℕ) → Type 0
ExplainsAlone told before now image s text = (fetched : Result (List ℕ) FetchFault) × IsFetched (told image) (image, MAX_IMAGE_BYTES) before now fetched × (text ≡ alone_explanation image fetched s)

-- of a status that a command over a source has, by its name and its limit: it need not be asked for again
unfoldable pub source_explained : List ℕ → ℕ → Status → Option (List ℕ)
source_explained path most status.ReadFault = Some (of_file path read_fault_words)
source_explained path most status.TooLong = Some (of_file path (too_long_words most))
source_explained path most (status.BadElf field offset) = Some (of_file path (elf_words field))
source_explained path most _ = None

-- of an assembler source with this line at fault, by what the desk handed over of it
unfoldable pub line_explained : List ℕ → ℕ → Result (List ℕ) FetchFault → Option (List ℕ)
line_explained path n (Ok text) = Some (of_line path n (source_words n (slice_get (lines_of text) (n - 1))))
line_explained path n (Err fault) = fetch_explained path MAX_SOURCE fault

abbrev pub ExplainsLine : (List ℕ → Option (List ℕ)) → DeskState → DeskState → List ℕ → ℕ → Option (List ℕ) → Type 0
ExplainsLine told before now path n text = (fetched : Result (List ℕ) FetchFault) × IsFetched (told path) (path, MAX_SOURCE) before now fetched × (text ≡ line_explained path n fetched)

abbrev pub ExplainsSource : (List ℕ → Option (List ℕ)) → DeskState → DeskState → SourceOrder → Status → Option (List ℕ) → Type 0
ExplainsSource told before now (Asm path) (status.BadSource n) text = ExplainsLine told before now path n text
ExplainsSource told before now source s text = (text ≡ source_explained (source_name source) (source_limit source) s) × (now ≡ before)

abbrev pub Explains : (List ℕ → Option (List ℕ)) → DeskState → DeskState → Option Order → Status → Option (List ℕ) → Type 0
Explains told before now None s text = (text ≡ None) × (now ≡ before)
Explains told before now (Some (Gen number)) s text = (text ≡ None) × (now ≡ before)
Explains told before now (Some (From source)) s text = ExplainsSource told before now source s text
Explains told before now (Some (Over (Traced task image trace))) s text = ExplainsIf (is_refusal s) (ExplainsTrace told before now image trace s text) before now text
Explains told before now (Some (Over (Seed image cpus budget seed))) s text = ExplainsIf (is_refusal s) (ExplainsAlone told before now image s text) before now text
Explains told before now (Some (Over (Listing image))) s text = ExplainsIf (is_refusal s) (ExplainsAlone told before now image s text) before now text

-- there is something to tell: a command was refused
abbrev pub is_told : Option Order → Status → Bool
is_told None s = false
is_told (Some (Gen number)) s = false
is_told (Some (From source)) s = is_refusal s
is_told (Some (Over order)) s = is_refusal s
