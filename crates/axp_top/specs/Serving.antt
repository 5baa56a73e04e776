-- How the parts of the top call end, by the files that were handed over.
use Rattle.std.specs.Prelude.{◌≡◌, ◌⊎◌, ℕ, List, [], ◌∷◌, ◌++◌, IfSome, Option, Some}
use Rattle.axp_image.specs.Contents.{Contents, IsValid}
use Rattle.axp_io.specs.Causes.{Ask, raised}
use Rattle.axp_top.specs.declared.limits.TheConstants.{MAX_IMAGE_BYTES}
use Rattle.axp_top.specs.declared.status.Status.{Status}
use Rattle.axp_top.specs.declared.trace_tasks.TraceTask.{TraceTask}
use Rattle.axp_top.specs.declared.status.Status.TheVariants as status
use Rattle.axp_top.specs.Answers.{answer_of_trace, answer_over, asks_by, image_in, image_name, image_told, read_fault, trace_told}
use Rattle.axp_top.specs.Lawful.{image_over}
use Rattle.axp_top.specs.Outside.{Outside}
use Rattle.axp_top.specs.Printing.{Ends}
use Rattle.axp_top.specs.Replays.{Answer}
use Rattle.axp_top.specs.Statuses.{AsksFailed, AsksFront}
use Rattle.axp_top.specs.Words.{ImageOrder, Order, Over}

-- the work ended by the answer, and all was asked for, unless memory was not found
pub record EndsAs (before now : Outside) (answer : Answer) (asks : List Ask) (s : Status) : Type 0 where
  pub ends : Ends before.sink now.sink answer s
  pub count : now.desk.faults ≡ before.desk.faults
  pub some : AsksFront before.desk.asks now.desk.asks asks
  pub all : (s ≡ status.Memory → ⊥) → now.desk.asks ≡ before.desk.asks ++ asks

-- a fetch failed, and the work ended so
pub record EndsUnread (before now : Outside) (asks : List Ask) (s : Status) : Type 0 where
  pub ends : Ends before.sink now.sink read_fault s
  pub count : now.desk.faults ≡ raised before.desk.faults 1
  pub failed : AsksFailed before.desk.asks now.desk.asks asks

abbrev pub Course : Outside → Outside → Answer → List Ask → Status → Type 0
Course before now answer asks s = EndsAs before now answer asks s ⊎ EndsUnread before now asks s

-- the work over an image, by a list that may have been handed over for this ask: the told one where it is told
pub record ServesTrace (task : TraceTask) (told : Option (List ℕ)) (ask : Ask) (image : Contents) (before now : Outside) (s : Status) : Type 0 where
  pub list : List ℕ
  pub is_told : IfSome told (λ bytes. list ≡ bytes)
  pub course : Course before now (answer_of_trace task image list) (ask ∷ []) s

-- The work of a command, by two lists that may have been handed over, the told ones where they are told. The
-- image in the first is valid; or this would be the course over every other file.
pub record Serves (told : List ℕ → Option (List ℕ)) (order : Option Order) (before now : Outside) (s : Status) : Type 0 where
  pub image : List ℕ
  pub trace : List ℕ
  pub image_is_told : IfSome (image_told order told) (λ bytes. image ≡ bytes)
  pub trace_is_told : IfSome (trace_told order told) (λ bytes. trace ≡ bytes)
  pub course : Course before now (answer_over order image trace) (asks_by order (image_over order image)) s
  pub sure : IfSome (image_over order image) IsValid
      ⊎ ((other : List ℕ) → Course before now (answer_over order other trace) (asks_by order (image_over order other)) s)

-- the file of this name was handed over, the told one where it is told, and is this image; nothing was printed
pub record FetchesImage (told : List ℕ → Option (List ℕ)) (name : List ℕ) (before now : Outside) (image : Contents) : Type 0 where
  pub file : List ℕ
  pub is_told : IfSome (told name) (λ bytes. file ≡ bytes)
  pub read : image_in file ≡ Some image
  pub valid : IsValid image
  pub sink : now.sink ≡ before.sink
  pub count : now.desk.faults ≡ before.desk.faults
  pub asks : now.desk.asks ≡ before.desk.asks ++ (name, MAX_IMAGE_BYTES) ∷ []

-- every command over the image of this name ends so
abbrev pub ServesEach : (List ℕ → Option (List ℕ)) → List ℕ → Outside → Outside → Status → Type 0
ServesEach told name before now s = (order : ImageOrder) → image_name order ≡ name → Serves told (Some (Over order)) before now s
