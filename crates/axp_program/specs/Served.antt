-- What the process did for the words that the system gave.
use Rattle.std.specs.Prelude.{◌≡◌, ℕ, List, IfSome, Option}
use Rattle.axp_image.specs.Contents.{AreBytes}
use Rattle.axp_top.specs.Answers.{answer_of, asks_of, image_told, trace_told}
use Rattle.axp_top.specs.Lawful.{image_of_file, lines_of_file}
use Rattle.axp_top.specs.Outside.{Outside}
use Rattle.axp_top.specs.Statuses.{AsksInTurn, DeskCount, PutsEach, Settles, SettlesLawfully, SettlesSome, SinkCount, number_of_status}
use Rattle.axp_top.specs.Words.{Order}
use Rattle.axp_top.specs.declared.status.Status.{Status}

-- The number is that of a status, and all that the top call promises holds with this status: the answer by
-- the files that the desk tells, its puts, the constraints of shared memory, the same by some lists where
-- the desk does not tell them, the counts of faults, and the asks.
pub record IsServed (told : List ℕ → Option (List ℕ)) (before now : Outside) (order : Option Order) (n : ℕ) : Type 0 where
  pub status : Status
  pub number : n ≡ number_of_status status
  pub answer : IfSome (answer_of order told) (λ a. Settles before now a status)
  pub puts : IfSome (answer_of order told) (λ a. PutsEach before now a status)
  pub constraints : IfSome (image_told order told) AreBytes → IfSome (answer_of order told) (SettlesLawfully before now order (image_of_file (image_told order told)) (lines_of_file (trace_told order told)) status)
  pub some_files : SettlesSome told before now order status
  pub sink_count : SinkCount before.sink.faults now.sink.faults status
  pub desk_count : DeskCount before.desk.faults now.desk.faults status
  pub asks : AsksInTurn before.desk.asks now.desk.asks (asks_of order) status
