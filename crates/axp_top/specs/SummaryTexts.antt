-- What `gen` prints: the summary of the rounds that a number defines.
use Rattle.std.specs.Prelude.{ℕ, List, [], ◌∷◌, ◌++◌, length, map}
use Rattle.axp_gen.specs.Shapes as shapes
use Rattle.axp_summary.specs.declared.labels.Label.{Label}
use Rattle.axp_summary.specs.Labels.{labels_of, name_of}
use Rattle.axp_summary.specs.Summaries.{Summary, count_of, summary_of}
use Rattle.axp_top.specs.declared.status.Status.TheVariants as status
use Rattle.axp_top.specs.Replays.{Answer}
use Rattle.axp_top.specs.Texts.{Lines}
use Rattle.axp_trace.specs.Lines.{with_feed}
use Rattle.axp_trace.specs.Summaries.{count_line, events_line, summary_header}

-- how many of the labels that the rounds have are this one
abbrev pub count_text : List Label → Label → List ℕ
count_text given label = with_feed (count_line (name_of label) (count_of label given))

-- a line for each of these labels
abbrev pub count_lines : List Label → List Label → Lines
count_lines labels given = map (count_text given) labels

-- the number, the litmus test and how many rounds there were
abbrev pub title_text : ℕ → Summary → List ℕ
title_text number s = with_feed (summary_header number (shapes.name_of s.shape) (length s.labels))

-- the counts of all labels of the litmus test
abbrev pub all_count_lines : Summary → Lines
all_count_lines s = count_lines (labels_of s.shape) s.labels

-- how many events all rounds had
abbrev pub events_text : Summary → List ℕ
events_text s = with_feed (events_line s.events)

abbrev pub whole_summary : ℕ → Summary → Answer
whole_summary number s = record { status = status.Done; lines = title_text number s ∷ (all_count_lines s ++ events_text s ∷ []) }

abbrev pub summary_answer : ℕ → Answer
summary_answer number = whole_summary number (summary_of number)
