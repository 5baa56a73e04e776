use Rattle.axp_trace.proofs.LineLemmas.{whole_event, whole_line, whole_events_header, whole_trace_header, whole_tail, whole_usage, whole_read_fault, whole_too_long, whole_bad_image, whole_bad_trace, whole_not_legal, whole_incomplete, whole_differs, whole_given, whole_right}
use Rattle.axp_trace.proofs.files.lines_are_whole.Goals as goal

pub returns : goal.returns
returns c = record {
  event = whole_event;
  line = whole_line;
  events_header = whole_events_header;
  trace_header = whole_trace_header;
  tail = whole_tail;
  usage = whole_usage;
  read_fault = whole_read_fault;
  too_long = whole_too_long;
  bad_image = whole_bad_image;
  bad_trace = whole_bad_trace;
  not_legal = whole_not_legal;
  incomplete = whole_incomplete;
  differs = whole_differs;
  given = whole_given;
  right = whole_right;
}
