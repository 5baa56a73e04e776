use Rattle.axp_trace.specs.Files.{lines_of}
use Rattle.axp_top.proofs.EndingLemmas.{file_done, file_stopped}
use Rattle.axp_top.proofs.StatusLemmas.{start_plain}
use Rattle.axp_top.proofs.replay.replay.Goals as goal

pub returns-in-Ok-print_file : goal.returns-in-Ok-print_file
returns-in-Ok-print_file g c =
    file_done c.args.image.now c.in-Some.first.now c.in-Some-read_header.header c.in-Ok.machine (lines_of c.args.file.now) (lines_of c.in-Some.lines.now) _ _ c.in-Ok-print_file.status c.in-Some.ensures.lines c.in-Some-read_header.ensures.value c.in-Ok.ensures
    (start_plain c.in-Some-read_header.header c.in-Ok.machine c.in-Some.first.now (lines_of c.in-Some.lines.now)) c.in-Ok-print_file.ensures

pub returns : goal.returns
returns g c =
    file_stopped c.args.image.now c.in-Some.first.now c.in-Some-read_header.header c.in-Ok.machine (lines_of c.args.file.now) (lines_of c.in-Some.lines.now) _ _ c.in-Err.stop c.status.result c.in-Some.ensures.lines c.in-Some-read_header.ensures.value c.in-Ok.ensures c.in-Err.ensures c.status.ensures
