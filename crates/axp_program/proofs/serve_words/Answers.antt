use Rattle.axp_program.proofs.serve_words.Goals as goal

-- the status is what the top call answered
pub returns-in-Ok-clause-served : goal.returns-in-Ok-clause-served
returns-in-Ok-clause-served g c = rw (c.in-Ok.is, ← c.as_slice.ensures.value) (record { status = c.serve_plain-status.result; number = c.number.ensures; answer = c.serve_plain-status.ensures.answer; puts = c.serve_plain-status.ensures.puts; constraints = c.serve_plain-status.ensures.constraints; some_files = c.serve_plain-status.ensures.some_files; sink_count = c.serve_plain-status.ensures.sink_count; desk_count = c.serve_plain-status.ensures.desk_count; asks = c.serve_plain-status.ensures.asks })
