use Rattle.std.proofs.Common.{◌+◌, length, arith, sym, ap, refl, ◌∙◌}
use Rattle.axp_trace.specs.Files.{lines_of}
use Rattle.axp_history.specs.Traces.{tail_fault}
use Rattle.axp_history.proofs.TailLemmas.{at_end, ends_well, goes_on, no_more, no_tail, one_too_many}
use Rattle.axp_history.proofs.tails.tail_fault.Goals as goal

pub returns-then-not-is_tail_line : goal.returns-then-not-is_tail_line
returns-then-not-is_tail_line c =
    sym (c.loop-line.invariant.same ∙ ap (tail_fault c.args.header.now c.loop-line.number) c.in-Some.ensures.lines
    ∙ no_tail c.args.header.now c.loop-line.number c.in-Some.line.now (lines_of c.in-Some.more.now) c.is_tail_line.result c.is_tail_line.ensures c.if-not-is_tail_line.true)

pub returns-then-is_empty : goal.returns-then-is_empty
returns-then-is_empty c =
    sym (c.loop-line.invariant.same ∙ ap (tail_fault c.args.header.now c.loop-line.number) c.in-Some.ensures.lines
    ∙ at_end c.args.header.now c.loop-line.number c.in-Some.line.now (lines_of c.in-Some.more.now) c.is_tail_line.result c.is_end_line.result c.is_tail_line.ensures c.if-not-is_tail_line.false c.is_end_line.ensures c.if-is_end_line.true
    ∙ ends_well (c.loop-line.number + 1) c.in-Some.more.now c.is_empty.result c.if-is_empty.true c.is_empty.ensures)

pub returns-else-is_empty : goal.returns-else-is_empty
returns-else-is_empty c =
    sym (c.loop-line.invariant.same ∙ ap (tail_fault c.args.header.now c.loop-line.number) c.in-Some.ensures.lines
    ∙ at_end c.args.header.now c.loop-line.number c.in-Some.line.now (lines_of c.in-Some.more.now) c.is_tail_line.result c.is_end_line.result c.is_tail_line.ensures c.if-not-is_tail_line.false c.is_end_line.ensures c.if-is_end_line.true
    ∙ one_too_many (c.loop-line.number + 1) c.in-Some.more.now c.is_empty.result c.if-is_empty.false c.is_empty.ensures)

pub loop-line-preserved : goal.loop-line-preserved
loop-line-preserved c = record {
  same = c.loop-line.invariant.same ∙ ap (tail_fault c.args.header.now c.loop-line.number) c.in-Some.ensures.lines
      ∙ goes_on c.args.header.now c.loop-line.number c.in-Some.line.now (lines_of c.in-Some.more.now) c.is_tail_line.result c.is_end_line.result c.is_tail_line.ensures c.if-not-is_tail_line.false c.is_end_line.ensures c.if-is_end_line.false;
  within = let so_far = c.loop-line.invariant.within in let less = c.in-Some.ensures.shorter in omega (arith, so_far, less);
}

pub returns : goal.returns
returns c = sym (c.loop-line.invariant.same ∙ no_more c.args.header.now c.loop-line.number (length c.loop-line.rest.now) (lines_of c.loop-line.rest.now) (c.in_default.ensures.last refl))
