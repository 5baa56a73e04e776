use Rattle.std.proofs.Common.{refl}
use Rattle.axp_top.proofs.PrintingLemmas.{exits}
use Rattle.axp_seed.proofs.WalkLemmas.{walk_left, walk_smaller}
use Rattle.axp_top.proofs.SeededLemmas.{seeds_first, seeds_on, seeds_printed, seeds_stop}
use Rattle.axp_top.proofs.seeds.print_records.Goals as goal

pub loop-record-init : goal.loop-record-init
loop-record-init g c = seeds_first _ c.args.run.now c.requires.start

pub loop-record-smaller : goal.loop-record-smaller
loop-record-smaller g c =
    walk_smaller c.args.run.now c.loop-record.run c.next.new.self c.in-Some.record c.loop-record.invariant.walk c.in-Some.ensures.record c.next.ensures.after c.in-Some.ensures.run c.next.ensures.few

pub loop-record-preserved : goal.loop-record-preserved
loop-record-preserved g c =
    seeds_on _ _ _ c.args.run.now c.loop-record.run c.next.new.self c.in-Some.record c.write_event.result.items c.loop-record.invariant c.in-Some.ensures.record c.next.ensures.after c.in-Some.ensures.run c.next.ensures.few
    c.write_event.ensures.text c.in_ok-print_line.ensures

pub returns-in_err-print_line-clause-printed : goal.returns-in_err-print_line-clause-printed
returns-in_err-print_line-clause-printed g c =
    exits _ _ _ c.from_residual.result c.in_err-print_line.field-0.0 c.from_residual.ensures.1
    (seeds_stop _ _ _ c.args.run.now c.loop-record.run c.next.new.self c.in-Some.record c.write_event.result.items c.in_err-print_line.field-0.0 c.loop-record.invariant c.in-Some.ensures.record c.next.ensures.after c.in-Some.ensures.run c.next.ensures.few
    c.write_event.ensures.text c.in_err-print_line.ensures)

pub returns-clause-printed : goal.returns-clause-printed
returns-clause-printed g c = seeds_printed _ _ c.args.run.now c.loop-record.run c.loop-record.invariant (c.in_default.ensures.end.0 refl)

pub returns-clause-end : goal.returns-clause-end
returns-clause-end g c = walk_left c.args.run.now c.loop-record.run c.next.new.self c.loop-record.invariant.walk (c.in_default.ensures.end.0 refl) c.next.ensures.after
