use Rattle.std.proofs.Common.{ap, sym, ◌∙◌}
use Rattle.axp_cpu.specs.Rows.{arrived, arrived_by, arrived_in}
use Rattle.axp_cpu.proofs.sequencers.arrive.Goals as goal

pub end-requires : goal.end-requires
end-requires c = c.in-Ends.ensures.fits 0

pub returns-in-Ends : goal.returns-in-Ends
unfolding arrived
returns-in-Ends c = c.end.ensures ∙ ap (arrived_by c.args.table.now) (c.in-Ends.ensures.plan 0) ∙ ap (arrived_in c.args.size c.args.table.now) (sym c.in-Some.is)

pub returns-in_default-begin_entry : goal.returns-in_default-begin_entry
unfolding arrived
returns-in_default-begin_entry c = ap (arrived_by c.args.table.now) (c.in_default-begin_entry.ensures.plan 0) ∙ ap (arrived_in c.args.size c.args.table.now) (sym c.in-Some.is)
