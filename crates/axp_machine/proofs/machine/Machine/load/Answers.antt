use Rattle.std.proofs.Common.{◌*◌, [], sym, ◌∙◌, subst, ap}
use Rattle.axp_bus.specs.BusStands.{Stands}
use Rattle.axp_image.specs.Contents.{Contents, IsValid}
use Rattle.axp_machine.specs.declared.machine.Machine.TheInside.{Inside}
use Rattle.axp_machine.specs.Starts.{StartsAll}
use Rattle.axp_machine.proofs.ReaderLemmas.{ties_start}
use Rattle.axp_machine.proofs.machine.Machine.load.Goals as goal
use Rattle.axp_world.specs.declared.lengths.TheConstants.{EVENTS_PER_STEP}
use Rattle.axp_world.specs.Worlds.{image_bytes}

-- the fields at the start
abbrev now_inside : goal.In_ok-image → Inside
now_inside c = record { image = c.in_ok-image.image; processors = c.in_ok-processors.processors; bus = c.in_ok-bus.bus; budget = c.args.budget; records = c.in_ok-records.records }

pub invariant_of-result : goal.invariant_of-result
invariant_of-result c =
    let same = sym c.in_ok-image.ensures.value in
    let starts = subst (λ (image : Contents). StartsAll image c.args.cpus c.args.budget c.args.cpus c.in_ok-processors.processors.items) same c.in_ok-processors.ensures in
    let stands = subst (λ (image : Contents). Stands c.in_ok-bus.bus (image_bytes image) []) same c.in_ok-bus.ensures.stands in
    let size = c.in_ok-bus.ensures.size ∙ ap (λ (image : Contents). image.size) same in
    let most = ap (λ n. EVENTS_PER_STEP * n * c.args.budget) c.from.ensures in
    ties_start (now_inside c) c.args.cpus (subst IsValid same c.in_ok-image.ensures.valid) starts stands size c.in_ok-bus.ensures.cpus c.in_ok-records.ensures.items
    c.requires.least_cpus c.requires.most_cpus c.requires.least_budget c.requires.most_budget (c.in_ok-records.ensures.exact ∙ most) (c.in_ok-bus.ensures.room ∙ most)
