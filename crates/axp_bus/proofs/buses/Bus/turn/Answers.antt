use Rattle.std.proofs.Common.{◌≡◌, ◌+◌, ◌<◌, ◌≤◌, ◌%◌, ◌*◌, Bool, List, length, get_or, subst, sym, ap, ◌∙◌, arith}
use Rattle.std.proofs.lemmas.List.{length-append, with_items_is}
use Rattle.axp_base.specs.Cpus.{cpu_number}
use Rattle.axp_base.specs.declared.lines.TheConstants.{LINE_BYTES}
use Rattle.axp_base.specs.declared.parts.TheConstants.{QUADWORD_BYTES}
use Rattle.axp_base.specs.declared.processors.TheConstants.{MAX_CPUS}
use Rattle.axp_line.specs.BusCalls.{memory, write_made}
use Rattle.axp_bus.specs.Buses.{State, AreTidy, MayAsk, NotedAll}
use Rattle.axp_bus.specs.Marks.{Marked}
use Rattle.axp_bus.specs.BusParts.{state_of}
use Rattle.axp_bus.specs.BusStands.{Stands}
use Rattle.axp_bus.proofs.BusCallLemmas.{reply_is, stands_after}
use Rattle.axp_bus.proofs.QueueLemmas.{after_within, printed_few, tidy_step}
use Rattle.axp_bus.proofs.buses.Bus.turn.Goals as goal

pub write_down-requires-clause-asks : goal.write_down-requires-clause-asks
write_down-requires-clause-asks c =
    let asks = subst (λ (s : State). MayAsk (length s.memory) (length s.ports) c.args.request.now) (sym c.self.view_is) c.requires.asks in
    (length c.self.inside.ports.items, asks)

pub mark_down-requires-clause-asks : goal.mark_down-requires-clause-asks
mark_down-requires-clause-asks c =
    let b = c.self.inside in
    let asks = subst (λ (s : State). MayAsk (length s.memory) (length s.ports) c.args.request.now) (sym c.self.view_is) c.requires.asks in
    let size : length c.as_mut_slice-2.result.now * QUADWORD_BYTES ≡ length b.memory = ap (λ (marks : List Bool). length marks * QUADWORD_BYTES) c.as_mut_slice-2.ensures.value ∙ c.self.invariant.marks in
    (length b.ports.items, subst (λ n. MayAsk n (length b.ports.items) c.args.request.now) (sym size) asks)

pub invariant_of-self : goal.invariant_of-self
invariant_of-self c =
    let b = c.self.inside in
    let less : b.turns < b.room = subst (λ (s : State). s.turns < s.room) (sym c.self.view_is) c.requires.turns in
    let fewer : length b.printed.items < b.room = subst (λ (s : State). length s.printed < s.room) (sym c.self.view_is) c.requires.printed in
    let size : length c.note_all.new.ports ≡ length b.ports.items = c.note_all.ensures.size ∙ ap length c.as_mut_slice.ensures.value in
    let items = with_items_is b.ports c.note_all.new.ports (omega (arith, size, b.ports.ok.0)) in
    let noted = subst (λ old. NotedAll (cpu_number c.args.cpu) (b.turns + 1) c.args.request.now c.reply_at-reply.result old c.note_all.new.ports) c.as_mut_slice.ensures.value c.note_all.ensures.noted in
    let marks : length c.mark_down.new.marks ≡ length b.touched.items = c.mark_down.ensures.size ∙ ap length c.as_mut_slice-2.ensures.value in
    let touched = with_items_is b.touched c.mark_down.new.marks (omega (arith, marks, b.touched.ok.0)) in
    record {
      marks = ap (λ (ts : List Bool). length ts * QUADWORD_BYTES) touched ∙ ap (λ n. n * QUADWORD_BYTES) marks ∙ c.self.invariant.marks ∙ sym c.write_down.ensures.size;
      memory = ap (λ n. n % LINE_BYTES) c.write_down.ensures.size ∙ c.self.invariant.memory;
      turns = subst (λ t. t ≤ b.room) (sym c.turns_after-self-inside.ensures) (after_within b.turns b.room c.reply_at-reply.result less);
      small = c.self.invariant.small;
      cpus = subst (λ ls. length ls ≤ MAX_CPUS) (sym items) (omega (arith, size, c.self.invariant.cpus));
      ports = subst (λ ls. AreTidy c.turns_after-self-inside.result b.room ls) (sym items)
          (tidy_step b.turns c.turns_after-self-inside.result b.room (cpu_number c.args.cpu) c.args.request.now c.reply_at-reply.result b.ports.items c.note_all.new.ports
          c.self.invariant.ports size noted c.turns_after-self-inside.ensures);
      printed = omega (arith, fewer, ap length c.print.ensures.bytes, length-append b.printed.items (Rattle.axp_line.specs.BusCalls.printed_by c.args.request.now), printed_few c.args.request.now);
      space = subst (λ n. b.room ≤ n) (sym c.print.ensures.space) c.self.invariant.space;
    }

pub returns-clause-stands : goal.returns-clause-stands
returns-clause-stands c = λ image calls stands.
    let b = c.self.inside in
    let was = subst (λ (s : State). Stands s image calls) (sym c.self.view_is) stands in
    let size : length c.note_all.new.ports ≡ length b.ports.items = c.note_all.ensures.size ∙ ap length c.as_mut_slice.ensures.value in
    let items = with_items_is b.ports c.note_all.new.ports (omega (arith, size, b.ports.ok.0)) in
    let noted = subst (λ old. NotedAll (cpu_number c.args.cpu) (b.turns + 1) c.args.request.now c.reply_at-reply.result old c.note_all.new.ports) c.as_mut_slice.ensures.value c.note_all.ensures.noted in
    let port = c.index-port.result.now in
    let number = c.from.ensures ∙ c.number.ensures.value in
    let here = subst (λ n. port ≡ get_or b.ports.items n port) number c.index-port.ensures in
    let below = subst (λ (s : State). cpu_number c.args.cpu < length s.ports) (sym c.self.view_is) c.requires.cpu in
    let replied = c.reply_at-reply.ensures (memory image calls) was.memory ∙ reply_is (state_of b) image calls (cpu_number c.args.cpu) port c.args.request.now was below here in
    let marks : length c.mark_down.new.marks ≡ length b.touched.items = c.mark_down.ensures.size ∙ ap length c.as_mut_slice-2.ensures.value in
    let touched = with_items_is b.touched c.mark_down.new.marks (omega (arith, marks, b.touched.ok.0)) in
    let marked = subst (λ ts. Marked (write_made c.args.request.now c.reply_at-reply.result) b.touched.items ts) (sym touched)
    (subst (λ ts. Marked (write_made c.args.request.now c.reply_at-reply.result) ts c.mark_down.new.marks) c.as_mut_slice-2.ensures.value c.mark_down.ensures) in
    stands_after (state_of b) _ image calls c.args.cpu c.args.request.now c.reply_at-reply.result was replied (c.write_down.ensures.bytes (memory image calls) was.memory) marked c.turns_after-self-inside.ensures (subst (λ ls. NotedAll (cpu_number c.args.cpu) (b.turns + 1) c.args.request.now c.reply_at-reply.result b.ports.items ls) (sym items) noted) (ap length items ∙ size) c.print.ensures.bytes
