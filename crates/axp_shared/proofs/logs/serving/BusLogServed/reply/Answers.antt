use Rattle.std.proofs.Common.{rules, refl, ap, ◌∙◌, length, reverse}
use Rattle.axp_shared.specs.Answers.{IsBusAnswer, start_memory, start_of}
use Rattle.axp_shared.proofs.LogSteps.{turns_left, bytes_left, stands_longer, right_longer}
use Rattle.axp_shared.proofs.logs.serving.BusLogServed.reply.Goals as goal

pub turn-answer-requires-clause-turns : goal.turn-answer-requires-clause-turns
turn-answer-requires-clause-turns c =
    let log = c.args.self.now in turns_left _ _ log.calls.items _ log.stands (search rules)

pub turn-answer-requires-clause-printed : goal.turn-answer-requires-clause-printed
turn-answer-requires-clause-printed c =
    let log = c.args.self.now in bytes_left _ _ log.calls.items _ log.stands (search rules)

pub invariant_of-self : goal.invariant_of-self
invariant_of-self c =
    let old = c.args.self.now in
    let turned = c.turn-answer.ensures in
    let start = start_of old.image.value (length old.bus.ports) in
    let image = start_memory start in
    let before = reverse old.calls.items in
    let longer = ap (λ calls. calls.items) c.push.ensures in
    let answered : IsBusAnswer start old.calls.items _ _ _ = record {
      reply = turned.reply image before old.stands;
      small = search rules;
    } in record {
      few = search rules;
      size = turned.size ∙ old.size;
      room = search rules;
      small = search rules;
      stands = stands_longer _ image _ _ _ longer (turned.stands image before old.stands);
      right = right_longer _ _ _ _ _ _ turned.cpus longer old.right answered;
    }

pub returns-clause-calls : goal.returns-clause-calls
returns-clause-calls c = (_, (search rules, refl, refl), ap (λ calls. calls.items) c.push.ensures)
