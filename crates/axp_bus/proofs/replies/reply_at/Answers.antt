use Rattle.std.proofs.Common.{Some, refl, ap₂, ◌∙◌}
use Rattle.axp_line.specs.BusReply.{reply_by, conditional_reply}
use Rattle.axp_bus.specs.Buses.{port_state_of}
use Rattle.axp_bus.proofs.replies.reply_at.Goals as goal

pub returns-in-Fill : goal.returns-in-Fill
unfolding reply_by
returns-in-Fill c = λ m agrees. rw c.in-Fill.is (c.line_reply.ensures m c.args.port.now agrees)

pub returns-in-FillCode : goal.returns-in-FillCode
unfolding reply_by
returns-in-FillCode c = λ m agrees. rw c.in-FillCode.is (c.line_reply-in-FillCode.ensures m c.args.port.now agrees)

pub returns-in-Drain : goal.returns-in-Drain
unfolding reply_by
returns-in-Drain c = λ m agrees. rw c.in-Drain.is (c.stored_reply.ensures m c.args.port.now agrees)

pub returns-in-Locked : goal.returns-in-Locked
unfolding reply_by
returns-in-Locked c = λ m agrees.
    c.line_reply-in-Locked.ensures m c.args.port.now agrees ∙ rw (c.in-Locked.is, c.of.ensures.line) refl

pub returns-in-Conditional : goal.returns-in-Conditional
unfolding reply_by
returns-in-Conditional c = λ m agrees.
    let f = port_state_of m c.args.turns c.args.port.now in
    c.tried_reply.ensures m c.args.port.now agrees
    ∙ ap₂ (λ w l. conditional_reply c.succeeds.result f (Some w) l) c.conditional_write-write.ensures.value c.conditional_write-write.ensures.line
    ∙ rw (c.in-Conditional.is, c.succeeds.ensures) refl
