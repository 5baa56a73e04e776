use Rattle.axp_bus.proofs.replies.tried_reply.Goals as goal

pub returns-then-succeeds : goal.returns-then-succeeds
returns-then-succeeds c = λ m port agrees. rw c.if-succeeds.true (c.stored_reply.ensures m port agrees)
