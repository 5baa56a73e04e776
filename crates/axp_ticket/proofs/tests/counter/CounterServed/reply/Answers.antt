use Rattle.std.proofs.Common.{rules, refl, sym, subst}
use Rattle.axp_call.proofs.Rightness.{each_right_append}
use Rattle.axp_ticket.specs.Counting.{CountRight}
use Rattle.axp_call.specs.Calls.{EachRight}
use Rattle.axp_ticket.proofs.tests.counter.CounterServed.reply.Goals as goal

pub invariant_of-self : goal.invariant_of-self
invariant_of-self c = record {
  right = subst (EachRight CountRight c.args.self.now.start) (sym c.push_reserved.ensures.items)
      (each_right_append CountRight c.args.self.now.start c.args.self.now.calls.items _
      c.args.self.now.right (search rules));
  roomy = search rules;
}

pub returns-clause-calls : goal.returns-clause-calls
returns-clause-calls c = (_, (search rules, refl, refl), c.push_reserved.ensures.items)
