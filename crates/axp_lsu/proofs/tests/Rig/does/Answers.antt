use Rattle.std.proofs.Common.{◌^◌, arith, rules}
use Rattle.axp_lsu.specs.Within.{IsWantedWithin}
use Rattle.axp_lsu.proofs.tests.Rig.does.Goals as goal

pub advance-requires-clause-few_made : goal.advance-requires-clause-few_made
advance-requires-clause-few_made c = let few = c.self.invariant.1 in omega arith

pub invariant_of-self : goal.invariant_of-self
invariant_of-self c =
    let wanted : IsWantedWithin (2 ^ 16) c.args.intent.now.wanted = search rules in
    (c.advance.ensures.within (2 ^ 16) c.self.invariant.0 wanted, omega (arith, c.self.invariant.1, c.advance.ensures.one_more))
