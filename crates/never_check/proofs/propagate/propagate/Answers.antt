use Rattle.std.proofs.Common.{arith, ◌∙◌}
use Rattle.never_check.specs.Rules.{ObeysRules}
use Rattle.never_check.proofs.Grown.{when_true, when_false, grown_then, contradiction_then, front_long}
use Rattle.never_check.proofs.propagate.propagate.Goals as goal

pub returns-then-branch-clause-told : goal.returns-then-branch-clause-told
returns-then-branch-clause-told c =
    contradiction_then (ObeysRules c.args.rules.now) c.args.trail.now.literals c.follow.trail.literals c.follow.invariant.grown (when_true c.in_ok-follow.field-0 _ c.if-branch.true c.in_ok-follow.ensures.told)

pub follow-preserved : goal.follow-preserved
follow-preserved c =
    let told = when_false c.in_ok-follow.field-0 _ c.if-branch.false c.in_ok-follow.ensures.told in
    record {
      facts = c.in_ok-follow.ensures.facts ∙ c.follow.invariant.facts;
      within = let long = front_long c.follow.trail.literals c.follow-in-follow.new.trail.literals told.0.front in let t = c.follow-test.true in let is = c.len.ensures.is in omega (arith, long, t, is);
      grown = grown_then (ObeysRules c.args.rules.now) c.args.trail.now.literals c.follow.trail.literals c.follow-in-follow.new.trail.literals c.follow.invariant.grown told.0;
      followed = told.1;
    }
