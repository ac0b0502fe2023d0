use Rattle.std.proofs.Common.{◌∙◌, ap}
use Rattle.never_check.specs.Trail.{Reached}
use Rattle.never_check.proofs.Grown.{when_true, when_false}
use Rattle.never_check.proofs.Forwarding.{begun_base}
use Rattle.never_check.proofs.begin.begun.Goals as goal

pub returns-then-branch : goal.returns-then-branch
returns-then-branch c = when_true c.in_ok-begin.field-0 _ c.if-branch.true c.in_ok-begin.ensures.told

pub returns : goal.returns
returns c =
    let facts = c.in_ok-begin.ensures.facts ∙ ap (λ (r : Reached). r.facts) c.in_ok-trail.ensures ∙ c.facts.ensures in
    begun_base c.args.rules.now c.begin.new.trail facts (when_false c.in_ok-begin.field-0 _ c.if-branch.false c.in_ok-begin.ensures.told)
