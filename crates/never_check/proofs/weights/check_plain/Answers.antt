use Rattle.std.proofs.Common.{sym, subst}
use Rattle.never_check.specs.Trail.{Reached}
use Rattle.never_check.specs.WeightsVerdicts.{IsWeighing}
use Rattle.never_check.proofs.Grown.{some_at}
use Rattle.never_check.proofs.Least.{went_back}
use Rattle.never_check.proofs.weights.check_plain.Goals as goal

pub goal_passes-requires-clause-weighing : goal.goal_passes-requires-clause-weighing
goal_passes-requires-clause-weighing c = record {
  rules = c.requires.rules;
  none = c.requires.none;
  weights = c.requires.weights;
  base = some_at _ _ _ c.in-Some.trail c.in-Some.is c.in_ok-trail.ensures;
}

pub first_raising-requires-clause-weighing : goal.first_raising-requires-clause-weighing
first_raising-requires-clause-weighing c =
    let weighing : IsWeighing c.args.plain.now c.args.weights.now c.in-Some.trail =
    record { rules = c.requires.rules; none = c.requires.none; weights = c.requires.weights; base = some_at _ _ _ c.in-Some.trail c.in-Some.is c.in_ok-trail.ensures }
    in
    subst (λ (r : Reached). IsWeighing c.args.plain.now c.args.weights.now r)
    (sym (went_back c.in-Some.trail c.goal_passes.new.trail c.go_back.new.self c.len-from.result c.go_back.ensures c.in_ok-goal_passes.ensures.facts c.len-from.ensures.is c.in_ok-goal_passes.ensures.front)) weighing
