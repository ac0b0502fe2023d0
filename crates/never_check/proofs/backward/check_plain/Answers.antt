use Rattle.std.proofs.Common.{sym, subst}
use Rattle.never_check.specs.Trail.{Reached}
use Rattle.never_check.specs.Verdicts.{IsBase}
use Rattle.never_check.proofs.Grown.{none_at, some_at}
use Rattle.never_check.proofs.Least.{went_back}
use Rattle.never_check.proofs.Stepping.{all_backward}
use Rattle.never_check.proofs.backward.check_plain.Goals as goal

pub returns-in_default : goal.returns-in_default
returns-in_default c = all_backward c.args.given.now.task.now c.args.plain.now c.requires.given.none c.args.given.now.clauses.now (none_at _ _ c.in_default.is c.in_ok-trail.ensures) c.requires.initial

pub check_goal-requires-clause-base : goal.check_goal-requires-clause-base
check_goal-requires-clause-base c = some_at _ _ _ c.in-Some.trail c.in-Some.is c.in_ok-trail.ensures

pub check_steps-requires-clause-base : goal.check_steps-requires-clause-base
check_steps-requires-clause-base c =
    subst (λ (r : Reached). IsBase c.args.plain.now r)
    (sym (went_back c.in-Some.trail c.check_goal.new.trail c.go_back.new.self c.len-from.result c.go_back.ensures c.in_ok-open.ensures.facts c.len-from.ensures.is c.in_ok-open.ensures.front))
    (some_at _ _ _ c.in-Some.trail c.in-Some.is c.in_ok-trail.ensures)
