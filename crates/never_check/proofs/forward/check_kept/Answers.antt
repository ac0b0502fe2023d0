use Rattle.std.proofs.Common.{sym, subst}
use Rattle.never_check.specs.Trail.{Reached}
use Rattle.never_check.specs.Verdicts.{IsBase}
use Rattle.never_check.specs.declared.rules.Rules.{Rules}
use Rattle.never_check.proofs.Grown.{when_true, none_at, some_at}
use Rattle.never_check.proofs.Forwarding.{all_passes}
use Rattle.never_check.proofs.forward.check_kept.Goals as goal

pub returns-in_default : goal.returns-in_default
returns-in_default c =
    let rules : Rules = record { known = c.args.given.now.known; clauses = c.args.given.now.clauses; uses = c.deref.result } in
    all_passes c.args.given.now.task.now rules (none_at _ _ c.in_default.is c.in_ok-trail.ensures) c.requires.initial

pub check_goal-requires-clause-base : goal.check_goal-requires-clause-base
check_goal-requires-clause-base c = some_at _ _ _ c.in-Some.trail c.in-Some.is c.in_ok-trail.ensures

pub check_actions-requires-clause-base : goal.check_actions-requires-clause-base
check_actions-requires-clause-base c =
    let rules : Rules = record { known = c.args.given.now.known; clauses = c.args.given.now.clauses; uses = c.deref.result } in
    subst (λ (r : Reached). IsBase rules r) (sym c.in_ok-check_goal.ensures.kept) (some_at _ _ _ c.in-Some.trail c.in-Some.is c.in_ok-trail.ensures)

pub returns-in-None : goal.returns-in-None
returns-in-None c =
    let told = none_at _ c.in_ok-check_actions.field-0 c.in-None.is c.in_ok-check_actions.ensures in
    record {
      initial = c.requires.initial;
      goal = when_true c.in_ok-check_goal.field-0 _ c.if-not-branch.false c.in_ok-check_goal.ensures.told;
      next = λ a lt. told a lt;
    }
