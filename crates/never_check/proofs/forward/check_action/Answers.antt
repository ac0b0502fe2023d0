use Rattle.std.proofs.Common.{List, ℕ, subst}
use Rattle.gt_core.specs.Literal.{is_in}
use Rattle.never_check.specs.Follow.{HasAll, IsGrown, IsContradiction}
use Rattle.never_check.specs.Rules.{ObeysWith, AreFollowed}
use Rattle.never_check.proofs.Grown.{when_true, when_false}
use Rattle.never_check.proofs.Forwarding.{never_runs, now_least}
use Rattle.never_check.proofs.forward.check_action.Goals as goal

pub returns-then-branch-clause-told : goal.returns-then-branch-clause-told
returns-then-branch-clause-told c =
    let rules = c.args.trial.now.rules.now in
    never_runs c.args.trial.now.rules.now c.args.trail.now c.requires.base c.args.trial.now.act.now
    (subst (λ (ls : List ℕ). IsContradiction (ObeysWith rules ls) c.args.trail.now.literals) c.pre.ensures (when_true c.in_ok-refutes.field-0 _ c.if-branch.true c.in_ok-refutes.ensures.told))

pub check_effects-requires : goal.check_effects-requires
check_effects-requires c =
    let rules = c.args.trial.now.rules.now in
    let new = c.refutes.new.trail.literals in
    record {
      trial = c.requires.trial;
      least =
          now_least rules c.args.trail.now c.requires.base c.args.trial.now.act.now.precondition c.refutes.new.trail c.in_ok-refutes.ensures.facts
          (subst (λ (ls : List ℕ). IsGrown (ObeysWith rules ls) c.args.trail.now.literals new × AreFollowed rules new new × HasAll (is_in new) ls) c.pre.ensures (when_false c.in_ok-refutes.field-0 _ c.if-branch.false c.in_ok-refutes.ensures.told));
    }
