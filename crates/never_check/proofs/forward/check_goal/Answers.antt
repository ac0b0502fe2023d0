use Rattle.std.proofs.Common.{ℕ, List, ◌∙◌, ◌*◌, sym, subst}
use Rattle.std.specs.Prelude.{MatchBool}
use Rattle.gt_core.specs.Literal.{is_in}
use Rattle.never_check.specs.Follow.{HasAll, AreBelow, IsGrown, IsContradiction}
use Rattle.never_check.specs.Rules.{ObeysWith, AreFollowed}
use Rattle.never_check.proofs.Grown.{either_way}
use Rattle.never_check.proofs.Forwarding.{goal_passes, goal_fails, goal_below}
use Rattle.never_check.proofs.forward.check_goal.Goals as goal

pub refutes-requires-clause-lits : goal.refutes-requires-clause-lits
refutes-requires-clause-lits c =
    let task = c.args.task.now in
    subst (λ (ls : List ℕ). AreBelow (2 * c.args.trail.now.facts) ls) (sym c.goal.ensures) (subst (λ (k : ℕ). AreBelow (2 * k) task.goal) (sym (c.requires.base.facts ∙ c.requires.facts)) (goal_below task c.requires.lawful))

pub returns-clause-told : goal.returns-clause-told
returns-clause-told c =
    let task = c.args.task.now in
    let rules = c.args.rules.now in
    let told = subst (λ (ls : List ℕ). MatchBool c.in_ok-refuted.refuted (IsContradiction (ObeysWith rules ls) c.args.trail.now.literals) (IsGrown (ObeysWith rules ls) c.args.trail.now.literals c.refutes.new.trail.literals × AreFollowed rules c.refutes.new.trail.literals c.refutes.new.trail.literals × HasAll (is_in c.refutes.new.trail.literals) ls)) c.goal.ensures c.in_ok-refuted.ensures.told in
    either_way c.in_ok-refuted.refuted (goal_passes task rules c.args.trail.now c.requires.base) (goal_fails task rules c.args.trail.now c.requires.base c.refutes.new.trail.literals (sym c.hopeless.ensures ∙ c.if-hopeless.false)) told
