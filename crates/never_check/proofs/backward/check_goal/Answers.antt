use Rattle.std.proofs.Common.{◌∙◌, sym}
use Rattle.never_check.proofs.Grown.{when_true, when_false}
use Rattle.never_check.proofs.Forwarding.{goal_lits_below}
use Rattle.never_check.proofs.Least.{begun_told}
use Rattle.never_check.proofs.Stepping.{goal_never, goals_told}
use Rattle.never_check.proofs.backward.check_goal.Goals as goal

pub refutes-requires-clause-lits : goal.refutes-requires-clause-lits
refutes-requires-clause-lits c = goal_lits_below c.args.given.now.task.now c.requires.given.lawful c.args.trail.now.facts c.goal.result.now (c.requires.base.facts ∙ c.requires.given.facts) c.goal.ensures

pub returns-then-branch-clause-told : goal.returns-then-branch-clause-told
returns-then-branch-clause-told c =
    let rules = c.args.plain.now in
    let task = c.args.given.now.task.now in
    let told = begun_told rules task.goal c.goal.result.now c.in_ok-refutes.field-0 c.args.trail.now c.refutes.new.trail c.requires.base c.in_ok-refutes.ensures.facts c.goal.ensures c.in_ok-refutes.ensures.told in
    goal_never task rules c.requires.given.none c.args.given.now.clauses.now (when_true c.in_ok-refutes.field-0 _ c.if-branch.true told)

pub first_open-requires-clause-goal : goal.first_open-requires-clause-goal
first_open-requires-clause-goal c =
    let rules = c.args.plain.now in
    let told = begun_told rules c.args.given.now.task.now.goal c.goal.result.now c.in_ok-refutes.field-0 c.args.trail.now c.refutes.new.trail c.requires.base c.in_ok-refutes.ensures.facts c.goal.ensures c.in_ok-refutes.ensures.told in
    when_false c.in_ok-refutes.field-0 _ c.if-branch.false told

pub returns-clause-told : goal.returns-clause-told
returns-clause-told c = goals_told c.args.given.now.task.now c.args.plain.now c.requires.given.none c.args.given.now.clauses.now (sym c.hopeless.ensures ∙ c.if-hopeless.false) c.in_ok-open.open c.in_ok-open.ensures.told
