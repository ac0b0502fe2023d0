use Rattle.std.proofs.Common.{◌∙◌, ◌*◌, ℕ, sym, subst, refl}
use Rattle.never_check.specs.WeightsVerdicts.{AreSummed}
use Rattle.never_check.proofs.Grown.{when_true, when_false}
use Rattle.never_check.proofs.Forwarding.{goal_lits_below}
use Rattle.never_check.proofs.Least.{begun_told}
use Rattle.never_check.proofs.Weighing.{lt_told, greater, not_greater, never_there}
use Rattle.never_check.proofs.weights.goal_passes.Goals as goal

pub refutes-requires-clause-lits : goal.refutes-requires-clause-lits
refutes-requires-clause-lits c = goal_lits_below c.args.task.now c.requires.lawful c.args.trail.now.facts c.goal.result.now (c.requires.weighing.base.facts ∙ c.requires.facts) c.goal.ensures

pub returns-then-branch-clause-told : goal.returns-then-branch-clause-told
returns-then-branch-clause-told c =
    let rules = c.args.rules.now in
    let task = c.args.task.now in
    let told = begun_told rules task.goal c.goal.result.now c.in_ok-refutes.field-0 c.args.trail.now c.refutes.new.trail c.requires.weighing.base c.in_ok-refutes.ensures.facts c.goal.ensures c.in_ok-refutes.ensures.told in
    never_there rules c.requires.weighing.none c.args.weights.now task (when_true c.in_ok-refutes.field-0 _ c.if-branch.true told)

pub compared-sums-requires-clause-facts : goal.compared-sums-requires-clause-facts
compared-sums-requires-clause-facts c = c.in_ok-refutes.ensures.facts ∙ c.requires.weighing.base.facts ∙ c.requires.facts

pub compared-sums-requires-clause-weights : goal.compared-sums-requires-clause-weights
compared-sums-requires-clause-weights c = subst (λ (k : ℕ). AreSummed (2 * k) c.args.weights.now) c.requires.facts c.requires.weighing.weights

pub returns-clause-told : goal.returns-clause-told
returns-clause-told c =
    let rules = c.args.rules.now in
    let task = c.args.task.now in
    let told = begun_told rules task.goal c.goal.result.now c.in_ok-refutes.field-0 c.args.trail.now c.refutes.new.trail c.requires.weighing.base c.in_ok-refutes.ensures.facts c.goal.ensures c.in_ok-refutes.ensures.told in
    let least = when_false c.in_ok-refutes.field-0 _ c.if-branch.false told in
    let weights = c.args.weights.now in
    lt_told c.compared-sums.result.0 c.compared-sums.result.1
    (λ lt. greater rules c.requires.weighing.none weights task c.refutes.new.trail least (rw (sym c.compared-sums.ensures.initial, sym c.compared-sums.ensures.reached) lt))
    (λ nay. not_greater rules c.requires.weighing.none weights task c.refutes.new.trail least (sym c.hopeless.ensures ∙ c.if-hopeless.false) (λ lt. nay (rw (c.compared-sums.ensures.initial, c.compared-sums.ensures.reached) lt))) _ refl
