use Rattle.std.proofs.Common.{◌∙◌, ◌*◌, ℕ, sym, subst, refl}
use Rattle.never_check.specs.WeightsVerdicts.{AreSummed}
use Rattle.never_check.proofs.Grown.{when_true, when_false}
use Rattle.never_check.proofs.Least.{begun_told}
use Rattle.never_check.proofs.Weighing.{le_told, lasts, rises, never_able}
use Rattle.never_check.proofs.weights.passes.Goals as goal

pub returns-then-branch-clause-told : goal.returns-then-branch-clause-told
returns-then-branch-clause-told c =
    let rules = c.args.rules.now in
    let x = c.args.act.now in
    let told = begun_told rules x.precondition c.pre.result.now c.in_ok-refutes.field-0 c.args.trail.now c.refutes.new.trail c.requires.weighing.base c.in_ok-refutes.ensures.facts c.pre.ensures c.in_ok-refutes.ensures.told in
    never_able rules c.requires.weighing.none c.args.weights.now x (when_true c.in_ok-refutes.field-0 _ c.if-branch.true told)

pub moved-sums-requires-clause-weights : goal.moved-sums-requires-clause-weights
moved-sums-requires-clause-weights c = subst (λ (k : ℕ). AreSummed (2 * k) c.args.weights.now) (sym (c.in_ok-refutes.ensures.facts ∙ c.requires.weighing.base.facts)) c.requires.weighing.weights

pub returns-clause-told : goal.returns-clause-told
returns-clause-told c =
    let rules = c.args.rules.now in
    let x = c.args.act.now in
    let told = begun_told rules x.precondition c.pre.result.now c.in_ok-refutes.field-0 c.args.trail.now c.refutes.new.trail c.requires.weighing.base c.in_ok-refutes.ensures.facts c.pre.ensures c.in_ok-refutes.ensures.told in
    let least = when_false c.in_ok-refutes.field-0 _ c.if-branch.false told in
    let weights = c.args.weights.now in
    le_told c.moved-sums.result.0 c.moved-sums.result.1
    (λ le. lasts rules c.requires.weighing.none weights x c.refutes.new.trail least (rw (sym c.moved-sums.ensures.coming, sym c.moved-sums.ensures.going) le))
    (λ nay. rises rules c.requires.weighing.none weights x c.refutes.new.trail least (λ le. nay (rw (c.moved-sums.ensures.coming, c.moved-sums.ensures.going) le))) _ refl
