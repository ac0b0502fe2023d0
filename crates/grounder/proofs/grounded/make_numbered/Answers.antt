use Rattle.std.proofs.Common.{arith, ◌≡◌, ◌∙◌, refl, ap, sym, subst, length}
use Rattle.std.specs.List.{list_all}
use Rattle.grounding_defs.specs.Instance.{instance_of}
use Rattle.grounding_defs.specs.Found.{may_be_true, actions_of, grounded_by}
use Rattle.grounding_defs.specs.Simplify.{task_of}
use Rattle.grounding_defs.specs.Tuples.{saturated}
use Rattle.gt_core.specs.Lawful.{conditional_in}
use Rattle.grounder.specs.own.Few.{HaveFew}
use Rattle.grounder.proofs.Few.{kept_few, left_few}
use Rattle.grounder.proofs.Saturated.{few_saturated, many_saturated}
use Rattle.grounder.proofs.Assembled.{found_is, found_sorted, with_task, few_actions}
use Rattle.grounder.proofs.grounded.make_numbered.Goals as goal
use Rattle.gt_core.specs.Limits.{most_conditional}

pub known_of-requires-clause-sorted : goal.known_of-requires-clause-sorted
known_of-requires-clause-sorted c = found_sorted c.laws.ensures.least_is_grounded c.args.domains.now c.args.facts.now c.args.kept c.requires.found

pub acts_of-requires-clause-few : goal.acts_of-requires-clause-few
acts_of-requires-clause-few c =
    let of_task = c.in_ok-known.ensures.domains in
    let p = c.args.domains.now in
    let kept = c.args.kept in
    let few = kept_few p kept c.requires.tuples (λ d h. (c.requires.found.least.calls d).0 h) in
    rw of_task (subst (HaveFew p) (sym (c.as_slice.ensures ∙ rw of_task at c.in_ok-calls.ensures)) (left_few p (λ d. list_all (may_be_true p c.in_ok-known.known.facts) (instance_of p d).precondition) kept few))

pub task_of-requires-clause-task : goal.task_of-requires-clause-task
task_of-requires-clause-task c =
    let of_task = c.in_ok-known.ensures.domains in
    let is = found_is c.laws.ensures.least_is_grounded c.args.domains.now c.in_ok-known.known.domains.now c.args.facts.now c.in_ok-known.known.facts c.args.kept c.in_ok-calls.calls of_task c.in_ok-known.ensures.facts c.requires.found c.in_ok-calls.ensures in
    let count : c.in_ok-counted.counted.conditional ≡ saturated (conditional_in (task_of c.args.domains.now c.in_ok-known.known.facts c.in_ok-calls.calls).actions) = rw (c.as_slice.ensures, of_task) at c.in_ok-counted.ensures.count in
    rw (of_task, c.as_slice-2.ensures) (c.laws.ensures.grounded_is_task c.args.domains.now (grounded_by c.args.domains.now c.in_ok-known.known.facts c.in_ok-calls.calls) is (record {
      tuples = c.requires.tuples;
      facts = omega (arith, c.requires.facts, ap length c.in_ok-known.ensures.facts);
      actions = few_actions c.in_ok-known.known.domains.now c.in_ok-known.known.facts c.args.kept c.in_ok-calls.calls c.in_ok-calls.ensures (omega (arith, c.count_actions-count.ensures));
      effects = few_saturated most_conditional _ _ (omega arith) count c.if-count-gt-MOST_CONDITIONAL.false;
    }))

pub task_of-requires-clause-acts : goal.task_of-requires-clause-acts
task_of-requires-clause-acts c =
    rw c.as_slice-2.ensures (c.of.ensures ∙ rw c.as_slice.ensures at c.in_ok-counted.ensures.acts_are (omega (arith, c.if-count-gt-MOST_CONDITIONAL.false)))

pub returns-then-count-gt-MOST_CONDITIONAL-clause-effects : goal.returns-then-count-gt-MOST_CONDITIONAL-clause-effects
returns-then-count-gt-MOST_CONDITIONAL-clause-effects c =
    let of_task = c.in_ok-known.ensures.domains in
    let is = found_is c.laws.ensures.least_is_grounded c.args.domains.now c.in_ok-known.known.domains.now c.args.facts.now c.in_ok-known.known.facts c.args.kept c.in_ok-calls.calls of_task c.in_ok-known.ensures.facts c.requires.found c.in_ok-calls.ensures in
    let count : c.in_ok-counted.counted.conditional ≡ saturated (conditional_in (task_of c.args.domains.now c.in_ok-known.known.facts c.in_ok-calls.calls).actions) = rw (c.as_slice.ensures, of_task) at c.in_ok-counted.ensures.count in
    λ n e. record {
      grounded = grounded_by c.args.domains.now c.in_ok-known.known.facts c.in_ok-calls.calls;
      is = is;
      tuples = c.requires.tuples;
      facts = omega (arith, c.requires.facts, ap length c.in_ok-known.ensures.facts);
      actions = few_actions c.in_ok-known.known.domains.now c.in_ok-known.known.facts c.args.kept c.in_ok-calls.calls c.in_ok-calls.ensures (omega (arith, c.count_actions-count.ensures));
      over = many_saturated most_conditional _ _ count c.if-count-gt-MOST_CONDITIONAL.true;
      count_is = (let same : n ≡ c.in_ok-counted.counted.conditional = cc in same ∙ count);
    }

pub returns-clause-grounded : goal.returns-clause-grounded
returns-clause-grounded c =
    let of_task = c.in_ok-known.ensures.domains in
    let is = found_is c.laws.ensures.least_is_grounded c.args.domains.now c.in_ok-known.known.domains.now c.args.facts.now c.in_ok-known.known.facts c.args.kept c.in_ok-calls.calls of_task c.in_ok-known.ensures.facts c.requires.found c.in_ok-calls.ensures in
    rw c.in_ok-known.ensures.facts at (with_task c.args.domains.now c.in_ok-known.known.facts c.in_ok-calls.calls c.in_ok-task.task is (rw (of_task, c.as_slice-2.ensures) at c.in_ok-task.ensures))

pub returns-then-count-gt-MOST_ACTIONS-clause-actions : goal.returns-then-count-gt-MOST_ACTIONS-clause-actions
returns-then-count-gt-MOST_ACTIONS-clause-actions c =
    let of_task = c.in_ok-known.ensures.domains in
    let calls = actions_of c.in_ok-known.known.domains.now c.in_ok-known.known.facts c.args.kept in
    λ n e. record {
      grounded = grounded_by c.args.domains.now c.in_ok-known.known.facts calls;
      is = found_is c.laws.ensures.least_is_grounded c.args.domains.now c.in_ok-known.known.domains.now c.args.facts.now c.in_ok-known.known.facts c.args.kept calls of_task c.in_ok-known.ensures.facts c.requires.found refl;
      tuples = c.requires.tuples;
      facts = omega (arith, c.requires.facts, ap length c.in_ok-known.ensures.facts);
      over = omega (arith, c.count_actions-count.ensures);
      count_is = (let same : n ≡ c.count_actions-count.result = cc in same ∙ c.count_actions-count.ensures);
    }
