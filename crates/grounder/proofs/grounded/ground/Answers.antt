use Rattle.std.proofs.Common.{arith, Ok, Err, Result}
use Rattle.std.specs.Prelude.{◌≤◌, IfOk}
use Rattle.grounding_defs.specs.Grounded.{Grounded}
use Rattle.grounding_defs.specs.Limits.{most_tuples}
use Rattle.grounding_defs.specs.Tuples.{tuples_in}
use Rattle.grounder.specs.declared.grounded.GroundError.{GroundError}
use Rattle.grounder.proofs.Saturated.{few_saturated}
use Rattle.schema_domains.proofs.published.Same as thinned
use Rattle.grounder.proofs.grounded.ground.Goals as goal
use Rattle.grounder.proofs.grounded.ground.Goals.{After-ground_over}

within_limit : (c : After-ground_over) → tuples_in c.args.p.now ≤ most_tuples
within_limit c = few_saturated most_tuples _ c.count_tuples-count.result (omega arith) c.count_tuples-count.ensures c.if-count-gt-MOST_TUPLES.false

if_ok : (r : Result Grounded GroundError) (P Q : Grounded → Type 0) → ((g : Grounded) → P g → Q g) → IfOk r P → IfOk r Q
if_ok (Ok g) P Q f h = f g h
if_ok (Err e) P Q f h = tt

pub ground_over-requires : goal.ground_over-requires
ground_over-requires c =
    let few : tuples_in c.args.p.now ≤ most_tuples = few_saturated most_tuples _ c.count_tuples-count.result (omega arith) c.count_tuples-count.ensures c.if-count-gt-MOST_TUPLES.false in
    let fewer = thinned.few_tuples c.args.p.now c.in_ok-domains.domains c.in_ok-domains.ensures in
    omega (arith, few, fewer)

pub returns-clause-grounded : goal.returns-clause-grounded
returns-clause-grounded c = if_ok c.ground_over.result _ _ (thinned.grounded c.args.p.now c.in_ok-domains.domains c.in_ok-domains.ensures (within_limit (goal.at.returns-clause-grounded c).After-ground_over)) c.ground_over.ensures.grounded

pub returns-clause-within : goal.returns-clause-within
returns-clause-within c = if_ok c.ground_over.result _ _ (thinned.within c.args.p.now c.in_ok-domains.domains c.in_ok-domains.ensures (within_limit (goal.at.returns-clause-within c).After-ground_over)) c.ground_over.ensures.within

pub returns-clause-tuples : goal.returns-clause-tuples
returns-clause-tuples c = λ n e.
    let few = within_limit (goal.at.returns-clause-tuples c).After-ground_over in
    let fewer = thinned.few_tuples c.args.p.now c.in_ok-domains.domains c.in_ok-domains.ensures in
    let over = (c.ground_over.ensures.tuples n e).over in
    absurd (omega (arith, few, fewer, over))

pub returns-clause-facts : goal.returns-clause-facts
returns-clause-facts c = λ n e. thinned.over_facts c.args.p.now c.in_ok-domains.domains c.in_ok-domains.ensures (within_limit (goal.at.returns-clause-facts c).After-ground_over) n (c.ground_over.ensures.facts n e)

pub returns-clause-actions : goal.returns-clause-actions
returns-clause-actions c = λ n e. thinned.over_actions c.args.p.now c.in_ok-domains.domains c.in_ok-domains.ensures (within_limit (goal.at.returns-clause-actions c).After-ground_over) n (c.ground_over.ensures.actions n e)

pub returns-clause-effects : goal.returns-clause-effects
returns-clause-effects c = λ n e. thinned.over_effects c.args.p.now c.in_ok-domains.domains c.in_ok-domains.ensures (within_limit (goal.at.returns-clause-effects c).After-ground_over) n (c.ground_over.ensures.effects n e)
