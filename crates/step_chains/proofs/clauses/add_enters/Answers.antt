use Rattle.std.proofs.Common.{◌+◌, ap, ◌∙◌, refl, drop}
use Rattle.formula_defs.specs.Layout.{action_at, chain_at}
use Rattle.gt_core.proofs.published.Basics.{or_right}
use Rattle.step_chains.specs.Chains.{LinkedChain}
use Rattle.step_chains.proofs.WalkLaw.{walked, variable_left, enter_next}
use Rattle.step_chains.proofs.clauses.add_enters.Goals as goal

pub add_enter-requires-clause-variable : goal.add_enter-requires-clause-variable
add_enter-requires-clause-variable c takes left =
    let w = walked _ _ _ _ _ _ _ _ (c.as_slice-link-items.ensures.value ∙ ap (λ (ch : LinkedChain). ch.links) c.chain.view_is) c.loop-link-test.true refl c.loop-link.invariant.0 c.past-walk.ensures in
    variable_left (drop (c.loop-link.link-index + 1) c.args.chain.now.links) c.past-walk.result c.args.layout.now.chains (c.past-walk.ensures.0 ∙ or_right c.loop-link.walk.seen _ takes) w.stands left

pub loop-link-preserved : goal.loop-link-preserved
loop-link-preserved c =
    let w = walked _ _ _ _ _ _ _ _ (c.as_slice-link-items.ensures.value ∙ ap (λ (ch : LinkedChain). ch.links) c.chain.view_is) c.loop-link-test.true refl c.loop-link.invariant.0 c.past-walk.ensures in
    (w.stands, c.loop-link.invariant.1 ∙ enter_next (action_at c.args.layout.now 0) (chain_at c.args.layout.now 0) _ _ _ _ _ _ _ _ c.past-walk.ensures w c.in_ok-add_enter.ensures)
