use Rattle.std.proofs.Common.{◌+◌, ◌<◌, ℕ, Bool, ap, ◌∙◌, refl, drop, subst, if◌then◌else◌}
use Rattle.formula_defs.specs.Layout.{action_at, chain_at}
use Rattle.gt_core.proofs.published.Basics.{or_left, and_split}
use Rattle.step_chains.specs.Chains.{LinkedChain}
use Rattle.step_chains.proofs.WalkLaw.{walked, variable_left, pass_next}
use Rattle.step_chains.proofs.clauses.add_passes.Goals as goal

pub add_pass-requires-clause-next : goal.add_pass-requires-clause-next
add_pass-requires-clause-next c reads left =
    let w = walked _ _ _ _ _ _ _ _ (c.as_slice-link-items.ensures.value ∙ ap (λ (ch : LinkedChain). ch.links) c.chain.view_is) c.loop-link-test.true refl c.loop-link.invariant.0 c.past-after.ensures in
    let next = c.past-after.ensures.1 ∙ ap (λ (b : Bool). if b then c.loop-link.walk.next + 1 else c.loop-link.walk.next) reads in
    subst (λ (n : ℕ). n < c.args.layout.now.chains) next
    (variable_left (drop (c.loop-link.link-index + 1) c.args.chain.now.links) c.past-after.result c.args.layout.now.chains (c.past-after.ensures.0 ∙ or_left c.loop-link.walk.seen _ (and_split c.loop-link.walk.seen _ reads).0) w.stands left)

pub loop-link-preserved : goal.loop-link-preserved
loop-link-preserved c =
    let w = walked _ _ _ _ _ _ _ _ (c.as_slice-link-items.ensures.value ∙ ap (λ (ch : LinkedChain). ch.links) c.chain.view_is) c.loop-link-test.true refl c.loop-link.invariant.0 c.past-after.ensures in
    (w.stands, c.loop-link.invariant.1 ∙ pass_next (action_at c.args.layout.now 0) (chain_at c.args.layout.now 0) _ _ _ _ _ _ _ _ c.past-after.ensures w c.in_ok-add_pass.ensures)
