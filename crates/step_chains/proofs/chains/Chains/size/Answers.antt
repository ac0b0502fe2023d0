use Rattle.std.proofs.Common.{◌*◌, List, ap, ◌∙◌, sym}
use Rattle.formula_defs.specs.Layout.{action_at, chain_at}
use Rattle.formula_defs.specs.Clause.{Literal}
use Rattle.formula_defs.specs.Coded.{coded, literals_in}
use Rattle.step_chains.specs.Chains.{LinkedChain, links_in}
use Rattle.step_chains.proofs.ClauseLaw.{are_clauses}
use Rattle.step_chains.proofs.SizeLaw.{sizes_done, sizes_next, few_next, one_few}
use Rattle.step_chains.proofs.chains.Chains.size.Goals as goal

pub chain_size-size-requires : goal.chain_size-size-requires
chain_size-size-requires c =
    let k = c.chain-item.result in
    let chains = c.args.self.now.chains in
    one_few chains c.as_slice-chain-items.result.now c.loop-chain.chain-index k k c.as_slice.result.now c.loop-chain.size (links_in chains)
    c.as_slice-chain-items.ensures.chains c.loop-chain-test.true c.chain-item.is (c.as_slice.ensures.value ∙ ap (λ (ch : LinkedChain). ch.links) c.chain.view_is) c.loop-chain.invariant.1 c.as_slice-chain-items.ensures.lawful.few

pub loop-chain-preserved : goal.loop-chain-preserved
loop-chain-preserved c =
    let k = c.chain-item.result in
    let chains = c.args.self.now.chains in
    let items = c.as_slice-chain-items.result.now in
    let i = c.loop-chain.chain-index in
    let all = c.as_slice-chain-items.ensures.chains in
    let lt = c.loop-chain-test.true in
    let links = c.as_slice.ensures.value ∙ ap (λ (ch : LinkedChain). ch.links) c.chain.view_is in (
      c.loop-chain.invariant.0 ∙ sizes_next chains items i k k c.as_slice.result.now c.loop-chain.size c.chain_size-size.result all lt c.chain-item.is links c.chain_size-size.ensures.size,
      few_next chains items i k k c.as_slice.result.now c.loop-chain.size c.chain_size-size.result (6 * links_in chains) all lt c.chain-item.is links c.chain_size-size.ensures.few c.loop-chain.invariant.1,
    )

pub returns-clause-added : goal.returns-clause-added
returns-clause-added c z e =
    sizes_done z c.args.self.now c.as_slice-chain-items.result.now c.loop-chain.chain-index c.loop-chain.size c.as_slice-chain-items.ensures.lawful e c.as_slice-chain-items.ensures.chains c.loop-chain-test.false c.loop-chain.invariant.0

pub returns-clause-of_task : goal.returns-clause-of_task
returns-clause-of_task c task places z are e =
    sizes_done z c.args.self.now c.as_slice-chain-items.result.now c.loop-chain.chain-index c.loop-chain.size c.as_slice-chain-items.ensures.lawful (e ∙ sym are.actions) c.as_slice-chain-items.ensures.chains c.loop-chain-test.false c.loop-chain.invariant.0
    ∙ ap (λ (cs : List (List Literal)). literals_in (coded cs)) (are_clauses (action_at z 0) (chain_at z 0) task places c.args.self.now are)
