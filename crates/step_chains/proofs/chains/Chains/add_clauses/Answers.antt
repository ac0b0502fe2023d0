use Rattle.std.proofs.Common.{arith, ◌≤◌, ◌++◌, List, length, ap, ◌∙◌}
use Rattle.formula_defs.specs.Layout.{action_at, chain_at}
use Rattle.formula_defs.specs.Clause.{Literal}
use Rattle.formula_defs.specs.Coded.{coded}
use Rattle.step_chains.proofs.ClauseLaw.{chain_next, chains_done, are_clauses}
use Rattle.step_chains.proofs.chains.Chains.add_clauses.Goals as goal

pub loop-chain-preserved : goal.loop-chain-preserved
loop-chain-preserved c =
    let z = c.args.layout.now in
    c.loop-chain.invariant
    ∙ chain_next (action_at z 0) (chain_at z 0) c.args.self.now.chains c.as_slice-chain-items.result.now c.loop-chain.chain-index _ c.chain-item.result c.loop-chain.clauses c.add_enters.new.clauses c.add_passes.new.clauses
    c.as_slice-chain-items.ensures.chains c.loop-chain-test.true c.chain-item.is c.in_ok-add_enters.ensures c.in_ok-add_passes.ensures

pub returns-clause-of_task : goal.returns-clause-of_task
returns-clause-of_task c task places are =
    let z = c.args.layout.now in
    let e = c.as_slice-chain-items.ensures.chains in
    let past : length c.args.self.now.chains ≤ c.loop-chain.chain-index = rw (← e) (let h = c.loop-chain-test.false in omega (arith, h)) in
    chains_done (action_at z 0) (chain_at z 0) c.args.self.now.chains c.loop-chain.chain-index c.args.clauses.now c.loop-chain.clauses past c.loop-chain.invariant
    ∙ ap (λ (cs : List (List Literal)). c.args.clauses.now ++ coded cs) (are_clauses (action_at z 0) (chain_at z 0) task places c.args.self.now are)
