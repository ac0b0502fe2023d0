use Rattle.std.proofs.Common.{◌≡◌, ◌++◌, drop}
use Rattle.formula_defs.specs.Layout.{action_at, chain_at}
use Rattle.formula_defs.specs.Coded.{coded}
use Rattle.step_chains.specs.Chains.{all_clauses}
use Rattle.step_chains.proofs.chains.Chains.add_clauses.Given as goal

abbrev pub invariant-loop-chain : goal.invariant-loop-chain
invariant-loop-chain l =
    l.initial.clauses ++ coded (all_clauses (action_at l.layout 0) (chain_at l.layout 0) l.self.chains)
    ≡ l.clauses ++ coded (all_clauses (action_at l.layout 0) (chain_at l.layout 0) (drop l.chain-index l.self.chains))
