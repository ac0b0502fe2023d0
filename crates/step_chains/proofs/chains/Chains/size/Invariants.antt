use Rattle.std.proofs.Common.{◌≡◌, ◌+◌, ◌*◌, ◌≤◌, false, drop}
use Rattle.std.specs.Prelude.{sum_by}
use Rattle.step_chains.specs.own.Links.{link_size}
use Rattle.step_chains.specs.Chains.{links_in}
use Rattle.step_chains.proofs.chains.Chains.size.Given as goal

abbrev pub invariant-loop-chain : goal.invariant-loop-chain
invariant-loop-chain l =
    (sum_by (λ c. link_size false c.links) l.self.chains ≡ l.size + sum_by (λ c. link_size false c.links) (drop l.chain-index l.self.chains))
    × (l.size + 6 * links_in (drop l.chain-index l.self.chains) ≤ 6 * links_in l.self.chains)
