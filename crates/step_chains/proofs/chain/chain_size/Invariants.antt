use Rattle.std.proofs.Common.{◌≡◌, ◌+◌, ◌*◌, ◌≤◌, false, count_by, drop}
use Rattle.step_chains.specs.own.Links.{link_size}
use Rattle.step_chains.proofs.chain.chain_size.Given as goal

abbrev pub invariant-loop-link : goal.invariant-loop-link
invariant-loop-link l =
    (l.left ≡ count_by (λ k. k.reads) (drop l.link-index l.links))
    × (link_size false l.links ≡ l.size + link_size l.seen (drop l.link-index l.links))
    × (l.size ≤ 6 * l.link-index)
