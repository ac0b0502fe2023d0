use Rattle.std.proofs.Common.{◌≡◌, ◌+◌, ◌≤◌, false, drop}
use Rattle.step_chains.specs.own.Links.{link_count}
use Rattle.step_chains.proofs.chain.count.Given as goal

abbrev pub invariant-loop-link : goal.invariant-loop-link
invariant-loop-link l =
    (l.count ≤ l.link-index) × (link_count false l.links ≡ l.count + link_count l.seen (drop l.link-index l.links))
