use Rattle.std.proofs.Common.{◌≡◌, ◌++◌, false, drop}
use Rattle.formula_defs.specs.Layout.{action_at, chain_at}
use Rattle.formula_defs.specs.Coded.{coded}
use Rattle.step_chains.specs.own.Links.{enter_links}
use Rattle.step_chains.specs.own.Walk.{StandsBefore}
use Rattle.step_chains.proofs.clauses.add_enters.Given as goal

abbrev pub invariant-loop-link : goal.invariant-loop-link
invariant-loop-link l =
    StandsBefore l.layout.chains (drop l.link-index l.chain.links) l.walk
    × (l.initial.clauses ++ coded (enter_links (action_at l.layout 0) (chain_at l.layout 0) false l.chain.first l.chain.links)
    ≡ l.clauses ++ coded (enter_links (action_at l.layout 0) (chain_at l.layout 0) l.walk.seen l.walk.next (drop l.link-index l.chain.links)))
