use Rattle.std.proofs.Common.{◌≡◌, ◌<◌, ◌++◌, drop}
use Rattle.grounder.specs.own.Bindings.{size, tuple_at}
use Rattle.grounder.proofs.bindings.push_tuple.Given as goal

abbrev pub invariant-loop-domain : goal.invariant-loop-domain
invariant-loop-domain l =
    (l.rest ≡ size (drop l.domain-index l.domains))
    × (l.number < l.rest)
    × (l.into.items ++ tuple_at (drop l.domain-index l.domains) l.number ≡ l.fn.into.items ++ tuple_at l.domains l.fn.first)
